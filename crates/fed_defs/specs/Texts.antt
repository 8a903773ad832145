-- How the texts of a configuration are compared, and which names users may give (RabbitMQ's "Federated Exchanges", "Federated Queues").
use Rattle.std.specs.Prelude.{ℕ, Bool, not, ◌&&◌, ◌==◌, List, length, nat_eq, codes}
use Rattle.std.specs.List.{starts_with}
use Rattle.std.specs.Cmp.Lexicographic.{pointwise}

-- texts are compared octet by octet
abbrev pub same_text : List ℕ → List ℕ → Bool
same_text a b = pointwise nat_eq a b

-- names that begin so belong to links (Federated Exchanges, "the upstream queue")
abbrev pub is_reserved : List ℕ → Bool
is_reserved name = starts_with nat_eq name (codes "federation: ")

-- a name that users may give an exchange or a queue
abbrev pub is_free_name : List ℕ → Bool
is_free_name name = not (length name == 0) && not (is_reserved name)
