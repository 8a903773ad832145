-- When two names are the same.
use Rattle.std.specs.Prelude.{ℕ, List, Bool, nat_eq, ◌&&◌, codes}
use Rattle.std.specs.List.{starts_with}
use Rattle.std.specs.Cmp.Lexicographic.{pointwise}
use Rattle.fed_journal.specs.declared.place.Place.{Place}

-- names are compared octet by octet (AMQP 0-9-1, 4.2.5.3: short strings)
abbrev pub same_text : List ℕ → List ℕ → Bool
same_text a b = pointwise nat_eq a b

-- the same broker, and the same virtual host of it
abbrev pub same_place : Place → Place → Bool
same_place a b = same_text a.broker b.broker && same_text a.vhost b.vhost
