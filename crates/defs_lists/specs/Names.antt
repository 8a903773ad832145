-- The names of a definitions file's objects, policies and parameters: each stands once in its virtual host, a
-- parameter's once in its component (RabbitMQ's "Parameters and Policies").
use Rattle.std.specs.Prelude.{ℕ, ◌+◌, Bool, ◌&&◌, List, [], ◌∷◌, if◌then◌else◌}
use Rattle.std.specs.List.{list_any}
use Rattle.defs_lists.specs.declared.names.Name.{Name}
use Rattle.fed_defs.specs.Texts.{same_text}

unfoldable pub same_name : Name → Name → Bool
same_name one other =
    same_text one.vhost other.vhost && same_text one.component other.component && same_text one.name other.name

-- the name stands among the others
unfoldable pub has_name : Name → List Name → Bool
has_name name others = list_any (λ other. same_name name other) others

-- the place of the first that is the name
abbrev pub place_of : Name → List Name → ℕ
place_of name [] = 0
place_of name (other ∷ others) = if same_name name other then 0 else 1 + place_of name others
