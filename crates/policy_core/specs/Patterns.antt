-- What a policy's pattern is, and where it is found: a regular expression that is searched for in names (RabbitMQ's
-- "Parameters and Policies", section "How Policies Work"). A pattern is seen as its text.
use Rattle.std.specs.Prelude.{◌≡◌, ℕ, ◌<◌, Bool, false, List, chars, is_some, None, IsSomeAnd}
use Rattle.std.specs.Option.{option_map_or}
use Rattle.regex.specs.Patterns.{find_str, default_config}
use Rattle.regex_syntax.specs.Grammar.{read}

-- how deep groups, repetitions and classes may nest
abbrev pub nest_limit : ℕ
nest_limit = 250

-- the grammar of regular expressions has no such pattern
abbrev pub IsNoPattern : List ℕ → Type 0
IsNoPattern text = read default_config (chars text) ≡ None

-- the grammar has it, and it nests deeper than the limit
abbrev pub NestsTooDeep : List ℕ → Type 0
NestsTooDeep text = IsSomeAnd (read default_config (chars text)) (λ found. nest_limit < found.0.depth)

-- what the grammar reads in the pattern's text is found somewhere in the name
unfoldable pub is_found : List ℕ → List ℕ → Bool
is_found pattern name =
    option_map_or (λ found. is_some (find_str found.0.value name 0)) (read default_config (chars pattern)) false
