-- Which messages a binding of a headers exchange takes (AMQP 0-9-1, 3.1.3.4 "The Headers Exchange Type").
use Rattle.std.specs.Prelude.{◌≡◌, nat_eq, ℕ, Bool, true, false, not, ◌||◌, ◌&&◌, List, Option, Some, None, ◌⊎◌, codes, if◌then◌else◌, MatchBool}
use Rattle.std.specs.List.{starts_with}
use Rattle.std.specs.Option.{option_map_or}
use Rattle.std.specs.Str.{bytes_eq}
use Rattle.field_tables.specs.Fields.{Field, long_string, void, Pairs, no_pairs, pair, first_of}
use Rattle.binding_match.specs.Values.{same_value, SameValue}

-- Arguments whose names start with x- aren't compared (AMQP 0-9-1, 3.1.3.4; RabbitMQ, headers exchange).
abbrev pub is_compared : List ℕ → Bool
is_compared name = not (starts_with nat_eq name (codes "x-"))

-- The value of x-match that asks for any one argument is the text `any`; every other value, and none, asks for all.
abbrev pub is_any : Field → Bool
is_any (long_string word) = bytes_eq word (codes "any")
is_any _ = false

abbrev pub asks_any : Pairs → Bool
asks_any args = option_map_or is_any (first_of (codes "x-match") args) false

-- An argument without a value asks that the header is there, whatever its value (AMQP 0-9-1, 3.1.3.4: arguments name the headers, "and optionally the values they should hold").
abbrev pub is_void : Field → Bool
is_void void = true
is_void _ = false

-- An argument agrees with the header of its name, if there is one.
pub data Agrees (asked : Field) (found : Option Field) : Type 0 where
  present : (there : Field) → found ≡ Some there → asked ≡ void → Agrees asked found
  same : (there : Field) → found ≡ Some there → SameValue asked there → Agrees asked found

-- All arguments that are compared agree (x-match all).
abbrev pub AllAgree : Pairs → Pairs → Type 0
AllAgree no_pairs headers = Unit {0}
AllAgree (pair name asked args) headers = (is_compared name ≡ true → Agrees asked (first_of name headers)) × AllAgree args headers

-- Some argument that is compared agrees (x-match any).
abbrev pub SomeAgrees : Pairs → Pairs → Type 0
SomeAgrees no_pairs headers = ⊥
SomeAgrees (pair name asked args) headers = ((is_compared name ≡ true) × Agrees asked (first_of name headers)) ⊎ SomeAgrees args headers

-- The binding with these arguments takes messages with these headers.
abbrev pub HeadersMatch : Pairs → Pairs → Type 0
HeadersMatch args headers = MatchBool (asks_any args) (SomeAgrees args headers) (AllAgree args headers)

-- The same as tests, for definitions that choose by them.
abbrev pub agrees : Field → Option Field → Bool
agrees asked None = false
agrees asked (Some there) = is_void asked || same_value asked there

abbrev pub fits : List ℕ → Field → Pairs → Bool
fits name asked headers = is_compared name && agrees asked (first_of name headers)

abbrev pub misses : List ℕ → Field → Pairs → Bool
misses name asked headers = is_compared name && not (agrees asked (first_of name headers))

unfoldable pub all_agree : Pairs → Pairs → Bool
all_agree no_pairs headers = true
all_agree (pair name asked args) headers = if misses name asked headers then false else all_agree args headers

unfoldable pub some_agrees : Pairs → Pairs → Bool
some_agrees no_pairs headers = false
some_agrees (pair name asked args) headers = if fits name asked headers then true else some_agrees args headers

abbrev pub headers_agree : Pairs → Pairs → Bool
headers_agree args headers = if asks_any args then some_agrees args headers else all_agree args headers
