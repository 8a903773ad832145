-- Texts at keys that have to be there.
use Rattle.std.specs.Prelude.{ℕ, List, [], Bool, not, Option, unwrap_or}
use Rattle.serde_json.specs.Data.{Data}
use Rattle.serde_json.specs.Find.{as_str}
use Rattle.defs_values.specs.declared.fault.Refusal.{Refusal}
use Rattle.defs_values.specs.Keys.{value_at}
use Rattle.fed_defs.specs.Texts.{same_text}
use Rattle.defs_values.specs.Values.{text_refusal}

-- the text at a key that has to be there
abbrev pub text_at : List ℕ → Data → List ℕ
text_at k d = unwrap_or (value_at as_str k d) []

-- a text that isn't empty
abbrev pub is_filled : List ℕ → Bool
is_filled text = not (same_text text [])

unfoldable pub filled_refusal : Data → Option Refusal
filled_refusal d = text_refusal is_filled d (as_str d)
