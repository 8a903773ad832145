-- The values of policies (RabbitMQ's "Parameters and Policies"). Of a definition, the three keys that federate are read
-- ("Federation Plugin": `federation-upstream`, `federation-upstream-set`, `federation-upstream-pattern`).
use Rattle.std.specs.Prelude.{ℕ, ℤ, List, [], ◌∷◌, Bool, false, not, nat_lt, chars, codes, Option, Some, None, option_and_then, if◌then◌else◌}
use Rattle.std.specs.Option.{option_map_or}
use Rattle.serde_json.specs.Data.{Data}
use Rattle.serde_json.specs.Find.{get, as_str, as_number, as_i64}
use Rattle.regex.specs.Patterns.{default_config}
use Rattle.regex_syntax.specs.Grammar.{read}
use Rattle.policy_core.specs.Patterns.{nest_limit}
use Rattle.policy_core.specs.declared.policy.Apply.{Apply}
use Rattle.policy_core.specs.declared.policy.Apply.TheVariants as apply
use Rattle.defs_values.specs.declared.fault.Refusal.{Refusal}
use Rattle.defs_values.specs.declared.fault.Refusal.TheVariants.{Shape, Pattern}
use Rattle.defs_values.specs.declared.fault.KeyFault.{KeyFault}
use Rattle.defs_values.specs.declared.fault.KeyFault.TheVariants as key
use Rattle.defs_values.specs.Keys.{value_at, optional_fault, first_fault}
use Rattle.defs_values.specs.Paths.{object_fault}
use Rattle.defs_values.specs.Shovels.{short_text_refusal}
use Rattle.fed_defs.specs.Texts.{same_text}
use Rattle.defs_values.specs.Values.{misfit, refused_unless}

-- a regular expression that nests no deeper than the limit
unfoldable pub is_pattern : List ℕ → Bool
is_pattern text = option_map_or (λ found. not (nat_lt nest_limit found.0.depth)) (read default_config (chars text)) false

abbrev pub pattern_refusal_of : Data → Option (List ℕ) → Option Refusal
pattern_refusal_of d None = Some (misfit d)
pattern_refusal_of d (Some text) = if is_pattern text then None else Some Pattern

unfoldable pub pattern_refusal : Data → Option Refusal
pattern_refusal d = pattern_refusal_of d (as_str d)

-- the words of `apply-to`
unfoldable pub apply_word : List ℕ → Option Apply
apply_word text =
    if same_text text (codes "all") then Some apply.All else
    if same_text text (codes "exchanges") then Some apply.Exchanges else
    if same_text text (codes "queues") then Some apply.Queues else
    if same_text text (codes "classic_queues") then Some apply.Classic else
    if same_text text (codes "quorum_queues") then Some apply.Quorum else
    if same_text text (codes "streams") then Some apply.Streams else None

abbrev pub apply_at : Data → Option Apply
apply_at d = option_and_then apply_word (as_str d)

unfoldable pub apply_refusal : Data → Option Refusal
apply_refusal d = refused_unless (apply_at d) d

-- a whole number of 64 bits with its sign
abbrev pub signed_at : Data → Option ℤ
signed_at d = option_and_then as_i64 (as_number d)

unfoldable pub priority_refusal : Data → Option Refusal
priority_refusal d = refused_unless (signed_at d) d

-- a text in its definition
abbrev pub defined_at : List ℕ → Data → Option (List ℕ)
defined_at k d = option_and_then (value_at as_str k) (get (codes "definition") d)

-- the keys of a definition, in the order of their octets
unfoldable pub definition_fault : Data → Option KeyFault
definition_fault d = first_fault (
    optional_fault short_text_refusal (codes "federation-upstream") d
    ∷ optional_fault pattern_refusal (codes "federation-upstream-pattern") d
    ∷ optional_fault short_text_refusal (codes "federation-upstream-set") d
    ∷ [])

-- an object that has to be there
abbrev pub required_object : (Data → Option KeyFault) → List ℕ → Option Data → Option KeyFault
required_object inner k None = Some (key.Refused k Shape)
required_object inner k (Some d) = object_fault inner k d
