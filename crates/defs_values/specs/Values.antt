-- What single values of upstreams and shovels mean, and which are refused: RabbitMQ's "Federation Reference" and
-- "Configuring Dynamic Shovels", over the values of JSON (RFC 8259, section 3).
use Rattle.std.specs.Prelude.{ℕ, ◌≤◌, IfSome, Bool, false, not, ◌&&◌, List, length, nat_le, nat_lt, codes, Option, Some, None, option_map, option_and_then, unwrap_or, if◌then◌else◌}
use Rattle.serde_json.specs.Data.{Data}
use Rattle.serde_json.specs.Find.{as_str, as_number, as_u64, is_float}
use Rattle.serde_json.specs.Written.{has_float}
use Rattle.amqp_props.specs.declared.link.AckMode.{AckMode}
use Rattle.amqp_props.specs.declared.link.AckMode.TheVariants.{OnConfirm, OnPublish, NoAck}
use Rattle.defs_values.specs.declared.fault.Refusal.{Refusal}
use Rattle.defs_values.specs.declared.fault.Refusal.TheVariants.{Shape, Float, Limit}
use Rattle.fed_defs.specs.Texts.{same_text, is_free_name}

-- a floating-point number is refused as one, and what else doesn't fit by its shape
abbrev pub misfit : Data → Refusal
misfit d = if unwrap_or (option_map is_float (as_number d)) false then Float else Shape

-- within a list or an object that is read, a value is refused as a floating-point number where it has one at any depth
abbrev pub deep_misfit : Data → Refusal
deep_misfit d = if has_float d then Float else Shape

-- a value that has no meaning at its key is refused
abbrev pub refused_unless : {A : Type 0} → Option A → Data → Option Refusal
refused_unless (Some x) d = None
refused_unless None d = Some (misfit d)

-- the words of `ack-mode` (Federation Reference, "ack-mode")
unfoldable pub mode_of : List ℕ → Option AckMode
mode_of text =
    if same_text text (codes "on-confirm") then Some OnConfirm else
    if same_text text (codes "on-publish") then Some OnPublish else
    if same_text text (codes "no-ack") then Some NoAck else None

abbrev pub mode_at : Data → Option AckMode
mode_at d = option_and_then mode_of (as_str d)

unfoldable pub mode_refusal : Data → Option Refusal
mode_refusal d = refused_unless (mode_at d) d

-- a number within its range
abbrev pub within : ℕ → ℕ → ℕ → Option ℕ
within least most n = if nat_le least n && nat_le n most then Some n else None

-- a whole number of JSON within its range
abbrev pub number_in : ℕ → ℕ → Data → Option ℕ
number_in least most d = option_and_then (within least most) (option_and_then as_u64 (as_number d))

-- a number that is there is no greater
abbrev pub IsAtMost : ℕ → Option ℕ → Type 0
IsAtMost most number = IfSome number (λ n. n ≤ most)

unfoldable pub number_refusal : ℕ → ℕ → Data → Option Refusal
number_refusal least most d = refused_unless (number_in least most d) d

-- a text that isn't allowed is refused by its shape, and one that is by its length where a short string can't hold it
-- (AMQP 0-9-1, section 4.2.5.3)
abbrev pub text_refusal : (List ℕ → Bool) → Data → Option (List ℕ) → Option Refusal
text_refusal allowed d None = Some (misfit d)
text_refusal allowed d (Some text) =
    if not (allowed text) then Some Shape else if nat_lt 255 (length text) then Some Limit else None

unfoldable pub name_refusal : Data → Option Refusal
name_refusal d = text_refusal is_free_name d (as_str d)
