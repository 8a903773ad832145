-- Why definitions are refused, by the place of the fault.
use Rattle.std.specs.Prelude.{ℕ, List}
use Rattle.defs_values.specs.declared.fault.DefFault.{DefFault}
use Rattle.defs_values.specs.declared.fault.DefFault.TheVariants as fault
use Rattle.defs_values.specs.declared.fault.KeyFault.{KeyFault}
use Rattle.defs_values.specs.declared.fault.KeyFault.TheVariants as key
use Rattle.defs_values.specs.declared.fault.Refusal.{Refusal}
use Rattle.defs_values.specs.declared.fault.Refusal.TheVariants as why

-- why a path is refused
abbrev pub why_refused : List ℕ → Refusal → DefFault
why_refused path why.Shape = fault.Shape path
why_refused path why.Float = fault.Float path
why_refused path why.Limit = fault.Limit path
why_refused path why.Pattern = fault.BadPattern path
why_refused path why.Vhost = fault.UnknownVhost path
why_refused path why.Memory = fault.Memory

abbrev pub named_fault : KeyFault → DefFault
named_fault (key.Refused path why) = why_refused path why
named_fault key.Memory = fault.Memory
