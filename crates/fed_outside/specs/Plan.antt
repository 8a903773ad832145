-- The calls of a fake that are to fail.
-- This project's own: no public document has these definitions.
use Rattle.std.specs.Prelude.{ℕ, ◌+◌, ◌-◌, ◌^◌, ◌==◌, min, Bool, true, false, List, Option, option_map, find}
use Rattle.fed_outside.specs.declared.plan.FailingCall.{FailingCall}

-- which calls are to fail, how many were made, and how many failed
pub record Plan : Type 0 where
  pub failing : List FailingCall
  pub calls : ℕ
  pub faults : ℕ

-- a count one higher; it stays at the limit of 64 bits
abbrev pub raised : ℕ → ℕ
raised count = min (count + 1) (2 ^ 64 - 1)

-- how many octets the next call lets out first, if it is to fail
abbrev pub planned : Plan → Option ℕ
planned plan = option_map (λ f. f.octets) (find (λ f. f.call == raised plan.calls) plan.failing)

-- the plan after a call
abbrev pub counted : Plan → Plan
counted plan = record plan { calls = raised plan.calls }

-- the plan after a call that was a fault, or was none
abbrev pub judged : Bool → Plan → Plan
judged true plan = record plan { calls = raised plan.calls; faults = raised plan.faults }
judged false plan = counted plan
