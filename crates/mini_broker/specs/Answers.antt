-- How a client's call is answered.
use Rattle.std.specs.Prelude.{◌≡◌, Result, Ok, Err, IsOk}
use Rattle.mini_broker.specs.declared.fault.ClientFault.{ClientFault}
use Rattle.mini_broker.specs.declared.fault.ClientFault.TheVariants.{Memory}

-- it is answered so, or memory ran out where it would have been done
abbrev pub IsAnswer : {A : Type 0} → Result A ClientFault → Result A ClientFault → Type 0
IsAnswer (Ok value) expected = Ok value ≡ expected
IsAnswer (Err Memory) expected = IsOk expected
IsAnswer (Err fault) expected = Err fault ≡ expected
