-- What is refused is refused as it should be.
use Rattle.std.proofs.Common.{◌≡◌, refl, Ok, Err, Result}
use Rattle.mini_broker.specs.declared.fault.ClientFault.{ClientFault}
use Rattle.mini_broker.specs.declared.fault.ClientFault.TheVariants.{Refused, NoConsumer, Busy, Empty, Memory}
use Rattle.mini_broker.specs.Answers.{IsAnswer}

pub answered : {A : Type 0} (answer expected : Result A ClientFault) → answer ≡ expected → (answer ≡ Err Memory → ⊥) → IsAnswer answer expected
answered (Ok value) expected same known = same
answered (Err (Refused code)) expected same known = same
answered (Err NoConsumer) expected same known = same
answered (Err Busy) expected same known = same
answered (Err Empty) expected same known = same
answered (Err Memory) expected same known = absurd (known refl)
