-- Every run is kept.
use Rattle.std.proofs.Common.{ℕ, List, [], ◌∷◌, ◌++◌}
use Rattle.std.proofs.Common.{◌≡◌, true, refl, ap, ◌∙◌}
use Rattle.std.specs.Prelude.{◌&&◌}
use Rattle.std.specs.List.{list_all}
use Rattle.std.proofs.lemmas.List.Folds.{list_all-append}
use Rattle.fed_journal.specs.declared.event.Event.{Event}
use Rattle.fed_journal.specs.declared.entry.Entry.{Entry}
use Rattle.fed_world.specs.Step.{next, after}
use Rattle.fed_world.specs.Run.{begin, begun, run, last_journal}
use Rattle.fed_world.specs.Kept.{IsKept, EachMoment, HoldsTaken}
use Rattle.fed_world.proofs.Causes.{is_begun, EachCaused}
use Rattle.fed_world.proofs.Held.{held-at, holds-at}
use Rattle.fed_world.proofs.Moved.{moved-at}
use Rattle.fed_world.proofs.RowCaused.{next-caused}
use Rattle.fed_world.proofs.Stages.{follows-stages}
use Rattle.fed_world.proofs.Stored.{after-caused, run-keeps_stored}

pub begin-caused : (K : List Entry) (brokers : List (List ℕ)) → list_all is_begun K ≡ true → EachCaused K (begin brokers)
begin-caused K [] h = tt
begin-caused K (b ∷ bs) h = (h, begin-caused (K ++ begun b ∷ []) bs (list_all-append is_begun K (begun b ∷ []) ∙ ap (λ v. v && true) h))

pub last-caused : (J : List Entry) (events : List (ℕ × Event)) → EachCaused [] J → EachCaused [] (last_journal J (run J events))
last-caused J [] caused = caused
last-caused J (e ∷ es) caused = last-caused (after J (next J e.1)) es (after-caused J (next J e.1) caused (next-caused J e.1))

each-holds : (J : List Entry) (events : List (ℕ × Event)) → EachCaused [] J → EachMoment (λ K m. HoldsTaken m.journal) J (run J events)
each-holds J [] caused = tt
each-holds J (e ∷ es) caused =
    let later : EachCaused [] (after J (next J e.1)) = after-caused J (next J e.1) caused (next-caused J e.1) in
    (holds-at (after J (next J e.1)) later, each-holds (after J (next J e.1)) es later)

pub run-kept : (brokers : List (List ℕ)) (events : List (ℕ × Event)) → IsKept (begin brokers) (run (begin brokers) events)
run-kept brokers events =
    let J : List Entry = last_journal (begin brokers) (run (begin brokers) events) in
    let caused : EachCaused [] J = last-caused (begin brokers) events (begin-caused [] brokers refl) in
    record {
      stored = run-keeps_stored (begin brokers) events (begin-caused [] brokers refl);
      moved = λ K l s c stands mode. moved-at J caused K l s c stands;
      held = held-at J caused;
      holds = each-holds (begin brokers) events (begin-caused [] brokers refl);
      stages = follows-stages J caused;
    }
