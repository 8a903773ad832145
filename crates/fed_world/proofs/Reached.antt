-- What a journal keeps that some run leads to.
use Rattle.std.specs.Prelude.{Ok}
use Rattle.std.proofs.Common.{◌≡◌, ℕ, List, [], ◌∷◌, ◌++◌, refl, sym, ap, ◌∙◌, subst}
use Rattle.fed_journal.specs.declared.event.Event.{Event}
use Rattle.fed_journal.specs.declared.entry.Entry.{Entry}
use Rattle.fed_world.specs.Step.{next, after}
use Rattle.fed_world.specs.Run.{begin, run, last_journal, IsReached}
use Rattle.fed_world.specs.Kept.{IsKept, LeavesStored, RemovesMoved, RemovesHeld}
use Rattle.fed_world.proofs.Causes.{EachCaused}
use Rattle.fed_world.proofs.RunKept.{run-kept, begin-caused, last-caused}
use Rattle.fed_world.proofs.Stored.{moment-keeps}

-- a run with one more event
last-after : (J : List Entry) (events : List (ℕ × Event)) (e : ℕ × Event) →
    last_journal J (run J (events ++ e ∷ [])) ≡ after (last_journal J (run J events)) (next (last_journal J (run J events)) e.1)
last-after J [] e = refl
last-after J (d ∷ ds) e = last-after (after J (next J d.1)) ds e

pub begin-reached : (brokers : List (List ℕ)) → IsReached (begin brokers)
begin-reached brokers = record { brokers = brokers; events = []; leads = refl }

pub after-reached : (J : List Entry) (event : Event) → IsReached J → IsReached (after J (next J event))
after-reached J event h = record {
  brokers = h.brokers;
  events = h.events ++ (0, event) ∷ [];
  leads = ap (λ K. after K (next K event)) h.leads ∙ sym (last-after (begin h.brokers) h.events (0, event));
}

reached-kept : (J : List Entry) (h : IsReached J) → IsKept (begin h.brokers) (run (begin h.brokers) h.events)
reached-kept J h = run-kept h.brokers h.events

pub reached-moved : (J : List Entry) → IsReached J → RemovesMoved J
reached-moved J h = subst RemovesMoved (sym h.leads) (reached-kept J h).moved

pub reached-held : (J : List Entry) → IsReached J → RemovesHeld J
reached-held J h = subst RemovesHeld (sym h.leads) (reached-kept J h).held

pub reached-caused : (J : List Entry) → IsReached J → EachCaused [] J
reached-caused J h = subst (EachCaused []) (sym h.leads) (last-caused (begin h.brokers) h.events (begin-caused [] h.brokers refl))

next-leaves_stored : (J : List Entry) (event : Event) → IsReached J → LeavesStored J event (after J (next J event))
next-leaves_stored J event h = moment-keeps J 0 event (reached-caused J h)

-- K is the journal J with the entries of the event's row
pub extended-reached : (J K es : List Entry) (event : Event) → IsReached J → Ok es ≡ next J event → K ≡ J ++ es → IsReached K
extended-reached J K es event h row k = subst IsReached (ap (after J) (sym row) ∙ sym k) (after-reached J event h)

pub extended-leaves_stored : (J K es : List Entry) (event : Event) → IsReached J → Ok es ≡ next J event → K ≡ J ++ es → LeavesStored J event K
extended-leaves_stored J K es event h row k = subst (LeavesStored J event) (ap (after J) (sym row) ∙ sym k) (next-leaves_stored J event h)

pub same-leaves_stored : (J K : List Entry) (event : Event) → K ≡ J → LeavesStored J event K
same-leaves_stored J K event k = subst (LeavesStored J event) (sym k) (λ h c alive stored. (alive, stored))
