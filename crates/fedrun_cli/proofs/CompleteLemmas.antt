-- Each ending but `Done` and `Memory` has a cause that an accepted file rules out.
use Rattle.std.proofs.Common.{◌≡◌, ℕ, ◌<◌, ◌≤◌, List, length, Bool, true, false, Option, Some, None, Result, Ok, Err, arith, refl, sym, ap, subst, ◌∙◌, inl, inr}
use Rattle.std.specs.Prelude.{◌⊎◌}
use Rattle.std.proofs.lemmas.Bool.{true≢false}
use Rattle.std.proofs.lemmas.Option.{none-some, same_Some}
use Rattle.fed_outside.specs.Outside.{Rose}
use Rattle.fed_schedule.specs.declared.script.ScheduleFault.{ScheduleFault}
use Rattle.fed_schedule.specs.Schedule.{Reading, reading}
use Rattle.fedrun_cli.specs.declared.ending.Ending.{Ending}
use Rattle.fedrun_cli.specs.declared.ending.Ending.TheVariants as ends
use Rattle.fedrun_cli.specs.Endings.{status_of, SinkView}
use Rattle.fedrun_cli.specs.Ends.{Outside, EndsRun}
use Rattle.fedrun_cli.specs.Outcomes.{Files, ShelfView, HasFile, HasRead, LacksFile, IsRefused, HasManyEvents, HasManyPlaces, IsLimited, HasLongReport, Explains, output, limit_in}
use Rattle.fedrun_cli.specs.Completeness.{IsAccepted, HasAccepted, IsComplete}

-- the file's content is the one that is told
content-is : (files : List ℕ → Option (List ℕ)) (name content : List ℕ) (P : List ℕ → Type 0) → files name ≡ Some content → HasFile (Some files) name P → P content
content-is files name content P e h =
    let told : List ℕ = h.0 in
    let there : files name ≡ Some told = h.1 in
    subst P (same_Some told content (sym there ∙ e)) h.2

-- the same of files that a shelf tells
told-content : (f : Files) (files : List ℕ → Option (List ℕ)) (name content : List ℕ) (P : List ℕ → Type 0) → f ≡ Some files → files name ≡ Some content → HasFile f name P → P content
told-content f files name content P t e h = content-is files name content P e (subst (λ (f : Files). HasFile f name P) t h)

-- the same of a file that isn't too long
read-content : (f : Files) (files : List ℕ → Option (List ℕ)) (name content : List ℕ) (P : List ℕ → Type 0) → f ≡ Some files → files name ≡ Some content → HasRead f name P → P content
read-content f files name content P t e h = (told-content f files name content (λ c. (length c ≤ 67108864) × P c) t e h).1

abbrev is_ok : Result Reading ScheduleFault → Bool
is_ok (Ok r) = true
is_ok (Err fault) = false

abbrev reading_or : Reading → Result Reading ScheduleFault → Reading
reading_or d (Ok r) = r
reading_or d (Err fault) = d

no-fault : (content : List ℕ) (r : Reading) (fault : ScheduleFault) → reading content ≡ Ok r → reading content ≡ Err fault → ⊥
no-fault content r fault e f = true≢false (ap is_ok (sym e ∙ f))

one-reading : (content : List ℕ) (r s : Reading) → reading content ≡ Ok r → reading content ≡ Ok s → r ≡ s
one-reading content r s e f = ap (reading_or r) (sym e ∙ f)

-- no ending but those two is explained
ending-complete : (files : List ℕ → Option (List ℕ)) (name content : List ℕ) (shelf shelf' : ShelfView) (out out' : SinkView) (ending : Ending)
    → shelf.files ≡ Some files → files name ≡ Some content → IsAccepted content → (Rose shelf.faults shelf'.faults → ⊥) → (Rose out.faults out'.faults → ⊥)
    → Explains name shelf shelf' out out' ending → (status_of ending ≡ 0) ⊎ (status_of ending ≡ 1)
ending-complete files name content s s' o o' ends.Done t e a r w h = inl refl
ending-complete files name content s s' o o' ends.Memory t e a r w h = inr refl
ending-complete files name content s s' o o' ends.Usage t e a r w h = absurd h
ending-complete files name content s s' o o' (ends.Line line reason) t e a r w h = absurd (no-fault content a.script _ a.spelled (read-content s.files files name content (IsRefused line reason) t e h.0).0)
ending-complete files name content s s' o o' (ends.Events line) t e a r w h = absurd (no-fault content a.script _ a.spelled (read-content s.files files name content (HasManyEvents line) t e h.0))
ending-complete files name content s s' o o' ends.ReadFault t e a r w h = absurd (r h.0)
ending-complete files name content s s' o o' ends.WriteFault t e a r w h = absurd (w h.1)
ending-complete files name content s s' o o' ends.FileTooLong t e a r w h =
    let long : 67108864 < length content = told-content s.files files name content (λ c. 67108864 < length c) t e h.0 in
    absurd (omega (arith, long, a.size))
ending-complete files name content s s' o o' ends.Absent t e a r w h = absurd (none-some content (sym (subst (λ (f : Files). LacksFile f name) t h.0) ∙ e))
ending-complete files name content s s' o o' ends.Places t e a r w h =
    let many = read-content s.files files name content HasManyPlaces t e h.0 in
    let same = one-reading content many.0 a.script many.1 a.spelled in
    let long : 64 < length a.script.brokers = subst (λ (s : Reading). 64 < length s.brokers) same many.2 in
    absurd (omega (arith, long, a.places))
ending-complete files name content s s' o o' (ends.Limit line limit) t e a r w h =
    let limited = read-content s.files files name content (IsLimited line limit) t e h.0 in
    let same = one-reading content limited.0 a.script limited.1 a.spelled in
    absurd (none-some _ (sym a.limits ∙ ap limit_in (sym same) ∙ limited.3))
ending-complete files name content s s' o o' ends.Report t e a r w h =
    let reported = read-content s.files files name content HasLongReport t e h.0 in
    let same = one-reading content reported.0 a.script reported.1 a.spelled in
    let long : 67108864 < length (output a.script) = subst (λ (s : Reading). 67108864 < length (output s)) same reported.4 in
    absurd (omega (arith, long, a.report))

by-status : (n m : ℕ) → n ≡ m → (m ≡ 0) ⊎ (m ≡ 1) → (n ≡ 0) ⊎ (n ≡ 1)
by-status n m e h = subst (λ k. (k ≡ 0) ⊎ (k ≡ 1)) (sym e) h

by-files : (files : Files) (schedule : List ℕ) (before now : Outside) (status : ℕ) → before.shelf.files ≡ files → EndsRun schedule before now status
    → HasAccepted files schedule → (Rose before.shelf.faults now.shelf.faults → ⊥) → (Rose before.out.faults now.out.faults → ⊥) → (status ≡ 0) ⊎ (status ≡ 1)
by-files None schedule before now status is ends h r w = absurd h
by-files (Some files) schedule before now status is ends h r w =
    by-status status (status_of ends.ending) ends.status_is
    (ending-complete files schedule h.0 before.shelf now.shelf before.out now.out ends.ending is h.1 h.2 r w ends.explained)

pub ends-complete : (schedule : List ℕ) (before now : Outside) (status : ℕ) → EndsRun schedule before now status → IsComplete schedule before now status
ends-complete schedule before now status ends h r w = by-files before.shelf.files schedule before now status refl ends h r w
