-- A report that may get too long, and a run that may stop.
use Rattle.std.proofs.Common.{◌≡◌, ℕ, ◌≤◌, ◌<◌, List, [], ◌∷◌, ◌++◌, length, Bool, true, false, Option, Some, None, arith, refl, sym, ap, ◌∙◌, append_assoc, length-append}
use Rattle.std.specs.Prelude.{nat_lt, if◌then◌else◌, flat_map, sum_by}
use Rattle.std.proofs.lemmas.Bool.{lt-ltb, ltb-true, ltb-false}
use Rattle.std.proofs.lemmas.List.{append-nil}
use Rattle.std.proofs.lemmas.Option.{none-some, same_Some}
use Rattle.fed_journal.specs.declared.entry.Entry.{Entry}
use Rattle.fed_journal.specs.declared.event.Event.{Event}
use Rattle.fed_world.specs.Run.{Moment, run}
use Rattle.fed_world.specs.declared.reason.StepFault.{StepFault}
use Rattle.fedrun_cli.specs.declared.ending.Ending.{Ending}
use Rattle.fedrun_cli.specs.declared.ending.Ending.TheVariants as ends
use Rattle.fedrun_cli.specs.Report.{moment_text, done_at, last_journal, joined, told_run, end_text, ended, report, limit_or, Stops, JoinEnds, ReportEnds}

-- a text, unless it is too long
abbrev pub capped : List ℕ → Option (List ℕ)
capped text = if nat_lt 67108864 (length text) then None else Some text

capped-long : (text : List ℕ) → 67108864 < length text → capped text ≡ None
capped-long text h = ap (λ b. if b then None else Some text) (lt-ltb 67108864 (length text) h)

joined-some : (text piece : List ℕ) → joined (Some text) piece ≡ capped (text ++ piece)
joined-some text piece = ap (λ n. if nat_lt 67108864 n then None else Some (text ++ piece)) (sym (length-append text piece))

joined-by : (text piece : List ℕ) (b : Bool) → nat_lt 67108864 (length text) ≡ b → joined (if b then None else Some text) piece ≡ capped (text ++ piece)
joined-by text piece true h = sym (capped-long (text ++ piece) (omega (arith, ltb-true 67108864 (length text) h, length-append text piece)))
joined-by text piece false h = joined-some text piece

joined-capped : (text piece : List ℕ) → joined (capped text) piece ≡ capped (text ++ piece)
joined-capped text piece = joined-by text piece (nat_lt 67108864 (length text)) refl

pub told-capped : (text : List ℕ) (ms : List Moment) → told_run (capped text) ms ≡ capped (text ++ flat_map moment_text ms)
told-capped text [] = ap capped (sym (append-nil text))
told-capped text (m ∷ ms) =
    ap (λ o. told_run o ms) (joined-capped text (moment_text m)) ∙ told-capped (text ++ moment_text m) ms
    ∙ ap capped (append_assoc text (moment_text m) (flat_map moment_text ms))

-- the whole output and its end
pub told-whole : (ms : List Moment) (end' : List ℕ) → joined (told_run (Some []) ms) end' ≡ capped (flat_map moment_text ms ++ end')
told-whole ms end' = ap (λ o. joined o end') (told-capped [] ms) ∙ joined-capped (flat_map moment_text ms) end'

by-length : (text page : List ℕ) (b : Bool) → nat_lt 67108864 (length text) ≡ b → (if b then None else Some text) ≡ Some page → (page ≡ text) × (length text ≤ 67108864)
by-length text page true h e = absurd (none-some page e)
by-length text page false h e = (sym (same_Some text page e), ltb-false 67108864 (length text) h)

pub capped-some : (text page : List ℕ) → capped text ≡ Some page → (page ≡ text) × (length text ≤ 67108864)
capped-some text page e = by-length text page (nat_lt 67108864 (length text)) refl e

by-none : (text : List ℕ) (b : Bool) → nat_lt 67108864 (length text) ≡ b → (if b then None else Some text) ≡ None → 67108864 < length text
by-none text true h e = ltb-true 67108864 (length text) h
by-none text false h e = absurd (none-some text (sym e))

pub capped-none : (text : List ℕ) → capped text ≡ None → 67108864 < length text
capped-none text e = by-none text (nat_lt 67108864 (length text)) refl e

ended-capped : (J : List Entry) (events : List (ℕ × Event)) → ended J events ≡ capped (report J events)
unfolding ended report
ended-capped J events = told-whole (run J events) (end_text (last_journal J (run J events)) (length events) (sum_by done_at (run J events)))

pub ended-report : (J : List Entry) (events : List (ℕ × Event)) (page : List ℕ) → ended J events ≡ Some page → (page ≡ report J events) × (length (report J events) ≤ 67108864)
ended-report J events page e = capped-some (report J events) page (sym (ended-capped J events) ∙ e)

pub ended-long : (J : List Entry) (events : List (ℕ × Event)) (ending : Ending) → JoinEnds J events ending → ReportEnds J events ending
ended-long J events ends.Report h = (h.0, capped-none (report J events) (sym (ended-capped J events) ∙ h.1))
ended-long J events ends.Memory h = h
ended-long J events (ends.Limit at limit) h = h
ended-long J events ends.Done h = h
ended-long J events ends.Usage h = h
ended-long J events (ends.Line at reason) h = h
ended-long J events (ends.Events at) h = h
ended-long J events ends.ReadFault h = h
ended-long J events ends.WriteFault h = h
ended-long J events ends.FileTooLong h = h
ended-long J events ends.Places h = h
ended-long J events ends.Absent h = h

-- what a moment stops, the run stops
pub stops-more : (line : ℕ) (passed : Option StepFault) (rest : Option (ℕ × StepFault)) (ending : Ending) → Stops (limit_or line passed None) ending → Stops (limit_or line passed rest) ending
stops-more line (Some fault) rest ending h = h
stops-more line None rest ends.Memory h = tt
stops-more line None rest (ends.Limit at limit) h = absurd (none-some _ h)
stops-more line None rest ends.Done h = absurd h
stops-more line None rest ends.Usage h = absurd h
stops-more line None rest (ends.Line at reason) h = absurd h
stops-more line None rest (ends.Events at) h = absurd h
stops-more line None rest ends.ReadFault h = absurd h
stops-more line None rest ends.WriteFault h = absurd h
stops-more line None rest ends.FileTooLong h = absurd h
stops-more line None rest ends.Places h = absurd h
stops-more line None rest ends.Report h = absurd h
stops-more line None rest ends.Absent h = absurd h
