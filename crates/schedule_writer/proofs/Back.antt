-- A line that is written is read back.
use Rattle.std.proofs.Common.{◌≡◌, ℕ, Bool, true, false, eqb, List, [], ◌∷◌, length, get_or, refl, ap, ◌∙◌, arith}
use Rattle.std.specs.Prelude.{Ok}
use Rattle.std.proofs.lemmas.Bool.{ne_eqb}
use Rattle.fed_journal.specs.declared.event.Event.{Event}
use Rattle.fed_journal.specs.declared.event.Event.TheVariants as event
use Rattle.schedule_words.specs.Words.{words_of}
use Rattle.fed_schedule.specs.declared.statement.Statement.TheVariants as states
use Rattle.fed_schedule.specs.Times.{head_of, count_of}
use Rattle.fed_schedule.specs.Schedule.{State, without_return, is_passed_over, judge, with_events, with_line}
use Rattle.schedule_writer.specs.Lines.{joined, shovel_words, has_line, event_words, event_line}
use Rattle.schedule_writer.specs.Readable.{CanBeRead, is_new}
use Rattle.schedule_writer.proofs.Joined.{AreOnes, words_joined, joined_some, kept_whole}
use Rattle.schedule_writer.proofs.Events.{event_stated}

-- words in a line
record IsCut (ws : List (List ℕ)) : Type 0 where
  words : words_of (joined ws) ≡ ws
  whole : without_return (joined ws) ≡ joined ws
  some : eqb (length (joined ws)) 0 ≡ false

cut_back : (ws : List (List ℕ)) → eqb (length ws) 0 ≡ false → AreOnes ws → IsCut ws
cut_back [] some are = absurd cc
cut_back (w ∷ ws) some are =
    record { words = words_joined w ws are; whole = kept_whole w ws are; some = ne_eqb _ _ (omega (arith, joined_some w ws are)) }

pub lines_back : (r : State) (e : Event) → has_line e ≡ true → CanBeRead e → is_new r.shovels e ≡ true → judge r (words_of (event_line e)) ≡ Ok (states.Event e)
unfolding event_line
lines_back r e line can new =
    let t = event_stated r e line can new in
    rw (cut_back (event_words e) t.some t.words).words t.judged

-- no line of an event is a comment
begins : (e : Event) → has_line e ≡ true → eqb (get_or (joined (event_words e)) 0 0) 35 ≡ false
unfolding has_line event_words shovel_words
begins (event.DeclareQueue p c q o) line = refl
begins (event.DeclareExchange p c x o) line = refl
begins (event.Bind p c b) line = refl
begins (event.Unbind p c b) line = refl
begins (event.Consume p c q t a n) line = refl
begins (event.Cancel p c t) line = refl
begins (event.Deliver p c t) line = refl
begins (event.Get p c q a) line = refl
begins (event.Ack p c y) line = refl
begins (event.Reject p c y) line = refl
begins (event.Requeue p c y) line = refl
begins (event.Purge p c q) line = refl
begins (event.Close p c) line = refl
begins (event.Flush b) line = refl
begins (event.SetShovel p n x) line = refl
begins (event.Open l) line = refl
begins (event.Take l) line = refl
begins (event.Send l) line = refl
begins (event.Accept l) line = refl
begins (event.Confirm l) line = refl
begins (event.Note l) line = refl
begins (event.Settle l) line = refl
begins event.Show line = refl
begins (event.Publish p c m) line = refl

pub lines_add : (n : ℕ) (r : State) (e : Event) → has_line e ≡ true → CanBeRead e → is_new r.shovels e ≡ true → with_line n r (event_line e) ≡ with_events n r 1 e
unfolding event_line with_line is_passed_over head_of count_of
lines_add n r e line can new =
    let t = event_stated r e line can new in
    let cut = cut_back (event_words e) t.some t.words in
    rw (cut.whole, cut.some, begins e line, cut.words, t.judged, t.once) refl
