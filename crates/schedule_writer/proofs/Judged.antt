-- A line that no reason refuses states what its words say.
use Rattle.std.proofs.Common.{◌≡◌, ℕ, Bool, true, false, List, [], ◌∷◌, length, refl, ap, ◌∙◌}
use Rattle.std.specs.Prelude.{Some, Result, Ok, not, ◌&&◌, ◌||◌, ◌==◌, nat_lt, codes}
use Rattle.std.specs.List.{list_any, list_all}
use Rattle.fed_journal.specs.declared.event.Event.{Event}
use Rattle.fed_journal.specs.Names.{same_text}
use Rattle.fed_schedule.specs.declared.keyword.Keyword.{Keyword}
use Rattle.fed_schedule.specs.declared.script.LineReason.{LineReason}
use Rattle.fed_schedule.specs.declared.statement.Statement.{Statement}
use Rattle.fed_schedule.specs.declared.statement.Statement.TheVariants as states
use Rattle.schedule_words.specs.Words.{word_at, is_text, is_well_escaped}
use Rattle.fed_schedule.specs.Times.{is_times, is_bad_head, head_of, line_of}
use Rattle.fed_schedule.specs.Forms.{keyword_of, are_texts, is_unbuilt, is_empty_word, is_miscounted, word_count, takes_options}
use Rattle.fed_schedule.specs.Reasons.{is_late, has_bad_number, has_bad_names, has_bad_option, has_bad_value}
use Rattle.fed_schedule.specs.Statements.{statement_of}
use Rattle.fed_schedule.specs.Schedule.{State, reason_of, form_read, of_line, judge}
use Rattle.schedule_writer.proofs.Joined.{AreWords, AreOnes, ones, none_empty}

-- no reason refuses a line of these words, which begins with a word of this form
pub record IsGood (r : State) (k : Keyword) (ws : List (List ℕ)) : Type 0 where
  pub texts : are_texts ws ≡ true
  pub once : is_times ws ≡ false
  pub some : (length ws == 0) ≡ false
  pub form : keyword_of (word_at ws 0) ≡ Some k
  pub built : is_unbuilt r.shovels k [] ws ≡ false
  pub timely : is_late (not (length r.events == 0)) k ≡ false
  pub counted : is_miscounted k ws ≡ false
  pub escaped : list_all is_well_escaped ws ≡ true
  pub numbers : has_bad_number k ws ≡ false
  pub names : has_bad_names k ws ≡ false
  pub options : has_bad_option k ws ≡ false
  pub values : has_bad_value k ws ≡ false

pub good : (r : State) (k : Keyword) (ws : List (List ℕ)) → IsGood r k ws → judge r ws ≡ Ok (statement_of k ws)
unfolding judge of_line reason_of form_read head_of line_of is_bad_head
good r k ws g =
    rw (g.texts, g.once, g.some, g.form, g.built, g.timely, g.counted, g.escaped, g.numbers, g.names, g.options, g.values) refl

abbrev judged_as : Statement → Result Statement LineReason
judged_as s = Ok s

-- the words of an event's line, which states it
pub record IsStated (r : State) (e : Event) (ws : List (List ℕ)) : Type 0 where
  pub words : AreOnes ws
  pub some : (length ws == 0) ≡ false
  pub once : is_times ws ≡ false
  pub judged : judge r ws ≡ Ok (states.Event e)

pub counts_ones : (k : Keyword) (ws : List (List ℕ)) → AreOnes ws → nat_lt (length ws) (word_count k ws) ≡ false → (not (takes_options k) && nat_lt (word_count k ws) (length ws)) ≡ false → is_miscounted k ws ≡ false
unfolding is_miscounted
counts_ones k ws words few many = rw (none_empty ws words, few, many) refl

pub counts : (k : Keyword) (ws : List (List ℕ)) → AreWords ws → nat_lt (length ws) (word_count k ws) ≡ false → (not (takes_options k) && nat_lt (word_count k ws) (length ws)) ≡ false → is_miscounted k ws ≡ false
counts k ws words few many = counts_ones k ws (ones ws words) few many

pub stated_ones : (r : State) (k : Keyword) (ws : List (List ℕ)) (e : Event) → AreOnes ws → IsGood r k ws → statement_of k ws ≡ states.Event e → IsStated r e ws
stated_ones r k ws e words g said = record { words = words; some = g.some; once = g.once; judged = good r k ws g ∙ ap (λ (s : Statement). judged_as s) said }

pub stated : (r : State) (k : Keyword) (ws : List (List ℕ)) (e : Event) → AreWords ws → IsGood r k ws → statement_of k ws ≡ states.Event e → IsStated r e ws
stated r k ws e words g said = stated_ones r k ws e (ones ws words) g said
