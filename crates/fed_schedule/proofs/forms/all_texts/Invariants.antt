use Rattle.std.proofs.Common.{◌≡◌, drop}
use Rattle.std.specs.List.{list_all}
use Rattle.schedule_words.specs.Words.{is_text}
use Rattle.fed_schedule.proofs.forms.all_texts.Given as goal

-- the rest decides
abbrev pub invariant-loop-word : goal.invariant-loop-word
invariant-loop-word l = list_all is_text (drop l.word-index l.words) ≡ list_all is_text l.fn.words
