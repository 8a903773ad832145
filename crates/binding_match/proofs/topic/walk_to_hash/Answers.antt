use Rattle.std.proofs.Common.{rules}
use Rattle.std.specs.Option.{option_copied}
use Rattle.binding_match.specs.Walks.{words_in}
use Rattle.binding_match.proofs.TopicLemmas.{along_word, along_hash, along_differs, along_short, along_long, along_end}
use Rattle.binding_match.proofs.WalkLemmas.{some_word, no_word}
use Rattle.binding_match.proofs.topic.walk_to_hash.Goals as goal

pub returns-then-is_hash-clause-answer : goal.returns-then-is_hash-clause-answer
returns-then-is_hash-clause-answer c =
    (along_hash _ _ (words_in (option_copied c.loop-parts.parts)) (words_in (option_copied c.loop-parts.words)) c.split_word.result.0.now (words_in (option_copied c.split_word.result.1)) (search rules) (search rules) c.loop-parts.invariant).same

pub returns-then-is_hash-clause-ahead : goal.returns-then-is_hash-clause-ahead
returns-then-is_hash-clause-ahead c =
    (along_hash _ _ (words_in (option_copied c.loop-parts.parts)) (words_in (option_copied c.loop-parts.words)) c.split_word.result.0.now (words_in (option_copied c.split_word.result.1)) (search rules) (search rules) c.loop-parts.invariant).ahead

pub returns-in_default-words-clause-answer : goal.returns-in_default-words-clause-answer
returns-in_default-words-clause-answer c =
    along_short _ _ (words_in (option_copied c.loop-parts.parts)) (words_in (option_copied c.loop-parts.words)) c.split_word.result.0.now (words_in (option_copied c.split_word.result.1)) (search rules) (search rules) (search rules) c.loop-parts.invariant

pub returns-then-not-stands_for-clause-answer : goal.returns-then-not-stands_for-clause-answer
returns-then-not-stands_for-clause-answer c =
    along_differs _ _ (words_in (option_copied c.loop-parts.parts)) (words_in (option_copied c.loop-parts.words)) c.split_word.result.0.now (words_in (option_copied c.split_word.result.1))
    c.split_word-in-Some.result.0.now (words_in (option_copied c.split_word-in-Some.result.1)) (search rules) (search rules) (search rules) (search rules) c.loop-parts.invariant

pub loop-parts-preserved : goal.loop-parts-preserved
loop-parts-preserved c =
    along_word _ _ (words_in (option_copied c.loop-parts.parts)) (words_in (option_copied c.loop-parts.words)) c.split_word.result.0.now (words_in (option_copied c.split_word.result.1))
    c.split_word-in-Some.result.0.now (words_in (option_copied c.split_word-in-Some.result.1)) (search rules) (search rules) (search rules) (search rules) c.loop-parts.invariant

pub returns-then-is_none-clause-answer : goal.returns-then-is_none-clause-answer
returns-then-is_none-clause-answer c =
    along_end _ _ (words_in (option_copied c.loop-parts.parts)) (words_in (option_copied c.loop-parts.words)) (search rules) (no_word c.loop-parts.words (search rules)) c.loop-parts.invariant

pub returns-else-is_none-clause-answer : goal.returns-else-is_none-clause-answer
returns-else-is_none-clause-answer c =
    let s = some_word c.loop-parts.words (search rules) in
    along_long _ _ (words_in (option_copied c.loop-parts.parts)) (words_in (option_copied c.loop-parts.words)) s.0 s.1 (search rules) s.2 c.loop-parts.invariant
