use Rattle.binding_match.proofs.TopicLemmas.{split_first, split_none}
use Rattle.std.proofs.Common.{rules}
use Rattle.std.proofs.lemmas.List.{take_rest}
use Rattle.binding_match.proofs.topic.split_word.Goals as goal

pub returns-in-Some : goal.returns-in-Some
returns-in-Some c = let found = split_first c.args.text.now c.in-Some.i (search rules) in rw take_rest found.1

pub returns-in-None : goal.returns-in-None
returns-in-None c = split_none c.args.text.now (search rules)
