use Rattle.std.proofs.Common.{◌≡◌, true, false, ◌∙◌, sym, rules}
use Rattle.binding_match.specs.Topics.{words, covers}
use Rattle.binding_match.proofs.TopicLemmas.{covers_yes, covers_back}
use Rattle.binding_match.proofs.WalkLemmas.{fails_else}
use Rattle.binding_match.proofs.topic.topic_matches.Goals as goal

pub returns-in-Ends : goal.returns-in-Ends
returns-in-Ends c =
    let is : true ≡ covers (words c.args.pattern.now) (words c.args.key.now) = search rules in
    record { relation = (λ _. covers_yes _ _ (sym is), λ _. search rules); value = is }

pub returns-in_default-matches : goal.returns-in_default-matches
returns-in_default-matches c =
    let is : false ≡ covers (words c.args.pattern.now) (words c.args.key.now) = sym (fails_else c.loop-walk.walk c.in_default.not-Hash c.in_default-matches.not-Ends) ∙ c.loop-walk.invariant in
    record { relation = (λ h. absurd (search rules), λ h. is ∙ covers_back _ _ h); value = is }
