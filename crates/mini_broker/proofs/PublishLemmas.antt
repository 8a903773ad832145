-- No queue comes or goes as copies enter.
use Rattle.std.proofs.Common.{ℕ, ◌+◌, List, [], ◌∷◌, refl, ◌∙◌}
use Rattle.broker_store.specs.Mail.{entered}
use Rattle.broker_store.specs.Queues.{Named, changed, with_mail, SameNames, all_entered}
use Rattle.broker_store.proofs.NameLemmas.{stands_changed}

-- no queue comes or goes
pub entered_names : {M : Type 0} (names : List (List ℕ)) (n : ℕ) (m : M) (queues : List (Named M)) → SameNames queues (all_entered names n m queues)
entered_names [] n m queues = λ name. refl
entered_names (first ∷ names) n m queues =
    λ name. entered_names names (n + 1) m (changed first (with_mail (entered n m)) queues) name ∙ stands_changed name first (with_mail (entered n m)) queues
