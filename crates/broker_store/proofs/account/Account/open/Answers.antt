use Rattle.broker_store.proofs.ConfirmLemmas.{last_closed}
use Rattle.broker_store.proofs.account.Account.open.Goals as goal

pub open-requires : goal.open-requires
open-requires c = last_closed _ _ c.requires
