use Rattle.std.proofs.Common.{sym, ap, ◌∙◌}
use Rattle.broker_store.specs.Exchanges.{declared_shape}
use Rattle.broker_store.proofs.NameLemmas.{lookup_under}
use Rattle.broker_store.proofs.exchanges.Exchanges.declared.Goals as goal

pub returns : goal.returns
returns c = c.get.ensures.value ∙ sym (lookup_under c.args.name.now c.self.inside.table.entries) ∙ ap (declared_shape c.args.name.now) c.self.view_is
