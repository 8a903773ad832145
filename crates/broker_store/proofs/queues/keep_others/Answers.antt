use Rattle.std.proofs.Common.{string_bytes, not, rules}
use Rattle.std.specs.Str.{bytes_eq}
use Rattle.indexmap.proofs.CallerLemmas.{filter-RetainsPairs}
use Rattle.broker_store.proofs.queues.keep_others.Goals as goal

pub returns : goal.returns
returns c = filter-RetainsPairs _ (λ e. not (bytes_eq (string_bytes e.0) c.args.name.now)) _ (λ k v b w g h. search rules) _ _ c.retain.ensures.filtered
