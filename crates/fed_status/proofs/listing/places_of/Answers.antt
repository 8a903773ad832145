use Rattle.std.proofs.Common.{◌++◌, ◌∙◌, ap}
use Rattle.std.specs.Option.{option_to_list}
use Rattle.fed_status.specs.Queues.{place_begun}
use Rattle.fed_status.proofs.Lists.{chosen_push}
use Rattle.fed_status.proofs.listing.places_of.Goals as goal

pub loop-entry-preserved : goal.loop-entry-preserved
loop-entry-preserved c =
    c.in_ok-push_place.ensures ∙ ap (λ ys. ys ++ option_to_list (place_begun c.entry-item.result)) c.loop-entry.invariant
    ∙ chosen_push place_begun c.args.journal.now c.loop-entry.entry-index c.entry-item.result c.loop-entry-test.true c.entry-item.is
