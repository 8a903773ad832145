use Rattle.std.proofs.Common.{◌≡◌, ◌&&◌, true, false, not, sym, ap, ◌∙◌}
use Rattle.std.specs.Prelude.{count_by}
use Rattle.broker_channels.specs.Tags.{is_to, is_pushed, is_full, window_of}
use Rattle.broker_channels.specs.Held.{consumers_of}
use Rattle.broker_channels.proofs.ShareLemmas.{full-is}
use Rattle.broker_channels.proofs.channel.Channel.has_room.Goals as goal

pub returns-then-not-own_full : goal.returns-then-not-own_full
returns-then-not-own_full c =
    let ds = c.self.inside.deliveries.items in
    let es = c.self.inside.shares.entries in
    let own = c.is_share_full-own_full.ensures ∙ rw c.share_of.ensures (full-is c.args.consumer ds es c.self.invariant.2) in
    let free : is_full (window_of c.args.consumer (consumers_of es)) (count_by (is_to c.args.consumer) ds) ≡ false = sym own ∙ c.if-not-own_full.true in
    let all = c.is_full-all_full.ensures ∙ ap (is_full c.self.inside.window) c.self.invariant.3 in
    rw (← c.self.view_is) (ap not all ∙ ap (λ b. not b && not (is_full c.self.inside.window (count_by is_pushed ds))) (sym free))

pub returns-else-not-own_full : goal.returns-else-not-own_full
returns-else-not-own_full c =
    let ds = c.self.inside.deliveries.items in
    let es = c.self.inside.shares.entries in
    let own = c.is_share_full-own_full.ensures ∙ rw c.share_of.ensures (full-is c.args.consumer ds es c.self.invariant.2) in
    let full : is_full (window_of c.args.consumer (consumers_of es)) (count_by (is_to c.args.consumer) ds) ≡ true = sym own ∙ c.if-not-own_full.false in
    rw (← c.self.view_is) (ap not c.if-not-own_full.false ∙ ap (λ b. not b && not (is_full c.self.inside.window (count_by is_pushed ds))) (sym full))
