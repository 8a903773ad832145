use Rattle.std.proofs.Common.{◌+◌, ◌<◌, ◌^◌, sym, ◌∙◌}
use Rattle.std.specs.Prelude.{nat_eq}
use Rattle.std.proofs.lemmas.Map.Entries.{All-lookup}
use Rattle.broker_channels.specs.declared.shares.Share.{Share}
use Rattle.broker_channels.proofs.ShareLemmas.{set-is, none-is}
use Rattle.broker_channels.proofs.shares.add.Goals as goal

pub overflow_add-share : goal.overflow_add-share
overflow_add-share c =
    let fits = rw (sym c.in-Some.ensures.value) at (All-lookup (λ (share : Share). share.held + 1 < 2 ^ 64) (nat_eq c.args.number) c.args.shares.now.entries c.requires) in
    record { fits = fits }

pub returns-in-Some-clause-shares : goal.returns-in-Some-clause-shares
returns-in-Some-clause-shares c =
    let share = c.in-Some.share.now in
    (c.get_mut.follows.holds (record { window = share.window; held = share.held + 1 })).0 ∙ set-is c.args.number (λ (s : Share). record s { held = s.held + 1 }) c.args.shares.now.entries share c.get_mut.ensures.unique (sym c.in-Some.ensures.value)

pub returns-in_default-clause-shares : goal.returns-in_default-clause-shares
returns-in_default-clause-shares c =
    rw c.get_mut.follows.holds-at-none (sym (none-is c.args.number (λ (s : Share). record s { held = s.held + 1 }) c.args.shares.now.entries (sym c.in_default.ensures.value)))
