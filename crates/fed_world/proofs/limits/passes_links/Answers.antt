use Rattle.std.proofs.Common.{◌++◌, length, arith, refl, sym}
use Rattle.std.proofs.lemmas.Bool.{lt-ltb, le-ltb}
use Rattle.fed_journal.specs.Links.{links_of}
use Rattle.fed_journal.specs.Limits.{most_links}
use Rattle.fed_world.proofs.LimitLemmas.{links-stay, links-append}
use Rattle.fed_world.proofs.limits.passes_links.Goals as goal

-- the links stay as many as they are
pub returns-then-not-change_links : goal.returns-then-not-change_links
returns-then-not-change_links c =
    sym (le-ltb most_links (length (links_of (c.args.before.now ++ c.args.entries.now))) (omega (arith, links-stay c.args.before.now c.args.entries.now (sym c.if-not-change_links.ensures), c.requires)))

-- those of the journal's brokers are too many
pub returns-in_default : goal.returns-in_default
returns-in_default c =
    sym (lt-ltb most_links (length (links_of (c.args.before.now ++ c.args.entries.now))) (omega (arith, links-append c.args.before.now c.args.entries.now, c.in_default.ensures.none refl)))

-- all together are few enough
pub returns-in-Some-with_links_in : goal.returns-in-Some-with_links_in
returns-in-Some-with_links_in c =
    sym (le-ltb most_links (length (links_of (c.args.before.now ++ c.args.entries.now))) (omega (arith, links-append c.args.before.now c.args.entries.now, c.in-Some.ensures.some, c.in-Some-with_links_in.ensures.some, c.in-Some-with_links_in.ensures.few)))

-- with those of the entries' brokers they are too many
pub returns-in-None : goal.returns-in-None
returns-in-None c =
    sym (lt-ltb most_links (length (links_of (c.args.before.now ++ c.args.entries.now))) (omega (arith, links-append c.args.before.now c.args.entries.now, c.in-Some.ensures.some, c.in-None.ensures.none refl)))
