-- Each stage of a copy follows the one before it.
use Rattle.std.proofs.Common.{◌≡◌, ℕ, List, [], subst}
use Rattle.fed_journal.specs.declared.entry.Publication.{Publication}
use Rattle.fed_journal.specs.declared.entry.Publisher.TheVariants.{Link}
use Rattle.fed_journal.specs.declared.entry.Entry.{Entry}
use Rattle.fed_journal.specs.declared.entry.Entry.TheVariants.{Sent, Published, Confirmed, Noted}
use Rattle.fed_world.specs.Kept.{StandsAfter, FollowsStages}
use Rattle.fed_world.proofs.Causes.{Caused, CausedBy, EachCaused, PublishesCopy, caused-at}
use Rattle.fed_world.proofs.Moved.{confirmed-at}

sent-by : (K : List Entry) (x : Publication) (l : List ℕ) (s c : ℕ) → CausedBy K x x.by → x.by ≡ Link l s c → (L : List Entry) × StandsAfter L (Sent l s c) K
sent-by K x l s c cause by =
    let p : PublishesCopy K x l s c = subst (CausedBy K x) by cause in
    (p.before, p.sent)

pub follows-stages : (J : List Entry) → EachCaused [] J → FollowsStages J
follows-stages J caused = record {
  sent = λ K l s c stands. (caused-at J K (Sent l s c) caused stands).1;
  published = λ K x l s c stands by. sent-by K x l s c (caused-at J K (Published x) caused stands).1.0 by;
  confirmed = λ K l s p stands. (caused-at J K (Confirmed l s p) caused stands).1;
  noted = λ K l s c stands. let at : EachCaused [] K × Caused K (Noted l s c) = caused-at J K (Noted l s c) caused stands in confirmed-at K l s c at.0 at.1;
}
