-- How entries change what has become of a copy.
use Rattle.std.proofs.Common.{◌≡◌, ℕ, List, [], ◌∷◌, Bool, true, false, Some, refl}
use Rattle.std.specs.Prelude.{◌||◌, cond}
use Rattle.std.specs.List.{list_any}
use Rattle.std.proofs.lemmas.Bool.{false≢true}
use Rattle.fed_journal.specs.declared.place.Place.{Place}
use Rattle.client_rules.specs.declared.client.Client.{Client}
use Rattle.fed_journal.specs.declared.entry.Publication.{Publication}
use Rattle.fed_journal.specs.declared.entry.Entry.{Entry}
use Rattle.fed_journal.specs.declared.entry.Entry.TheVariants.{Published}
use Rattle.fed_journal.specs.Holders.{Session, Channel}
use Rattle.fed_journal.specs.Copies.{Standing, Unknown, Ready, Held, Left, is_copy_of, enters, publication_of, is_waiting}
use Rattle.fed_journal.specs.Holds.{holder_in, is_client_of}

published-by : (x : Publication) (c : ℕ) (K : List Entry) (b : Bool) → (b || list_any (enters c) K) ≡ true → (list_any (enters c) K ≡ true → (y : Publication) × (publication_of c K ≡ Some y)) → (y : Publication) × (cond b (Some x) (publication_of c K) ≡ Some y)
published-by x c K true h later = (x, refl)
published-by x c K false h later = later h

-- a copy that entered its queue has its publication
pub published-of : (c : ℕ) (K : List Entry) → list_any (enters c) K ≡ true → (x : Publication) × (publication_of c K ≡ Some x)
unfolding publication_of
published-of c [] h = absurd (false≢true h)
published-of c (Published x ∷ K) h = published-by x c K (is_copy_of x c) h (published-of c K)
published-of c (e ∷ K) h = published-of c K h

pub waiting-is : (t : Standing) → is_waiting t ≡ true → t ≡ Ready
waiting-is Ready h = refl
waiting-is Unknown h = absurd (false≢true h)
waiting-is (Held holder) h = absurd (false≢true h)
waiting-is Left h = absurd (false≢true h)

-- whether a session has it
abbrev pub is_with_session : Standing → Bool
is_with_session (Held (Session l s)) = true
is_with_session _ = false

-- what a client holds no session holds
pub client-has_it : (p : Place) (k : Client) (t : Standing) → is_client_of p k (holder_in t) ≡ true → is_with_session t ≡ false
client-has_it p k (Held (Session l s)) h = absurd (false≢true h)
client-has_it p k (Held (Channel a b g)) h = refl
client-has_it p k Unknown h = refl
client-has_it p k Ready h = refl
client-has_it p k Left h = refl
