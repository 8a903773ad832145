-- What a broker owes to links' sessions of confirms, in terms of the journal of its run (RabbitMQ, Publisher Confirms).
use Rattle.std.specs.Prelude.{◌≡◌, ◌==◌, ◌+◌, ◌<◌, ◌≤◌, ℕ, Bool, true, false, ◌&&◌, not, List, [], ◌∷◌, Some, is_some, All, map, filter, filter_map}
use Rattle.std.specs.List.{list_any}
use Rattle.confirm_core.specs.Waits.{Unconfirmed}
use Rattle.fed_journal.specs.declared.place.Place.{Place}
use Rattle.fed_journal.specs.declared.entry.Publication.{Publication}
use Rattle.fed_journal.specs.declared.entry.Entry.{Entry}
use Rattle.fed_journal.specs.Names.{same_place}
use Rattle.fed_journal.specs.Copies.{publication_in, publication_count, publication_of, find_publication, is_copy_of, is_copy_secured, is_home, numbers_from, entered}
use Rattle.fed_journal.specs.Flight.{has, confirmed_to, copy_published_by}
use Rattle.broker_store.specs.declared.account.Account.{Account}
use Rattle.broker_store.specs.Confirms.{ledger_of, AreBelow}

-- what was published, in its order (AMQP 0-9-1, basic.publish)
abbrev pub publications : List Entry → List Publication
publications J = filter_map (λ e. publication_in (Some e)) J

-- the session published it
abbrev pub is_by : List ℕ → ℕ → Publication → Bool
is_by l s x = is_some (copy_published_by l s x.by)

-- it isn't confirmed to the session
abbrev pub is_unanswered : List Entry → List ℕ → ℕ → Publication → Bool
is_unanswered J l s x = not (has (confirmed_to l s) x.number J)

abbrev pub is_open_at : List Entry → Place → List ℕ → ℕ → Publication → Bool
is_open_at J p l s x = same_place x.place p && (is_by l s x && is_unanswered J l s x)

-- what the session published at the place and isn't answered for
abbrev pub open_at : List Entry → Place → List ℕ → ℕ → List Publication
open_at J p l s = filter (is_open_at J p l s) (publications J)

-- the publication waits for those of its copies that aren't secured (RabbitMQ, Publisher Confirms: when messages are confirmed)
abbrev pub awaited : List Entry → Publication → Unconfirmed
awaited J x = record { number = x.number; waits = filter (λ c. not (is_copy_secured J c)) (numbers_from x.first x.queues) }

-- what the place owes to each session is what its ledger has
pub record HasConfirms (J : List Entry) (p : Place) (accounts : List Account) : Type 0 where
  pub ledgers : (l : List ℕ) (s : ℕ) → ledger_of l s accounts ≡ map (awaited J) (open_at J p l s)
  pub below : AreBelow (publication_count J + 1) accounts

-- a publication is found by its number and by each of its copies, which entered its queues
pub record IsKnown (J : List Entry) (x : Publication) : Type 0 where
  pub found : find_publication x.number J ≡ Some x
  pub last : x.number ≤ publication_count J
  pub copies : (c : ℕ) → is_copy_of x c ≡ true → publication_of c J ≡ Some x
  pub homes : (c : ℕ) (p : Place) (q : List ℕ) → is_copy_of x c ≡ true → is_home x c p q ≡ true → list_any (λ n. n == c) (entered J p q) ≡ true

-- publications are numbered in their order (RabbitMQ, Publisher Confirms: ordering)
abbrev pub Rising : List Publication → Type 0
Rising [] = Unit {0}
Rising (x ∷ xs) = All (λ later. x.number < later.number) xs × Rising xs

-- what a journal says of its publications
pub record HasPublications (J : List Entry) : Type 0 where
  pub known : All (IsKnown J) (publications J)
  pub rising : Rising (publications J)
  -- what isn't published isn't confirmed
  pub unanswered : (l : List ℕ) (s n : ℕ) → publication_count J < n → has (confirmed_to l s) n J ≡ false

-- all that the session published it published at the place
abbrev pub ArePublishedAt : List Entry → Place → List ℕ → ℕ → Type 0
ArePublishedAt J p l s = All (λ x. is_by l s x ≡ true → same_place x.place p ≡ true) (publications J)
