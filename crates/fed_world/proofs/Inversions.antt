-- Which entries the stages of a link's session read.
use Rattle.std.proofs.Common.{◌≡◌, ℕ, List, true, Option, Some, None, refl, sym, subst, ap}
use Rattle.std.specs.Prelude.{◌&&◌, cond, ◌==◌}
use Rattle.std.proofs.lemmas.Bool.{and_parts, and_from, eq-eqb, eqb-true}
use Rattle.std.proofs.lemmas.Option.{same_Some, none-some, cond_some}
use Rattle.fed_journal.specs.declared.entry.Publisher.{Publisher}
use Rattle.fed_journal.specs.declared.entry.Publisher.TheVariants.{Client, Link}
use Rattle.fed_journal.specs.declared.entry.Publication.{Publication}
use Rattle.fed_journal.specs.declared.entry.Entry.{Entry}
use Rattle.fed_journal.specs.declared.entry.Entry.TheVariants.{Published, Took, Sent, Confirmed, Noted, Settled}
use Rattle.fed_journal.specs.Names.{same_text}
use Rattle.fed_journal.specs.Copies.{find_publication}
use Rattle.fed_journal.specs.Flight.{of_session, taken_by, sent_by, copy_published_by, number_if, published_by, confirmed_to, noted_by, settled_for, copy_of_publication, copy_from, confirmed_copy, is_number}
use Rattle.broker_view.proofs.Names.{same_text-true, same_text-refl}

-- the link, the session and the number are those asked for
pub record Same (l : List ℕ) (s : ℕ) (k : List ℕ) (t : ℕ) (n m : ℕ) : Type 0 where
  pub link : k ≡ l
  pub session : t ≡ s
  pub number : n ≡ m

pub of_session-some : (l : List ℕ) (s : ℕ) (link : List ℕ) (session n m : ℕ) → of_session l s link session n ≡ Some m → Same l s link session n m
of_session-some l s link session n m h =
    let parts : ((same_text link l && session == s) ≡ true) × (n ≡ m) = cond_some (same_text link l && session == s) n m h in
    let names : (same_text link l ≡ true) × ((session == s) ≡ true) = and_parts (same_text link l) (session == s) parts.0 in
    record { link = same_text-true link l names.0; session = eqb-true session s names.1; number = parts.1 }

pub of_session-same : (l : List ℕ) (s n : ℕ) → of_session l s l s n ≡ Some n
of_session-same l s n =
    ap (λ b. cond b (Some n) None) (and_from (same_text l l) (s == s) (same_text-refl l) (eq-eqb s s refl))

-- an entry of three parts with the same parts
same-entry : (entry : List ℕ → ℕ → ℕ → Entry) (l : List ℕ) (s : ℕ) (link : List ℕ) (session n m : ℕ) → Same l s link session n m → entry link session n ≡ entry l s m
same-entry entry l s link session n m h = cc (h.link, h.session, h.number)

pub taken_by-is : (l : List ℕ) (s c : ℕ) (e : Entry) → taken_by l s e ≡ Some c → e ≡ Took l s c
taken_by-is l s c (Took k t d) h = same-entry Took l s k t d c (of_session-some l s k t d c h)
taken_by-is l s c _ h = absurd (none-some c h)

pub sent_by-is : (l : List ℕ) (s c : ℕ) (e : Entry) → sent_by l s e ≡ Some c → e ≡ Sent l s c
sent_by-is l s c (Sent k t d) h = same-entry Sent l s k t d c (of_session-some l s k t d c h)
sent_by-is l s c _ h = absurd (none-some c h)

pub noted_by-is : (l : List ℕ) (s c : ℕ) (e : Entry) → noted_by l s e ≡ Some c → e ≡ Noted l s c
noted_by-is l s c (Noted k t d) h = same-entry Noted l s k t d c (of_session-some l s k t d c h)
noted_by-is l s c _ h = absurd (none-some c h)

pub confirmed_to-is : (l : List ℕ) (s p : ℕ) (e : Entry) → confirmed_to l s e ≡ Some p → e ≡ Confirmed l s p
confirmed_to-is l s p (Confirmed k t q) h = same-entry Confirmed l s k t q p (of_session-some l s k t q p h)
confirmed_to-is l s p _ h = absurd (none-some p h)

pub published_by-is : (l : List ℕ) (s c : ℕ) (by : Publisher) → copy_published_by l s by ≡ Some c → by ≡ Link l s c
published_by-is l s c (Client client) h = absurd (none-some c h)
published_by-is l s c (Link k t d) h =
    let same : Same l s k t d c = of_session-some l s k t d c h in
    cc (same.link, same.session, same.number)

-- an entry that confirms the publication for the copy
pub record Confirms (J : List Entry) (l : List ℕ) (s c : ℕ) (e : Entry) : Type 0 where
  pub number : ℕ
  pub publication : Publication
  pub entry : e ≡ Confirmed l s number
  pub found : find_publication number J ≡ Some publication
  pub by : publication.by ≡ Link l s c

confirms-of : (J : List Entry) (l : List ℕ) (s c : ℕ) (e : Entry) (p : ℕ) (o : Option Publication) → confirmed_to l s e ≡ Some p → find_publication p J ≡ o → copy_of_publication l s o ≡ Some c → Confirms J l s c e
confirms-of J l s c e p None h f k = absurd (none-some c k)
confirms-of J l s c e p (Some x) h f k =
    record { number = p; publication = x; entry = confirmed_to-is l s p e h; found = f; by = published_by-is l s c x.by k }

confirms-from : (J : List Entry) (l : List ℕ) (s c : ℕ) (e : Entry) (o : Option ℕ) → confirmed_to l s e ≡ o → copy_from J l s o ≡ Some c → Confirms J l s c e
confirms-from J l s c e None h k = absurd (none-some c k)
confirms-from J l s c e (Some p) h k = confirms-of J l s c e p (find_publication p J) h refl k

pub confirmed_copy-is : (J : List Entry) (l : List ℕ) (s c : ℕ) (e : Entry) → confirmed_copy J l s e ≡ Some c → Confirms J l s c e
confirmed_copy-is J l s c e h = confirms-from J l s c e (confirmed_to l s e) refl h

-- a session's settle is seen where one asks for it
pub settled_for-same : (l : List ℕ) (s c : ℕ) → is_number c (settled_for l s (Settled l s c)) ≡ true
settled_for-same l s c = subst (λ o. is_number c o ≡ true) (sym (of_session-same l s c)) (eq-eqb c c refl)

-- an entry by which the target published under that number for the session
pub record Publishes (l : List ℕ) (s p : ℕ) (e : Entry) : Type 0 where
  pub publication : Publication
  pub copy : ℕ
  pub entry : e ≡ Published publication
  pub number : publication.number ≡ p
  pub by : publication.by ≡ Link l s copy

publishes-of : (l : List ℕ) (s p : ℕ) (x : Publication) (o : Option ℕ) → copy_published_by l s x.by ≡ o → number_if x.number o ≡ Some p → Publishes l s p (Published x)
publishes-of l s p x None h k = absurd (none-some p k)
publishes-of l s p x (Some c) h k =
    record { publication = x; copy = c; entry = refl; number = same_Some x.number p k; by = published_by-is l s c x.by h }

pub publishes-is : (l : List ℕ) (s p : ℕ) (e : Entry) → published_by l s e ≡ Some p → Publishes l s p e
publishes-is l s p (Published x) h = publishes-of l s p x (copy_published_by l s x.by) refl h
publishes-is l s p _ h = absurd (none-some p h)
