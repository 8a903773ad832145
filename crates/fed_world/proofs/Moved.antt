-- What stands before a link's source removes a copy.
use Rattle.std.proofs.Common.{◌≡◌, ℕ, List, [], ◌∷◌, ◌++◌, Bool, true, false, Option, Some, None, refl, sym, ap, subst, ◌∙◌}
use Rattle.std.specs.Prelude.{cond, ◌==◌}
use Rattle.std.proofs.lemmas.Bool.{false≢true, eqb-true}
use Rattle.std.proofs.lemmas.Option.{none-some, same_Some}
use Rattle.fed_journal.specs.declared.entry.Publication.{Publication}
use Rattle.fed_journal.specs.declared.entry.Entry.{Entry}
use Rattle.fed_journal.specs.declared.entry.Entry.TheVariants.{Took, Sent, Published, Confirmed, Noted, Settled}
use Rattle.fed_journal.specs.declared.entry.Publisher.TheVariants.{Link}
use Rattle.fed_journal.specs.Copies.{find_publication, is_secured, is_secured_at}
use Rattle.fed_journal.specs.declared.link.LinkSpec.{LinkSpec}
use Rattle.fed_journal.specs.declared.entry.Entry.TheVariants.{Opened}
use Rattle.fed_journal.specs.Links.{link_of}
use Rattle.fed_world.proofs.Described.{described-later}
use Rattle.fed_world.proofs.LastOpened.{WasOpened}
use Rattle.fed_world.specs.Kept.{StandsAfter, IsConfirmedFor, IsMoved}
use Rattle.fed_world.proofs.Causes.{Caused, CausedBy, SharesSource, EachCaused, PublishesCopy, WasConfirmed, WasNoted, caused-at}

-- the publication of the number stands in the journal
record FoundAt (p : ℕ) (K : List Entry) (x : Publication) : Type 0 where
  before : List Entry
  stands : StandsAfter before (Published x) K
  number : x.number ≡ p

found-later : (p : ℕ) (e : Entry) (K : List Entry) (x : Publication) → FoundAt p K x → FoundAt p (e ∷ K) x
found-later p e K x f = record { before = e ∷ f.before; stands = (f.stands.0, ap (λ J. e ∷ J) f.stands.1); number = f.number }

found-by : (p : ℕ) (y : Publication) (K : List Entry) (x : Publication) (b : Bool) → (y.number == p) ≡ b → cond b (Some y) (find_publication p K) ≡ Some x → (find_publication p K ≡ Some x → FoundAt p K x) → FoundAt p (Published y ∷ K) x
found-by p y K x true e h later =
    let same : y ≡ x = same_Some y x h in
    record { before = []; stands = (K, ap (λ z. Published z ∷ K) same); number = subst (λ z. z.number ≡ p) same (eqb-true y.number p e) }
found-by p y K x false e h later = found-later p (Published y) K x (later h)

found-at : (p : ℕ) (K : List Entry) (x : Publication) → find_publication p K ≡ Some x → FoundAt p K x
unfolding find_publication
found-at p [] x h = absurd (none-some x h)
found-at p (Published y ∷ K) x h = found-by p y K x (y.number == p) refl h (found-at p K x)
found-at p (e ∷ K) x h = found-later p e K x (found-at p K x h)

longer-by : (y x : Publication) (b : Bool) (one two : Option Publication) → (one ≡ Some x → two ≡ Some x) → cond b (Some y) one ≡ Some x → cond b (Some y) two ≡ Some x
longer-by y x true one two later h = h
longer-by y x false one two later h = later h

-- the first publication of a number stays the first
found-longer : (p : ℕ) (K L : List Entry) (x : Publication) → find_publication p K ≡ Some x → find_publication p (K ++ L) ≡ Some x
unfolding find_publication
found-longer p [] L x h = absurd (none-some x h)
found-longer p (Published y ∷ K) L x h = longer-by y x (y.number == p) (find_publication p K) (find_publication p (K ++ L)) (found-longer p K L x) h
found-longer p (e ∷ K) L x h = found-longer p K L x h

secured_at-found : (K : List Entry) (o : Option Publication) → is_secured_at K o ≡ true → (x : Publication) × (o ≡ Some x)
secured_at-found K None h = absurd (false≢true h)
secured_at-found K (Some x) h = (x, refl)

secured-found : (K : List Entry) (p : ℕ) → is_secured K p ≡ true → (x : Publication) × (find_publication p K ≡ Some x)
unfolding is_secured
secured-found K p h = secured_at-found K (find_publication p K) h

-- a publication that is found later, and was secured before, is that one
found-before : (K : List Entry) (e : Entry) (J : List Entry) (p : ℕ) (x : Publication) → StandsAfter K e J → find_publication p J ≡ Some x → is_secured K p ≡ true → find_publication p K ≡ Some x
found-before K e J p x stands found secured =
    let one : (y : Publication) × (find_publication p K ≡ Some y) = secured-found K p secured in
    let later : find_publication p J ≡ Some one.0 = subst (λ L. find_publication p L ≡ Some one.0) (sym stands.1) (found-longer p K (e ∷ stands.0) one.0 one.1) in
    one.1 ∙ sym later ∙ found

moved-published : (J at_noted at_confirmed at_published : List Entry) (l : List ℕ) (s c : ℕ) (x : Publication) → StandsAfter at_noted (Noted l s c) J → StandsAfter at_confirmed (Confirmed l s x.number) at_noted → StandsAfter at_published (Published x) at_confirmed → x.by ≡ Link l s c → find_publication x.number at_confirmed ≡ Some x → is_secured at_confirmed x.number ≡ true → EachCaused [] at_published → PublishesCopy at_published x l s c → IsMoved J l s c
moved-published J at_noted at_confirmed at_published l s c x noted confirmed published by found secured caused p =
    let sent : EachCaused [] p.before × Caused p.before (Sent l s c) = caused-at at_published p.before (Sent l s c) caused p.sent in
    let took : (before : List Entry) × StandsAfter before (Took l s c) p.before = sent.1 in
    let at : EachCaused [] took.0 × Caused took.0 (Took l s c) = caused-at p.before took.0 (Took l s c) sent.0 took.1 in
    let opened : WasOpened took.0 l s = at.1.2 in
    let cause : (spec : LinkSpec) × (link_of opened.0 l ≡ Some spec) × SharesSource opened.0 spec = (caused-at took.0 opened.0 (Opened l s opened.1) at.0 opened.2).1 in
    let later : link_of at_published l ≡ Some cause.0 = described-later p.before (Sent l s c) at_published l cause.0 caused p.sent refl (described-later took.0 (Took l s c) p.before l cause.0 sent.0 took.1 refl (described-later opened.0 (Opened l s opened.1) took.0 l cause.0 at.0 opened.2 refl cause.1)) in
    record {
      at_opened = opened.0;
      ready = opened.1;
      opened = opened.2;
      at_took = took.0;
      at_sent = p.before;
      at_published = at_published;
      at_confirmed = at_confirmed;
      at_noted = at_noted;
      publication = x;
      source = p.source;
      spec = p.spec;
      took = took.1;
      sent = p.sent;
      published = published;
      confirmed = confirmed;
      noted = noted;
      by = by;
      described = cause.1 ∙ sym later ∙ p.described;
      of_copy = p.of_copy;
      message = p.message;
      found = found;
      secured = secured;
    }

-- the publication that was confirmed for an acknowledged copy was secured then
record SecuredFor (K : List Entry) (x : Publication) (l : List ℕ) (s c : ℕ) : Type 0 where
  at_confirmed : List Entry
  caused : EachCaused [] at_confirmed
  confirmed : StandsAfter at_confirmed (Confirmed l s x.number) K
  found : find_publication x.number at_confirmed ≡ Some x
  secured : is_secured at_confirmed x.number ≡ true

secured-for : (K : List Entry) (l : List ℕ) (s c : ℕ) → EachCaused [] K → (w : WasConfirmed K l s c) → SecuredFor K w.publication l s c
secured-for K l s c caused w =
    let x : Publication = w.publication in
    let confirmed : EachCaused [] w.before × Caused w.before (Confirmed l s w.number) = caused-at K w.before (Confirmed l s w.number) caused w.confirmed in
    let found : find_publication w.number w.before ≡ Some x = found-before w.before (Confirmed l s w.number) K w.number x w.confirmed w.found confirmed.1.0 in
    let same : w.number ≡ x.number = sym (found-at w.number w.before x found).number in
    record {
      at_confirmed = w.before;
      caused = confirmed.0;
      confirmed = subst (λ n. StandsAfter w.before (Confirmed l s n) K) same w.confirmed;
      found = subst (λ n. find_publication n w.before ≡ Some x) same found;
      secured = subst (λ n. is_secured w.before n ≡ true) same confirmed.1.0;
    }

pub confirmed-at : (K : List Entry) (l : List ℕ) (s c : ℕ) → EachCaused [] K → WasConfirmed K l s c → IsConfirmedFor K l s c
confirmed-at K l s c caused w =
    let f : SecuredFor K w.publication l s c = secured-for K l s c caused w in
    record { at_confirmed = f.at_confirmed; publication = w.publication; confirmed = f.confirmed; found = f.found; by = w.by }

moved-confirmed : (J at_noted : List Entry) (l : List ℕ) (s c : ℕ) → StandsAfter at_noted (Noted l s c) J → EachCaused [] at_noted → WasConfirmed at_noted l s c → IsMoved J l s c
moved-confirmed J at_noted l s c noted caused w =
    let x : Publication = w.publication in
    let f : SecuredFor at_noted x l s c = secured-for at_noted l s c caused w in
    let at : FoundAt x.number f.at_confirmed x = found-at x.number f.at_confirmed x f.found in
    let published : EachCaused [] at.before × Caused at.before (Published x) = caused-at f.at_confirmed at.before (Published x) f.caused at.stands in
    moved-published J at_noted f.at_confirmed at.before l s c x noted f.confirmed at.stands w.by f.found f.secured
    published.0 (subst (CausedBy at.before x) w.by published.1.0)

-- a copy that is removed went its whole way before
pub moved-at : (J : List Entry) → EachCaused [] J → (K : List Entry) (l : List ℕ) (s c : ℕ) → StandsAfter K (Settled l s c) J → IsMoved K l s c
moved-at J caused K l s c stands =
    let settled : EachCaused [] K × Caused K (Settled l s c) = caused-at J K (Settled l s c) caused stands in
    let noted : WasNoted K l s c = settled.1 in
    let before : EachCaused [] noted.before × Caused noted.before (Noted l s c) = caused-at K noted.before (Noted l s c) settled.0 noted.noted in
    moved-confirmed K noted.before l s c noted.noted before.0 before.1
