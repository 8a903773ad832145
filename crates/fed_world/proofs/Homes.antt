-- The queue of a copy that is stored, or that a link took, belongs to no connection alone.
use Rattle.std.proofs.Common.{◌≡◌, ℕ, zero, suc, ◌+◌, ◌-◌, ◌<◌, ◌≤◌, List, [], ◌∷◌, ◌++◌, length, Bool, true, false, Option, Some, None, arith, refl, sym, ap, subst, ◌∙◌, take, drop}
use Rattle.std.specs.Prelude.{cond, not, ◌&&◌, nat_le, nat_lt, position, slice_get, option_map, filter_map}
use Rattle.std.proofs.lemmas.Bool.{false≢true, and_parts, and_from, le-leb, leb-true, ltb-true, lt-ltb}
use Rattle.std.proofs.lemmas.Option.{none-some, same_Some}
use Rattle.std.proofs.lemmas.List.Sums.{sum_by-append}
use Rattle.amqp_props.specs.declared.link.QueueOptions.{QueueOptions}
use Rattle.fed_journal.specs.declared.place.Place.{Place}
use Rattle.fed_journal.specs.declared.link.LinkSpec.{LinkSpec}
use Rattle.fed_journal.specs.declared.entry.Publication.{Publication}
use Rattle.fed_journal.specs.declared.entry.Entry.{Entry}
use Rattle.fed_journal.specs.declared.entry.Entry.TheVariants.{Published, Opened, Took}
use Rattle.fed_journal.specs.Configuration.{queue_options}
use Rattle.fed_journal.specs.Copies.{copies_made, copy_count, is_copy_of, enters, entered, entered_by, is_lasting, is_lasting_at, is_home, is_name_of, must_be_stored, must_be_stored_at, must_be_stored_from, publication_in, publication_of}
use Rattle.fed_journal.specs.Holds.{is_ready, first_ready}
use Rattle.fed_journal.specs.Links.{link_of}
use Rattle.fed_journal.specs.Names.{same_text, same_place}
use Rattle.broker_view.proofs.Names.{same_text-true, same_place-true}
use Rattle.broker_view.proofs.Publications.{publication-skip, publication-head, publication-longer, position-none, position-here, position-later, position-within}
use Rattle.broker_view.proofs.Secured.{publication-at}
use Rattle.fed_world.specs.Kept.{StandsAfter}
use Rattle.fed_journal.specs.Publish.{first_copy}
use Rattle.fed_world.specs.Take.{first_ready_at}
use Rattle.fed_world.proofs.Causes.{is_shared, is_shared_in, Caused, EachCaused, SharesSource, TakesFirst, caused-at, caused-back}
use Rattle.fed_world.proofs.Described.{described-later}
use Rattle.fed_world.proofs.Lists.{IsIn, Split, find-in, filter_map-in, in-split}
use Rattle.fed_world.proofs.LastOpened.{WasOpened}
use Rattle.fed_world.proofs.Standings.{published-of}
use Rattle.fed_world.proofs.Queues.{shared-each}

-- ---- stored copies

lasting-shared : (o : Option QueueOptions) → is_lasting o ≡ true → is_shared_in o ≡ true
lasting-shared None h = absurd (false≢true h)
lasting-shared (Some o) h = (and_parts o.durable (not o.exclusive) (and_parts (o.durable && not o.exclusive) (not o.auto_delete) h).0).1

-- the copy's queue is this one
home-is : (x : Publication) (c : ℕ) (p : Place) (q name : List ℕ) (o : Option (List ℕ)) → slice_get x.queues (c - x.first) ≡ o → o ≡ Some name → is_home x c p q ≡ true → (x.place ≡ p) × (name ≡ q)
home-is x c p q name o e some h =
    let parts : (same_place x.place p ≡ true) × (is_name_of q (slice_get x.queues (c - x.first)) ≡ true) = and_parts (same_place x.place p) (is_name_of q (slice_get x.queues (c - x.first))) h in
    (same_place-true x.place p parts.0, same_text-true name q (subst (λ n. is_name_of q n ≡ true) (e ∙ some) parts.1))

lasting-home : (J : List Entry) (x : Publication) (c : ℕ) (p : Place) (q : List ℕ) (o : Option (List ℕ)) → slice_get x.queues (c - x.first) ≡ o → is_lasting_at J x.place o ≡ true → is_home x c p q ≡ true → is_shared J p q ≡ true
lasting-home J x c p q None e h home = absurd (false≢true h)
lasting-home J x c p q (Some name) e h home =
    let same : (x.place ≡ p) × (name ≡ q) = home-is x c p q name (Some name) e refl home in
    subst (λ r. is_shared J r q ≡ true) same.0 (subst (λ n. is_shared J x.place n ≡ true) same.1 (lasting-shared (queue_options J x.place name) h))

take-drop : {X : Type 0} (i : ℕ) (xs : List X) → xs ≡ take i xs ++ drop i xs
take-drop zero xs = refl
take-drop (suc i) [] = refl
take-drop (suc i) (x ∷ xs) = ap (λ ys. x ∷ ys) (take-drop i xs)

stored-from : (K : List Entry) (c : ℕ) (x : Publication) (p : Place) (q : List ℕ) (o : Option ℕ) → EachCaused [] K → publication_of c K ≡ Some x → position (enters c) K ≡ o → must_be_stored_from K c o ≡ true → is_home x c p q ≡ true → is_shared K p q ≡ true
stored-from K c x p q None caused of_copy e h home = absurd (false≢true h)
stored-from K c x p q (Some i) caused of_copy e h home =
    let here : publication_in (slice_get K i) ≡ Some x = publication-at c K i e ∙ of_copy in
    let stored : must_be_stored_at (take i K) (Some x) c ≡ true = subst (λ y. must_be_stored_at (take i K) y c ≡ true) here h in
    let lasting : is_lasting_at (take i K) x.place (slice_get x.queues (c - x.first)) ≡ true = (and_parts _ (is_lasting_at (take i K) x.place (slice_get x.queues (c - x.first))) stored).1 in
    let shared : is_shared (take i K) p q ≡ true = lasting-home (take i K) x c p q (slice_get x.queues (c - x.first)) refl lasting home in
    let back : EachCaused (take i K) (drop i K) = caused-back [] (take i K) (drop i K) (subst (EachCaused []) (take-drop i K) caused) in
    subst (λ J. is_shared J p q ≡ true) (sym (take-drop i K)) (shared-each (take i K) (drop i K) p q back shared)

-- the queue of a copy that must be stored belongs to no connection alone
pub stored-home : (K : List Entry) (c : ℕ) (x : Publication) (p : Place) (q : List ℕ) → EachCaused [] K → publication_of c K ≡ Some x → must_be_stored K c ≡ true → is_home x c p q ≡ true → is_shared K p q ≡ true
unfolding must_be_stored
stored-home K c x p q caused of_copy h home = stored-from K c x p q (position (enters c) K) caused of_copy refl h home

-- ---- numbers

count-append : (B es : List Entry) → copy_count (B ++ es) ≡ copy_count B + copy_count es
unfolding copy_count
count-append B es = sum_by-append copies_made B es

count-published : (x : Publication) (es : List Entry) → copy_count (Published x ∷ es) ≡ length x.queues + copy_count es
unfolding copy_count
count-published x es = sum_by-append copies_made (Published x ∷ []) es ∙ omega arith

-- the numbers of a publication's copies
record IsNumbered (B : List Entry) (y : Publication) (c : ℕ) : Type 0 where
  above : copy_count B < c
  within : c ≤ copy_count B + length y.queues

numbered-by : (B : List Entry) (y : Publication) (c : ℕ) (qs : List (List ℕ)) → qs ≡ y.queues → y.first ≡ first_copy B qs → y.first ≤ c → c - y.first < length qs → IsNumbered B y c
numbered-by B y c [] same first low high = absurd (omega (arith, high))
numbered-by B y c (q ∷ qs) same first low high =
    let size : length (q ∷ qs) ≡ length y.queues = ap length same in
    record { above = omega (arith, first, low); within = omega (arith, size, first, low, high) }

copy-numbered : (B : List Entry) (y : Publication) (c : ℕ) → y.first ≡ first_copy B y.queues → is_copy_of y c ≡ true → IsNumbered B y c
copy-numbered B y c first h =
    let parts : (nat_le y.first c ≡ true) × (nat_lt (c - y.first) (length y.queues) ≡ true) = and_parts (nat_le y.first c) (nat_lt (c - y.first) (length y.queues)) h in
    numbered-by B y c y.queues refl first (leb-true y.first c parts.0) (ltb-true (c - y.first) (length y.queues) parts.1)

-- a copy that stands in the journal is one of those that it counts
count-within : (K B : List Entry) (y : Publication) (c : ℕ) → StandsAfter B (Published y) K → IsNumbered B y c → c ≤ copy_count K
count-within K B y c stands n =
    subst (λ J. c ≤ copy_count J) (sym stands.1)
    (omega (arith, n.within, count-append B (Published y ∷ stands.0), count-published y stands.0))

-- ---- the publication of a copy

record PublishedIn (K : List Entry) (c : ℕ) (y : Publication) : Type 0 where
  before : List Entry
  stands : StandsAfter before (Published y) K
  copy : is_copy_of y c ≡ true

published-later : (e : Entry) (K : List Entry) (c : ℕ) (y : Publication) → PublishedIn K c y → PublishedIn (e ∷ K) c y
published-later e K c y f = record { before = e ∷ f.before; stands = (f.stands.0, ap (λ J. e ∷ J) f.stands.1); copy = f.copy }

published-by : (c : ℕ) (z y : Publication) (K : List Entry) (b : Bool) → is_copy_of z c ≡ b → cond b (Some z) (publication_of c K) ≡ Some y → (publication_of c K ≡ Some y → PublishedIn K c y) → PublishedIn (Published z ∷ K) c y
published-by c z y K true e h later =
    let same : z ≡ y = same_Some z y h in
    record { before = []; stands = (K, ap (λ w. Published w ∷ K) same); copy = subst (λ w. is_copy_of w c ≡ true) same e }
published-by c z y K false e h later = published-later (Published z) K c y (later h)

published-in : (c : ℕ) (K : List Entry) (y : Publication) → publication_of c K ≡ Some y → PublishedIn K c y
unfolding publication_of
published-in c [] y h = absurd (none-some y h)
published-in c (Published z ∷ K) y h = published-by c z y K (is_copy_of z c) refl h (published-in c K y)
published-in c (e ∷ K) y h = published-later e K c y (published-in c K y h)

-- copies are numbered once
unique-by : (K B : List Entry) (y : Publication) (c : ℕ) (o : Option Publication) → EachCaused [] B → StandsAfter B (Published y) K → IsNumbered B y c → is_copy_of y c ≡ true → publication_of c B ≡ o → publication_of c K ≡ Some y
unique-by K B y c None caused stands n copy e =
    subst (λ J. publication_of c J ≡ Some y) (sym stands.1) (publication-skip c B (Published y ∷ stands.0) e ∙ publication-head c y stands.0 copy)
unique-by K B y c (Some z) caused stands n copy e =
    let f : PublishedIn B c z = published-in c B z e in
    let cause : EachCaused [] f.before × Caused f.before (Published z) = caused-at B f.before (Published z) caused f.stands in
    let m : IsNumbered f.before z c = copy-numbered f.before z c cause.1.1 f.copy in
    absurd (omega (arith, n.above, count-within B f.before z c f.stands m))

publication-unique : (K B : List Entry) (y : Publication) (c : ℕ) → EachCaused [] K → StandsAfter B (Published y) K → is_copy_of y c ≡ true → publication_of c K ≡ Some y
publication-unique K B y c caused stands copy =
    let cause : EachCaused [] B × Caused B (Published y) = caused-at K B (Published y) caused stands in
    unique-by K B y c (publication_of c B) cause.0 stands (copy-numbered B y c cause.1.1 copy) copy refl

-- ---- copies that a link took

-- a copy that a publication brought into a queue is one of its copies
copy-of : (q : List ℕ) (x : Publication) (c : ℕ) (o : Option ℕ) → position (same_text q) x.queues ≡ o → option_map (λ k. x.first + k) o ≡ Some c → is_copy_of x c ≡ true
copy-of q x c None e h = absurd (none-some c h)
copy-of q x c (Some k) e h =
    let number : x.first + k ≡ c = same_Some (x.first + k) c h in
    let within : k < length x.queues = position-within (same_text q) x.queues k e in
    and_from (nat_le x.first c) (nat_lt (c - x.first) (length x.queues)) (le-leb x.first c (omega (arith, number))) (lt-ltb (c - x.first) (length x.queues) (omega (arith, number, within)))

copy-in : (b : Bool) (q : List ℕ) (x : Publication) (c : ℕ) → cond b (option_map (λ k. x.first + k) (position (same_text q) x.queues)) None ≡ Some c → is_copy_of x c ≡ true
copy-in true q x c h = copy-of q x c (position (same_text q) x.queues) refl h
copy-in false q x c h = absurd (none-some c h)

pub entered_by-enters : (p : Place) (q : List ℕ) (c : ℕ) (e : Entry) → entered_by p q e ≡ Some c → enters c e ≡ true
entered_by-enters p q c (Published x) h = copy-in (same_place x.place p) q x c h
entered_by-enters p q c _ h = absurd (none-some c h)

-- the entry brought the copy into the queue
record BroughtBy (p : Place) (q : List ℕ) (c : ℕ) (e : Entry) : Type 0 where
  publication : Publication
  entry : e ≡ Published publication
  place : publication.place ≡ p
  at : ℕ
  position : position (same_text q) publication.queues ≡ Some at
  number : publication.first + at ≡ c

brought-at : (p : Place) (q : List ℕ) (c : ℕ) (x : Publication) (o : Option ℕ) → x.place ≡ p → position (same_text q) x.queues ≡ o → option_map (λ k. x.first + k) o ≡ Some c → BroughtBy p q c (Published x)
brought-at p q c x None place e h = absurd (none-some c h)
brought-at p q c x (Some k) place e h =
    record { publication = x; entry = refl; place = place; at = k; position = e; number = same_Some (x.first + k) c h }

brought-in : (p : Place) (q : List ℕ) (c : ℕ) (x : Publication) (b : Bool) → same_place x.place p ≡ b → cond b (option_map (λ k. x.first + k) (position (same_text q) x.queues)) None ≡ Some c → BroughtBy p q c (Published x)
brought-in p q c x true e h = brought-at p q c x (position (same_text q) x.queues) (same_place-true x.place p e) refl h
brought-in p q c x false e h = absurd (none-some c h)

brought-by : (p : Place) (q : List ℕ) (c : ℕ) (e : Entry) → entered_by p q e ≡ Some c → BroughtBy p q c e
brought-by p q c (Published x) h = brought-in p q c x (same_place x.place p) refl h
brought-by p q c _ h = absurd (none-some c h)

name-by : (q n : List ℕ) (ns : List (List ℕ)) (i : ℕ) (b : Bool) → same_text q n ≡ b → position (same_text q) (n ∷ ns) ≡ Some i → ((j : ℕ) → position (same_text q) ns ≡ Some j → slice_get ns j ≡ Some q) → slice_get (n ∷ ns) i ≡ Some q
name-by q n ns i true e h later =
    ap (slice_get (n ∷ ns)) (position-here (same_text q) n ns i e h) ∙ ap (λ m. Some m) (sym (same_text-true q n e))
name-by q n ns i false e h later =
    let s : (j : ℕ) × (i ≡ suc j) × (position (same_text q) ns ≡ Some j) = position-later (same_text q) n ns i e h in
    ap (slice_get (n ∷ ns)) s.1 ∙ later s.0 s.2

-- the name at the first place of a name
name-at : (q : List ℕ) (ns : List (List ℕ)) (i : ℕ) → position (same_text q) ns ≡ Some i → slice_get ns i ≡ Some q
name-at q [] i h = absurd (position-none (same_text q) i h)
name-at q (n ∷ ns) i h = name-by q n ns i (same_text q n) refl h (name-at q ns)

-- a copy that entered the queue has no other home
entered-home : (K : List Entry) (p r : Place) (q n : List ℕ) (c : ℕ) (x : Publication) (s : Split (λ e. entered_by p q e ≡ Some c) K) → EachCaused [] K → (enters c s.at ≡ true) → publication_of c K ≡ Some x → is_home x c r n ≡ true → (p ≡ r) × (q ≡ n)
entered-home K p r q n c x s caused enters' of_copy home =
    let b : BroughtBy p q c s.at = brought-by p q c s.at s.holds in
    let y : Publication = b.publication in
    let stands : StandsAfter s.before (Published y) K = (s.rest, subst (λ e. K ≡ s.before ++ e ∷ s.rest) b.entry s.whole) in
    let copy : is_copy_of y c ≡ true = subst (λ e. enters c e ≡ true) b.entry enters' in
    let same : x ≡ y = same_Some x y (sym of_copy ∙ publication-unique K s.before y c caused stands copy) in
    let away : c - y.first ≡ b.at = omega (arith, b.number) in
    let there : slice_get y.queues (c - y.first) ≡ Some q = ap (slice_get y.queues) away ∙ name-at q y.queues b.at b.position in
    let at : (y.place ≡ r) × (q ≡ n) = home-is y c r n q (Some q) there refl (subst (λ z. is_home z c r n ≡ true) same home) in
    (sym b.place ∙ at.0, at.1)

pub entered-split : (K : List Entry) (p : Place) (q : List ℕ) (c : ℕ) → first_ready K p q ≡ Some c → (is_ready K c ≡ true) × Split (λ e. entered_by p q e ≡ Some c) K
unfolding first_ready entered
entered-split K p q c h =
    let found : (is_ready K c ≡ true) × IsIn c (filter_map (entered_by p q) K) = find-in (is_ready K) c (filter_map (entered_by p q) K) h in
    (found.0, filter_map-in (entered_by p q) c K found.1)

took-from : (K : List Entry) (source : Option Place) (q : List ℕ) (c : ℕ) (x : Publication) (r : Place) (n : List ℕ) → EachCaused [] K → first_ready_at K source q ≡ Some c → publication_of c K ≡ Some x → ((p : Place) → source ≡ Some p → is_shared K p q ≡ true) → is_home x c r n ≡ true → is_shared K r n ≡ true
took-from K None q c x r n caused h of_copy shares home = absurd (none-some c h)
took-from K (Some p) q c x r n caused h of_copy shares home =
    let s : Split (λ e. entered_by p q e ≡ Some c) K = (entered-split K p q c h).1 in
    let same : (p ≡ r) × (q ≡ n) = entered-home K p r q n c x s caused (entered_by-enters p q c s.at s.holds) of_copy home in
    subst (λ t. is_shared K t n ≡ true) same.0 (subst (λ m. is_shared K p m ≡ true) same.1 (shares p refl))

-- what stands in a journal was shared before, if it was when an earlier entry came
shared-since : (J K : List Entry) (e : Entry) (p : Place) (q : List ℕ) → EachCaused [] J → StandsAfter K e J → is_shared K p q ≡ true → is_shared J p q ≡ true
shared-since J K e p q caused stands h =
    let back : EachCaused K (e ∷ stands.0) = caused-back [] K (e ∷ stands.0) (subst (EachCaused []) stands.1 caused) in
    subst (λ L. is_shared L p q ≡ true) (sym stands.1) (shared-each K (e ∷ stands.0) p q back h)

took-home : (K : List Entry) (l : List ℕ) (s c : ℕ) (x : Publication) (r : Place) (n : List ℕ) → EachCaused [] K → Caused K (Took l s c) → publication_of c K ≡ Some x → is_home x c r n ≡ true → is_shared K r n ≡ true
took-home K l s c x r n caused cause of_copy home =
    let opened : WasOpened K l s = cause.2 in
    let first : TakesFirst K l c = cause.3 in
    let at : EachCaused [] opened.0 × Caused opened.0 (Opened l s opened.1) = caused-at K opened.0 (Opened l s opened.1) caused opened.2 in
    let spec : LinkSpec = at.1.0 in
    let later : link_of K l ≡ Some spec = described-later opened.0 (Opened l s opened.1) K l spec caused opened.2 refl at.1.1 in
    let same : spec ≡ first.spec = same_Some spec first.spec (sym later ∙ first.described) in
    let shares : SharesSource opened.0 first.spec = subst (SharesSource opened.0) same at.1.2 in
    took-from K first.spec.source first.spec.source_queue c x r n caused first.first of_copy (λ p e. shared-since K opened.0 (Opened l s opened.1) p first.spec.source_queue caused opened.2 (shares p e)) home

-- the queue of a copy that a link took belongs to no connection alone
pub taken-home : (K : List Entry) (l : List ℕ) (s c : ℕ) (x : Publication) (r : Place) (n : List ℕ) → EachCaused [] K → IsIn (Took l s c) K → publication_of c K ≡ Some x → is_home x c r n ≡ true → is_shared K r n ≡ true
taken-home K l s c x r n caused taken of_copy home =
    let split : (before : List Entry) × (rest : List Entry) × (K ≡ before ++ Took l s c ∷ rest) = in-split (Took l s c) K taken in
    let stands : StandsAfter split.0 (Took l s c) K = (split.1, split.2) in
    let at : EachCaused [] split.0 × Caused split.0 (Took l s c) = caused-at K split.0 (Took l s c) caused stands in
    let y : (y : Publication) × (publication_of c split.0 ≡ Some y) = published-of c split.0 at.1.0 in
    let later : publication_of c K ≡ Some y.0 = subst (λ J. publication_of c J ≡ Some y.0) (sym split.2) (publication-longer c split.0 (Took l s c ∷ split.1) y.0 y.1) in
    let same : x ≡ y.0 = same_Some x y.0 (sym of_copy ∙ later) in
    shared-since K split.0 (Took l s c) r n caused stands (took-home split.0 l s c y.0 r n at.0 at.1 y.1 (subst (λ z. is_home z c r n ≡ true) same home))
