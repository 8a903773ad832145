-- The hosts of a run are views of its journal after one entry more.
use Rattle.std.proofs.Common.{◌≡◌, ℕ, zero, suc, ◌+◌, ◌<◌, List, [], ◌∷◌, ◌++◌, length, take, drop, slice_index_or, Bool, true, false, cond, arith, refl, sym, ap, subst, ◌∙◌, map, append_assoc}
use Rattle.std.specs.Prelude.{◌||◌, All}
use Rattle.std.specs.List.{list_any, list_all}
use Rattle.std.proofs.lemmas.Bool.{true≢false, false≢true, or_from}
use Rattle.std.proofs.lemmas.List.Elements.{All-nil, All-cons, All-head, All-tail, All-push, All-weaker}
use Rattle.fed_journal.specs.declared.entry.Entry.{Entry}
use Rattle.fed_journal.specs.declared.entry.Entry.TheVariants.{Begun, Published}
use Rattle.fed_journal.specs.Copies.{IsFitting, publication_of}
use Rattle.fed_journal.specs.Names.{same_text}
use Rattle.fed_journal.specs.Configuration.{begins, is_broker}
use Rattle.broker_store.specs.Confirms.{AreBelow}
use Rattle.mini_broker.specs.Vhosts.{bare}
use Rattle.broker_view.specs.Confirms.{publications, HasConfirms, HasPublications}
use Rattle.broker_view.specs.declared.host.Host.{Host}
use Rattle.broker_view.specs.Hosts.{place_of, recorded_at, with_host, AreViews, IsRecordable, IsTellable, IsNext, LeadsOn, Leads}
use Rattle.broker_view.specs.Suits.{Suits, EachSuits, is_begun}
use Rattle.broker_view.specs.View.{AreDistinct, IsView}
use Rattle.broker_view.proofs.Bare.{bare-view}
use Rattle.broker_view.proofs.Counted.{fresh-step}
use Rattle.broker_view.proofs.Names.{same_text-true, same_text-sym}
use Rattle.broker_view.proofs.OwedStep.{owed-step, none-owed}
use Rattle.broker_view.proofs.Published.{no-publications, publications-step}
use Rattle.broker_view.proofs.ViewStep.{view-step}

any-append : {X : Type 0} (test : X → Bool) (xs ys : List X) → list_any test (xs ++ ys) ≡ (list_any test xs || list_any test ys)
any-append test [] ys = refl
any-append test (x ∷ xs) ys = elim (test x) as (λ b. (b || list_any test (xs ++ ys)) ≡ ((b || list_any test xs) || list_any test ys)) [ true ↦ refl | false ↦ any-append test xs ys ]

or-false : (b : Bool) → b ≡ (b || false)
or-false true = refl
or-false false = refl

-- ---- an entry that begins no broker

other-begins : (b : List ℕ) (e : Entry) → is_begun e ≡ false → begins b e ≡ false
other-begins b (Begun broker cluster kept) h = absurd (true≢false h)
other-begins b e h = refl

same-brokers : (J : List Entry) (e : Entry) (b : List ℕ) → is_begun e ≡ false → is_broker J b ≡ is_broker (J ++ e ∷ []) b
same-brokers J e b h =
    sym (any-append (begins b) J (e ∷ []) ∙ ap (λ x. is_broker J b || (x || false)) (other-begins b e h) ∙ sym (or-false (is_broker J b)))

mapped-names : (e : Entry) (hosts : List Host) → map (λ (h : Host). h.broker) hosts ≡ map (λ (h : Host). h.broker) (map (recorded_at e) hosts)
mapped-names e [] = refl
mapped-names e (h ∷ hosts) = ap (λ ns. h.broker ∷ ns) (mapped-names e hosts)

mapped-any : (e : Entry) (b : List ℕ) (hosts : List Host) → list_any (λ (h : Host). same_text h.broker b) (map (recorded_at e) hosts) ≡ list_any (λ (h : Host). same_text h.broker b) hosts
mapped-any e b [] = refl
mapped-any e b (h ∷ hosts) = ap (λ x. same_text h.broker b || x) (mapped-any e b hosts)

mapped-views : (J : List Entry) (e : Entry) (hosts : List Host) → Suits J e → All (λ (h : Host). IsView J (place_of h.broker) h.vhost) hosts → All (λ (h : Host). IsView (J ++ e ∷ []) (place_of h.broker) h.vhost) (map (recorded_at e) hosts)
mapped-views J e [] suits all = All-nil (λ (h : Host). IsView (J ++ e ∷ []) (place_of h.broker) h.vhost)
mapped-views J e (h ∷ hosts) suits all =
    All-cons (λ (x : Host). IsView (J ++ e ∷ []) (place_of x.broker) x.vhost) (recorded_at e h) (map (recorded_at e) hosts)
    (view-step J (place_of h.broker) e h.vhost (All-head (λ (x : Host). IsView J (place_of x.broker) x.vhost) h hosts all) suits)
    (mapped-views J e hosts suits (All-tail (λ (x : Host). IsView J (place_of x.broker) x.vhost) h hosts all))

-- what is owed at a host
abbrev Owes : List Entry → Host → Type 0
Owes J h = HasConfirms J (place_of h.broker) h.confirms

mapped-owed : (J : List Entry) (e : Entry) (hosts : List Host) → Suits J e → HasPublications J → All (λ (h : Host). IsView J (place_of h.broker) h.vhost) hosts → All (Owes J) hosts → All (Owes (J ++ e ∷ [])) (map (recorded_at e) hosts)
mapped-owed J e [] suits pubs all owes = All-nil (Owes (J ++ e ∷ []))
mapped-owed J e (h ∷ hosts) suits pubs all owes =
    All-cons (Owes (J ++ e ∷ [])) (recorded_at e h) (map (recorded_at e) hosts)
    (owed-step J (place_of h.broker) e h.vhost h.confirms (All-head (λ (x : Host). IsView J (place_of x.broker) x.vhost) h hosts all) pubs (All-head (Owes J) h hosts owes) suits)
    (mapped-owed J e hosts suits pubs (All-tail (λ (x : Host). IsView J (place_of x.broker) x.vhost) h hosts all) (All-tail (Owes J) h hosts owes))

pub views-step : (J : List Entry) (e : Entry) (hosts : List Host) → is_begun e ≡ false → AreViews J hosts → Suits J e → AreViews (J ++ e ∷ []) (map (recorded_at e) hosts)
views-step J e hosts other views suits = record {
  brokers = λ b. mapped-any e b hosts ∙ views.brokers b ∙ same-brokers J e b other;
  distinct = subst AreDistinct (mapped-names e hosts) views.distinct;
  views = mapped-views J e hosts suits views.views;
  confirms = mapped-owed J e hosts suits views.published views.views views.confirms;
  published = publications-step J e views.published views.fresh suits;
  fresh = fresh-step J e views.fresh suits;
}

-- ---- a broker that begins

-- what stands stays so
begun-views : (J : List Entry) (b cluster kept : List ℕ) (hosts : List Host) → Suits J (Begun b cluster kept) → All (λ (h : Host). IsView J (place_of h.broker) h.vhost) hosts → All (λ (h : Host). IsView (J ++ Begun b cluster kept ∷ []) (place_of h.broker) h.vhost) hosts
begun-views J b cluster kept hosts suits all =
    All-weaker (λ (h : Host). IsView J (place_of h.broker) h.vhost) (λ (h : Host). IsView (J ++ Begun b cluster kept ∷ []) (place_of h.broker) h.vhost)
    (λ h view. view-step J (place_of h.broker) (Begun b cluster kept) h.vhost view suits) hosts all

begun-owed : (J : List Entry) (b cluster kept : List ℕ) (hosts : List Host) → Suits J (Begun b cluster kept) → HasPublications J → All (λ (h : Host). IsView J (place_of h.broker) h.vhost) hosts → All (Owes J) hosts → All (Owes (J ++ Begun b cluster kept ∷ [])) hosts
begun-owed J b cluster kept [] suits pubs all owes = All-nil (Owes (J ++ Begun b cluster kept ∷ []))
begun-owed J b cluster kept (h ∷ hosts) suits pubs all owes =
    All-cons (Owes (J ++ Begun b cluster kept ∷ [])) h hosts
    (owed-step J (place_of h.broker) (Begun b cluster kept) h.vhost h.confirms (All-head (λ (x : Host). IsView J (place_of x.broker) x.vhost) h hosts all) pubs (All-head (Owes J) h hosts owes) suits)
    (begun-owed J b cluster kept hosts suits pubs (All-tail (λ (x : Host). IsView J (place_of x.broker) x.vhost) h hosts all) (All-tail (Owes J) h hosts owes))

-- where brokers only began, nothing was published
none-published : (J : List Entry) → list_all is_begun J ≡ true → publications J ≡ []
none-published [] h = refl
none-published (Begun b cluster kept ∷ J) h = none-published J h
none-published (_ ∷ J) h = absurd (false≢true h)

begun-broker : (J : List Entry) (b cluster kept n : List ℕ) → is_broker (J ++ Begun b cluster kept ∷ []) n ≡ (is_broker J n || same_text b n)
begun-broker J b cluster kept n = any-append (begins n) J (Begun b cluster kept ∷ []) ∙ ap (λ x. is_broker J n || x) (sym (or-false (same_text b n)))

-- the broker stands already
known-by : (x y : Bool) → (y ≡ true → x ≡ true) → x ≡ (x || y)
known-by true y h = refl
known-by false true h = absurd (false≢true (h refl))
known-by false false h = refl

again-views : (J : List Entry) (b cluster kept : List ℕ) (hosts : List Host) → list_any (λ (h : Host). same_text h.broker b) hosts ≡ true → AreViews J hosts → Suits J (Begun b cluster kept) → AreViews (J ++ Begun b cluster kept ∷ []) hosts
again-views J b cluster kept hosts there views suits = record {
  brokers = λ n. views.brokers n ∙ known-by (is_broker J n) (same_text b n) (λ same. ap (is_broker J) (sym (same_text-true b n same)) ∙ sym (views.brokers b) ∙ there) ∙ sym (begun-broker J b cluster kept n);
  distinct = views.distinct;
  views = begun-views J b cluster kept hosts suits views.views;
  confirms = begun-owed J b cluster kept hosts suits views.published views.views views.confirms;
  published = publications-step J (Begun b cluster kept) views.published views.fresh suits;
  fresh = fresh-step J (Begun b cluster kept) views.fresh suits;
}

names-any : (b : List ℕ) (hosts : List Host) → list_any (same_text b) (map (λ (h : Host). h.broker) hosts) ≡ list_any (λ (h : Host). same_text h.broker b) hosts
names-any b [] = refl
names-any b (h ∷ hosts) = ap (λ x. x || list_any (same_text b) (map (λ (y : Host). y.broker) hosts)) (same_text-sym b h.broker) ∙ ap (λ x. same_text h.broker b || x) (names-any b hosts)

distinct-push : (ns : List (List ℕ)) (b : List ℕ) → list_any (same_text b) ns ≡ false → AreDistinct ns → AreDistinct (ns ++ b ∷ [])
distinct-push [] b none distinct = (refl, tt)
distinct-push (n ∷ ns) b none distinct = (
  any-append (same_text n) ns (b ∷ []) ∙ or_from (list_any (same_text n) ns) (same_text n b || false) distinct.0 (ap (λ x. x || false) (same_text-sym n b) ∙ sym (or-false (same_text b n)) ∙ (or-parts (same_text b n) (list_any (same_text b) ns) none).0),
  distinct-push ns b (or-parts (same_text b n) (list_any (same_text b) ns) none).1 distinct.1,
)
  where
    or-parts : (x y : Bool) → (x || y) ≡ false → (x ≡ false) × (y ≡ false)
    or-parts true y h = absurd (true≢false h)
    or-parts false y h = (refl, h)

host_of : List ℕ → Host
host_of b = record { broker = b; vhost = bare; confirms = [] }

pushed-names : (b : List ℕ) (hosts : List Host) → map (λ (h : Host). h.broker) hosts ++ b ∷ [] ≡ map (λ (h : Host). h.broker) (hosts ++ record { broker = b; vhost = bare; confirms = [] } ∷ [])
pushed-names b [] = refl
pushed-names b (h ∷ hosts) = ap (λ ns. h.broker ∷ ns) (pushed-names b hosts)

new-views : (J : List Entry) (b cluster kept : List ℕ) (hosts : List Host) → list_any (λ (h : Host). same_text h.broker b) hosts ≡ false → AreViews J hosts → Suits J (Begun b cluster kept) → AreViews (J ++ Begun b cluster kept ∷ []) (hosts ++ record { broker = b; vhost = bare; confirms = [] } ∷ [])
new-views J b cluster kept hosts none views suits = record {
  brokers = λ n. any-append (λ (h : Host). same_text h.broker n) hosts (record { broker = b; vhost = bare; confirms = [] } ∷ []) ∙ ap (λ x. list_any (λ (h : Host). same_text h.broker n) hosts || x) (sym (or-false (same_text b n))) ∙ ap (λ x. x || same_text b n) (views.brokers n) ∙ sym (begun-broker J b cluster kept n);
  distinct = subst AreDistinct (pushed-names b hosts) (distinct-push (map (λ (h : Host). h.broker) hosts) b (names-any b hosts ∙ none) views.distinct);
  views = All-push (λ (h : Host). IsView (J ++ Begun b cluster kept ∷ []) (place_of h.broker) h.vhost) hosts (record { broker = b; vhost = bare; confirms = [] }) (begun-views J b cluster kept hosts suits views.views)
      (view-step J (place_of b) (Begun b cluster kept) bare (bare-view J (place_of b) suits) suits);
  confirms = All-push (Owes (J ++ Begun b cluster kept ∷ [])) hosts (record { broker = b; vhost = bare; confirms = [] }) (begun-owed J b cluster kept hosts suits views.published views.views views.confirms)
      (owed-step J (place_of b) (Begun b cluster kept) bare [] (bare-view J (place_of b) suits) views.published (none-owed J (place_of b) (none-published J suits)) suits);
  published = publications-step J (Begun b cluster kept) views.published views.fresh suits;
  fresh = fresh-step J (Begun b cluster kept) views.fresh suits;
}

begun-by : (J : List Entry) (b cluster kept : List ℕ) (hosts : List Host) (c : Bool) → list_any (λ (h : Host). same_text h.broker b) hosts ≡ c → AreViews J hosts → Suits J (Begun b cluster kept) → AreViews (J ++ Begun b cluster kept ∷ []) (cond c hosts (hosts ++ record { broker = b; vhost = bare; confirms = [] } ∷ []))
begun-by J b cluster kept hosts true there views suits = again-views J b cluster kept hosts there views suits
begun-by J b cluster kept hosts false none views suits = new-views J b cluster kept hosts none views suits

pub begun-step : (b cluster kept : List ℕ) (hosts : List Host) → LeadsOn hosts (Begun b cluster kept) (with_host b hosts)
begun-step b cluster kept hosts = λ J views suits. begun-by J b cluster kept hosts (list_any (λ (h : Host). same_text h.broker b) hosts) refl views suits

pub recorded-step : (e : Entry) (hosts now : List Host) → is_begun e ≡ false → now ≡ map (recorded_at e) hosts → LeadsOn hosts e now
recorded-step e hosts now other is = λ J views suits. subst (AreViews (J ++ e ∷ [])) (sym is) (views-step J e hosts other views suits)

pub all-recordable : (hosts : List Host) (e : Entry) → IsNext hosts e → All (λ (h : Host). IsRecordable h e) hosts
all-recordable hosts e next =
    All-weaker (λ (h : Host). IsView next.journal (place_of h.broker) h.vhost) (λ (h : Host). IsRecordable h e)
    (λ h view. record { journal = next.journal; view = view; suits = next.suits }) hosts next.views.views

pub no-views : AreViews [] []
unfolding publication_of
no-views = record {
  brokers = λ b. refl;
  distinct = tt;
  views = All-nil (λ (h : Host). IsView [] (place_of h.broker) h.vhost);
  confirms = All-nil (Owes []);
  published = no-publications;
  fresh = λ c far. refl;
}

-- a publication's number is above all that the host owes confirms of
tellable-at : (J : List Entry) (h : Host) (e : Entry) → Owes J h → Suits J e → IsTellable h e
tellable-at J h (Published x) owes suits = subst (λ n. AreBelow n h.confirms) (sym suits.2) owes.below
tellable-at J h e owes suits = tt

pub all-tellable : (hosts : List Host) (e : Entry) → IsNext hosts e → All (λ (h : Host). IsTellable h e) hosts
all-tellable hosts e next = All-weaker (Owes next.journal) (λ (h : Host). IsTellable h e) (λ h owes. tellable-at next.journal h e owes next.suits) hosts next.views.confirms

pub not-begun : (e : Entry) → ((b cluster kept : List ℕ) → e ≡ Begun b cluster kept → ⊥) → is_begun e ≡ false
not-begun (Begun b cluster kept) h = absurd (h b cluster kept refl)
not-begun e h = refl

-- ---- entries in their order

record SplitAt (es : List Entry) (i : ℕ) (x : Entry) : Type 0 where
  rest : drop i es ≡ x ∷ drop (i + 1) es
  front : take (i + 1) es ≡ take i es ++ x ∷ []

split-at : (es : List Entry) (i : ℕ) (x : Entry) → i < length es → x ≡ slice_index_or es i x → SplitAt es i x
split-at [] i x h is = absurd (omega (arith, h))
split-at (e ∷ es) zero x h is = record { rest = ap (λ y. y ∷ es) (sym is); front = ap (λ y. y ∷ []) (sym is) }
split-at (e ∷ es) (suc i) x h is =
    let s : SplitAt es i x = split-at es i x (omega (arith, h)) is in
    let next : suc i + 1 ≡ suc (i + 1) = omega arith in
    record {
      rest = s.rest ∙ sym (ap (λ n. x ∷ drop n (e ∷ es)) next);
      front = ap (λ n. take n (e ∷ es)) next ∙ ap (λ ys. e ∷ ys) s.front;
    }

pub leads-more : (J es : List Entry) (i : ℕ) (x : Entry) (hosts now : List Host) → Leads (J ++ take i es) (drop i es) hosts → i < length es → x ≡ slice_index_or es i x → LeadsOn hosts x now → Leads (J ++ take (i + 1) es) (drop (i + 1) es) now
leads-more J es i x hosts now leads h is on =
    let s : SplitAt es i x = split-at es i x h is in
    let suits : EachSuits (J ++ take i es) (x ∷ drop (i + 1) es) = subst (EachSuits (J ++ take i es)) s.rest leads.suits in
    let fits : All IsFitting (x ∷ drop (i + 1) es) = subst (All IsFitting) s.rest leads.fits in
    let longer : (J ++ take i es) ++ x ∷ [] ≡ J ++ take (i + 1) es = append_assoc J (take i es) (x ∷ []) ∙ ap (λ ys. J ++ ys) (sym s.front) in
    record {
      views = subst (λ K. AreViews K now) longer (on (J ++ take i es) leads.views suits.0);
      suits = subst (λ K. EachSuits K (drop (i + 1) es)) longer suits.1;
      fits = All-tail IsFitting x (drop (i + 1) es) fits;
    }
