-- What a link's session publishes, it publishes at the link's target.
use Rattle.std.proofs.Common.{◌≡◌, ℕ, List, [], ◌∷◌, Bool, true, false, Option, Some, None, refl, sym, ap, subst, ◌∙◌}
use Rattle.std.specs.Prelude.{not, is_some, All, filter, filter_map, if◌then◌else◌, Err}
use Rattle.std.specs.List.{cons_option}
use Rattle.std.proofs.lemmas.Bool.{true≢false, false≢true}
use Rattle.std.proofs.lemmas.Option.{none-some, same_Some}
use Rattle.std.proofs.lemmas.List.Elements.{All-nil, All-cons, All-head, All-tail}
use Rattle.fed_journal.specs.declared.place.Place.{Place}
use Rattle.fed_journal.specs.declared.link.LinkSpec.{LinkSpec}
use Rattle.fed_journal.specs.declared.entry.Publisher.{Publisher}
use Rattle.fed_journal.specs.declared.entry.Publisher.TheVariants.{Link}
use Rattle.fed_journal.specs.declared.entry.Publication.{Publication}
use Rattle.fed_journal.specs.declared.entry.Entry.{Entry}
use Rattle.fed_journal.specs.declared.entry.Entry.TheVariants.{Published}
use Rattle.fed_journal.specs.Flight.{has, confirmed_to, copy_published_by, number_if, published_by, flight_published}
use Rattle.fed_journal.specs.Links.{link_of}
use Rattle.fed_journal.specs.Names.{same_place}
use Rattle.fed_journal.specs.Phases.{phase, session, is_open}
use Rattle.broker_view.specs.Confirms.{publications, is_by, ArePublishedAt}
use Rattle.broker_view.proofs.Names.{same_place-refl}
use Rattle.fed_journal.specs.declared.reason.Reason.TheVariants.{Empty, NotOpen}
use Rattle.fed_journal.specs.Row.{Row, with_spec, while_open}
use Rattle.fed_world.specs.Confirm.{confirm_row, confirm_first}
use Rattle.fed_world.specs.Kept.{StandsAfter}
use Rattle.fed_world.proofs.Causes.{CausedBy, EachCaused, PublishesCopy, caused-at}
use Rattle.fed_world.proofs.Described.{described-later}
use Rattle.fed_world.proofs.Inversions.{published_by-is}

stands-later : (d e : Entry) (K J : List Entry) → StandsAfter K e J → StandsAfter (d ∷ K) e (d ∷ J)
stands-later d e K J h = (h.0, ap (λ es. d ∷ es) h.1)

-- what holds of each publication that stands in the journal
each-published : (P : Publication → Type 0) (J : List Entry) → ((K : List Entry) (x : Publication) → StandsAfter K (Published x) J → P x) → All P (publications J)
each-published P [] h = All-nil P
each-published P (Published x ∷ J) h =
    All-cons P x (publications J) (h [] x (J, refl)) (each-published P J (λ K y stands. h (Published x ∷ K) y (stands-later (Published x) (Published y) K J stands)))
each-published P (e ∷ J) h = each-published P J (λ K y stands. h (e ∷ K) y (stands-later e (Published y) K J stands))

-- a session's publication has its link's target as its place
target-at : (J K : List Entry) (x : Publication) (l : List ℕ) (s c : ℕ) (spec : LinkSpec) → EachCaused [] J → StandsAfter K (Published x) J → x.by ≡ Link l s c → link_of J l ≡ Some spec → spec.target ≡ Some x.place
target-at J K x l s c spec caused stands by d =
    let cause : PublishesCopy K x l s c = subst (CausedBy K x) by (caused-at J K (Published x) caused stands).1.0 in
    let later : link_of J l ≡ Some cause.spec = described-later K (Published x) J l cause.spec caused stands refl cause.described in
    let same : cause.spec ≡ spec = same_Some cause.spec spec (sym later ∙ d) in
    subst (λ (t : LinkSpec). t.target ≡ Some x.place) same cause.target

link-of : (l : List ℕ) (s : ℕ) (by : Publisher) (o : Option ℕ) → copy_published_by l s by ≡ o → is_some o ≡ true → (c : ℕ) × (by ≡ Link l s c)
link-of l s by None e h = absurd (false≢true h)
link-of l s by (Some c) e h = (c, published_by-is l s c by e)

target-by : (J K : List Entry) (x : Publication) (l : List ℕ) (s : ℕ) (spec : LinkSpec) → EachCaused [] J → StandsAfter K (Published x) J → is_by l s x ≡ true → link_of J l ≡ Some spec → spec.target ≡ Some x.place
target-by J K x l s spec caused stands h d =
    let by : (c : ℕ) × (x.by ≡ Link l s c) = link-of l s x.by (copy_published_by l s x.by) refl h in
    target-at J K x l s by.0 spec caused stands by.1 d

-- a link's session publishes at the link's target alone (RabbitMQ, Shovel: destination)
pub published-at_target : (J : List Entry) (l : List ℕ) (s : ℕ) (spec : LinkSpec) (p : Place) → EachCaused [] J → link_of J l ≡ Some spec → spec.target ≡ Some p → ArePublishedAt J p l s
published-at_target J l s spec p caused d t =
    each-published (λ x. is_by l s x ≡ true → same_place x.place p ≡ true) J (λ K x stands h.
    let same : x.place ≡ p = same_Some x.place p (sym (target-by J K x l s spec caused stands h d) ∙ t) in
    subst (λ q. same_place x.place q ≡ true) same (same_place-refl x.place))

not-by : (J K : List Entry) (x : Publication) (l : List ℕ) (s : ℕ) (spec : LinkSpec) → EachCaused [] J → StandsAfter K (Published x) J → link_of J l ≡ Some spec → spec.target ≡ None → (b : Bool) → is_by l s x ≡ b → is_by l s x ≡ false
not-by J K x l s spec caused stands d t true e = absurd (none-some x.place (sym t ∙ target-by J K x l s spec caused stands e d))
not-by J K x l s spec caused stands d t false e = e

number-none : (n : ℕ) (o : Option ℕ) → is_some o ≡ false → number_if n o ≡ None
number-none n None h = refl
number-none n (Some c) h = absurd (true≢false h)

none-by : (l : List ℕ) (s : ℕ) (J : List Entry) → All (λ x. is_by l s x ≡ false) (publications J) → filter_map (published_by l s) J ≡ []
none-by l s [] h = refl
none-by l s (Published x ∷ J) h =
    ap (λ o. cons_option o (filter_map (published_by l s) J)) (number-none x.number (copy_published_by l s x.by) (All-head (λ y. is_by l s y ≡ false) x (publications J) h))
    ∙ none-by l s J (All-tail (λ y. is_by l s y ≡ false) x (publications J) h)
none-by l s (e ∷ J) h = none-by l s J h

-- a link without a target publishes nothing (RabbitMQ, Shovel: destination)
pub nothing-published : (J : List Entry) (l : List ℕ) (s : ℕ) (spec : LinkSpec) → EachCaused [] J → link_of J l ≡ Some spec → spec.target ≡ None → flight_published J l s ≡ []
unfolding flight_published
nothing-published J l s spec caused d t =
    ap (filter (λ p. not (has (confirmed_to l s) p J)))
    (none-by l s J (each-published (λ x. is_by l s x ≡ false) J (λ K x stands. not-by J K x l s spec caused stands d t (is_by l s x) refl)))

-- the row of a link whose ends live
live-confirms : (J : List Entry) (l : List ℕ) (spec : LinkSpec) → link_of J l ≡ Some spec → is_open (phase J l) ≡ true → confirm_row J l ≡ confirm_first J l (session J l) (flight_published J l (session J l))
unfolding confirm_row
live-confirms J l spec d live =
    let row : Row = confirm_first J l (session J l) (flight_published J l (session J l)) in
    ap (with_spec (λ t. while_open J l row)) d ∙ ap (λ b. if b then row else Err NotOpen) live

-- nothing is confirmed to a link without a target (RabbitMQ, Publisher Confirms)
pub nothing-confirmed : (J : List Entry) (l : List ℕ) (spec : LinkSpec) → EachCaused [] J → link_of J l ≡ Some spec → is_open (phase J l) ≡ true → spec.target ≡ None → confirm_row J l ≡ Err Empty
nothing-confirmed J l spec caused d live t =
    live-confirms J l spec d live ∙ ap (confirm_first J l (session J l)) (nothing-published J l (session J l) spec caused d t)
