-- What keeps the unacknowledged deliveries by rising tag.
use Rattle.std.proofs.Common.{◌≡◌, ℕ, ◌+◌, ◌<◌, ◌≤◌, Bool, true, false, cond, List, [], ◌∷◌, ◌++◌, arith}
use Rattle.std.specs.Prelude.{All, filter}
use Rattle.std.proofs.lemmas.List.Elements.{All-nil, All-push, All-head, All-tail, All-filter, All-weaker}
use Rattle.broker_channels.specs.declared.delivery.Delivery.{Delivery}
use Rattle.broker_channels.specs.Tags.{Rises}

-- a delivery with a tag above all joins at the end
pub Rises-push : (deliveries : List Delivery) (last : ℕ) (next : Delivery) → Rises deliveries → All (λ delivery. delivery.tag ≤ last) deliveries → next.tag ≡ last + 1 → Rises (deliveries ++ next ∷ [])
Rises-push [] last next rising within is = (All-nil _, tt)
Rises-push (d ∷ deliveries) last next rising within is =
    let head : d.tag ≤ last = All-head (λ (delivery : Delivery). delivery.tag ≤ last) d deliveries within in
    (All-push (λ later. d.tag < later.tag) deliveries next rising.0 (omega arith), Rises-push deliveries last next rising.1 (All-tail (λ (delivery : Delivery). delivery.tag ≤ last) d deliveries within) is)

pub within-push : (deliveries : List Delivery) (last : ℕ) (next : Delivery) → All (λ delivery. delivery.tag ≤ last) deliveries → next.tag ≡ last + 1 → All (λ delivery. delivery.tag ≤ last + 1) (deliveries ++ next ∷ [])
within-push deliveries last next within is =
    All-push (λ delivery. delivery.tag ≤ last + 1) deliveries next (All-weaker (λ (delivery : Delivery). delivery.tag ≤ last) (λ delivery. delivery.tag ≤ last + 1) (λ delivery below. omega arith) deliveries within) (omega arith)

pub Rises-filter : (test : Delivery → Bool) (deliveries : List Delivery) → Rises deliveries → Rises (filter test deliveries)
Rises-filter test [] rising = tt
Rises-filter test (d ∷ deliveries) rising =
    let rest = Rises-filter test deliveries rising.1 in
    elim (test d) as (λ b. Rises (cond b (d ∷ filter test deliveries) (filter test deliveries))) [ true ↦ (All-filter test (λ later. d.tag < later.tag) deliveries rising.0, rest) | false ↦ rest ]
