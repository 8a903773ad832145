-- The queues that a connection has to itself go one after the other.
use Rattle.std.proofs.Common.{◌≡◌, ℕ, true, false, cond, not, List, [], ◌∷◌, Some, String, string_bytes, is_some, refl, ap, sym, ◌∙◌, subst, map}
use Rattle.std.specs.Prelude.{filter}
use Rattle.std.specs.List.{IsDistinct, AllByRecursion}
use Rattle.std.specs.Map.{keys_of}
use Rattle.std.specs.Str.{bytes_eq}
use Rattle.std.specs.String.{string_eq}
use Rattle.std.proofs.lemmas.Slice.Eq.{bytes_eq-Decides}
use Rattle.route_core.specs.Objects.{has}
use Rattle.broker_store.specs.Queues.{Named, named, queue_of, others, is_owned, owned_names, StandInTurn}
use Rattle.broker_store.proofs.NameLemmas.{either_way}
use Rattle.broker_store.proofs.QueueLemmas.{Entries}

turn_more : {M : Type 0} (names : List (List ℕ)) (q : Named M) (queues : List (Named M)) → StandInTurn names queues → StandInTurn names (q ∷ queues)
turn_more [] q queues h = tt
turn_more (name ∷ names) q queues h = (
  elim (bytes_eq name q.0) as (λ b. is_some (cond b (Some q.1) (queue_of name queues)) ≡ true) [ true ↦ refl | false ↦ h.0 ],
  elim (bytes_eq q.0 name) as (λ b. StandInTurn names (cond (not b) (q ∷ others name queues) (others name queues))) [ true ↦ h.1 | false ↦ turn_more names q (others name queues) h.1 ],
)

itself : (name : List ℕ) → bytes_eq name name ≡ true
itself name = (bytes_eq-Decides name name).1 refl

all_others : {Z : Type 0} (name : List ℕ) (es : Entries Z) → AllByRecursion (λ (key : String Z). bytes_eq name (string_bytes key) ≡ false) (keys_of es) → others name (named es) ≡ named es
all_others name [] apart = refl
all_others name (e ∷ es) apart =
    ap (λ b. cond (not b) ((string_bytes e.0, e.1) ∷ others name (named es)) (others name (named es))) (either_way (string_bytes e.0) name ∙ apart.0)
    ∙ ap (λ rest. (string_bytes e.0, e.1) ∷ rest) (all_others name es apart.1)

-- no two queues of the table have one name
pub owned_stand : {Z : Type 0} (connection : ℕ) (es : Entries Z) → IsDistinct string_eq (keys_of es) → StandInTurn (owned_names connection (named es)) (named es)
unfolding IsDistinct
owned_stand connection [] distinct = tt
owned_stand connection (e ∷ es) distinct =
    let rest = owned_stand connection es distinct.1 in
    elim (is_owned connection (string_bytes e.0, e.1)) as (λ b. StandInTurn (map (λ q. q.0) (cond b ((string_bytes e.0, e.1) ∷ filter (is_owned connection) (named es)) (filter (is_owned connection) (named es)))) (named (e ∷ es))) [
      | true ↦ (
        ap (λ b. is_some (cond b (Some e.1) (queue_of (string_bytes e.0) (named es)))) (itself (string_bytes e.0)),
        subst (StandInTurn (owned_names connection (named es))) (sym (ap (λ b. cond (not b) ((string_bytes e.0, e.1) ∷ others (string_bytes e.0) (named es)) (others (string_bytes e.0) (named es))) (itself (string_bytes e.0)) ∙ all_others (string_bytes e.0) es distinct.0)) rest,
      )
      | false ↦ turn_more (owned_names connection (named es)) (string_bytes e.0, e.1) (named es) rest
    ]
