-- Chains through the items of a list by their codes (the access to the bindings of one exchange: AMQP 0-9-1, 3.1.4 "The Binding").
use Rattle.std.specs.Prelude.{◌≡◌, ◌≢◌, refl, ℕ, ◌+◌, ◌-◌, ◌*◌, ◌%◌, ◌^◌, ◌<◌, ◌≤◌, List, fold, slice_index_or, vec_len, vec_capacity}
use Rattle.std.specs.Coded.{Coded, code_by, coded×, coded_ℕ, coded_list}
use Rattle.route_core.specs.declared.chains.Chains.TheInside.{Inside}

-- The codes of the items, and for how many more there is room.
pub record ChainState : Type 0 where
  pub codes : List ℕ
  pub spare : ℕ

abbrev pub coded_chains : Coded ChainState
coded_chains = code_by (List ℕ × ℕ) (coded× (coded_list coded_ℕ) coded_ℕ) (λ s. (s.codes, s.spare)) (λ p. record { codes = p.0; spare = p.1 }) (λ _. refl)

-- The place after the last of the items below that have what is wanted of their code, 0 where there is none.
pub record IsLast (part : ℕ → ℕ) (wanted : ℕ) (codes : List ℕ) (below place : ℕ) : Type 0 where
  pub within : place ≤ below
  pub here : 0 < place → part (slice_index_or codes (place - 1) 0) ≡ wanted
  pub none : (k : ℕ) → place ≤ k → k < below → part (slice_index_or codes k 0) ≢ wanted

-- the place after the last of the items below that have this code
abbrev pub IsLastOf : ℕ → List ℕ → ℕ → ℕ → Type 0
IsLastOf code codes below place = IsLast (λ c. c) code codes below place

-- the same for a bucket of codes
abbrev pub IsLastIn : ℕ → ℕ → List ℕ → ℕ → ℕ → Type 0
IsLastIn width bucket codes below place = IsLast (λ c. c % width) bucket codes below place

-- Each bucket has its last item below, and each of these the one before it in its bucket.
pub record IsLinked (width : ℕ) (codes before heads : List ℕ) (below : ℕ) : Type 0 where
  pub heads_last : (q : ℕ) → q < width → IsLastIn width q codes below (slice_index_or heads q 0)
  pub before_last : (k : ℕ) → k < below → IsLastIn width (slice_index_or codes k 0 % width) codes k (slice_index_or before k 0)

-- There are buckets, all items are linked, and there is room for what is spare.
pub record IsChained (i : Inside) : Type 0 where
  pub wide : 0 < vec_len i.heads
  pub even : vec_len i.before ≡ vec_len i.codes
  pub linked : IsLinked (vec_len i.heads) i.codes.items i.before.items i.heads.items (vec_len i.codes)
  pub codes_fit : vec_len i.codes + i.spare ≤ vec_capacity i.codes
  pub before_fit : vec_len i.before + i.spare ≤ vec_capacity i.before

abbrev pub chains_of : Inside → ChainState
chains_of i = record { codes = i.codes.items; spare = i.spare }

-- one octet more
abbrev pub next_code : ℕ → ℕ → ℕ
next_code code octet = ((code * 1099511628211) % 2 ^ 64 + octet) % 2 ^ 64

-- The code of a name or a key, from where an earlier one ended.
abbrev pub code_from : ℕ → List ℕ → ℕ
code_from start octets = fold next_code start octets
