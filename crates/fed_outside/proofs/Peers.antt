-- Peers in memory: a read moves along the input, and those behind a fresh peer are fresh.
use Rattle.std.proofs.Common.{◌≡◌, ℕ, suc, ◌+◌, ◌∷◌, false, List, take, drop, ap, subst, arith, take-add}
use Rattle.std.proofs.lemmas.List.{drop-drop}
use Rattle.std.specs.Prelude.{All}
use Rattle.fed_outside.specs.Outside.{Traffic, advanced}
use Rattle.fed_outside.specs.Plan.{Plan, judged}
use Rattle.fed_outside.specs.Fakes.{PeerState, IsFresh, peer_after_read}

-- The next n octets go from those left to those read, where both are parts of one input.
pub read_on : (at n : ℕ) (input written : List ℕ)
    → ◌≡◌ {A = Traffic} (record { read = take (at + n) input; left = drop (at + n) input; written = written })
    (advanced n (record { read = take at input; left = drop at input; written = written }))
read_on at n input written = simp (take-add, drop-drop)

-- a peer after a read of n octets
pub peer_read_on : (at n room : ℕ) (input written : List ℕ) (plan now : Plan) → now ≡ judged false plan
    → ◌≡◌ {A = PeerState}
    (record { traffic = record { read = take (at + n) input; left = drop (at + n) input; written = written }; room = room; plan = now })
    (peer_after_read n (record { traffic = record { read = take at input; left = drop at input; written = written }; room = room; plan = plan }))
peer_read_on at n room input written plan now e =
    rw e (ap (λ (t : Traffic). record { traffic = t; room = room; plan = judged false plan }) (read_on at n input written))

-- Of peers that are all fresh, those behind the first are.
pub fresh_behind : (before : List PeerState) (peer : PeerState) (rest : List PeerState) → before ≡ peer ∷ rest
    → All IsFresh before → All IsFresh rest
fresh_behind before peer rest e all =
    let P : List PeerState → Type 0 = λ peers. All IsFresh peers in
    let whole : All IsFresh (peer ∷ rest) = subst P e all in
    λ k d h. whole (suc k) d (omega arith)
