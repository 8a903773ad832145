-- What stood in front of what was written still does.
use Rattle.std.proofs.Common.{◌≡◌, ℕ, List, ◌++◌, length, take, drop, sym, ap, ◌∙◌, append_assoc}
use Rattle.std.proofs.lemmas.List.{take-append-drop}
use Rattle.std.proofs.Math.Seq.{take-append_seam, take-length}

pub kept_same : (old new : List ℕ) → new ≡ old → take (length old) new ≡ old
kept_same old new e = rw e (take-length old)

pub kept_appended : (old more new : List ℕ) → new ≡ old ++ more → take (length old) new ≡ old
kept_appended old more new e = rw e (take-append_seam old more)

pub kept_on : (old mid new : List ℕ) → take (length old) mid ≡ old → take (length mid) new ≡ mid → take (length old) new ≡ old
kept_on old mid new a b =
    let front : mid ≡ old ++ drop (length old) mid = sym (take-append-drop (length old) mid) ∙ ap (λ (t : List ℕ). t ++ drop (length old) mid) a in
    let more : new ≡ mid ++ drop (length mid) new = sym (take-append-drop (length mid) new) ∙ ap (λ (t : List ℕ). t ++ drop (length mid) new) b in
    kept_appended old (drop (length old) mid ++ drop (length mid) new) new
    (more ∙ ap (λ (t : List ℕ). t ++ drop (length mid) new) front ∙ append_assoc old (drop (length old) mid) (drop (length mid) new))

-- what the proofs of writers take
pub ruleset kept = (kept_same, kept_appended, kept_on)
