-- What a writer leaves behind.
use Rattle.std.specs.Prelude.{◌≡◌, List, ℕ, ◌++◌, length, take, Result, MatchResult}

-- These octets are appended; where memory ran out, at least what was there stands in front.
abbrev pub Appends : {V E : Type 0} → Result V E → List ℕ → List ℕ → List ℕ → Type 0
Appends result old new more = MatchResult result (λ done. new ≡ old ++ more) (λ fault. take (length old) new ≡ old)
