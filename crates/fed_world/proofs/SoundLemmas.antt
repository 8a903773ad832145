-- Every journal of a run is sound.
use Rattle.std.proofs.Common.{◌≡◌, ℕ, ◌+◌, ◌≤◌, ◌<◌, ◌*◌, ◌^◌, List, [], ◌∷◌, ◌++◌, length, true, false, arith, sym, subst, lit≤, append_assoc, length-append}
use Rattle.std.specs.Prelude.{All, if◌then◌else◌}
use Rattle.std.proofs.lemmas.List.Sums.{fold-append}
use Rattle.std.proofs.lemmas.List.Elements.{All-nil, All-cons, All-push}
use Rattle.std.proofs.lemmas.List.{append-nil}
use Rattle.fed_journal.specs.Limits.{most_entries, most_links}
use Rattle.fed_journal.specs.declared.entry.Entry.{Entry}
use Rattle.fed_journal.specs.declared.entry.Entry.TheVariants.{Published, Bound, Opened}
use Rattle.fed_journal.specs.Names.{same_text}
use Rattle.fed_journal.specs.Copies.{IsFitting, copy_count}
use Rattle.fed_journal.specs.Links.{links_of}
use Rattle.fed_journal.specs.Phases.{session, session_step}
use Rattle.fed_journal.specs.Sizes.{IsSized}
use Rattle.fed_world.specs.Run.{begin, begun}
use Rattle.fed_world.specs.Sound.{IsSound}
use Rattle.fed_world.specs.Fits.{FitsEntry, EachFits}

-- the last session after one more entry
pub session-push : (J : List Entry) (e : Entry) (l : List ℕ) → session (J ++ e ∷ []) l ≡ session_step l (session J l) e
unfolding session
session-push J e l = fold-append (session_step l) 0 J (e ∷ [])

session_step-fits : (J : List Entry) (e : Entry) (l : List ℕ) → session J l ≤ length J → FitsEntry J e → session_step l (session J l) e ≤ length J + 1
session_step-fits J (Opened k s r) l h fits = elim (same_text k l) as (λ v. (if v then s else session J l) ≤ length J + 1) [ true ↦ fits | false ↦ omega arith ]
session_step-fits J _ l h fits = omega arith

IsFitting-fits : (J : List Entry) (e : Entry) → FitsEntry J e → IsFitting e
IsFitting-fits J (Published x) fits = fits.0
IsFitting-fits J (Bound p b) fits = fits
IsFitting-fits J _ fits = tt

IsSized-fits : (J : List Entry) (e : Entry) → FitsEntry J e → IsSized e
IsSized-fits J (Published x) fits = fits.1
IsSized-fits J _ fits = tt

-- what a journal keeps entry by entry
record Grows (J : List Entry) : Type 0 where
  within : length J ≤ most_entries
  numbered : All IsFitting J
  sized : All IsSized J
  sessions : (l : List ℕ) → session J l ≤ length J

Grows-push : (J : List Entry) (e : Entry) → Grows J → FitsEntry J e → length J + 1 ≤ most_entries → Grows (J ++ e ∷ [])
Grows-push J e grows fits within = record {
  within = simp length-append (omega arith);
  numbered = All-push IsFitting J e grows.numbered (IsFitting-fits J e fits);
  sized = All-push IsSized J e grows.sized (IsSized-fits J e fits);
  sessions = λ l. rw session-push (simp length-append (session_step-fits J e l (grows.sessions l) fits));
}

Grows-append : (J es : List Entry) → Grows J → EachFits J es → length J + length es ≤ most_entries → Grows (J ++ es)
Grows-append J [] grows fits within = subst Grows (sym (append-nil J)) grows
Grows-append J (e ∷ es) grows fits within =
    subst Grows (append_assoc J (e ∷ []) es)
    (Grows-append (J ++ e ∷ []) es (Grows-push J e grows fits.0 (omega arith)) fits.1 (simp length-append (omega arith)))

pub IsSound-append : (J es : List Entry) → IsSound J → EachFits J es → length J + length es ≤ most_entries → length (links_of (J ++ es)) ≤ most_links → IsSound (J ++ es)
IsSound-append J es sound fits within links =
    let grown : Grows (J ++ es) = Grows-append J es (record { within = sound.within; numbered = sound.numbered; sized = sound.sized; sessions = sound.sessions }) fits within in
    record { within = grown.within; numbered = grown.numbered; sized = grown.sized; links = links; sessions = grown.sessions }

-- each entry that fits has a size
pub sized-each : (J es : List Entry) → EachFits J es → All IsSized es
sized-each J [] fits = All-nil IsSized
sized-each J (e ∷ es) fits = All-cons IsSized e es (IsSized-fits J e fits.0) (sized-each (J ++ e ∷ []) es fits.1)

-- and its numbers fit
pub fitting-each : (J es : List Entry) → EachFits J es → All IsFitting es
fitting-each J [] fits = All-nil IsFitting
fitting-each J (e ∷ es) fits = All-cons IsFitting e es (IsFitting-fits J e fits.0) (fitting-each (J ++ e ∷ []) es fits.1)

pub IsSound-empty : IsSound []
unfolding session links_of
IsSound-empty = record { within = lit≤ tt; numbered = All-nil IsFitting; sized = All-nil IsSized; links = lit≤ tt; sessions = λ l. omega arith }

-- the brokers' entries fit any journal
pub EachFits-begin : (J : List Entry) (brokers : List (List ℕ)) → EachFits J (begin brokers)
EachFits-begin J [] = tt
EachFits-begin J (b ∷ bs) = (tt, EachFits-begin (J ++ begun b ∷ []) bs)

-- a journal's copies are far fewer than the numbers that 64 bits have
pub copies-small : {J K : List Entry} → K ≡ J → length K ≤ most_entries → copy_count K ≤ 2 ^ 32 * length K → copy_count J < 2 ^ 63
copies-small {J} {K} same within few = subst (λ (L : List Entry). copy_count L < 2 ^ 63) same (omega arith)
