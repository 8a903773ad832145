-- An open link was opened in its last session.
use Rattle.std.proofs.Common.{◌≡◌, ℕ, List, [], ◌∷◌, Bool, true, false, refl, sym, ap, ◌∙◌, ◌⊎◌, inl, inr}
use Rattle.std.specs.Prelude.{cond, fold}
use Rattle.std.proofs.lemmas.Bool.{false≢true}
use Rattle.fed_journal.specs.declared.link.Phase.{Phase}
use Rattle.fed_journal.specs.declared.link.Phase.TheVariants.{Gone, Open}
use Rattle.fed_journal.specs.declared.entry.Entry.{Entry}
use Rattle.fed_journal.specs.declared.entry.Entry.TheVariants.{Opened}
use Rattle.fed_journal.specs.Names.{same_text}
use Rattle.fed_journal.specs.Phases.{phase, phase_step, session, session_step, is_open}
use Rattle.broker_view.proofs.Names.{same_text-true}
use Rattle.fed_world.specs.Kept.{StandsAfter}

-- the link was opened in that session
abbrev pub WasOpened : List Entry → List ℕ → ℕ → Type 0
WasOpened J l s = (before : List Entry) × (ready : ℕ) × StandsAfter before (Opened l s ready) J

opened-later : (e : Entry) (J : List Entry) (l : List ℕ) (s : ℕ) → WasOpened J l s → WasOpened (e ∷ J) l s
opened-later e J l s o = (e ∷ o.0, o.1, (o.2.0, ap (λ K. e ∷ K) o.2.1))

opened-by : (l : List ℕ) (a : Phase) (n : ℕ) (k : List ℕ) (t r : ℕ) (J : List Entry) (m : ℕ) (b : Bool) → same_text k l ≡ b → is_open (cond b Open a) ≡ true → m ≡ cond b t n → WasOpened (Opened k t r ∷ J) l m ⊎ ((is_open a ≡ true) × (m ≡ n))
opened-by l a n k t r J m true e open' same =
    let here : Opened k t r ∷ J ≡ Opened l m r ∷ J = ap (λ q. Opened q t r ∷ J) (same_text-true k l e) ∙ ap (λ q. Opened l q r ∷ J) (sym same) in
    inl ([], r, (J, here))
opened-by l a n k t r J m false e open' same = inr (open', same)

opened-step : (l : List ℕ) (a : Phase) (n : ℕ) (e : Entry) (J : List Entry) (m : ℕ) → is_open (phase_step l a e) ≡ true → m ≡ session_step l n e → WasOpened (e ∷ J) l m ⊎ ((is_open a ≡ true) × (m ≡ n))
opened-step l a n (Opened k t r) J m open' same = opened-by l a n k t r J m (same_text k l) refl open' same
opened-step l a n _ J m open' same = inr (open', same)

opened-either : (l : List ℕ) (a : Phase) (n : ℕ) (e : Entry) (J : List Entry) (m : ℕ) → WasOpened J l m ⊎ ((is_open (phase_step l a e) ≡ true) × (m ≡ session_step l n e)) → WasOpened (e ∷ J) l m ⊎ ((is_open a ≡ true) × (m ≡ n))
opened-either l a n e J m (inl o) = inl (opened-later e J l m o)
opened-either l a n e J m (inr k) = opened-step l a n e J m k.0 k.1

opened-from : (l : List ℕ) (a : Phase) (n : ℕ) (J : List Entry) → is_open (fold (phase_step l) a J) ≡ true → WasOpened J l (fold (session_step l) n J) ⊎ ((is_open a ≡ true) × (fold (session_step l) n J ≡ n))
opened-from l a n [] h = inr (h, refl)
opened-from l a n (e ∷ J) h =
    opened-either l a n e J (fold (session_step l) (session_step l n e) J) (opened-from l (phase_step l a e) (session_step l n e) J h)

opened-at_first : (J : List Entry) (l : List ℕ) (m : ℕ) → WasOpened J l m ⊎ ((is_open Gone ≡ true) × (m ≡ 0)) → WasOpened J l m
opened-at_first J l m (inl o) = o
opened-at_first J l m (inr k) = absurd (false≢true k.0)

pub last-opened : (J : List Entry) (l : List ℕ) → is_open (phase J l) ≡ true → WasOpened J l (session J l)
unfolding phase session
last-opened J l h = opened-at_first J l (fold (session_step l) 0 J) (opened-from l Gone 0 J h)
