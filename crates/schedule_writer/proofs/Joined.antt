-- Words with spaces between them are cut into the same words.
use Rattle.std.proofs.Common.{◌≡◌, ℕ, ◌+◌, ◌-◌, ◌<◌, ◌≤◌, Bool, true, false, eqb, List, [], ◌∷◌, ◌++◌, length, get_or, All, refl, ap, ◌∙◌, arith}
use Rattle.std.specs.Prelude.{flat_map, codes}
use Rattle.std.specs.List.{slice_split, list_any, list_all}
use Rattle.std.proofs.lemmas.Bool.{and_right, and_from, or_from, ne_eqb}
use Rattle.std.proofs.lemmas.List.{append-nil, length-append}
use Rattle.std.proofs.lemmas.List.Elements.{All-nil, All-cons, All-append, All-weaker, All-get_or}
use Rattle.std.proofs.lemmas.List.Splits.{slice_split_at, slice_split_none}
use Rattle.schedule_words.specs.Words.{pieces_of, words_of, is_text, is_well_escaped}
use Rattle.schedule_words.specs.Laws.{IsVisible, IsOneWord}
use Rattle.schedule_words.proofs.Written.{IsTextWord}
use Rattle.fed_schedule.specs.Forms.{is_empty_word}
use Rattle.fed_schedule.specs.Schedule.{without_return}
use Rattle.schedule_writer.specs.Lines.{spaced, joined}

-- words of a line, all of them UTF-8
abbrev pub AreWords : List (List ℕ) → Type 0
AreWords [] = Unit {0}
AreWords (w ∷ ws) = IsTextWord w × AreWords ws

-- words of a line
abbrev pub AreOnes : List (List ℕ) → Type 0
AreOnes [] = Unit {0}
AreOnes (w ∷ ws) = IsOneWord w × AreOnes ws

pub ones : (ws : List (List ℕ)) → AreWords ws → AreOnes ws
ones [] t = tt
ones (w ∷ ws) t = (t.0.written, ones ws t.1)

abbrev IsNoSpace : ℕ → Type 0
IsNoSpace b = eqb b 32 ≡ false

unspaced : (w : List ℕ) → All IsVisible w → All IsNoSpace w
unspaced w visible = All-weaker IsVisible IsNoSpace (λ b v. ne_eqb b 32 (λ (same : b ≡ 32). absurd (omega (arith, v, same)))) w visible

split_joined : (w : List ℕ) (ws : List (List ℕ)) → IsOneWord w → AreOnes ws → slice_split (λ b. eqb b 32) (w ++ flat_map spaced ws) ≡ w ∷ ws
split_joined w [] v t = rw append-nil (slice_split_none (λ b. eqb b 32) w (unspaced w v.visible))
split_joined w (x ∷ xs) v t =
    slice_split_at (λ b. eqb b 32) w 32 (x ++ flat_map spaced xs) (unspaced w v.visible) refl ∙ ap (λ (qs : List (List ℕ)). w ∷ qs) (split_joined x xs t.0 t.1)

pub words_joined : (w : List ℕ) (ws : List (List ℕ)) → AreOnes (w ∷ ws) → words_of (joined (w ∷ ws)) ≡ w ∷ ws
unfolding words_of pieces_of
words_joined w ws t = split_joined w ws t.0 t.1

-- ---- ends of lines

abbrev IsInLine : ℕ → Type 0
IsInLine b = 31 < b

in_line : (w : List ℕ) → IsOneWord w → All IsInLine w
in_line w t = All-weaker IsVisible IsInLine (λ b v. omega (arith, v)) w t.visible

all_in_line : (ws : List (List ℕ)) → AreOnes ws → All IsInLine (flat_map spaced ws)
all_in_line [] t = All-nil IsInLine
all_in_line (w ∷ ws) t =
    All-append IsInLine (32 ∷ w) (flat_map spaced ws) (All-cons IsInLine 32 w (omega arith) (in_line w t.0)) (all_in_line ws t.1)

last_kept : (l : List ℕ) → 0 < length l → All IsInLine l → without_return l ≡ l
unfolding without_return
last_kept l some all =
    let last = All-get_or IsInLine l (length l - 1) 0 (omega (arith, some)) all in
    rw (ne_eqb (get_or l (length l - 1) 0) 13 (omega (arith, last)), and_right) refl

pub joined_some : (w : List ℕ) (ws : List (List ℕ)) → AreOnes (w ∷ ws) → 0 < length (joined (w ∷ ws))
joined_some w ws t = omega (arith, t.0.some, length-append w (flat_map spaced ws))

pub kept_whole : (w : List ℕ) (ws : List (List ℕ)) → AreOnes (w ∷ ws) → without_return (joined (w ∷ ws)) ≡ joined (w ∷ ws)
kept_whole w ws t = last_kept _ (joined_some w ws t) (All-append IsInLine w (flat_map spaced ws) (in_line w t.0) (all_in_line ws t.1))

-- ---- what holds of all words

pub all_texts : (ws : List (List ℕ)) → AreWords ws → list_all is_text ws ≡ true
all_texts [] t = refl
all_texts (w ∷ ws) t = and_from (is_text w) (list_all is_text ws) t.0.valid (all_texts ws t.1)

pub ones_escaped : (ws : List (List ℕ)) → AreOnes ws → list_all is_well_escaped ws ≡ true
ones_escaped [] t = refl
ones_escaped (w ∷ ws) t = and_from (is_well_escaped w) (list_all is_well_escaped ws) t.0.escaped (ones_escaped ws t.1)

pub all_escaped : (ws : List (List ℕ)) → AreWords ws → list_all is_well_escaped ws ≡ true
all_escaped ws t = ones_escaped ws (ones ws t)

pub none_empty : (ws : List (List ℕ)) → AreOnes ws → list_any is_empty_word ws ≡ false
none_empty [] t = refl
none_empty (w ∷ ws) t = or_from (is_empty_word w) (list_any is_empty_word ws) (ne_eqb (length w) 0 (omega (arith, t.0.some))) (none_empty ws t.1)
