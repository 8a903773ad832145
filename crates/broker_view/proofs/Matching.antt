-- The rows of a queue beside the copies that entered it.
use Rattle.std.proofs.Common.{◌≡◌, ℕ, List, [], ◌∷◌, Bool, true, false, cond, not, Option, Some, None, refl, ap, sym, ◌∙◌, subst, ◌⊎◌, inl, inr, map, drop}
use Rattle.std.specs.Prelude.{All, filter, filter_map, slice_get}
use Rattle.std.specs.List.{cons_option}
use Rattle.std.proofs.lemmas.Option.{none-some, same_Some}
use Rattle.std.proofs.lemmas.List.Elements.{All-nil, All-cons, All-head, All-tail}
use Rattle.queue_core.specs.declared.rows.Hold.{Hold}
use Rattle.queue_core.specs.declared.rows.Row.{Row}
use Rattle.fed_journal.specs.declared.place.Place.{Place}
use Rattle.fed_journal.specs.declared.entry.Entry.{Entry}
use Rattle.fed_journal.specs.Copies.{Standing, Unknown, Ready, Held, Left, is_left, standing}
use Rattle.mini_broker.specs.State.{VhostState}
use Rattle.broker_view.specs.View.{HasHome, StandsAs, RowStands, is_there}

-- a copy with a row hasn't left
pub stands-there : (J : List Entry) (p : Place) (v : VhostState) (c : ℕ) (t : Standing) (h : Hold) → StandsAs J p v c t h → is_left t ≡ false
stands-there J p v c Ready h k = refl
stands-there J p v c (Held holder) h k = refl
stands-there J p v c Unknown h k = refl
stands-there J p v c Left h k = absurd k

pub row-there : (J : List Entry) (p : Place) (v : VhostState) (row : Row) → RowStands J p v row → is_there J row.copy ≡ true
row-there J p v row k = ap not (stands-there J p v row.copy (standing row.copy J) row.hold k)

-- the rows are those of the copies that are there
pub record Matches (J : List Entry) (p : Place) (v : VhostState) (rows : List Row) (copies : List ℕ) : Type 0 where
  pub numbers : map (λ row. row.copy) rows ≡ filter (is_there J) copies
  pub stand : All (RowStands J p v) rows

matches-nil : (J : List Entry) (p : Place) (v : VhostState) → Matches J p v [] []
matches-nil J p v = record { numbers = refl; stand = All-nil (RowStands J p v) }

matches-row : (J : List Entry) (p : Place) (v : VhostState) (row : Row) (rows : List Row) (c : ℕ) (copies : List ℕ) → row.copy ≡ c → RowStands J p v row → Matches J p v rows copies → Matches J p v (row ∷ rows) (c ∷ copies)
matches-row J p v row rows c copies e k m =
    let there : is_there J c ≡ true = ap (is_there J) (sym e) ∙ row-there J p v row k in
    record {
      numbers = ap (λ n. n ∷ map (λ (r : Row). r.copy) rows) e ∙ ap (λ ns. c ∷ ns) m.numbers ∙ sym (ap (λ b. cond b (c ∷ filter (is_there J) copies) (filter (is_there J) copies)) there);
      stand = All-cons (RowStands J p v) row rows k m.stand;
    }

matches-away : (J : List Entry) (p : Place) (v : VhostState) (rows : List Row) (c : ℕ) (copies : List ℕ) → is_there J c ≡ false → Matches J p v rows copies → Matches J p v rows (c ∷ copies)
matches-away J p v rows c copies away m =
    record { numbers = m.numbers ∙ sym (ap (λ b. cond b (c ∷ filter (is_there J) copies) (filter (is_there J) copies)) away); stand = m.stand }

-- the first copy's row, where it is there
pub record HasRow (J : List Entry) (p : Place) (v : VhostState) (rows : List Row) (c : ℕ) (copies : List ℕ) : Type 0 where
  pub row : Row
  pub rest : List Row
  pub rows' : rows ≡ row ∷ rest
  pub copy : row.copy ≡ c
  pub stands : RowStands J p v row
  pub matches : Matches J p v rest copies

pub record IsAway (J : List Entry) (p : Place) (v : VhostState) (rows : List Row) (c : ℕ) (copies : List ℕ) : Type 0 where
  pub away : is_there J c ≡ false
  pub matches : Matches J p v rows copies

row-by : (J : List Entry) (p : Place) (v : VhostState) (rows : List Row) (c : ℕ) (copies : List ℕ) → map (λ row. row.copy) rows ≡ c ∷ filter (is_there J) copies → All (RowStands J p v) rows → HasRow J p v rows c copies
row-by J p v [] c copies e k = absurd (none-some c (ap (λ ns. slice_get ns 0) e))
row-by J p v (row ∷ rows) c copies e k = record {
  row = row;
  rest = rows;
  rows' = refl;
  copy = same_Some row.copy c (ap (λ ns. slice_get ns 0) e);
  stands = All-head (RowStands J p v) row rows k;
  matches = record { numbers = ap (drop 1) e; stand = All-tail (RowStands J p v) row rows k };
}

cases-by : (J : List Entry) (p : Place) (v : VhostState) (rows : List Row) (c : ℕ) (copies : List ℕ) (b : Bool) → is_there J c ≡ b → map (λ row. row.copy) rows ≡ cond b (c ∷ filter (is_there J) copies) (filter (is_there J) copies) → All (RowStands J p v) rows → HasRow J p v rows c copies ⊎ IsAway J p v rows c copies
cases-by J p v rows c copies true there e k = inl (row-by J p v rows c copies e k)
cases-by J p v rows c copies false away e k = inr (record { away = away; matches = record { numbers = e; stand = k } })

pub matches-cases : (J : List Entry) (p : Place) (v : VhostState) (rows : List Row) (c : ℕ) (copies : List ℕ) → Matches J p v rows (c ∷ copies) → HasRow J p v rows c copies ⊎ IsAway J p v rows c copies
matches-cases J p v rows c copies m = cases-by J p v rows c copies (is_there J c) refl m.numbers m.stand

-- ---- a change of each row

-- what the change makes of a row, as the journal K has its copy
abbrev pub Follows : List Entry → Place → VhostState → Row → Option Row → Type 0
Follows K p w row None = is_there K row.copy ≡ false
Follows K p w row (Some now) = (now.copy ≡ row.copy) × RowStands K p w now

-- the change of a queue's rows follows that of the journal J to K
pub record IsChange (J K : List Entry) (p : Place) (q : List ℕ) (v w : VhostState) (change : Row → Option Row) : Type 0 where
  pub follows : (row : Row) → HasHome J p q row.copy → RowStands J p v row → Follows K p w row (change row)
  pub away : (c : ℕ) → HasHome J p q c → is_there J c ≡ false → is_there K c ≡ false

change-row : (K : List Entry) (p : Place) (w : VhostState) (row : Row) (rows : List Row) (c : ℕ) (copies : List ℕ) (o : Option Row) → Follows K p w row o → row.copy ≡ c → Matches K p w rows copies → Matches K p w (cons_option o rows) (c ∷ copies)
change-row K p w row rows c copies None f e m = matches-away K p w rows c copies (ap (is_there K) (sym e) ∙ f) m
change-row K p w row rows c copies (Some now) f e m = matches-row K p w now rows c copies (f.0 ∙ e) f.1 m

pub no_rows : (J : List Entry) (p : Place) (v : VhostState) (rows : List Row) → Matches J p v rows [] → rows ≡ []
no_rows J p v [] m = refl
no_rows J p v (row ∷ rows) m = absurd (none-some row.copy (sym (ap (λ ns. slice_get ns 0) m.numbers)))

pub change-all : (J K : List Entry) (p : Place) (q : List ℕ) (v w : VhostState) (change : Row → Option Row) → IsChange J K p q v w change → (copies : List ℕ) (rows : List Row) → All (HasHome J p q) copies → Matches J p v rows copies → Matches K p w (filter_map change rows) copies
change-all J K p q v w change is [] rows homes m =
    subst (λ rs. Matches K p w (filter_map change rs) []) (sym (no_rows J p v rows m)) (matches-nil K p w)
change-all J K p q v w change is (c ∷ copies) rows homes m =
    let home : HasHome J p q c = All-head (HasHome J p q) c copies homes in
    let homes' : All (HasHome J p q) copies = All-tail (HasHome J p q) c copies homes in
    elim (matches-cases J p v rows c copies m) [
      | inl r ↦ subst (λ rs. Matches K p w (filter_map change rs) (c ∷ copies)) (sym r.rows')
          (change-row K p w r.row (filter_map change r.rest) c copies (change r.row) (is.follows r.row (subst (HasHome J p q) (sym r.copy) home) r.stands) r.copy (change-all J K p q v w change is copies r.rest homes' r.matches))
      | inr a ↦ matches-away K p w (filter_map change rows) c copies (is.away c home a.away) (change-all J K p q v w change is copies rows homes' a.matches)
    ]

-- ---- maps and filters as changes

pub all-changed : (f : Row → Row) (rows : List Row) → filter_map (λ row. Some (f row)) rows ≡ map f rows
all-changed f [] = refl
all-changed f (row ∷ rows) = ap (λ rs. f row ∷ rs) (all-changed f rows)

kept-by : (row : Row) (rest rest' : List Row) (b : Bool) → rest ≡ rest' → cons_option (cond b (Some row) None) rest ≡ cond b (row ∷ rest') rest'
kept-by row rest rest' true e = ap (λ rs. row ∷ rs) e
kept-by row rest rest' false e = e

pub some-kept : (keep : Row → Bool) (rows : List Row) → filter_map (λ row. cond (keep row) (Some row) None) rows ≡ filter keep rows
some-kept keep [] = refl
some-kept keep (row ∷ rows) = kept-by row (filter_map (λ row. cond (keep row) (Some row) None) rows) (filter keep rows) (keep row) (some-kept keep rows)

pub none-changed : (rows : List Row) → filter_map (λ (row : Row). Some row) rows ≡ rows
none-changed [] = refl
none-changed (row ∷ rows) = ap (λ rs. row ∷ rs) (none-changed rows)

pub none-kept : (rows : List Row) → filter_map {Y = Row} (λ (row : Row). None) rows ≡ []
none-kept [] = refl
none-kept (row ∷ rows) = none-kept rows
