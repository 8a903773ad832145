-- What holds of the entries of a row, by the tests that the row makes.
use Rattle.std.proofs.Common.{◌≡◌, ℕ, List, [], ◌∷◌, Bool, true, false, Option, Some, None, refl}
use Rattle.std.specs.Prelude.{Result, Ok, Err, if◌then◌else◌}
use Rattle.fed_journal.specs.declared.place.Place.{Place}
use Rattle.fed_journal.specs.declared.link.LinkSpec.{LinkSpec}
use Rattle.fed_journal.specs.declared.entry.Entry.{Entry}
use Rattle.fed_journal.specs.Configuration.{is_place}
use Rattle.fed_journal.specs.Links.{link_of}
use Rattle.fed_journal.specs.Phases.{phase, is_open}
use Rattle.fed_journal.specs.declared.reason.Reason.{Reason}
use Rattle.fed_journal.specs.declared.reason.Reason.TheVariants.{NoPlace, NotOpen}
use Rattle.fed_journal.specs.Row.{Row, at_place, with_link, with_spec, while_open, unless_refused, made_row, one_or_empty}

-- P of the row's entries, if it has any
abbrev pub RowHas : (List Entry → Type 0) → Row → Type 0
RowHas P (Ok entries) = P entries
RowHas P (Err reason) = Unit {0}

pub either-has : (P : List Entry → Type 0) (b : Bool) (yes' no' : Row) → RowHas P yes' → RowHas P no' → RowHas P (if b then yes' else no')
either-has P true yes' no' h k = h
either-has P false yes' no' h k = k

-- the same where the tests' answers are known
if-has : (P : List Entry → Type 0) (b : Bool) (yes' no' : Row) → (b ≡ true → RowHas P yes') → (b ≡ false → RowHas P no') → RowHas P (if b then yes' else no')
if-has P true yes' no' h k = h refl
if-has P false yes' no' h k = k refl

pub if_not-has : (P : List Entry → Type 0) (b : Bool) (yes' no' : Row) → RowHas P yes' → (b ≡ false → RowHas P no') → RowHas P (if b then yes' else no')
if_not-has P b yes' no' h k = if-has P b yes' no' (λ e. h) k

pub at_known_place-has : (P : List Entry → Type 0) (J : List Entry) (p : Place) (row : Row) → (is_place J p ≡ true → RowHas P row) → RowHas P (at_place J p row)
at_known_place-has P J p row h = if-has P (is_place J p) row (Err NoPlace) h (λ e. tt)

pub while_known_open-has : (P : List Entry → Type 0) (J : List Entry) (l : List ℕ) (row : Row) → (is_open (phase J l) ≡ true → RowHas P row) → RowHas P (while_open J l row)
while_known_open-has P J l row h = if-has P (is_open (phase J l)) row (Err NotOpen) h (λ e. tt)

pub at_place-has : (P : List Entry → Type 0) (J : List Entry) (p : Place) (row : Row) → RowHas P row → RowHas P (at_place J p row)
at_place-has P J p row h = either-has P (is_place J p) row (Err NoPlace) h tt

with_spec-has : (P : List Entry → Type 0) (row : LinkSpec → Row) (o : Option LinkSpec) → ((spec : LinkSpec) → o ≡ Some spec → RowHas P (row spec)) → RowHas P (with_spec row o)
with_spec-has P row None h = tt
with_spec-has P row (Some spec) h = h spec refl

pub with_link-has : (P : List Entry → Type 0) (J : List Entry) (l : List ℕ) (row : LinkSpec → Row) → ((spec : LinkSpec) → link_of J l ≡ Some spec → RowHas P (row spec)) → RowHas P (with_link J l row)
with_link-has P J l row h = with_spec-has P row (link_of J l) h

pub while_open-has : (P : List Entry → Type 0) (J : List Entry) (l : List ℕ) (row : Row) → RowHas P row → RowHas P (while_open J l row)
while_open-has P J l row h = either-has P (is_open (phase J l)) row (Err NotOpen) h tt

pub one_or_empty-has : (P : List Entry → Type 0) (entry : ℕ → Entry) (o : Option ℕ) → ((n : ℕ) → o ≡ Some n → P (entry n ∷ [])) → RowHas P (one_or_empty entry o)
one_or_empty-has P entry None h = tt
one_or_empty-has P entry (Some n) h = h n refl

pub unless_refused-has : (P : List Entry → Type 0) (o : Option Reason) (row : Row) → RowHas P row → RowHas P (unless_refused o row)
unless_refused-has P None row h = h
unless_refused-has P (Some reason) row h = tt

pub made_row-has : (P : List Entry → Type 0) (entry : Entry) (answer : Result Bool Reason) → (answer ≡ Ok true → P (entry ∷ [])) → P [] → RowHas P (made_row entry answer)
made_row-has P entry (Ok true) h k = h refl
made_row-has P entry (Ok false) h k = k
made_row-has P entry (Err reason) h k = tt

pub unless_known_refused-has : (P : List Entry → Type 0) (o : Option Reason) (row : Row) → (o ≡ None → RowHas P row) → RowHas P (unless_refused o row)
unless_known_refused-has P None row h = h refl
unless_known_refused-has P (Some reason) row h = tt
