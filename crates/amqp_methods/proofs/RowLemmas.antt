-- What holds of every row of the table of methods.
use Rattle.std.proofs.Common.{◌≡◌, ℕ, ◌≤◌, Bool, true, false, cond, eqb, ◌&&◌, ◌⊎◌, inl, inr, List, [], ◌∷◌, Some, refl, subst, arith}
use Rattle.std.specs.List.{AllByRecursion, list_all}
use Rattle.std.proofs.Math.Dec.{leb}
use Rattle.std.proofs.lemmas.Bool.{leb-true, eqb-true}
use Rattle.amqp_methods.specs.Arguments.{Kind, Octet, Short, Long, LongLong, ShortString, LongString, Table, Bits, ReservedShort, ReservedShortString, ReservedLongString, ReservedBit}
use Rattle.amqp_methods.specs.Rows.{kinds_in, kinds_of, class_rows, connection_rows, channel_rows, exchange_rows, queue_rows, basic_rows, confirm_rows, tx_rows}
use Rattle.amqp_methods.proofs.ArgumentLemmas.{SharesOctet}

chosen : {A : Type 0} (b : Bool) (x y z : A) → cond b x y ≡ z → ((b ≡ true) × (x ≡ z)) ⊎ ((b ≡ false) × (y ≡ z))
chosen true x y z e = inl (refl, e)
chosen false x y z e = inr (refl, e)

and_true : (a b : Bool) → (a && b) ≡ true → (a ≡ true) × (b ≡ true)
and_true true b e = (refl, e)
and_true false b e = absurd cc

some_is : (x y : List Kind) → Some x ≡ Some y → x ≡ y
some_is x y e = cc

-- ---- the tests

abbrev shares_octet : Kind → Bool
shares_octet (Bits n) = leb n 8
shares_octet _ = true

abbrev row_fits : ℕ × List Kind → Bool
row_fits row = leb row.0 255 && list_all shares_octet row.1

-- ---- what they say

SharesOctet-from_test : (kind : Kind) → shares_octet kind ≡ true → SharesOctet kind
SharesOctet-from_test Octet e = tt
SharesOctet-from_test Short e = tt
SharesOctet-from_test Long e = tt
SharesOctet-from_test LongLong e = tt
SharesOctet-from_test ShortString e = tt
SharesOctet-from_test LongString e = tt
SharesOctet-from_test Table e = tt
SharesOctet-from_test (Bits n) e = leb-true n 8 e
SharesOctet-from_test ReservedShort e = tt
SharesOctet-from_test ReservedShortString e = tt
SharesOctet-from_test ReservedLongString e = tt
SharesOctet-from_test ReservedBit e = tt

all_share : (kinds : List Kind) → list_all shares_octet kinds ≡ true → AllByRecursion SharesOctet kinds
all_share [] e = tt
all_share (kind ∷ kinds) e =
    let both = and_true (shares_octet kind) (list_all shares_octet kinds) e in
    (SharesOctet-from_test kind both.0, all_share kinds both.1)

row_in : (rows : List (ℕ × List Kind)) (id : ℕ) (kinds : List Kind) → list_all row_fits rows ≡ true → kinds_in rows id ≡ Some kinds → (id ≤ 255) × AllByRecursion SharesOctet kinds
row_in [] id kinds fit e = absurd cc
row_in (row ∷ rows) id kinds fit e =
    let both = and_true (row_fits row) (list_all row_fits rows) fit in
    let this = and_true (leb row.0 255) (list_all shares_octet row.1) both.0 in
    elim (chosen (eqb id row.0) (Some row.1) (kinds_in rows id) (Some kinds) e) [
      | inl found ↦ (omega (arith, leb-true row.0 255 this.0, eqb-true id row.0 found.0), subst (AllByRecursion SharesOctet) (some_is row.1 kinds found.1) (all_share row.1 this.1))
      | inr other ↦ row_in rows id kinds both.1 other.1
    ]

-- ---- the classes

record ClassFits (class : ℕ) (rows : List (ℕ × List Kind)) : Type 0 where
  each : list_all row_fits rows ≡ true
  below : (id : ℕ) (kinds : List Kind) → kinds_in rows id ≡ Some kinds → class ≤ 255

class_cases : (b : Bool) (class n : ℕ) (rows others : List (ℕ × List Kind)) → n ≤ 255 → list_all row_fits rows ≡ true → ClassFits class others → (b ≡ true → class ≡ n) → ClassFits class (cond b rows others)
class_cases true class n rows others below each rest is = record { each = each; below = λ id kinds e. omega (arith, is refl) }
class_cases false class n rows others below each rest is = rest

class_or : (class n : ℕ) (rows others : List (ℕ × List Kind)) → n ≤ 255 → list_all row_fits rows ≡ true → ClassFits class others → ClassFits class (cond (eqb class n) rows others)
class_or class n rows others below each rest = class_cases (eqb class n) class n rows others below each rest (eqb-true class n)

no_rows : (class : ℕ) → ClassFits class []
no_rows class = record { each = refl; below = λ id kinds e. absurd cc }

class_fits : (class : ℕ) → ClassFits class (class_rows class)
class_fits class =
    class_or class 10 connection_rows _ (omega arith) refl
    (class_or class 20 channel_rows _ (omega arith) refl
    (class_or class 40 exchange_rows _ (omega arith) refl
    (class_or class 50 queue_rows _ (omega arith) refl
    (class_or class 60 basic_rows _ (omega arith) refl
    (class_or class 85 confirm_rows _ (omega arith) refl
    (class_or class 90 tx_rows _ (omega arith) refl (no_rows class)))))))

-- what holds of a row
pub record RowFits (class id : ℕ) (kinds : List Kind) : Type 0 where
  pub class_below : class ≤ 255
  pub id_below : id ≤ 255
  pub share : AllByRecursion SharesOctet kinds

pub rows_fit : (class id : ℕ) (kinds : List Kind) → kinds_of class id ≡ Some kinds → RowFits class id kinds
unfolding kinds_of
rows_fit class id kinds e =
    let fits = class_fits class in
    let row = row_in (class_rows class) id kinds fits.each e in
    record { class_below = fits.below id kinds e; id_below = row.0; share = row.1 }
