-- A method that is read is one that the payload spells, and a payload that spells a method is read as that method.
use Rattle.std.proofs.Common.{◌≡◌, ℕ, ◌+◌, ◌^◌, ◌<◌, List, [], ◌∷◌, ◌++◌, Option, Some, None, Result, Ok, Err, refl, sym, ap, subst, ◌∙◌, append_assoc, arith}
use Rattle.std.specs.Prelude.{map, IfOk}
use Rattle.std.specs.List.{AllByRecursion}
use Rattle.std.specs.Int.{w16, to_be_bytes}
use Rattle.std.proofs.lemmas.List.Concat.{flat_map-cons}
use Rattle.std.proofs.lemmas.Str.{IsUtf8-nil}
use Rattle.field_tables.specs.Reading.{number_at}
use Rattle.field_tables.proofs.Octets.{IsBytes, number_reads, wide16}
use Rattle.amqp_methods.specs.Arguments.{Kind, Argument, octet, short, long, longlong, short_string, long_string, table, bits, reserved_short, reserved_short_string, reserved_long_string, reserved_bit, kind_of, HasSpelling, Spells, SpellAll, written, bits_octet, arguments_spelling}
use Rattle.amqp_methods.specs.Rows.{kinds_of}
use Rattle.amqp_methods.specs.Methods.{Call, IsCall, SpellsCall, call_spelling}
use Rattle.amqp_methods.specs.View.{call_of}
use Rattle.amqp_methods.specs.declared.method.Method.{Method}
use Rattle.amqp_methods.specs.Reading.{◌>>=◌, Gives, otherwise, places, argument_at, end_at, arguments_at, row_at, call_at, copies}
use Rattle.amqp_methods.specs.declared.fault.MethodFault.{MethodFault}
use Rattle.amqp_methods.specs.declared.fault.MethodFault.TheVariants as faults
use Rattle.amqp_methods.proofs.BitLemmas.{bits_back, bits_octet-fits}
use Rattle.amqp_methods.proofs.RowLemmas.{rows_fit}
use Rattle.amqp_methods.proofs.ArgumentLemmas.{bind_ok, ok_is, otherwise_ok, SharesOctet, argument_takes, argument_again}

-- arguments that were read from all of the octets
pub record AreArguments (kinds : List Kind) (bytes : List ℕ) (xs : List Argument) : Type 0 where
  pub spell : SpellAll xs bytes
  pub kinds_are : map kind_of xs ≡ kinds
  pub fit : AllByRecursion HasSpelling xs

arguments_end : (bytes : List ℕ) (xs : List Argument) → end_at bytes ≡ Ok xs → AreArguments [] bytes xs
unfolding end_at
arguments_end [] xs e = subst (AreArguments [] []) (ok_is [] xs e) (record { spell = refl; kinds_are = refl; fit = tt })
arguments_end (b ∷ bytes) xs e = absurd cc

arguments_take : (kinds : List Kind) (i : ℕ) (bytes : List ℕ) (xs : List Argument) → AllByRecursion SharesOctet kinds → IsBytes bytes → arguments_at kinds i bytes ≡ Ok xs → AreArguments kinds bytes xs
arguments_take [] i bytes xs share are e = arguments_end bytes xs e
arguments_take (kind ∷ kinds) i bytes xs share are e =
    let a = bind_ok (argument_at kind i bytes) (λ x. arguments_at kinds (i + places kind) x.1 >>= λ ys. Ok (x.0 ∷ ys)) xs e in
    let b = bind_ok (arguments_at kinds (i + places kind) a.0.1) (λ ys. Ok (a.0.0 ∷ ys)) xs a.2 in
    let one = argument_takes kind share.0 i bytes a.0 are a.1 in
    let others = arguments_take kinds (i + places kind) a.0.1 b.0 share.1 one.rest_fits b.1 in
    subst (AreArguments (kind ∷ kinds) bytes) (ok_is (a.0.0 ∷ b.0) xs b.2) (record {
      spell = (one.front, a.0.1, one.parts, one.spells, others.spell);
      kinds_are = rw (one.kind_is, others.kinds_are) refl;
      fit = (one.fits, others.fit);
    })

arguments_again : (xs : List Argument) (i : ℕ) (bytes : List ℕ) → AllByRecursion HasSpelling xs → SpellAll xs bytes → arguments_at (map kind_of xs) i bytes ≡ Ok xs
unfolding end_at
arguments_again [] i bytes fit e = rw e refl
arguments_again (x ∷ xs) i bytes fit (front, rest, parts, spells, others) =
    rw (parts, argument_again x i front rest fit.0 spells, arguments_again xs (i + places (kind_of x)) rest fit.1 others) refl

-- ---- methods

row_takes : (class id : ℕ) (found : Option (List Kind)) (bytes : List ℕ) (call : Call) → ((kinds : List Kind) → found ≡ Some kinds → AllByRecursion SharesOctet kinds) → IsBytes bytes → row_at class id found bytes ≡ Ok call
    → (kinds : List Kind) × (found ≡ Some kinds) × (call.class ≡ class) × (call.id ≡ id) × AreArguments kinds bytes call.arguments
row_takes class id None bytes call share are e = absurd cc
row_takes class id (Some kinds) bytes call share are e =
    let a = bind_ok (arguments_at kinds 0 bytes) (λ xs. Ok (record { class = class; id = id; arguments = xs })) call e in
    let t = arguments_take kinds 0 bytes a.0 (share kinds refl) are a.1 in
    let P : Call → Type 0 = λ c. (ks : List Kind) × (Some kinds ≡ Some ks) × (c.class ≡ class) × (c.id ≡ id) × AreArguments ks bytes c.arguments in
    subst P (ok_is (record { class = class; id = id; arguments = a.0 }) call a.2) (kinds, refl, refl, refl, t)

-- what was read
pub record IsRead (payload : List ℕ) (call : Call) : Type 0 where
  pub is : IsCall call
  pub spells : SpellsCall call payload

read_is : (payload : List ℕ) (call : Call) (class id : ℕ) (bytes : List ℕ) (kinds : List Kind) → payload ≡ (to_be_bytes w16 class ++ to_be_bytes w16 id) ++ bytes → kinds_of class id ≡ Some kinds
    → call.class ≡ class → call.id ≡ id → AreArguments kinds bytes call.arguments → IsRead payload call
read_is payload call class id bytes kinds parts row class_is id_is args = record {
  is = record { row = rw (class_is, id_is, args.kinds_are) row; arguments = args.fit };
  spells = (bytes, rw (class_is, id_is) parts, args.spell);
}

pub call_takes : (payload : List ℕ) (call : Call) → IsBytes payload → call_at payload ≡ Ok call → IsRead payload call
unfolding call_at
call_takes payload call are e =
    let a = bind_ok (otherwise faults.Short (number_at w16 payload)) (λ class. otherwise faults.Short (number_at w16 class.1) >>= λ id. row_at class.0 id.0 (kinds_of class.0 id.0) id.1) call e in
    let b = bind_ok (otherwise faults.Short (number_at w16 a.0.1)) (λ id. row_at a.0.0 id.0 (kinds_of a.0.0 id.0) id.1) call a.2 in
    let t = (number_reads w16 (2 ^ 16) wide16).takes payload a.0 are (otherwise_ok _ (number_at w16 payload) a.0 a.1) in
    let u = (number_reads w16 (2 ^ 16) wide16).takes a.0.1 b.0 t.0.rest_fits (otherwise_ok _ (number_at w16 a.0.1) b.0 b.1) in
    let r = row_takes a.0.0 b.0.0 (kinds_of a.0.0 b.0.0) b.0.1 call (λ kinds row. (rows_fit a.0.0 b.0.0 kinds row).share) u.0.rest_fits b.2 in
    let whole : payload ≡ (to_be_bytes w16 a.0.0 ++ to_be_bytes w16 b.0.0) ++ b.0.1 = t.0.parts ∙ ap (λ (x : List ℕ). to_be_bytes w16 a.0.0 ++ x) u.0.parts ∙ sym (append_assoc (to_be_bytes w16 a.0.0) (to_be_bytes w16 b.0.0) b.0.1) in
    read_is payload call a.0.0 b.0.0 b.0.1 r.0 whole r.1 r.2 r.3 r.4

pub call_again : (call : Call) (payload : List ℕ) → IsCall call → SpellsCall call payload → call_at payload ≡ Ok call
unfolding call_at
call_again call payload is (bytes, parts, spell) =
    let row = rows_fit call.class call.id (map kind_of call.arguments) is.row in
    let class_fits : call.class < 2 ^ 16 = omega (arith, row.class_below) in
    let id_fits : call.id < 2 ^ 16 = omega (arith, row.id_below) in
    let whole : payload ≡ to_be_bytes w16 call.class ++ (to_be_bytes w16 call.id ++ bytes) = parts ∙ append_assoc (to_be_bytes w16 call.class) (to_be_bytes w16 call.id) bytes in
    rw (whole, (number_reads w16 (2 ^ 16) wide16).again call.class (to_be_bytes w16 call.id ++ bytes) class_fits, (number_reads w16 (2 ^ 16) wide16).again call.id bytes id_fits, is.row, arguments_again call.arguments 0 bytes is.arguments spell) refl

-- ---- what is written

written_spells : (a : Argument) → HasSpelling a → Spells a (written a)
written_spells (octet n) fits = refl
written_spells (short n) fits = refl
written_spells (long n) fits = refl
written_spells (longlong n) fits = refl
written_spells (short_string text) fits = refl
written_spells (long_string text) fits = refl
written_spells (table ps) fits = refl
written_spells (bits bs) fits = (bits_octet bs, bits_octet-fits bs fits, bits_back bs, refl)
written_spells reserved_short fits = (0, omega arith, refl)
written_spells reserved_short_string fits = ([], record { text = IsUtf8-nil; fits = omega arith }, refl)
written_spells reserved_long_string fits = ([], omega arith, refl)
written_spells reserved_bit fits = (0, omega arith, refl)

written_spell_all : (xs : List Argument) → AllByRecursion HasSpelling xs → SpellAll xs (arguments_spelling xs)
written_spell_all [] fit = refl
written_spell_all (x ∷ xs) fit = (written x, arguments_spelling xs, flat_map-cons written x xs, written_spells x fit.0, written_spell_all xs fit.1)

pub written_spells_call : (call : Call) → IsCall call → SpellsCall call (call_spelling call)
written_spells_call call is = (arguments_spelling call.arguments, refl, written_spell_all call.arguments is.arguments)

-- ---- as the clauses say it

pub is_found : (payload : List ℕ) (r : Result Method MethodFault) → IsBytes payload → Gives (copies payload) call_of r (call_at payload) → IfOk r (λ m. IsCall (call_of m) × SpellsCall (call_of m) payload)
is_found payload (Ok m) are given =
    let t = call_takes payload (call_of m) are given in
    (t.is, t.spells)
is_found payload (Err e) are given = tt
