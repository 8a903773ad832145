-- An argument that is read is one that its octets spell, and what spells an argument is read again.
use Rattle.std.proofs.Common.{◌≡◌, ℕ, ◌^◌, ◌≤◌, List, ◌++◌, length, drop, Result, Ok, Err, refl, sym, ap, subst, ◌∙◌, arith}
use Rattle.std.specs.Int.{w16, w32, w64}
use Rattle.std.proofs.lemmas.List.{drop_at}
use Rattle.field_tables.specs.Fields.{Pairs}
use Rattle.field_tables.specs.Tables.{table_spelling}
use Rattle.field_tables.specs.Reading.{octet_at, number_at, counted_at, name_at, table_at}
use Rattle.field_tables.specs.declared.fault.TableFault.{TableFault}
use Rattle.field_tables.proofs.Octets.{IsBytes, Reads, octet_reads, number_reads, counted_reads, name_reads, counted_text, wide16, wide32, wide64}
use Rattle.field_tables.proofs.Values.{table_takes, table_again}
use Rattle.amqp_methods.specs.Arguments.{Kind, Octet, Short, Long, LongLong, ShortString, LongString, Table, Bits, ReservedShort, ReservedShortString, ReservedLongString, ReservedBit, Argument, octet, short, long, longlong, short_string, long_string, table, bits, reserved_short, reserved_short_string, reserved_long_string, reserved_bit, kind_of, bits_from, HasSpelling, Spells}
use Rattle.amqp_methods.specs.Reading.{◌>>=◌, otherwise, in_place, as_argument, rest_after, argument_at}
use Rattle.amqp_methods.specs.declared.fault.MethodFault.{MethodFault}
use Rattle.amqp_methods.proofs.BitLemmas.{length-bits_from}

-- the value of a step that did not fail
pub bind_ok : {A B : Type 0} (r : Result A MethodFault) (f : A → Result B MethodFault) (y : B) → (r >>= f) ≡ Ok y → (x : A) × (r ≡ Ok x) × (f x ≡ Ok y)
bind_ok (Ok x) f y e = (x, refl, e)
bind_ok (Err d) f y e = absurd cc

abbrev done : {A : Type 0} → A → Result A MethodFault
done x = Ok x

pub ok_is : {A : Type 0} (x y : A) → done x ≡ done y → x ≡ y
ok_is x y e = cc

pub otherwise_ok : {A : Type 0} (fault : MethodFault) (r : Result A TableFault) (y : A) → otherwise fault r ≡ Ok y → r ≡ Ok y
otherwise_ok fault (Ok x) y e = ap Ok (ok_is x y e)
otherwise_ok fault (Err d) y e = absurd cc

-- an argument that was read, and the octets after it
pub record IsArgument (kind : Kind) (bytes : List ℕ) (x : Argument × List ℕ) : Type 0 where
  pub front : List ℕ
  pub parts : bytes ≡ front ++ x.1
  pub spells : Spells x.0 front
  pub kind_is : kind_of x.0 ≡ kind
  pub fits : HasSpelling x.0
  pub rest_fits : IsBytes x.1

-- at most eight bits share an octet
abbrev pub SharesOctet : Kind → Type 0
SharesOctet (Bits n) = n ≤ 8
SharesOctet _ = Unit {0}

-- What a reader of values reads, as an argument.
record IsView {A : Type 0} (fits : A → Type 0) (spelling : A → List ℕ) (f : A → Argument) (kind : Kind) : Type 0 where
  spells : (a : A) → fits a → Spells (f a) (spelling a)
  has : (a : A) → fits a → HasSpelling (f a)
  kind_is : (a : A) → kind_of (f a) ≡ kind

value_takes : {A : Type 0} (fits : A → Type 0) (spelling : A → List ℕ) (read : List ℕ → Result (A × List ℕ) TableFault) → Reads fits spelling read → (f : A → Argument) (kind : Kind) → IsView fits spelling f kind
    → (i : ℕ) (bytes : List ℕ) (x : Argument × List ℕ) → IsBytes bytes → as_argument f (in_place i (read bytes)) ≡ Ok x → IsArgument kind bytes x
value_takes fits spelling read reads f kind is i bytes x are e =
    let a = bind_ok (in_place i (read bytes)) (λ y. Ok (f y.0, y.1)) x e in
    let t = reads.takes bytes a.0 are (otherwise_ok _ (read bytes) a.0 a.1) in
    subst (IsArgument kind bytes) (ok_is (f a.0.0, a.0.1) x a.2) (record {
      front = spelling a.0.0;
      parts = t.0.parts;
      spells = is.spells a.0.0 t.1;
      kind_is = is.kind_is a.0.0;
      fits = is.has a.0.0 t.1;
      rest_fits = t.0.rest_fits;
    })

table_argument : (i : ℕ) (bytes : List ℕ) (x : Argument × List ℕ) → IsBytes bytes → argument_at Table i bytes ≡ Ok x → IsArgument Table bytes x
table_argument i bytes x are e =
    let a = bind_ok (rest_after bytes (in_place i (table_at bytes))) (λ y. Ok (table y.0, y.1)) x e in
    let b = bind_ok (in_place i (table_at bytes)) (λ y. Ok (y.0, drop y.1 bytes)) a.0 a.1 in
    let t = table_takes bytes b.0 are (otherwise_ok _ (table_at bytes) b.0 b.1) in
    let rest : drop b.0.1 bytes ≡ t.parts.0 = ap (drop b.0.1) t.parts.1 ∙ drop_at (table_spelling b.0.0) t.parts.0 b.0.1 (sym t.len) in
    let after : a.0 ≡ (b.0.0, t.parts.0) = sym (ok_is (b.0.0, drop b.0.1 bytes) a.0 b.2) ∙ ap (λ (r : List ℕ). (b.0.0, r)) rest in
    let is : (table b.0.0, t.parts.0) ≡ x = ap (λ (y : Pairs × List ℕ). (table y.0, y.1)) (sym after) ∙ ok_is (table a.0.0, a.0.1) x a.2 in
    subst (IsArgument Table bytes) is (record {
      front = table_spelling b.0.0;
      parts = t.parts.1;
      spells = refl;
      kind_is = refl;
      fits = t.table;
      rest_fits = counted_text t.parts.0 (table_spelling b.0.0) (subst IsBytes t.parts.1 are);
    })

pub argument_takes : (kind : Kind) → SharesOctet kind → (i : ℕ) (bytes : List ℕ) (x : Argument × List ℕ) → IsBytes bytes → argument_at kind i bytes ≡ Ok x → IsArgument kind bytes x
argument_takes Octet shares = value_takes _ _ octet_at octet_reads octet Octet (record { spells = λ a h. refl; has = λ a h. h; kind_is = λ a. refl })
argument_takes Short shares = value_takes _ _ (number_at w16) (number_reads w16 (2 ^ 16) wide16) short Short (record { spells = λ a h. refl; has = λ a h. h; kind_is = λ a. refl })
argument_takes Long shares = value_takes _ _ (number_at w32) (number_reads w32 (2 ^ 32) wide32) long Long (record { spells = λ a h. refl; has = λ a h. h; kind_is = λ a. refl })
argument_takes LongLong shares = value_takes _ _ (number_at w64) (number_reads w64 (2 ^ 64) wide64) longlong LongLong (record { spells = λ a h. refl; has = λ a h. h; kind_is = λ a. refl })
argument_takes ShortString shares = value_takes _ _ name_at name_reads short_string ShortString (record { spells = λ a h. refl; has = λ a h. h; kind_is = λ a. refl })
argument_takes LongString shares = value_takes _ _ counted_at counted_reads long_string LongString (record { spells = λ a h. refl; has = λ a h. h; kind_is = λ a. refl })
argument_takes Table shares = table_argument
argument_takes (Bits n) shares = value_takes _ _ octet_at octet_reads (λ shared. bits (bits_from 0 n shared)) (Bits n) (record {
  spells = λ a h. (a, h, ap (λ (m : ℕ). bits_from 0 m a) (length-bits_from 0 n a), refl);
  has = λ a h. omega (arith, length-bits_from 0 n a, shares);
  kind_is = λ a. ap Bits (length-bits_from 0 n a);
})
argument_takes ReservedShort shares = value_takes _ _ (number_at w16) (number_reads w16 (2 ^ 16) wide16) (λ _. reserved_short) ReservedShort (record { spells = λ a h. (a, h, refl); has = λ a h. tt; kind_is = λ a. refl })
argument_takes ReservedShortString shares = value_takes _ _ name_at name_reads (λ _. reserved_short_string) ReservedShortString (record { spells = λ a h. (a, h, refl); has = λ a h. tt; kind_is = λ a. refl })
argument_takes ReservedLongString shares = value_takes _ _ counted_at counted_reads (λ _. reserved_long_string) ReservedLongString (record { spells = λ a h. (a, h, refl); has = λ a h. tt; kind_is = λ a. refl })
argument_takes ReservedBit shares = value_takes _ _ octet_at octet_reads (λ _. reserved_bit) ReservedBit (record { spells = λ a h. (a, h, refl); has = λ a h. tt; kind_is = λ a. refl })

-- the argument, and the octets after it
pub argument_again : (a : Argument) (i : ℕ) (front rest : List ℕ) → HasSpelling a → Spells a front → argument_at (kind_of a) i (front ++ rest) ≡ Ok (a, rest)
argument_again (octet n) i front rest fits e = rw (e, octet_reads.again n rest fits) refl
argument_again (short n) i front rest fits e = rw (e, (number_reads w16 (2 ^ 16) wide16).again n rest fits) refl
argument_again (long n) i front rest fits e = rw (e, (number_reads w32 (2 ^ 32) wide32).again n rest fits) refl
argument_again (longlong n) i front rest fits e = rw (e, (number_reads w64 (2 ^ 64) wide64).again n rest fits) refl
argument_again (short_string text) i front rest fits e = rw (e, name_reads.again text rest fits) refl
argument_again (long_string text) i front rest fits e = rw (e, counted_reads.again text rest fits) refl
argument_again (table ps) i front rest fits e = rw (e, table_again ps rest fits, drop_at (table_spelling ps) rest (length (table_spelling ps)) refl) refl
argument_again (bits bs) i front rest fits (shared, below, same, e) = rw (e, octet_reads.again shared rest below, same) refl
argument_again reserved_short i front rest fits (n, below, e) = rw (e, (number_reads w16 (2 ^ 16) wide16).again n rest below) refl
argument_again reserved_short_string i front rest fits (text, is, e) = rw (e, name_reads.again text rest is) refl
argument_again reserved_long_string i front rest fits (text, is, e) = rw (e, counted_reads.again text rest is) refl
argument_again reserved_bit i front rest fits (shared, below, e) = rw (e, octet_reads.again shared rest below) refl
