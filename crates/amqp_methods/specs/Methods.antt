-- What a method's payload is: the class and id of its row, and a spelling of each argument.
-- AMQP 0-9-1, 2.3.5.1 "Method Frames" and 4.2.4 "Method Payloads".
use Rattle.std.specs.Prelude.{ℕ, ◌≡◌, List, ◌++◌, map, Some}
use Rattle.std.specs.List.{AllByRecursion}
use Rattle.std.specs.Int.{w16, to_be_bytes}
use Rattle.amqp_methods.specs.Arguments.{Argument, kind_of, HasSpelling, SpellAll, arguments_spelling}
use Rattle.amqp_methods.specs.Rows.{kinds_of}

-- A method: its class and id, and its arguments in their order.
pub record Call : Type 0 where
  pub class : ℕ
  pub id : ℕ
  pub arguments : List Argument

abbrev pub call : ℕ → ℕ → List Argument → Call
call class id arguments = record { class = class; id = id; arguments = arguments }

-- Each argument of the method has a spelling.
abbrev pub FitArguments : Call → Type 0
FitArguments call = AllByRecursion HasSpelling call.arguments

-- A method of the table of methods: its arguments have the kinds of its row, and each of them has a spelling.
pub record IsCall (call : Call) : Type 0 where
  pub row : kinds_of call.class call.id ≡ Some (map kind_of call.arguments)
  pub arguments : FitArguments call

-- the class and the id
abbrev pub head_spelling : Call → List ℕ
head_spelling call = to_be_bytes w16 call.class ++ to_be_bytes w16 call.id

-- A payload spells the method: its class and id, a spelling of each argument, and nothing after them.
abbrev pub SpellsCall : Call → List ℕ → Type 0
SpellsCall call payload = (bytes : List ℕ) × (payload ≡ head_spelling call ++ bytes) × SpellAll call.arguments bytes

-- the payload that is written
abbrev pub call_spelling : Call → List ℕ
call_spelling call = head_spelling call ++ arguments_spelling call.arguments
