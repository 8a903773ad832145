-- The table of methods: the class and id of each, and the kinds of its arguments in their order.
-- AMQP 0-9-1, the class and method reference, with RabbitMQ's extensions (exchange.bind, exchange.unbind, internal
-- exchanges, basic.nack, connection.blocked, confirm).
use Rattle.std.specs.Prelude.{ℕ, zero, suc, List, [], ◌∷◌, ◌++◌, map, Option, Some, None, Bool, true, false, ◌==◌, if◌then◌else◌}
use Rattle.std.specs.List.{flat_map, list_any}
use Rattle.amqp_methods.specs.Arguments.{Kind, Octet, Short, Long, LongLong, ShortString, LongString, Table, Bits, ReservedShort, ReservedShortString, ReservedLongString, ReservedBit}

-- class 10, connection: start, start-ok, secure, secure-ok, tune, tune-ok, open, open-ok, close, close-ok, blocked, unblocked
abbrev pub connection_rows : List (ℕ × List Kind)
connection_rows =
    (10, Octet ∷ Octet ∷ Table ∷ LongString ∷ LongString ∷ [])
    ∷ (11, Table ∷ ShortString ∷ LongString ∷ ShortString ∷ [])
    ∷ (20, LongString ∷ [])
    ∷ (21, LongString ∷ [])
    ∷ (30, Short ∷ Long ∷ Short ∷ [])
    ∷ (31, Short ∷ Long ∷ Short ∷ [])
    ∷ (40, ShortString ∷ ReservedShortString ∷ ReservedBit ∷ [])
    ∷ (41, ReservedShortString ∷ [])
    ∷ (50, Short ∷ ShortString ∷ Short ∷ Short ∷ [])
    ∷ (51, [])
    ∷ (60, ShortString ∷ [])
    ∷ (61, [])
    ∷ []

-- class 20, channel: open, open-ok, flow, flow-ok, close, close-ok
abbrev pub channel_rows : List (ℕ × List Kind)
channel_rows =
    (10, ReservedShortString ∷ [])
    ∷ (11, ReservedLongString ∷ [])
    ∷ (20, Bits 1 ∷ [])
    ∷ (21, Bits 1 ∷ [])
    ∷ (40, Short ∷ ShortString ∷ Short ∷ Short ∷ [])
    ∷ (41, [])
    ∷ []

-- class 40, exchange: declare, declare-ok, delete, delete-ok, bind, bind-ok, unbind, unbind-ok
abbrev pub exchange_rows : List (ℕ × List Kind)
exchange_rows =
    (10, ReservedShort ∷ ShortString ∷ ShortString ∷ Bits 5 ∷ Table ∷ [])
    ∷ (11, [])
    ∷ (20, ReservedShort ∷ ShortString ∷ Bits 2 ∷ [])
    ∷ (21, [])
    ∷ (30, ReservedShort ∷ ShortString ∷ ShortString ∷ ShortString ∷ Bits 1 ∷ Table ∷ [])
    ∷ (31, [])
    ∷ (40, ReservedShort ∷ ShortString ∷ ShortString ∷ ShortString ∷ Bits 1 ∷ Table ∷ [])
    ∷ (51, [])
    ∷ []

-- class 50, queue: declare, declare-ok, bind, bind-ok, purge, purge-ok, delete, delete-ok, unbind, unbind-ok
abbrev pub queue_rows : List (ℕ × List Kind)
queue_rows =
    (10, ReservedShort ∷ ShortString ∷ Bits 5 ∷ Table ∷ [])
    ∷ (11, ShortString ∷ Long ∷ Long ∷ [])
    ∷ (20, ReservedShort ∷ ShortString ∷ ShortString ∷ ShortString ∷ Bits 1 ∷ Table ∷ [])
    ∷ (21, [])
    ∷ (30, ReservedShort ∷ ShortString ∷ Bits 1 ∷ [])
    ∷ (31, Long ∷ [])
    ∷ (40, ReservedShort ∷ ShortString ∷ Bits 3 ∷ [])
    ∷ (41, Long ∷ [])
    ∷ (50, ReservedShort ∷ ShortString ∷ ShortString ∷ ShortString ∷ Table ∷ [])
    ∷ (51, [])
    ∷ []

-- class 60, basic, the second part: deliver, get, get-ok, get-empty, ack, reject, recover-async, recover, recover-ok, nack
abbrev pub delivery_rows : List (ℕ × List Kind)
delivery_rows =
    (60, ShortString ∷ LongLong ∷ Bits 1 ∷ ShortString ∷ ShortString ∷ [])
    ∷ (70, ReservedShort ∷ ShortString ∷ Bits 1 ∷ [])
    ∷ (71, LongLong ∷ Bits 1 ∷ ShortString ∷ ShortString ∷ Long ∷ [])
    ∷ (72, ReservedShortString ∷ [])
    ∷ (80, LongLong ∷ Bits 1 ∷ [])
    ∷ (90, LongLong ∷ Bits 1 ∷ [])
    ∷ (100, Bits 1 ∷ [])
    ∷ (110, Bits 1 ∷ [])
    ∷ (111, [])
    ∷ (120, LongLong ∷ Bits 2 ∷ [])
    ∷ []

-- class 60, basic: qos, qos-ok, consume, consume-ok, cancel, cancel-ok, publish, return, and the second part
abbrev pub basic_rows : List (ℕ × List Kind)
basic_rows =
    (10, Long ∷ Short ∷ Bits 1 ∷ [])
    ∷ (11, [])
    ∷ (20, ReservedShort ∷ ShortString ∷ ShortString ∷ Bits 4 ∷ Table ∷ [])
    ∷ (21, ShortString ∷ [])
    ∷ (30, ShortString ∷ Bits 1 ∷ [])
    ∷ (31, ShortString ∷ [])
    ∷ (40, ReservedShort ∷ ShortString ∷ ShortString ∷ Bits 2 ∷ [])
    ∷ (50, Short ∷ ShortString ∷ ShortString ∷ ShortString ∷ [])
    ∷ delivery_rows

-- class 85, confirm: select, select-ok
abbrev pub confirm_rows : List (ℕ × List Kind)
confirm_rows =
    (10, Bits 1 ∷ [])
    ∷ (11, [])
    ∷ []

-- class 90, tx: select, select-ok, commit, commit-ok, rollback, rollback-ok
abbrev pub tx_rows : List (ℕ × List Kind)
tx_rows =
    (10, [])
    ∷ (11, [])
    ∷ (20, [])
    ∷ (21, [])
    ∷ (30, [])
    ∷ (31, [])
    ∷ []

-- the rows of a class
abbrev pub class_rows : ℕ → List (ℕ × List Kind)
class_rows class =
    if class == 10 then connection_rows
    else if class == 20 then channel_rows
    else if class == 40 then exchange_rows
    else if class == 50 then queue_rows
    else if class == 60 then basic_rows
    else if class == 85 then confirm_rows
    else if class == 90 then tx_rows
    else []

-- the kinds of the first row of that id
abbrev pub kinds_in : List (ℕ × List Kind) → ℕ → Option (List Kind)
kinds_in [] id = None
kinds_in (row ∷ rows) id = if id == row.0 then Some row.1 else kinds_in rows id

-- The kinds of the arguments of a method, if there is a method of that class and id.
unfoldable pub kinds_of : ℕ → ℕ → Option (List Kind)
kinds_of class id = kinds_in (class_rows class) id

-- Values of these kinds are copied: short strings, long strings and tables that are not reserved.
abbrev pub is_copied : Kind → Bool
is_copied ShortString = true
is_copied LongString = true
is_copied Table = true
is_copied _ = false

abbrev pub any_copied : Option (List Kind) → Bool
any_copied None = false
any_copied (Some kinds) = list_any is_copied kinds

-- The letter of a kind: o octet, s short, l long, L longlong, z short string, Z long string, T table, b for each bit.
abbrev pub bit_letters : ℕ → List ℕ
bit_letters zero = []
bit_letters (suc n) = 98 ∷ bit_letters n

abbrev pub letters : Kind → List ℕ
letters Octet = 111 ∷ []
letters Short = 115 ∷ []
letters Long = 108 ∷ []
letters LongLong = 76 ∷ []
letters ShortString = 122 ∷ []
letters LongString = 90 ∷ []
letters Table = 84 ∷ []
letters (Bits n) = bit_letters n
letters ReservedShort = 115 ∷ []
letters ReservedShortString = 122 ∷ []
letters ReservedLongString = 90 ∷ []
letters ReservedBit = 98 ∷ []

-- A row with its class, and the letters of its kinds.
pub record Named : Type 0 where
  pub class : ℕ
  pub id : ℕ
  pub letters : List ℕ

abbrev pub named : ℕ → ℕ × List Kind → Named
named class row = record { class = class; id = row.0; letters = flat_map letters row.1 }

-- every row, by class and id
abbrev pub all_rows : List Named
all_rows = map (named 10) connection_rows ++ map (named 20) channel_rows ++ map (named 40) exchange_rows ++ map (named 50) queue_rows ++ map (named 60) basic_rows ++ map (named 85) confirm_rows ++ map (named 90) tx_rows
