-- What the listing says of bindings.
use Rattle.std.specs.Prelude.{ℕ, List, [], ◌∷◌, ◌++◌, flat_map, codes}
use Rattle.field_tables.specs.Fields.{Pairs}
use Rattle.field_tables.specs.Tables.{pairs_spelling}
use Rattle.route_core.specs.declared.object.Sort.{Sort}
use Rattle.route_core.specs.declared.object.Sort.TheVariants.{Queue, Exchange}
use Rattle.route_core.specs.declared.binding.Binding.{Binding}
use Rattle.fed_journal.specs.declared.place.Place.{Place}
use Rattle.fed_journal.specs.declared.entry.Entry.{Entry}
use Rattle.fed_journal.specs.Routes.{site}
use Rattle.fed_journal.specs.Words.{word, place_word, hex_octet}

abbrev pub sort_word : Sort → List ℕ
sort_word Queue = codes "queue"
sort_word Exchange = codes "exchange"

-- octets in hexadecimal; none are `-`
abbrev pub octets_word : List ℕ → List ℕ
octets_word [] = codes "-"
octets_word (b ∷ bs) = flat_map hex_octet (b ∷ bs)

-- the arguments as they are spelled on the wire, without their number (AMQP 0-9-1, 4.2.5.5 "Field Tables")
abbrev pub arguments_word : Pairs → List ℕ
arguments_word args = octets_word (pairs_spelling args)

-- a binding's place, its source and what it leads to, its routing key and arguments (AMQP 0-9-1, queue.bind)
unfoldable pub binding_line : Place → Binding → List ℕ
binding_line p b =
    codes "binding " ++ place_word p ++ codes " " ++ word b.source ++ codes " " ++ sort_word b.sort ++ codes " " ++ word b.dest
    ++ codes " " ++ word b.key ++ codes " " ++ arguments_word b.args ++ codes "\n"

-- the lines of a place's bindings, in the order of binding
unfoldable pub binding_lines : List Entry → Place → List ℕ
binding_lines J p = flat_map (binding_line p) (site J p).routing.bindings
