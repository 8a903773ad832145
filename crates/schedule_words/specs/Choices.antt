-- Fixed words that are one of several.
use Rattle.std.specs.Prelude.{ℕ, List, Option, Some, None, if◌then◌else◌, codes}
use Rattle.amqp_props.specs.declared.link.ExchangeKind.{ExchangeKind}
use Rattle.amqp_props.specs.declared.link.ExchangeKind.TheVariants.{Direct, Fanout, Headers, Topic}
use Rattle.route_core.specs.declared.object.Sort.{Sort}
use Rattle.route_core.specs.declared.object.Sort.TheVariants as sorts
use Rattle.fed_journal.specs.Names.{same_text}

-- the type of an exchange (AMQP 0-9-1, 3.1.3 "Exchange Types")
unfoldable pub exchange_kind_of : List ℕ → Option ExchangeKind
exchange_kind_of w =
    if same_text w (codes "direct") then Some Direct else
    if same_text w (codes "fanout") then Some Fanout else
    if same_text w (codes "headers") then Some Headers else
    if same_text w (codes "topic") then Some Topic else None

-- what a binding leads to (AMQP 0-9-1, queue.bind; RabbitMQ, Exchange to Exchange Bindings)
unfoldable pub sort_of : List ℕ → Option Sort
sort_of w =
    if same_text w (codes "queue") then Some sorts.Queue else
    if same_text w (codes "exchange") then Some sorts.Exchange else None
