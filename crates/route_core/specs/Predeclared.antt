-- The exchanges with which a virtual host begins (AMQP 0-9-1, 3.1.3 "Exchange Types").
use Rattle.std.specs.Prelude.{ℕ, List, Option, Some, None, if◌then◌else◌, true, false, codes}
use Rattle.std.specs.Option.{option_map}
use Rattle.std.specs.Str.{bytes_eq}
use Rattle.amqp_props.specs.declared.link.ExchangeKind.{ExchangeKind}
use Rattle.amqp_props.specs.declared.link.ExchangeKind.TheVariants.{Direct, Fanout, Headers, Topic}
use Rattle.client_rules.specs.declared.client.ExchangeShape.{ExchangeShape}

-- their types (AMQP 0-9-1, 3.1.3: amq.direct and the others that the server pre-declares)
abbrev pub predeclared_kind : List ℕ → Option ExchangeKind
predeclared_kind name =
    if bytes_eq name (codes "amq.direct") then Some Direct else
    if bytes_eq name (codes "amq.fanout") then Some Fanout else
    if bytes_eq name (codes "amq.headers") then Some Headers else
    if bytes_eq name (codes "amq.match") then Some Headers else
    if bytes_eq name (codes "amq.topic") then Some Topic else None

-- they are durable, and clients can publish to them
abbrev pub predeclared_shape : List ℕ → Option ExchangeShape
predeclared_shape name = option_map (λ kind. record { kind = kind; durable = true; internal = false }) (predeclared_kind name)
