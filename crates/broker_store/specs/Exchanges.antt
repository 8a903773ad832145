-- The exchanges of a virtual host under their names (AMQP 0-9-1, 3.1.3 "Exchange Types").
use Rattle.std.specs.Prelude.{ℕ, List, Option}
use Rattle.std.specs.Option.{option_or}
use Rattle.std.specs.Map.{lookup}
use Rattle.std.specs.Str.{bytes_eq}
use Rattle.client_rules.specs.declared.client.ExchangeShape.{ExchangeShape}
use Rattle.route_core.specs.Predeclared.{predeclared_shape}

abbrev pub NamedShape : Type 0
NamedShape = List ℕ × ExchangeShape

abbrev pub declared_shape : List ℕ → List NamedShape → Option ExchangeShape
declared_shape name exchanges = lookup (bytes_eq name) exchanges

-- what an exchange other than the default one was declared as (AMQP 0-9-1, exchange.declare)
abbrev pub shape_of : List ℕ → List NamedShape → Option ExchangeShape
shape_of name exchanges = option_or (declared_shape name exchanges) (predeclared_shape name)
