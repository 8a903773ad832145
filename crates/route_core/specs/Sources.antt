-- The bindings by the exchange that they leave (AMQP 0-9-1, 3.1.4 "The Binding").
use Rattle.std.specs.Prelude.{ℕ, List, map}
use Rattle.route_core.specs.declared.binding.Binding.{Binding}
use Rattle.route_core.specs.Chains.{code_from}

-- the code of an exchange's name
abbrev pub source_code : List ℕ → ℕ
source_code name = code_from 0 name

abbrev pub source_codes : List Binding → List ℕ
source_codes bindings = map (λ b. source_code b.source) bindings
