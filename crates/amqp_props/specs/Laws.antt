-- What the definition of content headers alone says.
use Rattle.std.specs.Prelude.{◌≡◌, ℕ}
use Rattle.amqp_props.specs.declared.properties.Properties.{Properties}
use Rattle.amqp_props.specs.ContentHeader.{header_spelling, IsHeader}

-- A payload is the content header of one size and of one list of properties at most.
abbrev pub HeadersAreOne : Type 0
HeadersAreOne = (m n : ℕ) (p q : Properties) → IsHeader m p → IsHeader n q → header_spelling m p ≡ header_spelling n q → (m ≡ n) × (p ≡ q)
