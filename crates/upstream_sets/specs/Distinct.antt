-- Names of links, which are their identities.
use Rattle.std.specs.Prelude.{◌≡◌, ◌≢◌, List, map, String, string_bytes}
use Rattle.amqp_props.specs.declared.link.LinkSpec.{LinkSpec}

-- the two links are two
abbrev pub HaveTwoNames : LinkSpec → LinkSpec → Type 0
HaveTwoNames one other = one.name ≢ other.name

-- each link stands under its name
abbrev pub AreUnderNames : {A : Type 0} → List (String A × LinkSpec) → Type 0
AreUnderNames entries = map (λ e. string_bytes e.0) entries ≡ map (λ e. e.1.name) entries
