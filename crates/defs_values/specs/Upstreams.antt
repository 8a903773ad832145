-- What an upstream is: RabbitMQ's "Federation Reference", "Upstream Parameters". A key that isn't there has no value; its
-- default is that of the links.
use Rattle.std.specs.Prelude.{ℕ, [], ◌∷◌, codes, Option}
use Rattle.serde_json.specs.Data.{Data}
use Rattle.serde_json.specs.Find.{as_str}
use Rattle.defs_values.specs.declared.fault.KeyFault.{KeyFault}
use Rattle.fed_defs.specs.declared.upstream.Overrides.{Overrides}
use Rattle.fed_defs.specs.declared.upstream.UpstreamDef.{UpstreamDef}
use Rattle.defs_values.specs.Keys.{value_at, optional_fault, required_within, first_fault}
use Rattle.defs_values.specs.Values.{mode_at, mode_refusal, number_in, number_refusal, name_refusal}
use Rattle.defs_values.specs.Uris.{uris_at, uris_fault}

-- the greatest values of the keys that are numbers
abbrev pub most_prefetch : ℕ
most_prefetch = 65535

abbrev pub most_delay : ℕ
most_delay = 1000000

abbrev pub most_hops : ℕ
most_hops = 2147483647

-- what an upstream says beside its URIs, and what the member of a set says beside its upstream
unfoldable pub overrides_of : Data → Overrides
overrides_of d = record {
  mode = value_at mode_at (codes "ack-mode") d;
  prefetch = value_at (number_in 0 most_prefetch) (codes "prefetch-count") d;
  delay = value_at (number_in 0 most_delay) (codes "reconnect-delay") d;
  max_hops = value_at (number_in 1 most_hops) (codes "max-hops") d;
  exchange = value_at as_str (codes "exchange") d;
  queue = value_at as_str (codes "queue") d;
}

-- the first refused key, in the order of the keys' octets: to `max-hops`, and from `prefetch-count` on
unfoldable pub first_half : Data → Option KeyFault
first_half d = first_fault (
    optional_fault mode_refusal (codes "ack-mode") d
    ∷ optional_fault name_refusal (codes "exchange") d
    ∷ optional_fault (number_refusal 1 most_hops) (codes "max-hops") d
    ∷ [])

unfoldable pub second_half : Data → Option KeyFault
second_half d = first_fault (
    optional_fault (number_refusal 0 most_prefetch) (codes "prefetch-count") d
    ∷ optional_fault name_refusal (codes "queue") d
    ∷ optional_fault (number_refusal 0 most_delay) (codes "reconnect-delay") d
    ∷ [])

unfoldable pub overrides_fault : Data → Option KeyFault
overrides_fault d = first_fault (first_half d ∷ second_half d ∷ [])

-- an upstream: its URIs, which have to be there, and the rest
unfoldable pub upstream_of : Data → UpstreamDef
upstream_of d = record { uris = uris_at (codes "uri") d; own = overrides_of d }

unfoldable pub upstream_fault : Data → Option KeyFault
upstream_fault d = first_fault (overrides_fault d ∷ required_within uris_fault (codes "uri") d ∷ [])
