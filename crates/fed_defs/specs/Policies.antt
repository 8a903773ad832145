-- Which policy of a configuration applies to an object: RabbitMQ's "Parameters and Policies", section "How Policies Work".
use Rattle.std.specs.Prelude.{ℕ, List, map, find, Option, option_and_then, slice_get}
use Rattle.amqp_props.specs.declared.link.Place.{Place}
use Rattle.policy_core.specs.Policies.{Policy, chosen}
use Rattle.policy_core.specs.declared.policy.ObjectKind.{ObjectKind}
use Rattle.fed_defs.specs.declared.config.Config.{Config}
use Rattle.fed_defs.specs.declared.config.VhostConfig.{VhostConfig}
use Rattle.fed_defs.specs.declared.config.PolicyDef.{PolicyDef}
use Rattle.fed_defs.specs.Texts.{same_text}

-- what decides between policies
abbrev pub rule_of : PolicyDef → Policy
rule_of p = record { name = p.name; pattern = p.pattern; apply = p.apply; priority = p.priority }

-- the policy of a virtual host that applies to the object of this kind and name: one alone, of the greatest priority
unfoldable pub policy_in : VhostConfig → ObjectKind → List ℕ → Option PolicyDef
policy_in vhost kind name = option_and_then (slice_get vhost.policies) (chosen (map rule_of vhost.policies) kind name)

-- the virtual host at a place (AMQP 0-9-1, section 1.2, "virtual host")
unfoldable pub vhost_at : Config → Place → Option VhostConfig
vhost_at config place =
    option_and_then (λ broker. find (λ vhost. same_text vhost.name place.vhost) broker.vhosts)
    (slice_get config.brokers place.broker)

-- the policy that applies to an object of a place
unfoldable pub policy_of : Config → Place → ObjectKind → List ℕ → Option PolicyDef
policy_of config place kind name = option_and_then (λ vhost. policy_in vhost kind name) (vhost_at config place)
