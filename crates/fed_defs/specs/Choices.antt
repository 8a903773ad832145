-- Which upstreams a policy chooses: RabbitMQ's "Federation Reference", "Policies" and "Upstream Sets", and "Federation Plugin",
-- "Pattern-based Federation". That several of the keys in one policy choose none is a choice.
use Rattle.std.specs.Prelude.{ℕ, List, [], codes, filter_map, Option, Some, None, option_map, option_to_list, unwrap_or, if◌then◌else◌}
use Rattle.std.specs.Option.{option_or}
use Rattle.policy_core.specs.Patterns.{is_found}
use Rattle.fed_defs.specs.declared.config.Config.{Config}
use Rattle.fed_defs.specs.declared.config.VhostConfig.{VhostConfig}
use Rattle.fed_defs.specs.declared.config.PolicyDef.{PolicyDef}
use Rattle.fed_defs.specs.declared.config.ParameterDef.{ParameterDef}
use Rattle.fed_defs.specs.declared.config.ParameterValue.{ParameterValue}
use Rattle.fed_defs.specs.declared.config.ParameterValue.TheVariants.{Upstream, Set}
use Rattle.fed_defs.specs.declared.config.SetMember.{SetMember}
use Rattle.fed_defs.specs.declared.upstream.Overrides.{Overrides}
use Rattle.fed_defs.specs.declared.upstream.UpstreamDef.{UpstreamDef}
use Rattle.fed_defs.specs.declared.federation.Owner.{Owner}
use Rattle.fed_defs.specs.declared.federation.Choice.{Choice}
use Rattle.fed_defs.specs.Places.{first_some, first_place}
use Rattle.fed_defs.specs.Texts.{same_text}

-- ---- upstreams and sets by name

-- the value of an upstream
abbrev pub upstream_value : ParameterValue → Option UpstreamDef
upstream_value (Upstream upstream) = Some upstream
upstream_value _ = None

-- the value of a set of upstreams
abbrev pub set_value : ParameterValue → Option (List SetMember)
set_value (Set members) = Some members
set_value _ = None

-- the parameter's value, where it is the upstream of that name
unfoldable pub upstream_if : List ℕ → ParameterDef → Option UpstreamDef
upstream_if name parameter = if same_text parameter.name name then upstream_value parameter.value else None

-- the parameter's value, where it is the set of that name
unfoldable pub set_if : List ℕ → ParameterDef → Option (List SetMember)
set_if name parameter = if same_text parameter.name name then set_value parameter.value else None

-- the upstream of that name
unfoldable pub upstream_named : VhostConfig → List ℕ → Option UpstreamDef
upstream_named vhost name = first_some (upstream_if name) vhost.parameters

-- the members of the set of that name, in their order; none where there is no such set
unfoldable pub members_of : VhostConfig → List ℕ → List SetMember
members_of vhost name = unwrap_or (first_some (set_if name) vhost.parameters) []

-- ---- one upstream

-- no key of an upstream is overridden
abbrev pub no_overrides : Overrides
no_overrides = record { mode = None; prefetch = None; delay = None; max_hops = None; exchange = None; queue = None }

-- the keys of the member of a set win over those of its upstream ("Federation Reference", upstream sets)
unfoldable pub overridden : Overrides → Overrides → Overrides
overridden member upstream = record {
  mode = option_or member.mode upstream.mode;
  prefetch = option_or member.prefetch upstream.prefetch;
  delay = option_or member.delay upstream.delay;
  max_hops = option_or member.max_hops upstream.max_hops;
  exchange = option_or member.exchange upstream.exchange;
  queue = option_or member.queue upstream.queue;
}

-- an upstream that is chosen
unfoldable pub choice : Config → Owner → Overrides → List ℕ → UpstreamDef → Choice
choice config owner member name upstream = record {
  upstream = name;
  source = first_place config owner upstream.uris;
  own = overridden member upstream.own;
}

-- the upstream of that name, if there is one
unfoldable pub choice_named : Config → Owner → VhostConfig → Overrides → List ℕ → Option Choice
choice_named config owner vhost member name = option_map (choice config owner member name) (upstream_named vhost name)

-- ---- the upstreams of a policy

-- a parameter that is an upstream
unfoldable pub upstream_choice : Config → Owner → ParameterDef → Option Choice
upstream_choice config owner parameter =
    option_map (choice config owner no_overrides parameter.name) (upstream_value parameter.value)

-- `all` stands for every upstream of the virtual host, in the order in which they were set
unfoldable pub all_choices : Config → Owner → VhostConfig → List Choice
all_choices config owner vhost = filter_map (upstream_choice config owner) vhost.parameters

-- a member of a set is the upstream that it names, with its overrides
unfoldable pub member_choice : Config → Owner → VhostConfig → SetMember → Option Choice
member_choice config owner vhost member = choice_named config owner vhost member.own member.upstream

-- the members of the set of that name, in their order
unfoldable pub member_choices : Config → Owner → VhostConfig → List ℕ → List Choice
member_choices config owner vhost set = filter_map (member_choice config owner vhost) (members_of vhost set)

-- `federation-upstream`: one upstream
unfoldable pub named_choices : Config → Owner → VhostConfig → List ℕ → List Choice
named_choices config owner vhost name = option_to_list (choice_named config owner vhost no_overrides name)

-- `federation-upstream-set`: the upstreams of a set
unfoldable pub set_choices : Config → Owner → VhostConfig → List ℕ → List Choice
set_choices config owner vhost set =
    if same_text set (codes "all") then all_choices config owner vhost else member_choices config owner vhost set

-- a parameter that is an upstream and in whose name the pattern is found
unfoldable pub pattern_choice : Config → Owner → List ℕ → ParameterDef → Option Choice
pattern_choice config owner pattern parameter =
    if is_found pattern parameter.name then upstream_choice config owner parameter else None

-- `federation-upstream-pattern`: the upstreams in whose names the pattern is found, in the order in which they were set
unfoldable pub pattern_choices : Config → Owner → VhostConfig → List ℕ → List Choice
pattern_choices config owner vhost pattern = filter_map (pattern_choice config owner pattern) vhost.parameters

-- exactly one of the three keys chooses upstreams
abbrev pub choices_by : Config → Owner → VhostConfig → Option (List ℕ) → Option (List ℕ) → Option (List ℕ) → List Choice
choices_by config owner vhost (Some name) None None = named_choices config owner vhost name
choices_by config owner vhost None (Some set) None = set_choices config owner vhost set
choices_by config owner vhost None None (Some pattern) = pattern_choices config owner vhost pattern
choices_by config owner vhost _ _ _ = []

-- the upstreams that a policy chooses
unfoldable pub policy_choices : Config → Owner → VhostConfig → PolicyDef → List Choice
policy_choices config owner vhost policy =
    choices_by config owner vhost policy.upstream policy.set policy.upstream_pattern
