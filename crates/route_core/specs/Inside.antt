-- What the parts of a router stand for, and what they keep.
use Rattle.std.specs.Prelude.{◌≡◌, ◌+◌, ◌≤◌, true, vec_len, vec_capacity}
use Rattle.std.specs.List.{AllPairs}
use Rattle.route_core.specs.declared.router.Router.TheInside.{Inside}
use Rattle.route_core.specs.Objects.{is_after}
use Rattle.route_core.specs.Routing.{RouterState}
use Rattle.route_core.specs.Sources.{source_codes}

abbrev pub state_of : Inside → RouterState
state_of i = record {
  routing = record { objects = i.objects.items; bindings = i.bindings.items };
  spare_objects = i.spare_objects;
  spare_bindings = i.spare_bindings;
}

-- Names are distinct, queues' numbers rise, the bindings are found by their sources, and there is room for what is spare.
pub record IsKept (i : Inside) : Type 0 where
  pub order : AllPairs (λ earlier later. is_after earlier later ≡ true) i.objects.items
  pub objects_fit : vec_len i.objects + i.spare_objects ≤ vec_capacity i.objects
  pub bindings_fit : vec_len i.bindings + i.spare_bindings ≤ vec_capacity i.bindings
  pub sources : i.sources.codes ≡ source_codes i.bindings.items
  pub sources_fit : i.spare_bindings ≤ i.sources.spare
