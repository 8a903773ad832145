-- The virtual hosts made so far, and one more.
use Rattle.std.proofs.Common.{◌≡◌, ℕ, ◌+◌, ◌<◌, List, [], ◌∷◌, ◌++◌, length, drop, get_or, map, refl, sym, ap, ◌∙◌, append_assoc, add-one}
use Rattle.std.proofs.Math.Seq.{drop-cons}
use Rattle.fed_defs.specs.declared.config.BindingDef.{BindingDef}
use Rattle.fed_defs.specs.declared.config.ExchangeDef.{ExchangeDef}
use Rattle.fed_defs.specs.declared.config.ParameterDef.{ParameterDef}
use Rattle.fed_defs.specs.declared.config.PolicyDef.{PolicyDef}
use Rattle.fed_defs.specs.declared.config.QueueDef.{QueueDef}
use Rattle.defs_lists.specs.declared.names.Name.{Name}
use Rattle.defs_lists.specs.declared.placed.Placed.{Placed}
use Rattle.defs_lists.specs.PlacedItems.{placed_in, host_config}

at_index : (vs : List Name) (i : ℕ) (d : Name) → i < length vs → drop i vs ≡ get_or vs i d ∷ drop (i + 1) vs
at_index vs i d within = rw (add-one, drop-cons vs i d) refl

pub made_next : {C : Type 0} (conf : Name → C) (vs : List Name) (i : ℕ) (d : Name) (done : List C) (x : C) → i < length vs
    → x ≡ conf (get_or vs i d) → done ++ map conf (drop i vs) ≡ map conf vs
    → (done ++ x ∷ []) ++ map conf (drop (i + 1) vs) ≡ map conf vs
made_next conf vs i d done x within is made =
    append_assoc done (x ∷ []) (map conf (drop (i + 1) vs))
    ∙ ap (λ y. done ++ y ∷ map conf (drop (i + 1) vs)) is
    ∙ ap (λ (ns : List Name). done ++ map conf ns) (sym (at_index vs i d within)) ∙ made

pub host_is : (es : List (Placed ExchangeDef)) (qs : List (Placed QueueDef)) (bs : List (Placed BindingDef)) (ps : List (Placed PolicyDef))
    (ms : List (Placed ParameterDef)) (v : Name) (name : List ℕ) (e : List ExchangeDef) (q : List QueueDef) (b : List BindingDef)
    (p : List PolicyDef) (m : List ParameterDef) → name ≡ v.name → e ≡ placed_in v.name es → q ≡ placed_in v.name qs
    → b ≡ placed_in v.name bs → p ≡ placed_in v.name ps → m ≡ placed_in v.name ms
    → record { name = name; exchanges = e; queues = q; bindings = b; policies = p; parameters = m } ≡ host_config es qs bs ps ms v
unfolding host_config
host_is es qs bs ps ms v name e q b p m n-is e-is q-is b-is p-is m-is = rw (n-is, e-is, q-is, b-is, p-is, m-is) refl
