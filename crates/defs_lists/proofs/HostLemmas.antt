-- A virtual host whose name isn't among the others is another one than each of them.
use Rattle.std.proofs.Common.{◌≡◌, ◌≢◌, ℕ, List, [], ◌∷◌, ◌++◌, Bool, true, false, ◌||◌, refl, sym, ap, ◌∙◌, eq-eqb, true≢false}
use Rattle.std.specs.List.{AllByRecursion}
use Rattle.defs_lists.specs.declared.names.Name.{Name}
use Rattle.defs_lists.specs.Names.{same_name, has_name}
use Rattle.defs_lists.specs.PlacedItems.{AreDistinct}
use Rattle.fed_defs.specs.Texts.{same_text}
use Rattle.defs_lists.specs.Vhosts.{vhost_named, AreHosts}

same_itself : (x : List ℕ) → same_text x x ≡ true
same_itself [] = refl
same_itself (y ∷ ys) = rw (eq-eqb y y refl, same_itself ys) refl

same_host : (x : List ℕ) → same_name (vhost_named x) (vhost_named x) ≡ true
unfolding same_name
same_host x = rw (same_itself x) refl

neither : (a b : Bool) → (a || b) ≡ false → (a ≡ false) × (b ≡ false)
neither true b h = absurd (true≢false h)
neither false b h = (refl, h)

other_host : (x : List ℕ) (m : Name) → m ≡ vhost_named m.name → same_name (vhost_named x) m ≡ false → x ≢ m.name
other_host x m e h k =
    true≢false (sym (same_host x) ∙ ap (same_name (vhost_named x)) (sym (e ∙ ap vhost_named (sym k))) ∙ h)

not_among : (x : List ℕ) (n : Name) (ns : List Name) → has_name (vhost_named x) (n ∷ ns) ≡ false
    → (same_name (vhost_named x) n ≡ false) × (has_name (vhost_named x) ns ≡ false)
unfolding has_name
not_among x n ns h = neither _ _ h

all_push : (P : Name → Type 0) (ns : List Name) (n : Name) → AllByRecursion P ns → P n → AllByRecursion P (ns ++ n ∷ [])
all_push P [] n all p = (p, tt)
all_push P (m ∷ ms) n all p = (all.0, all_push P ms n all.1 p)

pub hosts_push : (ns : List Name) (x : List ℕ) → AreHosts ns → AreHosts (ns ++ vhost_named x ∷ [])
hosts_push [] x h = (refl, tt)
hosts_push (m ∷ ms) x h = (h.0, hosts_push ms x h.1)

pub distinct_push : (ns : List Name) (x : List ℕ) → AreHosts ns → AreDistinct ns → has_name (vhost_named x) ns ≡ false
    → AreDistinct (ns ++ vhost_named x ∷ [])
distinct_push [] x hosts distinct h = (tt, tt)
distinct_push (m ∷ ms) x hosts distinct h =
    let apart = not_among x m ms h in
    (all_push _ ms (vhost_named x) distinct.0 (other_host x m hosts.0 apart.0), distinct_push ms x hosts.1 distinct.1 apart.1)
