use Rattle.std.proofs.Common.{◌≡◌, ◌==◌, ◌∙◌, true, false, sym, add-zero}
use Rattle.std.specs.BTreeMap.{is_at}
use Rattle.std.specs.Ordering.{nat_cmp}
use Rattle.confirm_core.specs.Waits.{waits_for_nothing, without_wait}
use Rattle.confirm_core.proofs.OpeningLemmas.{Ascends-from_sorted, released-set, released-none, has-ready-set, gives-freed, gives-same, freed-parts, same-ready, count-freed, count-same}
use Rattle.confirm_core.proofs.openings.release_in.Goals as goal

pub returns-in_err-publication-clause-released : goal.returns-in_err-publication-clause-released
returns-in_err-publication-clause-released c =
    rw c.get_mut.follows.holds-at-none (sym (released-none c.args.opening c.args.copy c.args.publications.now.entries (sym c.in_err-publication.ensures.value)))

pub returns-then-release-clause-released : goal.returns-then-release-clause-released
returns-then-release-clause-released c =
    (c.get_mut.follows.holds c.release.new.self).0
    ∙ rw c.release.ensures.released (released-set c.args.opening c.args.copy c.args.publications.now.entries c.in_ok-publication.publication.now (Ascends-from_sorted _ c.get_mut.ensures.ordered) (sym c.in_ok-publication.ensures.value))

pub returns-else-release-clause-released : goal.returns-else-release-clause-released
returns-else-release-clause-released c =
    (c.get_mut.follows.holds c.release.new.self).0
    ∙ rw c.release.ensures.released (released-set c.args.opening c.args.copy c.args.publications.now.entries c.in_ok-publication.publication.now (Ascends-from_sorted _ c.get_mut.ensures.ordered) (sym c.in_ok-publication.ensures.value))

pub returns-then-release-clause-ready : goal.returns-then-release-clause-ready
returns-then-release-clause-ready c =
    let p = c.in_ok-publication.publication.now in
    let next_is = c.release.ensures.released in
    let parts = freed-parts (waits_for_nothing p) (waits_for_nothing c.release.new.self) (sym c.if-release.ensures.freed) in
    let ready : waits_for_nothing (without_wait c.args.copy p) ≡ true = rw next_is at parts.1 in
    λ n. rw ((c.get_mut.follows.holds c.release.new.self).0, c.number.ensures, next_is) (has-ready-set n (is_at (nat_cmp c.args.opening)) c.args.publications.now.entries p (without_wait c.args.copy p) (p.number == n) (gives-freed n c.args.copy p parts.0 ready) (sym c.in_ok-publication.ensures.value))

pub returns-then-release-clause-waiting : goal.returns-then-release-clause-waiting
returns-then-release-clause-waiting c =
    let p = c.in_ok-publication.publication.now in
    let parts = freed-parts (waits_for_nothing p) (waits_for_nothing c.release.new.self) (sym c.if-release.ensures.freed) in
    rw (c.get_mut.follows.holds c.release.new.self).0 (count-freed (is_at (nat_cmp c.args.opening)) c.args.publications.now.entries p c.release.new.self parts.0 parts.1 (sym c.in_ok-publication.ensures.value))

pub returns-else-release-clause-ready : goal.returns-else-release-clause-ready
returns-else-release-clause-ready c =
    let p = c.in_ok-publication.publication.now in
    let next_is = c.release.ensures.released in
    let same = same-ready c.args.copy p (rw next_is at (sym c.if-release.ensures.freed)) in
    λ n. rw ((c.get_mut.follows.holds c.release.new.self).0, next_is) (has-ready-set n (is_at (nat_cmp c.args.opening)) c.args.publications.now.entries p (without_wait c.args.copy p) false (gives-same n c.args.copy p same) (sym c.in_ok-publication.ensures.value))

pub returns-else-release-clause-waiting : goal.returns-else-release-clause-waiting
returns-else-release-clause-waiting c =
    let p = c.in_ok-publication.publication.now in
    let next_is = c.release.ensures.released in
    let same = same-ready c.args.copy p (rw next_is at (sym c.if-release.ensures.freed)) in
    rw ((c.get_mut.follows.holds c.release.new.self).0, next_is, add-zero) (count-same (is_at (nat_cmp c.args.opening)) c.args.publications.now.entries p (without_wait c.args.copy p) same (sym c.in_ok-publication.ensures.value))
