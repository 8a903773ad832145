use Rattle.std.proofs.Common.{◌≡◌, true, false, Some, None, subst}
use Rattle.fed_journal.specs.Configuration.{is_place}
use Rattle.broker_view.specs.Confirms.{HasConfirms, HasPublications}
use Rattle.broker_view.specs.View.{IsView}
use Rattle.broker_view.proofs.HostLemmas.{known-place, view-place, owed-place}
use Rattle.broker_view.proofs.run.Run.host.Goals as goal

pub returns-in-Some-clause-known : goal.returns-in-Some-clause-known
returns-in-Some-clause-known c = subst (λ J. true ≡ is_place J c.args.place.now) c.self.view_is (known-place c.self.inside.entries.now c.self.inside.hosts.now c.args.place.now (Some c.in-Some.host.now) c.self.invariant (cc (c.is_slash.ensures, c.if-not-is_slash.false)) c.in-Some.ensures)

pub returns-in-None-clause-known : goal.returns-in-None-clause-known
returns-in-None-clause-known c = subst (λ J. false ≡ is_place J c.args.place.now) c.self.view_is (known-place c.self.inside.entries.now c.self.inside.hosts.now c.args.place.now None c.self.invariant (cc (c.is_slash.ensures, c.if-not-is_slash.false)) c.in-None.ensures)

pub returns-in-Some-clause-view : goal.returns-in-Some-clause-view
returns-in-Some-clause-view c = subst (λ J. IsView J c.args.place.now c.in-Some.host.now.vhost) c.self.view_is (view-place c.self.inside.entries.now c.self.inside.hosts.now c.args.place.now c.in-Some.host.now c.self.invariant (cc (c.is_slash.ensures, c.if-not-is_slash.false)) c.in-Some.ensures)

pub returns-in-Some-clause-confirms : goal.returns-in-Some-clause-confirms
returns-in-Some-clause-confirms c = subst (λ J. HasConfirms J c.args.place.now c.in-Some.host.now.confirms) c.self.view_is (owed-place c.self.inside.entries.now c.self.inside.hosts.now c.args.place.now c.in-Some.host.now c.self.invariant (cc (c.is_slash.ensures, c.if-not-is_slash.false)) c.in-Some.ensures)

pub returns-in-Some-clause-published : goal.returns-in-Some-clause-published
returns-in-Some-clause-published c = subst HasPublications c.self.view_is c.self.invariant.published
