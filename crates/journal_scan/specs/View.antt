-- What the scanning program's values stand for.
use Rattle.std.specs.Prelude.{ℕ, refl}
use Rattle.std.specs.Coded.{Coded, code_by, coded×, coded_ℕ}
use Rattle.route_core.specs.Codes.{coded_routing}
use Rattle.route_core.specs.Routing.{Routing}
use Rattle.fed_journal.specs.Holders as holders
use Rattle.fed_journal.specs.Copies as copies
use Rattle.fed_journal.specs.Routes as routes
use Rattle.journal_scan.specs.declared.standing.Holder.{Holder}
use Rattle.journal_scan.specs.declared.standing.Holder.TheVariants.{Session, Channel}
use Rattle.journal_scan.specs.declared.standing.CopyState.{CopyState}
use Rattle.journal_scan.specs.declared.standing.CopyState.TheVariants.{Unknown, Ready, Held, Left}

-- with what its references lead to
abbrev pub holder_of : Holder → holders.Holder
holder_of (Session link session) = holders.Session link.now session
holder_of (Channel place client tag) = holders.Channel place.now client tag.now

abbrev pub standing_of : CopyState → copies.Standing
standing_of Unknown = copies.Unknown
standing_of Ready = copies.Ready
standing_of (Held holder) = copies.Held (holder_of holder)
standing_of Left = copies.Left

-- A code of what stands at a place, by which a proof tells two such apart.
abbrev pub coded_site : Coded routes.Site
coded_site = code_by (Routing × ℕ) (coded× coded_routing coded_ℕ) (λ s. (s.routing, s.queues)) (λ p. routes.site_of p.0 p.1) (λ _. refl)
