-- A client binds a queue or an exchange to an exchange, or ends a binding (AMQP 0-9-1, queue.bind, queue.unbind; RabbitMQ, Exchange to Exchange Bindings).
use Rattle.std.specs.Prelude.{ℕ, List, [], ◌∷◌, Bool, ◌&&◌, ◌||◌, if◌then◌else◌, Option, Some, None, is_some, Ok}
use Rattle.route_core.specs.declared.object.Sort.{Sort}
use Rattle.route_core.specs.declared.object.Sort.TheVariants.{Queue, Exchange}
use Rattle.route_core.specs.declared.binding.Binding.{Binding}
use Rattle.fed_journal.specs.declared.place.Place.{Place}
use Rattle.fed_journal.specs.declared.entry.Entry.{Entry}
use Rattle.fed_journal.specs.declared.entry.Entry.TheVariants.{Bound, Unbound}
use Rattle.fed_journal.specs.Configuration.{queue_options, exchange_shape}
use Rattle.client_rules.specs.Names.{is_unbindable}
use Rattle.fed_journal.specs.Routes.{is_bound}
use Rattle.fed_journal.specs.declared.reason.Reason.{Reason}
use Rattle.fed_journal.specs.declared.reason.Reason.TheVariants.{Refused}
use Rattle.fed_journal.specs.Row.{Row, at_place, lock_refusal, unless_refused}

abbrev pub stands_as : List Entry → Place → Sort → List ℕ → Bool
stands_as J p Queue name = is_some (queue_options J p name)
stands_as J p Exchange name = is_some (exchange_shape J p name)

-- an exchange is never locked
abbrev pub end_refusal : List Entry → Place → ℕ → Sort → List ℕ → Option Reason
end_refusal J p client Queue name = lock_refusal J p client name
end_refusal J p client Exchange name = None

-- ACCESS_REFUSED (403), then NOT_FOUND (404) for an end that isn't there, then RESOURCE_LOCKED (405)
abbrev pub bind_refusal : List Entry → Place → ℕ → Binding → Option Reason
bind_refusal J p client b =
    if is_unbindable b.source || is_unbindable b.dest then Some (Refused 403) else
    if stands_as J p Exchange b.source && stands_as J p b.sort b.dest then end_refusal J p client b.sort b.dest else Some (Refused 404)

-- an equal binding is made once (queue.bind: a duplicate is ignored)
unfoldable pub bind_row : List Entry → Place → ℕ → Binding → Row
bind_row J p client b = at_place J p (unless_refused (bind_refusal J p client b) (if is_bound J p b then Ok [] else Ok (Bound p b ∷ [])))

unfoldable pub unbind_row : List Entry → Place → ℕ → Binding → Row
unbind_row J p client b = at_place J p (unless_refused (bind_refusal J p client b) (if is_bound J p b then Ok (Unbound p b ∷ []) else Ok []))
