-- The target confirms a publication once it is secured (RabbitMQ, Publisher Confirms: when messages are confirmed).
use Rattle.std.specs.Prelude.{ℕ, List, [], ◌∷◌, Option, Some, None, find, Ok, Err}
use Rattle.fed_journal.specs.declared.entry.Entry.{Entry}
use Rattle.fed_journal.specs.declared.entry.Entry.TheVariants.{Confirmed}
use Rattle.fed_journal.specs.Phases.{session}
use Rattle.fed_journal.specs.Flight.{flight_published}
use Rattle.fed_journal.specs.Copies.{is_secured}
use Rattle.fed_journal.specs.declared.reason.Reason.TheVariants.{Empty, Unsecured}
use Rattle.fed_journal.specs.Row.{Row, with_link, while_open}

abbrev pub confirmed : List ℕ → ℕ → Option ℕ → Row
confirmed l s None = Err Unsecured
confirmed l s (Some p) = Ok (Confirmed l s p ∷ [])

-- publication numbers rise along the journal, so the first that is secured is the least
abbrev pub confirm_first : List Entry → List ℕ → ℕ → List ℕ → Row
confirm_first J l s [] = Err Empty
confirm_first J l s (p ∷ ps) = confirmed l s (find (is_secured J) (p ∷ ps))

unfoldable pub confirm_row : List Entry → List ℕ → Row
confirm_row J l = with_link J l (λ spec. while_open J l (confirm_first J l (session J l) (flight_published J l (session J l))))
