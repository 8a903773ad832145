use Rattle.std.specs.Prelude.{◌==◌, ℕ, Bool, not, List, [], ◌∷◌, Option, Some, None, map, filter, min, length}
use Rattle.std.specs.List.{list_any}
use Rattle.std.specs.Option.{option_map_or}

-- A publication that is not confirmed yet, with the copies that it waits for (RabbitMQ, Confirms: Publisher Confirms).
pub record Unconfirmed : Type 0 where
  pub number : ℕ
  pub waits : List ℕ

-- The publication is open: it was published, and not answered yet (RabbitMQ, Confirms: Publisher Confirms).
abbrev pub is_open : ℕ → List Unconfirmed → Bool
is_open number ledger = list_any (λ publication. publication.number == number) ledger

-- A publication that waits for nothing may be confirmed
-- (RabbitMQ, Confirms: When Will Published Messages Be Confirmed by the Broker?).
abbrev pub waits_for_nothing : Unconfirmed → Bool
waits_for_nothing publication = length publication.waits == 0

-- No publication waits for a copy that was stored, or that left its queue in another way than loss
-- (RabbitMQ, Confirms: When Will Published Messages Be Confirmed by the Broker?).
abbrev pub without_wait : ℕ → Unconfirmed → Unconfirmed
without_wait copy publication = record publication { waits = filter (λ wait. not (wait == copy)) publication.waits }

-- Each publication without that wait (RabbitMQ, Confirms: When Will Published Messages Be Confirmed by the Broker?).
abbrev pub released : ℕ → List Unconfirmed → List Unconfirmed
released copy ledger = map (without_wait copy) ledger

-- No publication waits for anything once all copies are stored (RabbitMQ, Confirms: When Will Published Messages Be Confirmed by the Broker?).
abbrev pub all_stored : List Unconfirmed → List Unconfirmed
all_stored ledger = map (λ (publication : Unconfirmed). record publication { waits = [] }) ledger

-- The ledger without the publication that was answered (RabbitMQ, Confirms: Publisher Confirms).
abbrev pub without : ℕ → List Unconfirmed → List Unconfirmed
without number ledger = filter (λ publication. not (publication.number == number)) ledger

-- The numbers that may be confirmed (RabbitMQ, Confirms: When Will Published Messages Be Confirmed by the Broker?).
abbrev pub ready_numbers : List Unconfirmed → List ℕ
ready_numbers ledger = map (λ (publication : Unconfirmed). publication.number) (filter waits_for_nothing ledger)

-- The least number of a list: confirms are sent in the order of publishing
-- (RabbitMQ, Confirms: Ordering Considerations for Publisher Confirms).
abbrev pub least : List ℕ → Option ℕ
least [] = None
least (number ∷ numbers) = Some (option_map_or (min number) (least numbers) number)
