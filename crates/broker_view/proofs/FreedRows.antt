-- The rows of a queue, where a connection ends.
use Rattle.std.proofs.Common.{◌≡◌, ℕ, suc, ◌+◌, ◌<◌, List, [], ◌∷◌, Bool, true, false, cond, not, Some, refl, ap, ◌∙◌, map, arith}
use Rattle.std.specs.Prelude.{◌==◌, ◌&&◌, position}
use Rattle.std.proofs.lemmas.Bool.{and_parts, eqb-true, eq-eqb, ne_eqb, and_left, and_right}
use Rattle.queue_core.specs.declared.rows.Holder.{Holder}
use Rattle.queue_core.specs.declared.rows.Hold.{Hold}
use Rattle.queue_core.specs.declared.rows.Hold.TheVariants as holds
use Rattle.queue_core.specs.declared.rows.Row.{Row}
use Rattle.queue_core.specs.Rows.{is_of_client, freed_of, released_client}
use Rattle.client_rules.specs.declared.client.Client.{Client}
use Rattle.amqp_props.specs.declared.message.Message.{Message}
use Rattle.broker_store.specs.Consumers.{is_client}
use Rattle.broker_store.specs.Mail.{released_from}
use Rattle.broker_store.specs.Queues.{Named, all_changed, with_mail}
use Rattle.mini_broker.specs.Close.{freed_from}
use Rattle.broker_view.specs.View.{rows_in}
use Rattle.broker_view.proofs.Publications.{position-none, position-here, position-later}
use Rattle.broker_view.proofs.QueueRows.{all-rows}

-- a hold after the channels of the connection among these clients are gone
abbrev pub freed_hold : ℕ → ℕ → List Client → Hold → Hold
freed_hold n i [] hold = hold
freed_hold n i (client ∷ clients) hold = freed_hold n (i + 1) clients (cond (client.connection == n) (freed_of i hold) hold)

abbrev pub freed_row : ℕ → ℕ → List Client → Row → Row
freed_row n i clients row = record row { hold = freed_hold n i clients row.hold }

map-map : (f g : Row → Row) (rows : List Row) → map f (map g rows) ≡ map (λ row. f (g row)) rows
map-map f g [] = refl
map-map f g (row ∷ rows) = ap (λ rs. f (g row) ∷ rs) (map-map f g rows)

map-same : (rows : List Row) → rows ≡ map (λ (row : Row). row) rows
map-same [] = refl
map-same (row ∷ rows) = ap (λ rs. row ∷ rs) (map-same rows)

freed-by : (n i : ℕ) (client : Client) (clients : List Client) (queues : List (Named Message)) (q : List ℕ) (b : Bool) → ((qs : List (Named Message)) → rows_in q (freed_from n (i + 1) clients qs) ≡ map (freed_row n (i + 1) clients) (rows_in q qs)) → rows_in q (freed_from n (i + 1) clients (cond b (all_changed (with_mail (released_from i)) queues) queues)) ≡ map (λ (row : Row). record row { hold = freed_hold n (i + 1) clients (cond b (freed_of i row.hold) row.hold) }) (rows_in q queues)
freed-by n i client clients queues q true later =
    later (all_changed (with_mail (released_from i)) queues)
    ∙ ap (map (freed_row n (i + 1) clients)) (all-rows (released_from i) (released_client i) (λ x. refl) refl queues q)
    ∙ map-map (freed_row n (i + 1) clients) (λ (row : Row). record row { hold = freed_of i row.hold }) (rows_in q queues)
freed-by n i client clients queues q false later = later queues

pub freed-rows : (n i : ℕ) (clients : List Client) (queues : List (Named Message)) (q : List ℕ) → rows_in q (freed_from n i clients queues) ≡ map (freed_row n i clients) (rows_in q queues)
freed-rows n i [] queues q = map-same (rows_in q queues)
freed-rows n i (client ∷ clients) queues q = freed-by n i client clients queues q (client.connection == n) (λ qs. freed-rows n (i + 1) clients qs q)

pub freed-ready : (n i : ℕ) (clients : List Client) → freed_hold n i clients holds.Ready ≡ holds.Ready
freed-ready n i [] = refl
freed-ready n i (client ∷ clients) =
    elim (client.connection == n) as (λ b. freed_hold n (i + 1) clients (cond b holds.Ready holds.Ready) ≡ holds.Ready) [ true ↦ freed-ready n (i + 1) clients | false ↦ freed-ready n (i + 1) clients ]

-- the holder isn't that client
not-freed : (i : ℕ) (r : Holder) → is_of_client i r ≡ false → freed_of i (holds.Held r) ≡ holds.Held r
not-freed i r off = ap (λ b. cond b holds.Ready (holds.Held r)) off

skip-freed : (n i : ℕ) (client : Client) (clients : List Client) (r : Holder) (to : Hold) → is_of_client i r ≡ false → freed_hold n (i + 1) clients (holds.Held r) ≡ to → freed_hold n i (client ∷ clients) (holds.Held r) ≡ to
skip-freed n i client clients r to off later =
    elim (client.connection == n) as (λ b. freed_hold n (i + 1) clients (cond b (freed_of i (holds.Held r)) (holds.Held r)) ≡ to) [
      | true ↦ ap (freed_hold n (i + 1) clients) (not-freed i r off) ∙ later
      | false ↦ later
    ]

-- what a link holds stays held
pub freed-session : (n i : ℕ) (clients : List Client) (r : Holder) → r.link ≡ true → freed_hold n i clients (holds.Held r) ≡ holds.Held r
freed-session n i [] r link = refl
freed-session n i (client ∷ clients) r link =
    skip-freed n i client clients r (holds.Held r) (and_left (not r.link) (r.number == i) (ap not link)) (freed-session n (i + 1) clients r link)

other_number : (a b : ℕ) → a < b → (a == b) ≡ false
other_number a b below = ne_eqb a b (λ e. omega (arith, e, below))

-- so does what an earlier client holds
freed-earlier : (n i : ℕ) (clients : List Client) (r : Holder) → r.number < i → freed_hold n i clients (holds.Held r) ≡ holds.Held r
freed-earlier n i [] r below = refl
freed-earlier n i (client ∷ clients) r below =
    skip-freed n i client clients r (holds.Held r) (and_right (not r.link) (r.number == i) (other_number r.number i below)) (freed-earlier n (i + 1) clients r (omega (arith, below)))

same-connection : (k client : Client) → is_client k client ≡ true → client.connection ≡ k.connection
same-connection k client h = eqb-true client.connection k.connection (and_parts (client.connection == k.connection) (client.channel == k.channel) h).0

is-of : (i : ℕ) (r : Holder) → r.link ≡ false → r.number ≡ i → is_of_client i r ≡ true
is-of i r link number = ap (λ b. not b && (r.number == i)) link ∙ eq-eqb r.number i number

-- what the first client holds
first-by : (n i : ℕ) (client : Client) (clients : List Client) (r : Holder) (b : Bool) → is_of_client i r ≡ true → r.number < i + 1 → freed_hold n (i + 1) clients (cond b (freed_of i (holds.Held r)) (holds.Held r)) ≡ cond b holds.Ready (holds.Held r)
first-by n i client clients r true is below = ap (λ b. freed_hold n (i + 1) clients (cond b holds.Ready (holds.Held r))) is ∙ freed-ready n (i + 1) clients
first-by n i client clients r false is below = freed-earlier n (i + 1) clients r below

channel-by : (n i : ℕ) (k client : Client) (clients : List Client) (r : Holder) (j : ℕ) (b : Bool) → is_client k client ≡ b → position (is_client k) (client ∷ clients) ≡ Some j → r.link ≡ false → r.number ≡ i + j
    → ((m : ℕ) → position (is_client k) clients ≡ Some m → r.number ≡ i + 1 + m → freed_hold n (i + 1) clients (holds.Held r) ≡ cond (k.connection == n) holds.Ready (holds.Held r))
    → freed_hold n i (client ∷ clients) (holds.Held r) ≡ cond (k.connection == n) holds.Ready (holds.Held r)
channel-by n i k client clients r j true is at link number later =
    let here : j ≡ 0 = position-here (is_client k) client clients j is at in
    let mine : r.number ≡ i = omega (arith, here, number) in
    first-by n i client clients r (client.connection == n) (is-of i r link mine) (omega (arith, mine))
    ∙ ap (λ c. cond (c == n) holds.Ready (holds.Held r)) (same-connection k client is)
channel-by n i k client clients r j false isn't at link number later =
    let s : (m : ℕ) × (j ≡ suc m) × (position (is_client k) clients ≡ Some m) = position-later (is_client k) client clients j isn't at in
    skip-freed n i client clients r (cond (k.connection == n) holds.Ready (holds.Held r)) (and_right (not r.link) (r.number == i) (ne_eqb r.number i (λ e. omega (arith, e, number, s.1)))) (later s.0 s.2 (omega (arith, number, s.1)))

-- what a channel of the connection holds is ready again, and what another one holds stays held
pub freed-channel : (n i : ℕ) (k : Client) (clients : List Client) (r : Holder) (j : ℕ) → position (is_client k) clients ≡ Some j → r.link ≡ false → r.number ≡ i + j → freed_hold n i clients (holds.Held r) ≡ cond (k.connection == n) holds.Ready (holds.Held r)
freed-channel n i k [] r j at link number = absurd (position-none (is_client k) j at)
freed-channel n i k (client ∷ clients) r j at link number =
    channel-by n i k client clients r j (is_client k client) refl at link number (λ m at' number'. freed-channel n (i + 1) k clients r m at' link number')
