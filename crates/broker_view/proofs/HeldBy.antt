-- A client holds in the queues what the journal has it hold.
use Rattle.std.proofs.Common.{◌≡◌, ℕ, List, [], ◌∷◌, Bool, true, false, cond, not, Option, Some, None, refl, sym, ap, subst, ◌∙◌, inl, inr, map}
use Rattle.std.specs.Prelude.{◌==◌, ◌&&◌, ◌||◌, All, find, position}
use Rattle.std.specs.List.{list_any}
use Rattle.std.specs.Option.{option_map_or, option_and_then}
use Rattle.std.specs.Str.{bytes_eq}
use Rattle.std.proofs.lemmas.Bool.{true≢false, false≢true, and_parts, and_from, or_left, or_right, eqb-true, eq-eqb}
use Rattle.std.proofs.lemmas.Option.{none-some, same_Some}
use Rattle.std.proofs.lemmas.List.Elements.{All-head, All-tail}
use Rattle.queue_core.specs.declared.rows.Holder.{Holder}
use Rattle.queue_core.specs.declared.rows.Hold.{Hold}
use Rattle.queue_core.specs.declared.rows.Hold.TheVariants as numbers
use Rattle.queue_core.specs.declared.rows.Row.{Row}
use Rattle.queue_core.specs.Rows as rows
use Rattle.fed_journal.specs.declared.place.Place.{Place}
use Rattle.client_rules.specs.declared.client.Client.{Client}
use Rattle.fed_journal.specs.declared.entry.Entry.{Entry}
use Rattle.fed_journal.specs.Names.{same_text, same_place}
use Rattle.fed_journal.specs.Holders as holders
use Rattle.fed_journal.specs.Holders.{same_client, is_client}
use Rattle.fed_journal.specs.Copies.{Standing, Unknown, Ready, Held, Left, is_left, entered, standing}
use Rattle.fed_journal.specs.Holds.{holder, holder_in, is_held_by, is_client_of}
use Rattle.amqp_props.specs.declared.message.Message.{Message}
use Rattle.broker_store.specs.Queues.{Standing as QueueOf, Named, queue_of, is_held_in}
use Rattle.broker_store.specs.Consumers as consumers
use Rattle.broker_store.specs.Mail.{Mail, is_held_at}
use Rattle.mini_broker.specs.Settle.{holds_as}
use Rattle.mini_broker.specs.State.{VhostState}
use Rattle.broker_view.specs.View.{AreDistinct, HasCopies, IsHolder, StandsAs, RowStands, is_there, rows_in}
use Rattle.broker_view.proofs.Names.{same_text-true, same_text-refl, same_text-sym, same_place-true, same_place-refl}
use Rattle.broker_view.proofs.Alike.{alike, same_client-true, same_client-refl}
use Rattle.broker_view.proofs.Clients.{number-once}
use Rattle.broker_view.proofs.Matching.{Matches, matches-cases}

-- ---- the row of a copy

-- the row that is found for the copy
pub record IsFound (J : List Entry) (p : Place) (v : VhostState) (rs : List Row) (c : ℕ) : Type 0 where
  pub row : Row
  pub found : find (λ (r : Row). r.copy == c) rs ≡ Some row
  pub copy : row.copy ≡ c
  pub stands : RowStands J p v row

first-found : (J : List Entry) (p : Place) (v : VhostState) (row : Row) (rest : List Row) (c : ℕ) (b : Bool) → (row.copy == c) ≡ b → RowStands J p v row → (b ≡ false → IsFound J p v rest c) → IsFound J p v (row ∷ rest) c
first-found J p v row rest c true on k later = record { row = row; found = ap (λ b. cond b (Some row) (find (λ (r : Row). r.copy == c) rest)) on; copy = eqb-true row.copy c on; stands = k }
first-found J p v row rest c false off k later =
    let f : IsFound J p v rest c = later refl in
    record { row = f.row; found = ap (λ b. cond b (Some row) (find (λ (r : Row). r.copy == c) rest)) off ∙ f.found; copy = f.copy; stands = f.stands }

rest-any : (c d : ℕ) (cs : List ℕ) → (d == c) ≡ false → list_any (λ n. n == c) (d ∷ cs) ≡ true → list_any (λ n. n == c) cs ≡ true
rest-any c d cs off h = sym (ap (λ b. b || list_any (λ n. n == c) cs) off) ∙ h

not-away : (J : List Entry) (c d : ℕ) (b : Bool) → (d == c) ≡ b → is_there J c ≡ true → is_there J d ≡ false → b ≡ false
not-away J c d true on there away = absurd (true≢false (sym there ∙ ap (is_there J) (sym (eqb-true d c on)) ∙ away))
not-away J c d false off there away = refl

-- a copy that entered and is there has its row
found-row : (J : List Entry) (p : Place) (v : VhostState) (cs : List ℕ) (rs : List Row) (c : ℕ) → Matches J p v rs cs → list_any (λ n. n == c) cs ≡ true → is_there J c ≡ true → IsFound J p v rs c
found-row J p v [] rs c m any there = absurd (false≢true any)
found-row J p v (d ∷ cs) rs c m any there = elim (matches-cases J p v rs d cs m) [
  | inl r ↦ subst (λ xs. IsFound J p v xs c) (sym r.rows') (first-found J p v r.row r.rest c (r.row.copy == c) refl r.stands
      (λ off. found-row J p v cs r.rest c r.matches (rest-any c d cs (ap (λ n. n == c) (sym r.copy) ∙ off) any) there))
  | inr a ↦ found-row J p v cs rs c a.matches (rest-any c d cs (not-away J c d (d == c) refl there a.away) any) there
]

-- ---- from the journal to the queues

-- the queue in which it is found is one of those that stand
any-by : (test : Mail Message → Bool) (e : Named Message) (queues : List (Named Message)) (s : QueueOf Message) (o : Option (QueueOf Message)) (b : Bool) → cond b (Some e.1) o ≡ Some s → test s.mail ≡ true → (o ≡ Some s → list_any (λ (x : Named Message). test x.1.mail) queues ≡ true) → (test e.1.mail || list_any (λ (x : Named Message). test x.1.mail) queues) ≡ true
any-by test e queues s o true is h later = or_left (test e.1.mail) (list_any (λ (x : Named Message). test x.1.mail) queues) (ap (λ (x : QueueOf Message). test x.mail) (same_Some e.1 s is) ∙ h)
any-by test e queues s o false is h later = or_right (test e.1.mail) (list_any (λ (x : Named Message). test x.1.mail) queues) (later is)

any-queue : (test : Mail Message → Bool) (q : List ℕ) (queues : List (Named Message)) (s : QueueOf Message) → queue_of q queues ≡ Some s → test s.mail ≡ true → list_any (λ (x : Named Message). test x.1.mail) queues ≡ true
any-queue test q [] s is h = absurd (none-some s is)
any-queue test q (e ∷ queues) s is h = any-by test e queues s (queue_of q queues) (bytes_eq q e.0) is h (λ k. any-queue test q queues s k h)

queue-by : (test : List Row → Bool) (q : List ℕ) (queues : List (Named Message)) (o : Option (QueueOf Message)) → queue_of q queues ≡ o → test (option_map_or (λ (s : QueueOf Message). s.mail.rows) o []) ≡ true → test [] ≡ false → list_any (λ (x : Named Message). test x.1.mail.rows) queues ≡ true
queue-by test q queues None is h none = absurd (true≢false (sym h ∙ none))
queue-by test q queues (Some s) is h none = any-queue (λ (m : Mail Message). test m.rows) q queues s is h

abbrev held_at : ℕ → ℕ → List Row → Bool
held_at n c rs = option_map_or (rows.is_of_client n) (rows.holder_of c rs) false

found-held : (J : List Entry) (p : Place) (v : VhostState) (rs : List Row) (c n : ℕ) (f : IsFound J p v rs c) (r : Holder) → f.row.hold ≡ numbers.Held r → rows.is_of_client n r ≡ true → held_at n c rs ≡ true
found-held J p v rs c n f r hold of =
    ap (λ o. option_map_or (rows.is_of_client n) (option_and_then (λ (row : Row). rows.holder_in row.hold) o) false) f.found
    ∙ ap (λ h. option_map_or (rows.is_of_client n) (rows.holder_in h) false) hold
    ∙ of

-- what is held has a holder's number
record HasNumber (J : List Entry) (p : Place) (v : VhostState) (c : ℕ) (h : holders.Holder) (hold : Hold) : Type 0 where
  number : Holder
  held : hold ≡ numbers.Held number
  holder : IsHolder J p v c h number

number-of : (J : List Entry) (p : Place) (v : VhostState) (c : ℕ) (t : Standing) (h : holders.Holder) (hold : Hold) → t ≡ Held h → StandsAs J p v c t hold → HasNumber J p v c h hold
number-of J p v c t h hold is k = by hold (subst (λ s. StandsAs J p v c s hold) is k)
  where
    by : (hold : Hold) → StandsAs J p v c (Held h) hold → HasNumber J p v c h hold
    by (numbers.Held r) k = record { number = r; held = refl; holder = k }
    by numbers.Ready k = absurd k

there-held : (t : Standing) (h : holders.Holder) → t ≡ Held h → not (is_left t) ≡ true
there-held t h is = ap (λ s. not (is_left s)) is

-- the queue where it is at home holds it
in-queue : (J : List Entry) (p : Place) (v : VhostState) (k : Client) (tag : List ℕ) (c n : ℕ) (q : List ℕ) → HasCopies J p v → standing c J ≡ Held (holders.Channel p k tag) → list_any (λ m. m == c) (entered J p q) ≡ true → position (consumers.is_client k) v.clients ≡ Some n → is_held_in n c v.queues ≡ true
in-queue J p v k tag c n q has is any at =
    let f : IsFound J p v (rows_in q v.queues) c = found-row J p v (entered J p q) (rows_in q v.queues) c (record { numbers = has.numbers q; stand = has.rows q }) any (there-held (standing c J) (holders.Channel p k tag) is) in
    let h : HasNumber J p v f.row.copy (holders.Channel p k tag) f.row.hold = number-of J p v f.row.copy (standing f.row.copy J) (holders.Channel p k tag) f.row.hold (ap (λ m. standing m J) f.copy ∙ is) f.stands in
    let mine : h.number.number ≡ n = same_Some h.number.number n (sym h.holder.number ∙ at) in
    let of : rows.is_of_client n h.number ≡ true = ap (λ b. not b && (h.number.number == n)) h.holder.client' ∙ eq-eqb h.number.number n mine in
    queue-by (held_at n c) q v.queues (queue_of q v.queues) refl (found-held J p v (rows_in q v.queues) c n f h.number h.held of) refl

-- a channel that the journal names
record IsChannelOf (p : Place) (k : Client) (t : Standing) : Type 0 where
  tag : List ℕ
  held : t ≡ Held (holders.Channel p k tag)

channel-of : (p : Place) (k : Client) (t : Standing) → is_client_of p k (holder_in t) ≡ true → IsChannelOf p k t
channel-of p k (Held (holders.Channel place client tag)) h =
    let parts : (same_place place p ≡ true) × (same_client client k ≡ true) = and_parts (same_place place p) (same_client client k) h in
    record { tag = tag; held = ap (λ r. Held (holders.Channel r client tag)) (same_place-true place p parts.0) ∙ ap (λ a. Held (holders.Channel p a tag)) (same_client-true client k parts.1) }
channel-of p k (Held (holders.Session l s)) h = absurd (false≢true h)
channel-of p k Ready h = absurd (false≢true h)
channel-of p k Unknown h = absurd (false≢true h)
channel-of p k Left h = absurd (false≢true h)

-- the number that it holds under
number-at : (J : List Entry) (p : Place) (v : VhostState) (k : Client) (tag : List ℕ) (c : ℕ) (q : List ℕ) → HasCopies J p v → standing c J ≡ Held (holders.Channel p k tag) → list_any (λ m. m == c) (entered J p q) ≡ true → (n : ℕ) × (position (consumers.is_client k) v.clients ≡ Some n)
number-at J p v k tag c q has is any =
    let f : IsFound J p v (rows_in q v.queues) c = found-row J p v (entered J p q) (rows_in q v.queues) c (record { numbers = has.numbers q; stand = has.rows q }) any (there-held (standing c J) (holders.Channel p k tag) is) in
    let h : HasNumber J p v f.row.copy (holders.Channel p k tag) f.row.hold = number-of J p v f.row.copy (standing f.row.copy J) (holders.Channel p k tag) f.row.hold (ap (λ m. standing m J) f.copy ∙ is) f.stands in
    (h.number.number, h.holder.number)

journal-held : (J : List Entry) (p : Place) (v : VhostState) (k : Client) (c : ℕ) → HasCopies J p v → is_held_by J p k c ≡ true → holds_as (position (consumers.is_client k) v.clients) c v.queues ≡ true
journal-held J p v k c has h =
    let channel : IsChannelOf p k (standing c J) = channel-of p k (standing c J) h in
    let home : (q : List ℕ) × (list_any (λ m. m == c) (entered J p q) ≡ true) = has.held c p k channel.tag channel.held in
    let n : (n : ℕ) × (position (consumers.is_client k) v.clients ≡ Some n) = number-at J p v k channel.tag c home.0 has channel.held home.1 in
    ap (λ o. holds_as o c v.queues) n.1 ∙ in-queue J p v k channel.tag c n.0 home.0 has channel.held home.1 n.1

-- ---- from the queues to the journal

-- the queue of that name is found
found-head : (e : Named Message) (queues : List (Named Message)) → queue_of e.0 (e ∷ queues) ≡ Some e.1
found-head e queues = ap (λ b. cond b (Some e.1) (queue_of e.0 queues)) (same_text-refl e.0)

apart-name : (q n : List ℕ) (ns : List (List ℕ)) (b : Bool) → same_text n q ≡ b → list_any (same_text n) ns ≡ false → list_any (same_text q) ns ≡ true → b ≡ false
apart-name q n ns true on none some = absurd (true≢false (sym some ∙ ap (λ x. list_any (same_text x) ns) (sym (same_text-true n q on)) ∙ none))
apart-name q n ns false off none some = refl

-- a queue in the list, by its name
pub record IsAmong (e : Named Message) (queues : List (Named Message)) : Type 0 where
  pub name : list_any (same_text e.0) (map (λ (x : Named Message). x.0) queues) ≡ true
  pub found : queue_of e.0 queues ≡ Some e.1

pub among-head : (e : Named Message) (queues : List (Named Message)) → IsAmong e (e ∷ queues)
among-head e queues = record { name = or_left (same_text e.0 e.0) (list_any (same_text e.0) (map (λ (x : Named Message). x.0) queues)) (same_text-refl e.0); found = found-head e queues }

pub among-later : (e d : Named Message) (queues : List (Named Message)) → list_any (same_text d.0) (map (λ (x : Named Message). x.0) queues) ≡ false → IsAmong e queues → IsAmong e (d ∷ queues)
among-later e d queues once a =
    let off : same_text d.0 e.0 ≡ false = apart-name e.0 d.0 (map (λ (x : Named Message). x.0) queues) (same_text d.0 e.0) refl once a.name in
    record {
      name = or_right (same_text e.0 d.0) (list_any (same_text e.0) (map (λ (x : Named Message). x.0) queues)) a.name;
      found = ap (λ b. cond b (Some d.1) (queue_of e.0 queues)) (same_text-sym e.0 d.0 ∙ off) ∙ a.found;
    }

-- the queue that passes the test
record Passes (test : Mail Message → Bool) (queues : List (Named Message)) : Type 0 where
  queue : Named Message
  among : IsAmong queue queues
  passes : test queue.1.mail ≡ true

passes-by : (test : Mail Message → Bool) (e : Named Message) (queues : List (Named Message)) (b : Bool) → test e.1.mail ≡ b → list_any (same_text e.0) (map (λ (x : Named Message). x.0) queues) ≡ false → (b || list_any (λ (x : Named Message). test x.1.mail) queues) ≡ true → (list_any (λ (x : Named Message). test x.1.mail) queues ≡ true → Passes test queues) → Passes test (e ∷ queues)
passes-by test e queues true on once any later = record { queue = e; among = among-head e queues; passes = on }
passes-by test e queues false off once any later =
    let p : Passes test queues = later any in
    record { queue = p.queue; among = among-later p.queue e queues once p.among; passes = p.passes }

passes-of : (test : Mail Message → Bool) (queues : List (Named Message)) → AreDistinct (map (λ (x : Named Message). x.0) queues) → list_any (λ (x : Named Message). test x.1.mail) queues ≡ true → Passes test queues
passes-of test [] distinct any = absurd (false≢true any)
passes-of test (e ∷ queues) distinct any = passes-by test e queues (test e.1.mail) refl distinct.0 any (passes-of test queues distinct.1)

-- the row that the queue finds for the copy
stands-by : (J : List Entry) (p : Place) (v : VhostState) (r row : Row) (rest : Option Row) (c : ℕ) (b : Bool) → (r.copy == c) ≡ b → cond b (Some r) rest ≡ Some row → RowStands J p v r → (rest ≡ Some row → (row.copy ≡ c) × RowStands J p v row) → (row.copy ≡ c) × RowStands J p v row
stands-by J p v r row rest c true on is k later = (ap (λ (x : Row). x.copy) (sym (same_Some r row is)) ∙ eqb-true r.copy c on, subst (RowStands J p v) (same_Some r row is) k)
stands-by J p v r row rest c false off is k later = later is

find-stands : (J : List Entry) (p : Place) (v : VhostState) (rs : List Row) (c : ℕ) (row : Row) → All (RowStands J p v) rs → find (λ (r : Row). r.copy == c) rs ≡ Some row → (row.copy ≡ c) × RowStands J p v row
find-stands J p v [] c row all is = absurd (none-some row is)
find-stands J p v (r ∷ rs) c row all is =
    stands-by J p v r row (find (λ (x : Row). x.copy == c) rs) c (r.copy == c) refl is (All-head (RowStands J p v) r rs all) (find-stands J p v rs c row (All-tail (RowStands J p v) r rs all))

-- who is of that client holds it as the journal says
client-of : (J : List Entry) (p : Place) (v : VhostState) (k : Client) (c n : ℕ) (t : Standing) (hold : Hold) → StandsAs J p v c t hold → option_map_or (rows.is_of_client n) (rows.holder_in hold) false ≡ true → position (consumers.is_client k) v.clients ≡ Some n → is_client_of p k (holder_in t) ≡ true
client-of J p v k c n (Held (holders.Session l s)) (numbers.Held r) stands of at =
    absurd (true≢false (sym of ∙ ap (λ (x : Holder). not x.link && (r.number == n)) stands))
client-of J p v k c n (Held (holders.Channel place client tag)) (numbers.Held r) stands of at =
    let parts : (not r.link ≡ true) × ((r.number == n) ≡ true) = and_parts (not r.link) (r.number == n) of in
    let same : client ≡ k = number-once client k v.clients r.number stands.number (at ∙ ap Some (sym (eqb-true r.number n parts.1))) in
    and_from (same_place place p) (same_client client k) (ap (λ a. same_place a p) stands.here ∙ same_place-refl p) (ap (λ a. same_client a k) same ∙ same_client-refl k)
client-of J p v k c n Ready numbers.Ready stands of at = absurd (false≢true of)
client-of J p v k c n Ready (numbers.Held r) stands of at = absurd stands
client-of J p v k c n (Held holder) numbers.Ready stands of at = absurd stands
client-of J p v k c n Unknown hold stands of at = absurd stands
client-of J p v k c n Left hold stands of at = absurd stands

held-row : (J : List Entry) (p : Place) (v : VhostState) (k : Client) (c n : ℕ) (rs : List Row) (o : Option Row) → All (RowStands J p v) rs → find (λ (r : Row). r.copy == c) rs ≡ o → option_map_or (rows.is_of_client n) (option_and_then (λ (row : Row). rows.holder_in row.hold) o) false ≡ true → position (consumers.is_client k) v.clients ≡ Some n → is_held_by J p k c ≡ true
held-row J p v k c n rs None all is h at = absurd (false≢true h)
held-row J p v k c n rs (Some row) all is h at =
    let stands : (row.copy ≡ c) × RowStands J p v row = find-stands J p v rs c row all is in
    subst (λ m. is_held_by J p k m ≡ true) stands.0 (client-of J p v k row.copy n (standing row.copy J) row.hold stands.1 h at)

queue-held : (J : List Entry) (p : Place) (v : VhostState) (k : Client) (c n : ℕ) → HasCopies J p v → AreDistinct (map (λ (q : Named Message). q.0) v.queues) → is_held_in n c v.queues ≡ true → position (consumers.is_client k) v.clients ≡ Some n → is_held_by J p k c ≡ true
queue-held J p v k c n has distinct h at =
    let p' : Passes (is_held_at n c) v.queues = passes-of (is_held_at n c) v.queues distinct h in
    let rs : All (RowStands J p v) p'.queue.1.mail.rows = subst (λ o. All (RowStands J p v) (option_map_or (λ (s : QueueOf Message). s.mail.rows) o [])) p'.among.found (has.rows p'.queue.0) in
    held-row J p v k c n p'.queue.1.mail.rows (find (λ (r : Row). r.copy == c) p'.queue.1.mail.rows) rs refl p'.passes at

queues-held : (J : List Entry) (p : Place) (v : VhostState) (k : Client) (c : ℕ) (o : Option ℕ) → HasCopies J p v → AreDistinct (map (λ (q : Named Message). q.0) v.queues) → position (consumers.is_client k) v.clients ≡ o → holds_as o c v.queues ≡ true → is_held_by J p k c ≡ true
queues-held J p v k c None has distinct at h = absurd (false≢true h)
queues-held J p v k c (Some n) has distinct at h = queue-held J p v k c n has distinct h at

-- a client holds a copy where the journal says so
pub held_by-is : (J : List Entry) (p : Place) (v : VhostState) (k : Client) (c : ℕ) → HasCopies J p v → AreDistinct (map (λ (q : Named Message). q.0) v.queues) → holds_as (position (consumers.is_client k) v.clients) c v.queues ≡ is_held_by J p k c
held_by-is J p v k c has distinct =
    alike (holds_as (position (consumers.is_client k) v.clients) c v.queues) (is_held_by J p k c)
    (queues-held J p v k c (position (consumers.is_client k) v.clients) has distinct refl)
    (journal-held J p v k c has)
