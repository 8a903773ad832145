-- The messages of the copies that are in queues: each is kept once for its publication, under a key that its copies have
-- (AMQP 0-9-1, 3.1.1 "The Message Queue").
use Rattle.std.specs.Prelude.{◌≡◌, ◌≢◌, ◌==◌, is_some, nat_lt, ℕ, ◌+◌, ◌<◌, ◌≤◌, List, [], ◌∷◌, None, count_by, map, if◌then◌else◌}
use Rattle.std.specs.Option.{option_map_or}
use Rattle.std.specs.Borrow.{Bor}
use Rattle.amqp_props.specs.declared.message.Message.{Message}
use Rattle.slab.specs.Slab.{Slab, get}
use Rattle.broker_store.specs.declared.mailbox.CopyMessage.{CopyMessage}
use Rattle.broker_store.specs.declared.messages.Kept.{Kept}
use Rattle.broker_store.specs.Mail.{Mail}
use Rattle.broker_store.specs.Queues.{Standing, Named}

-- what is seen where nothing is kept, which no copy shows
abbrev pub no_message : Message
no_message = record {
  exchange = [];
  key = [];
  props = record {
    content_type = None;
    content_encoding = None;
    headers = None;
    delivery_mode = None;
    priority = None;
    correlation_id = None;
    reply_to = None;
    expiration = None;
    message_id = None;
    timestamp = None;
    type_name = None;
    user_id = None;
    app_id = None;
    reserved = None;
  };
  body = [];
}

-- the message under the key
abbrev pub message_at : Slab Kept → ℕ → Message
message_at kept key = option_map_or (λ k. k.message) (get kept key) no_message

-- how many copies carry it
abbrev pub copies_at : ℕ → Slab Kept → ℕ
copies_at key kept = option_map_or (λ k. k.copies) (get kept key) 0

-- a message goes with its last copy
abbrev pub AreLive : Slab Kept → Type 0
AreLive kept = (key : ℕ) → is_some (get kept key) ≡ nat_lt 0 (copies_at key kept)

-- the message is kept under the next key for so many copies, or not at all where that is 0
pub record IsAdded (message : Message) (copies : ℕ) (was now : Slab Kept) : Type 0 where
  pub counts : copies_at was.vacant_key now ≡ copies
  pub there : 0 < copies → message_at now was.vacant_key ≡ message
  pub others : (key : ℕ) → key ≢ was.vacant_key → get now key ≡ get was key

-- how many of these copies have the key
abbrev pub uses : ℕ → List (CopyMessage ℕ) → ℕ
uses key copies = count_by (λ copy. copy.message == key) copies

-- and how many in all queues
abbrev pub all_uses : ℕ → List (Named ℕ) → ℕ
all_uses key [] = 0
all_uses key (q ∷ queues) = uses key q.1.mail.copies + all_uses key queues

-- a message is kept for as many copies as there are
abbrev pub IsCounted : Slab Kept → List (Named ℕ) → Type 0
IsCounted kept queues = (key : ℕ) → copies_at key kept ≡ all_uses key queues

-- each message is kept for at least so many copies as these are
abbrev pub Covers : Slab Kept → List (CopyMessage ℕ) → Type 0
Covers kept copies = (key : ℕ) → uses key copies ≤ copies_at key kept

-- the copies of a queue before and after became fewer, and so did what is counted; what is still counted is as it was
pub record Follows (was now : Slab Kept) (before after : List (CopyMessage ℕ)) : Type 0 where
  pub counts : (key : ℕ) → copies_at key now + uses key before ≡ copies_at key was + uses key after
  pub fewer : (key : ℕ) → copies_at key now ≤ copies_at key was
  pub same : (key : ℕ) → 0 < copies_at key now → message_at now key ≡ message_at was key

-- so many more copies have the key
abbrev pub AreMore : ℕ → ℕ → List (Named ℕ) → List (Named ℕ) → Type 0
AreMore key copies was now = (other : ℕ) → all_uses other now ≡ all_uses other was + (if other == key then copies else 0)

-- what is kept is counted by these queues, and is as it was
pub record Remains (was now : Slab Kept) (queues : List (Named ℕ)) : Type 0 where
  pub counted : IsCounted now queues
  pub same : (key : ℕ) → 0 < copies_at key now → message_at now key ≡ message_at was key

-- a copy with its message
abbrev pub shown : Bor (CopyMessage ℕ) × Bor Message → CopyMessage Message
shown first = record { number = first.0.now.number; again = first.0.now.again; message = first.1.now }

module _ {A B : Type 0} where
  -- a copy with what its key stands for
  abbrev pub copy_with : (A → B) → CopyMessage A → CopyMessage B
  copy_with of copy = record { number = copy.number; again = copy.again; message = of copy.message }

  abbrev pub mail_with : (A → B) → Mail A → Mail B
  mail_with of m = record { rows = m.rows; copies = map (copy_with of) m.copies }

  abbrev pub queue_with : (A → B) → Standing A → Standing B
  queue_with of q = record { number = q.number; options = q.options; owner = q.owner; mail = mail_with of q.mail }

  abbrev pub queues_with : (A → B) → List (Named A) → List (Named B)
  queues_with of queues = map (λ q. (q.0, queue_with of q.1)) queues
