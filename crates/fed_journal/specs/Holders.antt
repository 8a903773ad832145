-- To whom a queue hands its copies.
use Rattle.std.specs.Prelude.{ℕ, List, Bool, false, ◌&&◌, ◌==◌}
use Rattle.fed_journal.specs.declared.place.Place.{Place}
use Rattle.client_rules.specs.declared.client.Client.{Client}
use Rattle.fed_journal.specs.Names.{same_text, same_place}

-- a session of a link, or a channel of a client under the tag of its consumer (AMQP 0-9-1, basic.deliver); the tag is empty where the client asked for a copy (basic.get-ok)
pub data Holder : Type 0 where
  Session : (link : List ℕ) (session : ℕ) → Holder
  Channel : (place : Place) (client : Client) (tag : List ℕ) → Holder

-- the same connection, and the same channel of it (AMQP 0-9-1, 2.1.1)
abbrev pub same_client : Client → Client → Bool
same_client a b = a.connection == b.connection && a.channel == b.channel

-- the holder is this client at this place
abbrev pub is_client : Place → Client → Holder → Bool
is_client p k (Session link session) = false
is_client p k (Channel place client tag) = same_place place p && same_client client k

-- the holder is a channel of this connection to this place
abbrev pub is_connection : Place → ℕ → Holder → Bool
is_connection p n (Session link session) = false
is_connection p n (Channel place client tag) = same_place place p && client.connection == n

-- the holder is this client's consumer of that tag
abbrev pub is_consumer : Place → Client → List ℕ → Holder → Bool
is_consumer p k t (Session link session) = false
is_consumer p k t (Channel place client tag) = same_place place p && same_client client k && same_text tag t
