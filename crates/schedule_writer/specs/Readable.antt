-- The events whose lines the reader gives back: their texts are UTF-8, as every text of a run is, and they keep to the limits of the language.
use Rattle.std.specs.Prelude.{ℕ, ◌≡◌, ◌<◌, ◌≤◌, List, Bool, true, false, not, length, All, IsUtf8}
use Rattle.std.specs.List.{list_any}
use Rattle.client_rules.specs.Names.{is_reserved}
use Rattle.fed_journal.specs.declared.event.Event.{Event}
use Rattle.fed_journal.specs.declared.event.Event.TheVariants.{DeclareQueue, DeclareExchange, Bind, Unbind, Publish, Consume, Cancel, Deliver, Get, Ack, Reject, Requeue, Purge, Close, Flush, SetShovel, Open, Take, Send, Accept, Confirm, Note, Settle, Show}
use Rattle.fed_journal.specs.declared.place.Place.{Place}
use Rattle.schedule_words.specs.Words.{is_text}
use Rattle.schedule_words.specs.Fields.{is_run_name}
use Rattle.schedule_words.specs.Links.{link_name, is_bad_link}
use Rattle.schedule_words.specs.Laws.{IsOctet, IsOneWord}
use Rattle.fed_schedule.specs.declared.shovels.ShovelKey.{ShovelKey}
use Rattle.fed_schedule.specs.Forms.{shovel_key, same_shovel}

-- a name, a routing key or a tag (AMQP 0-9-1, 4.2.5.3: short strings)
pub record IsName (t : List ℕ) : Type 0 where
  pub text : IsUtf8 t
  pub short : length t ≤ 255

-- the name of a broker in a run
pub record IsBroker (t : List ℕ) : Type 0 where
  pub text : IsUtf8 t
  pub run : is_run_name t ≡ true

pub record IsPlace (place : Place) : Type 0 where
  pub broker : IsBroker place.broker
  pub vhost : IsName place.vhost

-- a client of a place: its number has 16 bits
pub record IsClient (at : Place) (client : ℕ) : Type 0 where
  pub place : IsPlace at
  pub number : client < 65536

-- a queue that a shovel may have (RabbitMQ, dynamic shovels: `src-queue`, `dest-queue`)
pub record IsShovelQueue (t : List ℕ) : Type 0 where
  pub name : IsName t
  pub some : 0 < length t
  pub free : is_reserved t ≡ false

-- a link's name as the reader gives it: it is one word, reads as itself, and no part is too long
pub record IsLink (l : List ℕ) : Type 0 where
  pub written : IsOneWord l
  pub valid : is_text l ≡ true
  pub same : link_name l ≡ l
  pub short : is_bad_link l ≡ false

-- the number of a copy has 64 bits and isn't 0
pub record IsCopy (copy : ℕ) : Type 0 where
  pub least : 1 ≤ copy
  pub most : copy ≤ 18446744073709551615

-- a message's body: octets, at most 16,777,216
pub record IsBody (t : List ℕ) : Type 0 where
  pub octets : All IsOctet t
  pub short : length t ≤ 16777216

-- what an event says, its line can say
abbrev pub CanBeRead : Event → Type 0
CanBeRead (DeclareQueue place client queue options) = IsClient place client × IsName queue
CanBeRead (DeclareExchange place client exchange shape) = IsClient place client × IsName exchange
CanBeRead (Bind place client binding) = IsClient place client × IsName binding.dest × IsName binding.source × IsName binding.key
CanBeRead (Unbind place client binding) = IsClient place client × IsName binding.dest × IsName binding.source × IsName binding.key
CanBeRead (Publish place client message) = IsClient place client × IsName message.exchange × IsName message.key × IsBody message.body
CanBeRead (Consume place client queue tag no_ack prefetch) = IsClient place client × IsName queue × IsName tag × (prefetch < 65536)
CanBeRead (Cancel place client tag) = IsClient place client × IsName tag
CanBeRead (Deliver place client tag) = IsClient place client × IsName tag
CanBeRead (Get place client queue no_ack) = IsClient place client × IsName queue
CanBeRead (Ack place client copy) = IsClient place client × IsCopy copy
CanBeRead (Reject place client copy) = IsClient place client × IsCopy copy
CanBeRead (Requeue place client copy) = IsClient place client × IsCopy copy
CanBeRead (Purge place client queue) = IsClient place client × IsName queue
CanBeRead (Close place client) = IsClient place client
CanBeRead (Flush broker) = IsBroker broker
CanBeRead (SetShovel place name shovel) =
    IsPlace place × IsName name × IsBroker shovel.source × IsShovelQueue shovel.source_queue × IsBroker shovel.target × IsShovelQueue shovel.target_queue
CanBeRead (Open link) = IsLink link
CanBeRead (Take link) = IsLink link
CanBeRead (Send link) = IsLink link
CanBeRead (Accept link) = IsLink link
CanBeRead (Confirm link) = IsLink link
CanBeRead (Note link) = IsLink link
CanBeRead (Settle link) = IsLink link
CanBeRead Show = Unit {0}

-- a shovel that isn't set yet; to set one again isn't built
abbrev pub is_new : List ShovelKey → Event → Bool
is_new ks (SetShovel place name shovel) = not (list_any (same_shovel (shovel_key place name)) ks)
is_new ks _ = true
