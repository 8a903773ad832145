-- What the shelf, the sink, the peer and the door over memory hold, and what each call does to it.
-- This project's own: no public document has these definitions.
use Rattle.std.specs.Prelude.{ℕ, ◌-◌, ◌≡◌, ◌++◌, Bool, true, false, List, [], ◌∷◌, if◌then◌else◌, length, take, find, min, nat_lt, bytes_eq, Option, Some, None, option_map}
use Rattle.fed_outside.specs.Outside.{Traffic, GivenBack, advanced, written_on}
use Rattle.fed_outside.specs.Plan.{Plan, planned, raised, judged}

-- a file in memory
pub record NamedFile : Type 0 where
  pub name : List ℕ
  pub content : List ℕ

-- the content of the first file of that name
abbrev pub content_of : List NamedFile → List ℕ → Option (List ℕ)
content_of files name = option_map (λ file. file.content) (find (λ file. bytes_eq file.name name) files)

-- a shelf in memory
pub record ShelfState : Type 0 where
  pub files : List NamedFile
  pub plan : Plan

-- a sink in memory: what it has taken, and how many octets it takes in all
pub record SinkState : Type 0 where
  pub octets : List ℕ
  pub room : ℕ
  pub plan : Plan

-- how many octets a call lets out at most, where there is room for so many
abbrev pub most_out : Option ℕ → ℕ → ℕ
most_out None room = room
most_out (Some octets) room = min octets room

-- a call is a fault if it is to be one, or if the piece goes past the room
abbrev pub is_fault : Option ℕ → ℕ → List ℕ → Bool
is_fault None room piece = nat_lt room (length piece)
is_fault (Some octets) room piece = true

-- the sink after a call
abbrev pub sink_after : SinkState → List ℕ → SinkState
sink_after sink piece =
    let room = sink.room - length sink.octets in
    record {
      octets = sink.octets ++ take (most_out (planned sink.plan) room) piece;
      room = sink.room;
      plan = judged (is_fault (planned sink.plan) room piece) sink.plan;
    }

-- a peer in memory: its octets, and how many may be written to it in all
pub record PeerState : Type 0 where
  pub traffic : Traffic
  pub room : ℕ
  pub plan : Plan

-- the peer after a read of n octets that is no fault
abbrev pub peer_after_read : ℕ → PeerState → PeerState
peer_after_read n peer = record { traffic = advanced n peer.traffic; room = peer.room; plan = judged false peer.plan }

-- the peer after a write
abbrev pub peer_after_write : PeerState → List ℕ → PeerState
peer_after_write peer piece =
    let room = peer.room - length peer.traffic.written in
    record {
      traffic = written_on (take (most_out (planned peer.plan) room) piece) peer.traffic;
      room = peer.room;
      plan = judged (is_fault (planned peer.plan) room piece) peer.plan;
    }

-- No call of the peer failed, and no octet went to it or came from it.
pub record IsFresh (peer : PeerState) : Type 0 where
  pub faults : peer.plan.faults ≡ 0
  pub read : peer.traffic.read ≡ []
  pub written : peer.traffic.written ≡ []

-- a door in memory: the peers that it has to give, those that it was given back, and how many are out
pub record DoorState : Type 0 where
  pub waiting : List PeerState
  pub given_back : List PeerState
  pub out : ℕ
  pub peer_faults : ℕ
  pub plan : Plan

-- what a door tells of a peer that it is given back
abbrev pub parting : PeerState → GivenBack
parting peer = record { faults = peer.plan.faults; traffic = peer.traffic }

-- the door after it was given back a peer
abbrev pub door_after_back : DoorState → PeerState → DoorState
door_after_back door peer = record {
  waiting = door.waiting;
  given_back = door.given_back ++ peer ∷ [];
  out = door.out - 1;
  peer_faults = if nat_lt 0 peer.plan.faults then raised door.peer_faults else door.peer_faults;
  plan = door.plan;
}
