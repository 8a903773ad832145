-- What a shelf, a sink, a peer and a door do to what they tell, and what a fault shows.
-- This project's own: no public document has these definitions.
use Rattle.std.specs.Prelude.{◌≡◌, ℕ, ◌+◌, ◌^◌, ◌<◌, ◌≤◌, ◌⊎◌, List, [], ◌∷◌, ◌++◌, length, take, drop, Option, Some, None, option_map}
use Rattle.fed_outside.specs.Plan.{raised}
use Rattle.fed_outside.specs.declared.shelf.Loaded.{Loaded}
use Rattle.fed_outside.specs.declared.shelf.Loaded.TheVariants.{Bytes, Absent, TooLong, Failed, Memory}

-- A count of faults went up. A count that stands at the limit of 64 bits can't, and shows nothing.
abbrev pub Rose : ℕ → ℕ → Type 0
Rose before now = (before < now) ⊎ (2 ^ 64 ≤ before + 1)

-- what a sink has taken, with these octets behind it
abbrev pub grown : Option (List ℕ) → List ℕ → Option (List ℕ)
grown told octets = option_map (λ taken. taken ++ octets) told

-- A prefix of the piece went out.
abbrev pub GrownByPrefix : Option (List ℕ) → Option (List ℕ) → List ℕ → Type 0
GrownByPrefix before now piece = (n : ℕ) × (now ≡ grown before (take n piece))

-- the names that loads asked for, with this one behind them
abbrev pub with_name : Option (List (List ℕ)) → List ℕ → Option (List (List ℕ))
with_name asked name = option_map (λ names. names ++ name ∷ []) asked

-- a count that went up by one; it stays at the limit of 64 bits
abbrev pub once_more : Option ℕ → Option ℕ
once_more count = option_map raised count

-- what is asked of the octets, if a load gave some
abbrev pub IfBytes : Loaded → (List ℕ → Type 0) → Type 0
IfBytes (Bytes bytes) P = P bytes.items
IfBytes Absent P = Unit {0}
IfBytes TooLong P = Unit {0}
IfBytes Failed P = Unit {0}
IfBytes Memory P = Unit {0}

-- What a load says of a file, or of a name that no file has. Failures and want of memory say nothing.
abbrev pub IsContent : Option (List ℕ) → ℕ → Loaded → Type 0
IsContent file most (Bytes bytes) = file ≡ Some bytes.items
IsContent file most Absent = file ≡ None
IsContent file most TooLong = (content : List ℕ) × (file ≡ Some content) × (most < length content)
IsContent file most Failed = Unit {0}
IsContent file most Memory = Unit {0}

-- What a load by this name says, where the shelf tells its files.
abbrev pub Answers : Option (List ℕ → Option (List ℕ)) → List ℕ → ℕ → Loaded → Type 0
Answers None name most loaded = Unit {0}
Answers (Some files) name most loaded = IsContent (files name) most loaded

-- the octets of a connection, as this side has them: those read, those left to read and those written
pub record Traffic : Type 0 where
  pub read : List ℕ
  pub left : List ℕ
  pub written : List ℕ

-- the next n octets go from those left to those read
abbrev pub advanced : ℕ → Traffic → Traffic
advanced n traffic = record {
  read = traffic.read ++ take n traffic.left;
  left = drop n traffic.left;
  written = traffic.written;
}

-- these octets are written behind those written before
abbrev pub written_on : List ℕ → Traffic → Traffic
written_on octets traffic = record traffic { written = traffic.written ++ octets }

-- These octets are the next of the input.
abbrev pub AreNext : List ℕ → Option Traffic → Type 0
AreNext octets None = Unit {0}
AreNext octets (Some traffic) = take (length octets) traffic.left ≡ octets

-- Nothing is left to read.
abbrev pub IsAtEnd : Option Traffic → Type 0
IsAtEnd None = Unit {0}
IsAtEnd (Some traffic) = traffic.left ≡ []

-- A prefix of the piece was written.
abbrev pub WrittenByPrefix : Option Traffic → Option Traffic → List ℕ → Type 0
WrittenByPrefix before now piece = (n : ℕ) × (now ≡ option_map (written_on (take n piece)) before)

-- Nothing was read from the peer, and nothing was written to it.
abbrev pub IsUntouched : Option Traffic → Type 0
IsUntouched None = Unit {0}
IsUntouched (Some traffic) = (traffic.read ≡ []) × (traffic.written ≡ [])

-- a peer that a door was given back, as it was then: its count of faults and its octets
pub record GivenBack : Type 0 where
  pub faults : ℕ
  pub traffic : Traffic

-- The peers given back, with this one behind them. A door that is given back a peer of which nothing is told tells no more.
abbrev pub with_back : Option (List GivenBack) → ℕ → Option Traffic → Option (List GivenBack)
with_back None faults traffic = None
with_back (Some peers) faults None = None
with_back (Some peers) faults (Some traffic) = Some (peers ++ record { faults = faults; traffic = traffic } ∷ [])
