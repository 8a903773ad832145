-- What stands at each place of a line is read back, and no reason refuses it.
use Rattle.std.proofs.Common.{◌≡◌, ℕ, ◌<◌, ◌≤◌, Bool, true, false, List, length, Some, None, refl, ap, ◌∙◌, arith}
use Rattle.std.specs.Prelude.{IsUtf8}
use Rattle.std.specs.Fmt.{decimal}
use Rattle.std.proofs.lemmas.Bool.{le-ltb, ne_eqb}
use Rattle.client_rules.specs.Names.{is_reserved}
use Rattle.fed_journal.specs.declared.place.Place.{Place}
use Rattle.fed_journal.specs.Words.{word, place_word}
use Rattle.schedule_words.specs.Words.{text_of}
use Rattle.schedule_words.specs.Numbers.{client_of, copy_of, prefetch_count_of}
use Rattle.schedule_words.specs.Fields.{place_of, is_bad_place}
use Rattle.schedule_words.proofs.Written.{IsTextWord, text_octets, words-back, texts-back, places-back, numbers-back}
use Rattle.fed_schedule.specs.Reasons.{is_bad_name, is_bad_run_name, is_bad_client, is_bad_copy, is_bad_queue, has_bad_place_and_name, has_bad_end}
use Rattle.schedule_writer.specs.Readable.{IsName, IsBroker, IsPlace, IsClient, IsShovelQueue, IsCopy}

-- the word of a name
pub record NameSlot (t : List ℕ) : Type 0 where
  pub is_word : IsTextWord (word t)
  pub read : text_of (word t) ≡ t
  pub good : is_bad_name (word t) ≡ false

text_word : (t : List ℕ) → IsUtf8 t → IsTextWord (word t)
text_word t u = record { written = (words-back t (text_octets t u)).written; valid = (texts-back t u).valid }

pub name_slot : (t : List ℕ) → IsName t → NameSlot t
name_slot t is =
    let read = (texts-back t is.text).read in
    record { is_word = text_word t is.text; read = read; good = rw read (le-ltb 255 (length t) is.short) }

pub record BrokerSlot (t : List ℕ) : Type 0 where
  pub is_word : IsTextWord (word t)
  pub read : text_of (word t) ≡ t
  pub good : is_bad_run_name (word t) ≡ false

pub broker_slot : (t : List ℕ) → IsBroker t → BrokerSlot t
broker_slot t is =
    let read = (texts-back t is.text).read in
    record { is_word = text_word t is.text; read = read; good = rw (read, is.run) refl }

pub record PlaceSlot (p : Place) : Type 0 where
  pub is_word : IsTextWord (place_word p)
  pub read : place_of (place_word p) ≡ p
  pub good : is_bad_place (place_of (place_word p)) ≡ false

pub place_slot : (p : Place) → IsPlace p → PlaceSlot p
place_slot p is =
    let back = places-back p is.broker.text is.vhost.text in
    record {
      is_word = record { written = back.written; valid = back.valid };
      read = back.read;
      good = rw (back.read, is.broker.run, le-ltb 255 (length p.vhost) is.vhost.short) refl;
    }

pub record NumberSlot (n : ℕ) : Type 0 where
  pub is_word : IsTextWord (decimal n)
  pub read : client_of (decimal n) ≡ Some n
  pub good : is_bad_client (decimal n) ≡ false

pub client_slot : (n : ℕ) → n < 65536 → NumberSlot n
unfolding client_of
client_slot n small =
    let back = numbers-back 0 65535 n (omega arith) (omega arith) (omega arith) in
    record { is_word = record { written = back.written; valid = back.valid }; read = back.read; good = rw back.read refl }

pub record CopySlot (n : ℕ) : Type 0 where
  pub is_word : IsTextWord (decimal n)
  pub read : copy_of (decimal n) ≡ Some n
  pub good : is_bad_copy (decimal n) ≡ false

pub copy_slot : (n : ℕ) → IsCopy n → CopySlot n
unfolding copy_of
copy_slot n is =
    let back = numbers-back 1 18446744073709551615 n is.least is.most (omega arith) in
    record { is_word = record { written = back.written; valid = back.valid }; read = back.read; good = rw back.read refl }

pub prefetch_read : (n : ℕ) → n < 65536 → prefetch_count_of (decimal n) ≡ Some n
unfolding prefetch_count_of
prefetch_read n small = (numbers-back 0 65535 n (omega arith) (omega arith) (omega arith)).read

-- a place and a name
pub named : (p : Place) (t : List ℕ) → PlaceSlot p → NameSlot t → has_bad_place_and_name (place_word p) (word t) ≡ false
unfolding has_bad_place_and_name
named p t place name = rw (place.good, name.good) refl

pub ended : (b q : List ℕ) → BrokerSlot b → NameSlot q → has_bad_end (word b) (word q) ≡ false
unfolding has_bad_end
ended b q broker name = rw (broker.good, name.good) refl

pub queue_good : (q : List ℕ) → IsShovelQueue q → is_bad_queue (word q) ≡ false
unfolding is_bad_queue
queue_good q is = rw ((texts-back q is.name.text).read, ne_eqb (length q) 0 (omega (arith, is.some)), is.free) refl
