-- Run names, names and places.
use Rattle.std.specs.Prelude.{ℕ, ◌+◌, List, Bool, ◌&&◌, ◌||◌, not, ◌==◌, nat_le, nat_lt, length, take, drop, slice_index, Option, Some, None, codes}
use Rattle.std.specs.List.{list_all, position}
use Rattle.fed_journal.specs.declared.place.Place.{Place}
use Rattle.schedule_words.specs.Words.{text_of}

-- a-z 0-9
abbrev pub begins_run_name : ℕ → Bool
begins_run_name b = (nat_le 97 b && nat_le b 122) || (nat_le 48 b && nat_le b 57)

-- a-z 0-9 . _ -
abbrev pub is_in_run_name : ℕ → Bool
is_in_run_name b = begins_run_name b || b == 46 || b == 95 || b == 45

-- the name of a broker in a run: 1 to 64 of these, the first a letter or a digit
unfoldable pub is_run_name : List ℕ → Bool
is_run_name t = nat_le 1 (length t) && nat_le (length t) 64 && begins_run_name (slice_index t 0) && list_all is_in_run_name t

-- too long for a name or a routing key (AMQP 0-9-1, 4.2.5.3: short strings)
abbrev pub is_long : List ℕ → Bool
is_long t = nat_lt 255 (length t)

abbrev pub is_colon : ℕ → Bool
is_colon b = b == 58

-- the virtual host is `/` where none is named (RabbitMQ, Virtual Hosts: the default virtual host)
abbrev pub place_cut_at : List ℕ → Option ℕ → Place
place_cut_at w None = record { broker = text_of w; vhost = codes "/" }
place_cut_at w (Some at) = record { broker = text_of (take at w); vhost = text_of (drop (at + 1) w) }

-- a place is a broker, or a broker and a virtual host with the first `:` between
unfoldable pub place_of : List ℕ → Place
place_of w = place_cut_at w (position is_colon w)

abbrev pub is_bad_place : Place → Bool
is_bad_place p = not (is_run_name p.broker) || is_long p.vhost
