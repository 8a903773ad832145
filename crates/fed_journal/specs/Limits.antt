-- The limits of a journal and of a run, by number.
use Rattle.std.specs.Prelude.{ℕ}

-- entries of a journal
abbrev pub most_entries : ℕ
most_entries = 2000000

-- octets of messages, summed over the publications of a journal
abbrev pub most_bytes : ℕ
most_bytes = 268435456

-- octets of a message's body
abbrev pub most_body : ℕ
most_body = 16777216

-- links of a configuration
abbrev pub most_links : ℕ
most_links = 4096

-- copies that a link's session may hold where nothing else is asked for (RabbitMQ, Dynamic Shovels: src-prefetch-count)
abbrev pub default_prefetch : ℕ
default_prefetch = 1000
