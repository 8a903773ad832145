-- The keys that have a meaning here; all others are read, counted as inert, and have no effect (RabbitMQ's "Parameters and
-- Policies", "Federation Reference" and "Configuring Dynamic Shovels" have more of them).
use Rattle.std.specs.Prelude.{ℕ, ◌+◌, Bool, ◌||◌, List, codes, if◌then◌else◌}
use Rattle.std.specs.Option.{option_map_or}
use Rattle.serde_json.specs.Data.{Data, Members, no_members, member}
use Rattle.serde_json.specs.Find.{get, as_object}
use Rattle.defs_values.specs.declared.inert.KeySet.{KeySet}
use Rattle.defs_values.specs.declared.inert.KeySet.TheVariants as keys
use Rattle.defs_values.specs.Shovels.{has_key}
use Rattle.fed_defs.specs.Texts.{same_text}

-- the only argument of a queue that is read
unfoldable pub is_argument : List ℕ → Bool
is_argument k = same_text k (codes "x-queue-type")

-- the keys of a policy's definition that make links
unfoldable pub is_policy_key : List ℕ → Bool
is_policy_key k =
    same_text k (codes "federation-upstream") || same_text k (codes "federation-upstream-pattern")
    || same_text k (codes "federation-upstream-set")

-- the keys of an upstream that a member of a set may override
unfoldable pub is_override : List ℕ → Bool
is_override k =
    same_text k (codes "ack-mode") || same_text k (codes "exchange") || same_text k (codes "max-hops")
    || same_text k (codes "prefetch-count") || same_text k (codes "queue") || same_text k (codes "reconnect-delay")

-- what a shovel does with messages, under the newer and the older names
unfoldable pub is_shovel_setting : List ℕ → Bool
is_shovel_setting k =
    same_text k (codes "ack-mode") || same_text k (codes "reconnect-delay")
    || same_text k (codes "src-delete-after") || same_text k (codes "delete-after")
    || same_text k (codes "src-prefetch-count") || same_text k (codes "prefetch-count")

unfoldable pub is_shovel_header : List ℕ → Bool
is_shovel_header k =
    same_text k (codes "dest-add-forward-headers") || same_text k (codes "add-forward-headers")
    || same_text k (codes "dest-publish-properties") || same_text k (codes "publish-properties")

-- where a shovel takes from and publishes to
unfoldable pub is_shovel_source : List ℕ → Bool
is_shovel_source k =
    same_text k (codes "src-uri") || same_text k (codes "src-queue") || same_text k (codes "src-exchange")
    || same_text k (codes "src-exchange-key") || same_text k (codes "src-protocol")

unfoldable pub is_shovel_target : List ℕ → Bool
is_shovel_target k =
    same_text k (codes "dest-uri") || same_text k (codes "dest-queue") || same_text k (codes "dest-exchange")
    || same_text k (codes "dest-exchange-key") || same_text k (codes "dest-protocol")

-- the keys that have a meaning
unfoldable pub is_read : KeySet → List ℕ → Bool
is_read keys.Arguments k = is_argument k
is_read keys.Policy k = is_policy_key k
is_read keys.Upstream k = is_override k || same_text k (codes "uri")
is_read keys.Member k = is_override k || same_text k (codes "upstream")
is_read keys.Shovel k = is_shovel_setting k || is_shovel_header k || is_shovel_source k || is_shovel_target k

-- how many keys are inert
abbrev pub inert_members : KeySet → Members → ℕ
inert_members set no_members = 0
inert_members set (member k d ms) = if is_read set k then inert_members set ms else 1 + inert_members set ms

-- how many keys of an object are inert
abbrev pub inert_of : KeySet → Data → ℕ
inert_of set d = option_map_or (inert_members set) (as_object d) 0

-- how many keys of the object at a key are inert
abbrev pub inert_at : KeySet → List ℕ → Data → ℕ
inert_at set k d = option_map_or (inert_of set) (get k d) 0

-- a routing key has no effect without its exchange
abbrev pub inert_without : List ℕ → List ℕ → Data → ℕ
inert_without exchange k d = if has_key exchange d then 0 else if has_key k d then 1 else 0

unfoldable pub shovel_inert : Data → ℕ
shovel_inert d =
    inert_of keys.Shovel d + inert_without (codes "src-exchange") (codes "src-exchange-key") d
    + inert_without (codes "dest-exchange") (codes "dest-exchange-key") d
