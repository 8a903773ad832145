-- The forms of lines, by their first word.
use Rattle.std.specs.Prelude.{ℕ, ◌+◌, List, [], ◌∷◌, ◌++◌, Bool, true, false, ◌&&◌, ◌||◌, not, if◌then◌else◌, ◌==◌, nat_le, nat_lt, length, take, drop, Option, Some, None, codes}
use Rattle.std.specs.List.{list_any, list_all}
use Rattle.fed_journal.specs.declared.event.Event.{Event}
use Rattle.fed_journal.specs.declared.event.Event.TheVariants.{SetShovel}
use Rattle.fed_journal.specs.declared.place.Place.{Place}
use Rattle.fed_journal.specs.Names.{same_text}
use Rattle.fed_schedule.specs.declared.keyword.Keyword.{Keyword}
use Rattle.fed_schedule.specs.declared.shovels.ShovelKey.{ShovelKey}
use Rattle.fed_schedule.specs.declared.keyword.Keyword.TheVariants.{Broker, Declare, Binding, Publish, Flush, Shovel, Client, Link, Show}
use Rattle.fed_schedule.specs.declared.keyword.BindingAction.TheVariants as binding
use Rattle.fed_schedule.specs.declared.keyword.Settlement.TheVariants as settles
use Rattle.fed_schedule.specs.declared.keyword.ClientAction.{ClientAction}
use Rattle.fed_schedule.specs.declared.keyword.ClientAction.TheVariants as client
use Rattle.fed_schedule.specs.declared.keyword.LinkAction.{LinkAction}
use Rattle.fed_schedule.specs.declared.keyword.LinkAction.TheVariants.{Open, Take, Send, Accept, Confirm, Note, Settle}
use Rattle.schedule_words.specs.Words.{word_at, is_text, text_of}
use Rattle.schedule_words.specs.Fields.{place_of}
use Rattle.fed_schedule.specs.Times.{is_times, is_repeated}
use Rattle.fed_schedule.specs.Options.{are_queue_options, are_built_queue_options}

-- what a client does with copies (AMQP 0-9-1, the methods of class basic; queue.purge; connection.close)
unfoldable pub client_action_of : List ℕ → Option ClientAction
client_action_of w =
    if same_text w (codes "consume") then Some client.Consume else
    if same_text w (codes "cancel") then Some client.Cancel else
    if same_text w (codes "deliver") then Some client.Deliver else
    if same_text w (codes "get") then Some client.Get else
    if same_text w (codes "ack") then Some (client.Settle settles.Ack) else
    if same_text w (codes "reject") then Some (client.Settle settles.Reject) else
    if same_text w (codes "requeue") then Some (client.Settle settles.Requeue) else
    if same_text w (codes "purge") then Some client.Purge else
    if same_text w (codes "close") then Some client.Close else None

-- what a link does
unfoldable pub link_action_of : List ℕ → Option LinkAction
link_action_of w =
    if same_text w (codes "open") then Some Open else
    if same_text w (codes "take") then Some Take else
    if same_text w (codes "send") then Some Send else
    if same_text w (codes "accept") then Some Accept else
    if same_text w (codes "confirm") then Some Confirm else
    if same_text w (codes "note") then Some Note else
    if same_text w (codes "settle") then Some Settle else None

abbrev pub keyword_of_action : Option ClientAction → Option LinkAction → Option Keyword
keyword_of_action (Some action) _ = Some (Client action)
keyword_of_action None (Some action) = Some (Link action)
keyword_of_action None None = None

-- the form of what a client or a link does
unfoldable pub action_keyword_of : List ℕ → Option Keyword
action_keyword_of w = keyword_of_action (client_action_of w) (link_action_of w)

-- the form that the first word names
unfoldable pub keyword_of : List ℕ → Option Keyword
keyword_of w =
    if same_text w (codes "broker") then Some Broker else
    if same_text w (codes "declare") then Some Declare else
    if same_text w (codes "bind") then Some (Binding binding.Bind) else
    if same_text w (codes "unbind") then Some (Binding binding.Unbind) else
    if same_text w (codes "publish") then Some Publish else
    if same_text w (codes "flush") then Some Flush else
    if same_text w (codes "shovel") then Some Shovel else
    if same_text w (codes "show") then Some Show else action_keyword_of w

-- all words but one are texts
abbrev pub are_texts_but : ℕ → List (List ℕ) → Bool
are_texts_but at ws = list_all is_text (take at ws) && list_all is_text (drop (at + 1) ws)

-- all words but the body of a message are texts
unfoldable pub are_texts : List (List ℕ) → Bool
are_texts ws =
    if same_text (word_at ws 0) (codes "publish") then are_texts_but 5 ws else
    if is_times ws && same_text (word_at ws 2) (codes "publish") then are_texts_but 7 ws else list_all is_text ws

-- a declaration of a queue that goes with its last consumer (AMQP 0-9-1, queue.declare: auto-delete)
unfoldable pub is_unbuilt_declare : List (List ℕ) → Bool
is_unbuilt_declare ws =
    same_text (word_at ws 3) (codes "queue") && nat_le 5 (length ws) && are_queue_options (drop 5 ws) && not (are_built_queue_options (drop 5 ws))

-- what tells the shovel of a place and name from others
abbrev pub shovel_key : Place → List ℕ → ShovelKey
shovel_key p n = record { broker = p.broker; vhost = p.vhost; name = n }

-- shovels are told apart by their places and names
abbrev pub same_shovel : ShovelKey → ShovelKey → Bool
same_shovel a b = same_text a.broker b.broker && same_text a.vhost b.vhost && same_text a.name b.name

-- the shovels set so far, and one more
abbrev pub with_key : List ShovelKey → ShovelKey → List ShovelKey
with_key ks k = if list_any (same_shovel k) ks then ks else ks ++ k ∷ []

-- the same with the one that an event sets
unfoldable pub with_shovel : List ShovelKey → Event → List ShovelKey
with_shovel ks (SetShovel place name shovel) = with_key ks (shovel_key place name)
with_shovel ks _ = ks

-- a shovel with another acknowledgement mode (RabbitMQ, shovels: `ack-mode`), or one that is set again
unfoldable pub is_unbuilt_shovel : List ShovelKey → List (List ℕ) → Bool
is_unbuilt_shovel ks ws =
    same_text (word_at ws 7) (codes "on-publish") || same_text (word_at ws 7) (codes "no-ack")
    || list_any (same_shovel (shovel_key (place_of (word_at ws 1)) (text_of (word_at ws 2)))) ks

-- a line whose form isn't built yet, after the shovels set before it
unfoldable pub is_unbuilt : List ShovelKey → Keyword → List (List ℕ) → List (List ℕ) → Bool
is_unbuilt ks Declare head ws = is_unbuilt_declare ws
is_unbuilt ks Shovel head ws = is_repeated head || is_unbuilt_shovel ks ws
is_unbuilt ks _ head ws = false

-- the words of what a client does, without options
abbrev pub client_word_count : ClientAction → ℕ
client_word_count client.Consume = 5
client_word_count client.Close = 3
client_word_count _ = 4

-- the words of a declaration, without options: an exchange has a type
abbrev pub declare_word_count : List (List ℕ) → ℕ
declare_word_count ws = if same_text (word_at ws 3) (codes "exchange") then 6 else 5

-- the words of a form, without its options
abbrev pub word_count : Keyword → List (List ℕ) → ℕ
word_count Broker ws = 2
word_count Declare ws = declare_word_count ws
word_count (Binding _) ws = 7
word_count Publish ws = 6
word_count Flush ws = 2
word_count Shovel ws = 8
word_count Show ws = 1
word_count (Client action) ws = client_word_count action
word_count (Link _) ws = 2

abbrev pub takes_options : Keyword → Bool
takes_options Declare = true
takes_options (Binding _) = true
takes_options Publish = true
takes_options (Client client.Consume) = true
takes_options (Client client.Get) = true
takes_options _ = false

abbrev pub is_empty_word : List ℕ → Bool
is_empty_word w = length w == 0

-- words are missing, too many, or empty
unfoldable pub is_miscounted : Keyword → List (List ℕ) → Bool
is_miscounted k ws =
    list_any is_empty_word ws || nat_lt (length ws) (word_count k ws) || (not (takes_options k) && nat_lt (word_count k ws) (length ws))
