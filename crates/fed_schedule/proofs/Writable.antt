-- What a line that is accepted carries has a spelling on the wire.
use Rattle.std.proofs.Common.{◌≡◌, ℕ, ◌+◌, ◌≤◌, Bool, true, false, cond, List, [], ◌++◌, length, drop, Option, Some, None, Result, Ok, Err, refl, arith}
use Rattle.std.specs.Prelude.{IfOk, ◌||◌, ◌&&◌, ◌==◌, not, replicate, codes}
use Rattle.std.specs.List.{list_any}
use Rattle.std.proofs.lemmas.List.Elements.{All-append, All-replicate}
use Rattle.std.proofs.lemmas.Bool.{or_parts, ltb-false}
use Rattle.field_tables.specs.Tables.{IsTable}
use Rattle.fed_journal.specs.declared.event.Event.{Event}
use Rattle.fed_journal.specs.declared.event.Event.TheVariants as event
use Rattle.fed_journal.specs.Events.{IsWritable}
use Rattle.fed_journal.specs.Sizes.{IsMessage}
use Rattle.fed_journal.specs.Limits.{most_body}
use Rattle.fed_journal.specs.Names.{same_text}
use Rattle.fed_schedule.specs.declared.keyword.Keyword.{Keyword}
use Rattle.fed_schedule.specs.declared.keyword.Keyword.TheVariants as form
use Rattle.fed_schedule.specs.declared.keyword.BindingAction.{BindingAction}
use Rattle.fed_schedule.specs.declared.keyword.BindingAction.TheVariants as binding
use Rattle.fed_schedule.specs.declared.keyword.Settlement.{Settlement}
use Rattle.fed_schedule.specs.declared.keyword.Settlement.TheVariants.{Ack, Reject, Requeue}
use Rattle.fed_schedule.specs.declared.keyword.ClientAction.{ClientAction}
use Rattle.fed_schedule.specs.declared.keyword.ClientAction.TheVariants as client
use Rattle.fed_schedule.specs.declared.keyword.LinkAction.{LinkAction}
use Rattle.fed_schedule.specs.declared.keyword.LinkAction.TheVariants.{Open, Take, Send, Accept, Confirm, Note, Settle}
use Rattle.fed_schedule.specs.declared.script.LineReason.{LineReason}
use Rattle.fed_schedule.specs.declared.script.LineReason.TheVariants as why
use Rattle.fed_schedule.specs.declared.statement.Statement.{Statement}
use Rattle.fed_schedule.specs.declared.script.TheConstants.{MAX_SCHEDULE}
use Rattle.schedule_words.specs.Words.{word_at, spaced_length, octets_of, text_of}
use Rattle.schedule_words.specs.Fields.{place_of}
use Rattle.fed_schedule.specs.Forms.{keyword_of, are_texts, is_unbuilt, is_empty_word, is_miscounted}
use Rattle.fed_schedule.specs.Options.{header_words}
use Rattle.schedule_words.specs.Values.{is_bad_argument_value, arguments_of}
use Rattle.fed_schedule.specs.Messages.{header_front, message_of}
use Rattle.fed_schedule.specs.Reasons.{is_late, is_bad_body, has_bad_number, has_bad_binding_names, has_bad_publish_names, has_bad_names, has_bad_option, has_bad_message, has_bad_value}
use Rattle.fed_schedule.specs.Statements.{client_at, queue_options_of, exchange_shape_of, declare_event, binding_at, binding_event, publish_event, shovel_event, consume_event, cancel_event, deliver_event, get_event, settle_event, purge_event, close_event, client_event, link_event, statement_of}
use Rattle.fed_schedule.specs.Times.{head_of, line_of, is_head, is_bad_head, is_single}
use Rattle.fed_schedule.specs.Schedule.{State, AreWritable, IsWritableStatement, are_escaped, single_reason, reason_of, form_read, unless_refused, of_form, of_line, judge}
use Rattle.fed_schedule.proofs.Arguments.{arguments_spelled, binding_names, publish_names, props_short}
use Rattle.fed_schedule.proofs.Lengths.{spaced_line}
use Rattle.schedule_words.proofs.Lengths.{spaced_drop}

-- ---- bindings

binding-writable : (action : BindingAction) (ws : List (List ℕ)) → IsTable (arguments_of [] (drop 7 ws)) → IsWritable (binding_event action ws)
unfolding binding_event binding_at
binding-writable binding.Bind ws table = table
binding-writable binding.Unbind ws table = table

binding-table : (ws : List (List ℕ)) → has_bad_binding_names ws ≡ false → spaced_length ws ≤ MAX_SCHEDULE + 1 → IsTable (arguments_of [] (drop 7 ws))
binding-table ws named few = arguments_spelled [] (drop 7 ws) (binding_names ws named) (omega (arith, few, spaced_drop 7 ws))

-- ---- messages

body-short : (ws : List (List ℕ)) → has_bad_message ws ≡ false → length (octets_of (word_at ws 5)) ≤ most_body
unfolding has_bad_message is_bad_body
body-short ws valued =
    let values = or_parts (is_bad_body (word_at ws 5) || list_any (is_bad_argument_value header_front) (header_words (drop 6 ws))) _ valued in
    let body = or_parts (is_bad_body (word_at ws 5)) _ values.0 in
    omega (arith, ltb-false _ _ body.0)

message-writable : (ws : List (List ℕ)) → has_bad_publish_names ws ≡ false → has_bad_message ws ≡ false → spaced_length ws ≤ MAX_SCHEDULE + 1 → IsMessage (message_of ws)
unfolding message_of
message-writable ws named valued few = record { short = props_short ws (publish_names ws named) few; body = body-short ws valued }

-- ---- other events

either : (b : Bool) (x y : Event) → IsWritable x → IsWritable y → IsWritable (cond b x y)
either true x y p q = p
either false x y p q = q

declare-writable : (ws : List (List ℕ)) → IsWritable (declare_event ws)
unfolding declare_event
declare-writable ws =
    either (same_text (word_at ws 3) (codes "exchange"))
    (event.DeclareExchange (place_of (word_at ws 1)) (client_at ws) (text_of (word_at ws 4)) (exchange_shape_of (word_at ws 5) (drop 6 ws)))
    (event.DeclareQueue (place_of (word_at ws 1)) (client_at ws) (text_of (word_at ws 4)) (queue_options_of (drop 5 ws))) tt tt

settle-writable : (settlement : Settlement) (ws : List (List ℕ)) → IsWritable (settle_event settlement ws)
unfolding settle_event
settle-writable Ack ws = tt
settle-writable Reject ws = tt
settle-writable Requeue ws = tt

client-writable : (action : ClientAction) (ws : List (List ℕ)) → IsWritable (client_event action ws)
unfolding client_event consume_event cancel_event deliver_event get_event purge_event close_event
client-writable client.Consume ws = tt
client-writable client.Cancel ws = tt
client-writable client.Deliver ws = tt
client-writable client.Get ws = tt
client-writable (client.Settle settlement) ws = settle-writable settlement ws
client-writable client.Purge ws = tt
client-writable client.Close ws = tt

link-writable : (action : LinkAction) (l : List ℕ) → IsWritable (link_event action l)
link-writable Open l = tt
link-writable Take l = tt
link-writable Send l = tt
link-writable Accept l = tt
link-writable Confirm l = tt
link-writable Note l = tt
link-writable Settle l = tt

-- ---- lines

statement-writable : (k : Keyword) (ws : List (List ℕ)) → has_bad_names k ws ≡ false → has_bad_value k ws ≡ false → spaced_length ws ≤ MAX_SCHEDULE + 1 → IsWritableStatement (statement_of k ws)
unfolding has_bad_names has_bad_value statement_of publish_event shovel_event
statement-writable form.Broker ws named valued few = tt
statement-writable form.Declare ws named valued few = declare-writable ws
statement-writable (form.Binding action) ws named valued few = binding-writable action ws (binding-table ws named few)
statement-writable form.Publish ws named valued few = message-writable ws named valued few
statement-writable form.Flush ws named valued few = tt
statement-writable form.Shovel ws named valued few = tt
statement-writable form.Show ws named valued few = tt
statement-writable (form.Client action) ws named valued few = client-writable action ws
statement-writable (form.Link action) ws named valued few = link-writable action _

abbrev IsGood : Result Statement LineReason → Type 0
IsGood judged = IfOk judged IsWritableStatement

-- what the words of a form state, once names and values are judged
read-writable : (n a o v : Bool) (k : Keyword) (ws : List (List ℕ)) → spaced_length ws ≤ MAX_SCHEDULE + 1 → has_bad_names k ws ≡ a → has_bad_value k ws ≡ v
    → IsGood (cond n (Err why.Number) (cond a (Err why.Name) (cond o (Err why.Option) (cond v (Err why.Value) (Ok (statement_of k ws))))))
read-writable true a o v k ws few named valued = tt
read-writable false true o v k ws few named valued = tt
read-writable false false true v k ws few named valued = tt
read-writable false false false true k ws few named valued = tt
read-writable false false false false k ws few named valued = statement-writable k ws named valued few

pub form_writable : (k : Keyword) (ws : List (List ℕ)) → spaced_length ws ≤ MAX_SCHEDULE + 1 → IsGood (form_read k ws)
unfolding form_read
form_writable k ws few = read-writable (has_bad_number k ws) (has_bad_names k ws) (has_bad_option k ws) (has_bad_value k ws) k ws few refl refl

unless-writable : (reason : Option LineReason) (k : Keyword) (ws : List (List ℕ)) → spaced_length ws ≤ MAX_SCHEDULE + 1 → IsGood (unless_refused reason (form_read k ws))
unless-writable None k ws few = form_writable k ws few
unless-writable (Some reason) k ws few = tt

form-writable : (r : State) (head ws : List (List ℕ)) (k : Option Keyword) → spaced_length ws ≤ MAX_SCHEDULE + 1 → IsGood (of_form r head ws k)
form-writable r head ws None few = tt
form-writable r head ws (Some k) few = unless-writable (reason_of r k head ws) k ws few

if_writable : (b : Bool) (reason : LineReason) (judged : Result Statement LineReason) → IsGood judged → IsGood (cond b (Err reason) judged)
if_writable true reason judged good = tt
if_writable false reason judged good = good

line-writable : (r : State) (head ws : List (List ℕ)) → spaced_length ws ≤ MAX_SCHEDULE + 1 → IsGood (of_line r head ws)
unfolding of_line
line-writable r head ws few =
    if_writable (length ws == 0) why.Count _ (if_writable (is_head head && is_single (word_at ws 0)) (single_reason head ws) _ (form-writable r head ws (keyword_of (word_at ws 0)) few))

pub judged_writable : (r : State) (ws : List (List ℕ)) → spaced_length ws ≤ MAX_SCHEDULE + 1 → IfOk (judge r ws) IsWritableStatement
unfolding judge
judged_writable r ws few = if_writable (not (are_texts ws)) why.Text _ (line-writable r (head_of ws) (line_of ws) (omega (arith, few, spaced_line ws)))

pub copies_writable : (es : List (ℕ × Event)) (n count : ℕ) (e : Event) → IsWritable e → AreWritable es → AreWritable (es ++ replicate count (n, e))
copies_writable es n count e good goods =
    All-append (λ (x : ℕ × Event). IsWritable x.1) es (replicate count (n, e)) goods (All-replicate (λ (x : ℕ × Event). IsWritable x.1) count (n, e) good)
