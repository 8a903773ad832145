use Rattle.std.proofs.Common.{◌≡◌, ℕ, Bool, cond, Option, Some, None, is_some, option_map, ap, ◌∙◌, refl, arith}
use Rattle.amqp_props.specs.ContentHeader.{Value, short_string, field_table, octet, longlong, values_of}
use Rattle.amqp_props.proofs.writing.flags_of.Goals as goal

is_some-map : {A : Type 0} (value : A → Value) (o : Option A) → is_some o ≡ is_some (option_map value o)
is_some-map value None = refl
is_some-map value (Some x) = refl

-- the flag of a value is that of the field
flag_of : {A : Type 0} (value : A → Value) (o : Option A) (present : Bool) (n mask : ℕ) → n ≡ cond present mask 0 → present ≡ is_some o → n ≡ cond (is_some (option_map value o)) mask 0
flag_of value o present n mask e is = e ∙ ap (λ b. cond b mask 0) (is ∙ is_some-map value o)

pub returns : goal.returns
unfolding values_of
returns c =
    let content_type = flag_of short_string c.args.props.now.content_type c.is_some.result c.flag.result 32768 c.flag.ensures.exact c.is_some.ensures in
    let content_encoding = flag_of short_string c.args.props.now.content_encoding c.is_some-2.result c.flag-2.result 16384 c.flag-2.ensures.exact c.is_some-2.ensures in
    let headers = flag_of field_table c.args.props.now.headers c.is_some-3.result c.flag-3.result 8192 c.flag-3.ensures.exact c.is_some-3.ensures in
    let delivery_mode = flag_of octet c.args.props.now.delivery_mode c.is_some-4.result c.flag-4.result 4096 c.flag-4.ensures.exact c.is_some-4.ensures in
    let priority = flag_of octet c.args.props.now.priority c.is_some-5.result c.flag-5.result 2048 c.flag-5.ensures.exact c.is_some-5.ensures in
    let correlation_id = flag_of short_string c.args.props.now.correlation_id c.is_some-6.result c.flag-6.result 1024 c.flag-6.ensures.exact c.is_some-6.ensures in
    let reply_to = flag_of short_string c.args.props.now.reply_to c.is_some-7.result c.flag-7.result 512 c.flag-7.ensures.exact c.is_some-7.ensures in
    let expiration = flag_of short_string c.args.props.now.expiration c.is_some-8.result c.flag-8.result 256 c.flag-8.ensures.exact c.is_some-8.ensures in
    let message_id = flag_of short_string c.args.props.now.message_id c.is_some-9.result c.flag-9.result 128 c.flag-9.ensures.exact c.is_some-9.ensures in
    let timestamp = flag_of longlong c.args.props.now.timestamp c.is_some-10.result c.flag-10.result 64 c.flag-10.ensures.exact c.is_some-10.ensures in
    let type_name = flag_of short_string c.args.props.now.type_name c.is_some-11.result c.flag-11.result 32 c.flag-11.ensures.exact c.is_some-11.ensures in
    let user_id = flag_of short_string c.args.props.now.user_id c.is_some-12.result c.flag-12.result 16 c.flag-12.ensures.exact c.is_some-12.ensures in
    let app_id = flag_of short_string c.args.props.now.app_id c.is_some-13.result c.flag-13.result 8 c.flag-13.ensures.exact c.is_some-13.ensures in
    let reserved = flag_of short_string c.args.props.now.reserved c.is_some-14.result c.flag-14.result 4 c.flag-14.ensures.exact c.is_some-14.ensures in
    omega arith
