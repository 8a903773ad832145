-- When two lists of properties, and two messages, are one: tests by their parts.
use Rattle.std.specs.Prelude.{◌≡◌, ℕ, Bool, true, false, ◌&&◌, List, Option, Some, None, nat_eq}
use Rattle.std.specs.Cmp.{IsEquivalence}
use Rattle.std.specs.Cmp.Lexicographic.{pointwise, bytes_decides}
use Rattle.std.proofs.Common.{refl, sym, ap, ◌∙◌, true≢false}
use Rattle.std.proofs.lemmas.Bool.Decides.{Decides-eqb}
use Rattle.field_tables.specs.Fields.{Pairs}
use Rattle.field_tables.specs.Same.{same_pairs}
use Rattle.field_tables.specs.SameLaws.{both, equivalence, same_pairs_yes, same_pairs_self}
use Rattle.amqp_props.specs.declared.properties.Properties.{Properties}
use Rattle.amqp_props.specs.declared.message.Message.{Message}

abbrev pub same_option : {A : Type 0} → (A → A → Bool) → Option A → Option A → Bool
same_option same None None = true
same_option same (Some x) (Some y) = same x y
same_option same _ _ = false

abbrev pub same_octets : List ℕ → List ℕ → Bool
same_octets a b = pointwise nat_eq a b

abbrev pub same_text : Option (List ℕ) → Option (List ℕ) → Bool
same_text a b = same_option same_octets a b

abbrev pub same_number : Option ℕ → Option ℕ → Bool
same_number a b = same_option nat_eq a b

abbrev pub same_table : Option Pairs → Option Pairs → Bool
same_table a b = same_option same_pairs a b

-- Each property is absent in both, or has one value in both.
unfoldable pub same_properties : Properties → Properties → Bool
same_properties p q =
    same_text p.content_type q.content_type
    && (same_text p.content_encoding q.content_encoding
    && (same_table p.headers q.headers
    && (same_number p.delivery_mode q.delivery_mode
    && (same_number p.priority q.priority
    && (same_text p.correlation_id q.correlation_id
    && (same_text p.reply_to q.reply_to
    && (same_text p.expiration q.expiration
    && (same_text p.message_id q.message_id
    && (same_number p.timestamp q.timestamp
    && (same_text p.type_name q.type_name
    && (same_text p.user_id q.user_id
    && (same_text p.app_id q.app_id
    && (same_text p.reserved q.reserved)))))))))))))

-- The exchange, the key, the properties and the body are the same.
unfoldable pub same_message : Message → Message → Bool
same_message m n =
    same_octets m.exchange n.exchange
    && (same_octets m.key n.key
    && (same_properties m.props n.props
    && same_octets m.body n.body))

-- ---- these tests decide whether they are one

option_yes : {A : Type 0} (same : A → A → Bool) → ((x y : A) → same x y ≡ true → x ≡ y) → (a b : Option A) → same_option same a b ≡ true → a ≡ b
option_yes same one None None h = refl
option_yes same one (Some x) (Some y) h = ap Some (one x y h)
option_yes same one None (Some y) h = absurd (true≢false (sym h))
option_yes same one (Some x) None h = absurd (true≢false (sym h))

option_self : {A : Type 0} (same : A → A → Bool) → ((x : A) → same x x ≡ true) → (a : Option A) → same_option same a a ≡ true
option_self same self None = refl
option_self same self (Some x) = self x

octets_yes : (a b : List ℕ) → same_octets a b ≡ true → a ≡ b
octets_yes a b h = (bytes_decides a b).0 h

octets_self : (a : List ℕ) → same_octets a a ≡ true
octets_self a = (bytes_decides a a).1 refl

text_yes : (a b : Option (List ℕ)) → same_text a b ≡ true → a ≡ b
text_yes = option_yes same_octets octets_yes

text_self : (a : Option (List ℕ)) → same_text a a ≡ true
text_self = option_self same_octets octets_self

number_yes : (a b : Option ℕ) → same_number a b ≡ true → a ≡ b
number_yes = option_yes nat_eq (λ x y h. (Decides-eqb x y).0 h)

number_self : (a : Option ℕ) → same_number a a ≡ true
number_self = option_self nat_eq (λ x. (Decides-eqb x x).1 refl)

table_yes : (a b : Option Pairs) → same_table a b ≡ true → a ≡ b
table_yes = option_yes same_pairs same_pairs_yes

table_self : (a : Option Pairs) → same_table a a ≡ true
table_self = option_self same_pairs same_pairs_self

both_true : (a b : Bool) → a ≡ true → b ≡ true → (a && b) ≡ true
both_true a b e f = ap (λ (x : Bool). x && b) e ∙ f

pub properties_yes : (p q : Properties) → same_properties p q ≡ true → p ≡ q
unfolding same_properties
properties_yes p q h =
    let t0 = both _ _ h in
    let t1 = both _ _ t0.1 in
    let t2 = both _ _ t1.1 in
    let t3 = both _ _ t2.1 in
    let t4 = both _ _ t3.1 in
    let t5 = both _ _ t4.1 in
    let t6 = both _ _ t5.1 in
    let t7 = both _ _ t6.1 in
    let t8 = both _ _ t7.1 in
    let t9 = both _ _ t8.1 in
    let t10 = both _ _ t9.1 in
    let t11 = both _ _ t10.1 in
    let t12 = both _ _ t11.1 in
    λ i. record {
      content_type = text_yes p.content_type q.content_type t0.0 i;
      content_encoding = text_yes p.content_encoding q.content_encoding t1.0 i;
      headers = table_yes p.headers q.headers t2.0 i;
      delivery_mode = number_yes p.delivery_mode q.delivery_mode t3.0 i;
      priority = number_yes p.priority q.priority t4.0 i;
      correlation_id = text_yes p.correlation_id q.correlation_id t5.0 i;
      reply_to = text_yes p.reply_to q.reply_to t6.0 i;
      expiration = text_yes p.expiration q.expiration t7.0 i;
      message_id = text_yes p.message_id q.message_id t8.0 i;
      timestamp = number_yes p.timestamp q.timestamp t9.0 i;
      type_name = text_yes p.type_name q.type_name t10.0 i;
      user_id = text_yes p.user_id q.user_id t11.0 i;
      app_id = text_yes p.app_id q.app_id t12.0 i;
      reserved = text_yes p.reserved q.reserved t12.1 i;
    }

pub properties_self : (p : Properties) → same_properties p p ≡ true
unfolding same_properties
properties_self p =
    both_true _ _ (text_self p.content_type) (both_true _ _ (text_self p.content_encoding) (both_true _ _ (table_self p.headers) (both_true _ _ (number_self p.delivery_mode) (both_true _ _ (number_self p.priority) (both_true _ _ (text_self p.correlation_id) (both_true _ _ (text_self p.reply_to) (both_true _ _ (text_self p.expiration) (both_true _ _ (text_self p.message_id) (both_true _ _ (number_self p.timestamp) (both_true _ _ (text_self p.type_name) (both_true _ _ (text_self p.user_id) (both_true _ _ (text_self p.app_id) (text_self p.reserved)))))))))))))

pub message_yes : (m n : Message) → same_message m n ≡ true → m ≡ n
unfolding same_message
message_yes m n h =
    let t0 = both _ _ h in
    let t1 = both _ _ t0.1 in
    let t2 = both _ _ t1.1 in
    λ i. record {
      exchange = octets_yes m.exchange n.exchange t0.0 i;
      key = octets_yes m.key n.key t1.0 i;
      props = properties_yes m.props n.props t2.0 i;
      body = octets_yes m.body n.body t2.1 i;
    }

pub message_self : (m : Message) → same_message m m ≡ true
unfolding same_message
message_self m =
    both_true _ _ (octets_self m.exchange) (both_true _ _ (octets_self m.key) (both_true _ _ (properties_self m.props) (octets_self m.body)))

pub properties_laws : IsEquivalence same_properties
properties_laws = equivalence same_properties properties_yes properties_self

pub message_laws : IsEquivalence same_message
message_laws = equivalence same_message message_yes message_self
