use Rattle.std.proofs.Common.{◌≡◌, ℕ, List, [], ◌∷◌, ◌++◌, Option, option_map, IfSome, sym, ap, ◌∙◌, append_assoc}
use Rattle.std.proofs.lemmas.List.{append-nil}
use Rattle.amqp_props.specs.ContentHeader.{Value, short_string, field_table, octet, longlong, HasSpelling, HaveSpelling, optional_spelling, values_of, values_spelling}
use Rattle.field_tables.proofs.Kept.{kept_on}
use Rattle.amqp_props.proofs.writing.put_properties.Goals as goal

-- the first value, and then the others
put_next : (old mid new : List ℕ) (value : Option Value) (values : List (Option Value)) → IfSome value HasSpelling × (mid ≡ old ++ optional_spelling value)
    → HaveSpelling values × (new ≡ mid ++ values_spelling values) → HaveSpelling (value ∷ values) × (new ≡ old ++ values_spelling (value ∷ values))
put_next old mid new value values first others =
    ((first.0, others.0), others.1 ∙ ap (λ (front : List ℕ). front ++ values_spelling values) first.1 ∙ append_assoc old (optional_spelling value) (values_spelling values))

put_end : (out : List ℕ) → HaveSpelling [] × (out ≡ out ++ values_spelling [])
put_end out = (tt, sym (append-nil out))

pub returns-clause-ok : goal.returns-clause-ok
unfolding values_of
returns-clause-ok c =
    let p = c.args.props.now in
    let after_reserved : List (Option Value) = [] in
    let after_app_id = option_map short_string p.reserved ∷ after_reserved in
    let after_user_id = option_map short_string p.app_id ∷ after_app_id in
    let after_type_name = option_map short_string p.user_id ∷ after_user_id in
    let after_timestamp = option_map short_string p.type_name ∷ after_type_name in
    let after_message_id = option_map longlong p.timestamp ∷ after_timestamp in
    let after_expiration = option_map short_string p.message_id ∷ after_message_id in
    let after_reply_to = option_map short_string p.expiration ∷ after_expiration in
    let after_correlation_id = option_map short_string p.reply_to ∷ after_reply_to in
    let after_priority = option_map short_string p.correlation_id ∷ after_correlation_id in
    let after_delivery_mode = option_map octet p.priority ∷ after_priority in
    let after_headers = option_map octet p.delivery_mode ∷ after_delivery_mode in
    let after_content_encoding = option_map field_table p.headers ∷ after_headers in
    let after_content_type = option_map short_string p.content_encoding ∷ after_content_encoding in
    put_next _ _ _ _ after_content_type c.in_ok-put_text.ensures.ok
    (put_next _ _ _ _ after_content_encoding c.in_ok-put_text-2.ensures.ok
    (put_next _ _ _ _ after_headers c.in_ok-put_table.ensures.ok
    (put_next _ _ _ _ after_delivery_mode c.in_ok-put_octet.ensures.ok
    (put_next _ _ _ _ after_priority c.in_ok-put_octet-2.ensures.ok
    (put_next _ _ _ _ after_correlation_id c.in_ok-put_text-3.ensures.ok
    (put_next _ _ _ _ after_reply_to c.in_ok-put_text-4.ensures.ok
    (put_next _ _ _ _ after_expiration c.in_ok-put_text-5.ensures.ok
    (put_next _ _ _ _ after_message_id c.in_ok-put_text-6.ensures.ok
    (put_next _ _ _ _ after_timestamp c.in_ok-put_long.ensures.ok
    (put_next _ _ _ _ after_type_name c.in_ok-put_text-7.ensures.ok
    (put_next _ _ _ _ after_user_id c.in_ok-put_text-8.ensures.ok
    (put_next _ _ _ _ after_app_id c.in_ok-put_text-9.ensures.ok
    (put_next _ _ _ _ after_reserved c.in_ok-put_text-10.ensures.ok (put_end _))))))))))))))

pub returns-in_err-put_text-clause-kept : goal.returns-in_err-put_text-clause-kept
returns-in_err-put_text-clause-kept c = c.put_text.ensures.kept

pub returns-in_err-put_text-2-clause-kept : goal.returns-in_err-put_text-2-clause-kept
returns-in_err-put_text-2-clause-kept c = kept_on _ _ _ (c.put_text.ensures.kept) c.put_text-2.ensures.kept

pub returns-in_err-put_table-clause-kept : goal.returns-in_err-put_table-clause-kept
returns-in_err-put_table-clause-kept c = kept_on _ _ _ (kept_on _ _ _ (c.put_text.ensures.kept) c.put_text-2.ensures.kept) c.put_table.ensures.kept

pub returns-in_err-put_octet-clause-kept : goal.returns-in_err-put_octet-clause-kept
returns-in_err-put_octet-clause-kept c = kept_on _ _ _ (kept_on _ _ _ (kept_on _ _ _ (c.put_text.ensures.kept) c.put_text-2.ensures.kept) c.put_table.ensures.kept) c.put_octet.ensures.kept

pub returns-in_err-put_octet-2-clause-kept : goal.returns-in_err-put_octet-2-clause-kept
returns-in_err-put_octet-2-clause-kept c = kept_on _ _ _ (kept_on _ _ _ (kept_on _ _ _ (kept_on _ _ _ (c.put_text.ensures.kept) c.put_text-2.ensures.kept) c.put_table.ensures.kept) c.put_octet.ensures.kept) c.put_octet-2.ensures.kept

pub returns-in_err-put_text-3-clause-kept : goal.returns-in_err-put_text-3-clause-kept
returns-in_err-put_text-3-clause-kept c = kept_on _ _ _ (kept_on _ _ _ (kept_on _ _ _ (kept_on _ _ _ (kept_on _ _ _ (c.put_text.ensures.kept) c.put_text-2.ensures.kept) c.put_table.ensures.kept) c.put_octet.ensures.kept) c.put_octet-2.ensures.kept) c.put_text-3.ensures.kept

pub returns-in_err-put_text-4-clause-kept : goal.returns-in_err-put_text-4-clause-kept
returns-in_err-put_text-4-clause-kept c = kept_on _ _ _ (kept_on _ _ _ (kept_on _ _ _ (kept_on _ _ _ (kept_on _ _ _ (kept_on _ _ _ (c.put_text.ensures.kept) c.put_text-2.ensures.kept) c.put_table.ensures.kept) c.put_octet.ensures.kept) c.put_octet-2.ensures.kept) c.put_text-3.ensures.kept) c.put_text-4.ensures.kept

pub returns-in_err-put_text-5-clause-kept : goal.returns-in_err-put_text-5-clause-kept
returns-in_err-put_text-5-clause-kept c = kept_on _ _ _ (kept_on _ _ _ (kept_on _ _ _ (kept_on _ _ _ (kept_on _ _ _ (kept_on _ _ _ (kept_on _ _ _ (c.put_text.ensures.kept) c.put_text-2.ensures.kept) c.put_table.ensures.kept) c.put_octet.ensures.kept) c.put_octet-2.ensures.kept) c.put_text-3.ensures.kept) c.put_text-4.ensures.kept) c.put_text-5.ensures.kept

pub returns-in_err-put_text-6-clause-kept : goal.returns-in_err-put_text-6-clause-kept
returns-in_err-put_text-6-clause-kept c = kept_on _ _ _ (kept_on _ _ _ (kept_on _ _ _ (kept_on _ _ _ (kept_on _ _ _ (kept_on _ _ _ (kept_on _ _ _ (kept_on _ _ _ (c.put_text.ensures.kept) c.put_text-2.ensures.kept) c.put_table.ensures.kept) c.put_octet.ensures.kept) c.put_octet-2.ensures.kept) c.put_text-3.ensures.kept) c.put_text-4.ensures.kept) c.put_text-5.ensures.kept) c.put_text-6.ensures.kept

pub returns-in_err-put_long-clause-kept : goal.returns-in_err-put_long-clause-kept
returns-in_err-put_long-clause-kept c = kept_on _ _ _ (kept_on _ _ _ (kept_on _ _ _ (kept_on _ _ _ (kept_on _ _ _ (kept_on _ _ _ (kept_on _ _ _ (kept_on _ _ _ (kept_on _ _ _ (c.put_text.ensures.kept) c.put_text-2.ensures.kept) c.put_table.ensures.kept) c.put_octet.ensures.kept) c.put_octet-2.ensures.kept) c.put_text-3.ensures.kept) c.put_text-4.ensures.kept) c.put_text-5.ensures.kept) c.put_text-6.ensures.kept) c.put_long.ensures.kept

pub returns-in_err-put_text-7-clause-kept : goal.returns-in_err-put_text-7-clause-kept
returns-in_err-put_text-7-clause-kept c = kept_on _ _ _ (kept_on _ _ _ (kept_on _ _ _ (kept_on _ _ _ (kept_on _ _ _ (kept_on _ _ _ (kept_on _ _ _ (kept_on _ _ _ (kept_on _ _ _ (kept_on _ _ _ (c.put_text.ensures.kept) c.put_text-2.ensures.kept) c.put_table.ensures.kept) c.put_octet.ensures.kept) c.put_octet-2.ensures.kept) c.put_text-3.ensures.kept) c.put_text-4.ensures.kept) c.put_text-5.ensures.kept) c.put_text-6.ensures.kept) c.put_long.ensures.kept) c.put_text-7.ensures.kept

pub returns-in_err-put_text-8-clause-kept : goal.returns-in_err-put_text-8-clause-kept
returns-in_err-put_text-8-clause-kept c = kept_on _ _ _ (kept_on _ _ _ (kept_on _ _ _ (kept_on _ _ _ (kept_on _ _ _ (kept_on _ _ _ (kept_on _ _ _ (kept_on _ _ _ (kept_on _ _ _ (kept_on _ _ _ (kept_on _ _ _ (c.put_text.ensures.kept) c.put_text-2.ensures.kept) c.put_table.ensures.kept) c.put_octet.ensures.kept) c.put_octet-2.ensures.kept) c.put_text-3.ensures.kept) c.put_text-4.ensures.kept) c.put_text-5.ensures.kept) c.put_text-6.ensures.kept) c.put_long.ensures.kept) c.put_text-7.ensures.kept) c.put_text-8.ensures.kept

pub returns-in_err-put_text-9-clause-kept : goal.returns-in_err-put_text-9-clause-kept
returns-in_err-put_text-9-clause-kept c = kept_on _ _ _ (kept_on _ _ _ (kept_on _ _ _ (kept_on _ _ _ (kept_on _ _ _ (kept_on _ _ _ (kept_on _ _ _ (kept_on _ _ _ (kept_on _ _ _ (kept_on _ _ _ (kept_on _ _ _ (kept_on _ _ _ (c.put_text.ensures.kept) c.put_text-2.ensures.kept) c.put_table.ensures.kept) c.put_octet.ensures.kept) c.put_octet-2.ensures.kept) c.put_text-3.ensures.kept) c.put_text-4.ensures.kept) c.put_text-5.ensures.kept) c.put_text-6.ensures.kept) c.put_long.ensures.kept) c.put_text-7.ensures.kept) c.put_text-8.ensures.kept) c.put_text-9.ensures.kept

pub returns-in_err-put_text-10-clause-kept : goal.returns-in_err-put_text-10-clause-kept
returns-in_err-put_text-10-clause-kept c = kept_on _ _ _ (kept_on _ _ _ (kept_on _ _ _ (kept_on _ _ _ (kept_on _ _ _ (kept_on _ _ _ (kept_on _ _ _ (kept_on _ _ _ (kept_on _ _ _ (kept_on _ _ _ (kept_on _ _ _ (kept_on _ _ _ (kept_on _ _ _ (c.put_text.ensures.kept) c.put_text-2.ensures.kept) c.put_table.ensures.kept) c.put_octet.ensures.kept) c.put_octet-2.ensures.kept) c.put_text-3.ensures.kept) c.put_text-4.ensures.kept) c.put_text-5.ensures.kept) c.put_text-6.ensures.kept) c.put_long.ensures.kept) c.put_text-7.ensures.kept) c.put_text-8.ensures.kept) c.put_text-9.ensures.kept) c.put_text-10.ensures.kept

pub returns-clause-kept : goal.returns-clause-kept
returns-clause-kept c = kept_on _ _ _ (kept_on _ _ _ (kept_on _ _ _ (kept_on _ _ _ (kept_on _ _ _ (kept_on _ _ _ (kept_on _ _ _ (kept_on _ _ _ (kept_on _ _ _ (kept_on _ _ _ (kept_on _ _ _ (kept_on _ _ _ (kept_on _ _ _ (c.put_text.ensures.kept) c.put_text-2.ensures.kept) c.put_table.ensures.kept) c.put_octet.ensures.kept) c.put_octet-2.ensures.kept) c.put_text-3.ensures.kept) c.put_text-4.ensures.kept) c.put_text-5.ensures.kept) c.put_text-6.ensures.kept) c.put_long.ensures.kept) c.put_text-7.ensures.kept) c.put_text-8.ensures.kept) c.put_text-9.ensures.kept) c.put_text-10.ensures.kept
