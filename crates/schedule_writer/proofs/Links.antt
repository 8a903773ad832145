-- The name of a shovel's link is read back as itself.
use Rattle.std.proofs.Common.{◌≡◌, ℕ, ◌+◌, ◌<◌, ◌≤◌, Bool, true, false, eqb, ltb, List, [], ◌∷◌, ◌++◌, length, All, refl, sym, ap, subst, ◌∙◌, append_assoc, arith}
use Rattle.std.specs.Prelude.{IsUtf8, codes, flat_map}
use Rattle.std.specs.List.{slice_split}
use Rattle.std.proofs.lemmas.Bool.{and_parts, cond_both, leb-true, le-ltb, false_from_ne_true}
use Rattle.std.proofs.lemmas.Slice.Eq.{bytes_eq-Decides}
use Rattle.std.proofs.lemmas.List.{append-nil, length-append}
use Rattle.std.proofs.lemmas.List.Elements.{All-nil, All-cons, All-append, All-weaker}
use Rattle.std.proofs.lemmas.List.Splits.{slice_split_at, slice_split_none}
use Rattle.std.proofs.lemmas.Str.{IsUtf8-append, is_utf8-from_IsUtf8}
use Rattle.percent_encoding.specs.Percent.{percent_decode}
use Rattle.fed_journal.specs.declared.place.Place.{Place}
use Rattle.fed_journal.specs.Names.{same_text}
use Rattle.fed_journal.specs.Words.{word, place_word, shovel_link_name}
use Rattle.schedule_words.specs.Words.{pieces_of, octets_of, text_of, is_text, is_well_escaped}
use Rattle.schedule_words.specs.Fields.{is_run_name}
use Rattle.schedule_words.specs.Links.{parts_of, part_word, place_part_word, joined, link_name, has_long, is_bad_link}
use Rattle.schedule_words.specs.Laws.{IsVisible, IsOneWord}
use Rattle.schedule_words.proofs.Written.{IsWritten, IsOther, AreBare, shown, shown_text, word_some, word_written, written_other, word_decodes, word_escaped, bare_decodes, bare_escaped, bare_visible, bare_text, text_octets, words-back, texts-back, places-back}
use Rattle.schedule_writer.specs.Readable.{IsName, IsPlace, IsLink}

-- octets that are read for themselves, whatever follows them
record Runs (w : List ℕ) : Type 0 where
  some : 0 < length w
  visible : All IsVisible w
  escaped : (rest : List ℕ) → is_well_escaped (w ++ rest) ≡ is_well_escaped rest
  octets : List ℕ
  text : IsUtf8 octets
  decodes : (rest : List ℕ) → percent_decode (w ++ rest) ≡ octets ++ percent_decode rest

name_runs : (t : List ℕ) → IsUtf8 t → Runs (word t)
name_runs t u =
    let small = text_octets t u in
    record {
      some = word_some t;
      visible = (words-back t small).written.visible;
      escaped = λ rest. word_escaped t rest small;
      octets = shown t;
      text = shown_text t u;
      decodes = λ rest. word_decodes t rest small;
    }

bare_runs : (w : List ℕ) → 0 < length w → AreBare w → Runs w
bare_runs w some bare =
    record { some = some; visible = bare_visible w bare; escaped = λ rest. bare_escaped w rest bare; octets = w; text = bare_text w bare; decodes = λ rest. bare_decodes w rest bare }

runs_both : (a b : List ℕ) → Runs a → Runs b → Runs (a ++ b)
runs_both a b s t =
    record {
      some = omega (arith, s.some, length-append a b);
      visible = All-append IsVisible a b s.visible t.visible;
      escaped = λ rest. rw append_assoc (s.escaped (b ++ rest) ∙ t.escaped rest);
      octets = s.octets ++ t.octets;
      text = IsUtf8-append s.octets t.octets s.text t.text;
      decodes = λ rest. rw (append_assoc a b rest, append_assoc s.octets t.octets (percent_decode rest)) (s.decodes (b ++ rest) ∙ ap (λ (x : List ℕ). s.octets ++ x) (t.decodes rest));
    }

place_runs : (p : Place) → IsPlace p → Runs (place_word p)
place_runs p is =
    let broker = name_runs p.broker is.broker.text in
    cond_both (same_text p.vhost (codes "/")) (word p.broker) (word p.broker ++ codes ":" ++ word p.vhost) Runs (λ _. broker)
    (λ _. runs_both (word p.broker ++ codes ":") (word p.vhost) (runs_both (word p.broker) (codes ":") broker (bare_runs (codes ":") (omega arith) refl)) (name_runs p.vhost is.vhost.text))

nil_decodes : percent_decode [] ≡ []
unfolding percent_decode
nil_decodes = refl

nil_escaped : is_well_escaped [] ≡ true
unfolding is_well_escaped
nil_escaped = refl

dash_long : (w : List ℕ) → 1 < length w → same_text w (codes "-") ≡ false
dash_long w long = false_from_ne_true _ (λ (e : same_text w (codes "-") ≡ true). absurd (omega (arith, long, ap length ((bytes_eq-Decides w (codes "-")).0 e))))

runs_word : (w : List ℕ) → Runs w → IsOneWord w
runs_word w t = record { some = t.some; visible = t.visible; escaped = ap is_well_escaped (sym (append-nil w)) ∙ t.escaped [] ∙ nil_escaped }

runs_text : (w : List ℕ) → Runs w → 1 < length w → is_text w ≡ true
unfolding is_text octets_of
runs_text w t long =
    let decoded : percent_decode w ≡ t.octets = ap percent_decode (sym (append-nil w)) ∙ t.decodes [] ∙ ap (λ (x : List ℕ). t.octets ++ x) nil_decodes ∙ append-nil t.octets in
    rw (dash_long w long, decoded) (is_utf8-from_IsUtf8 t.octets t.text)

-- ---- the parts

slashless : (t : List ℕ) → IsUtf8 t → All (IsOther 47) (word t)
slashless t u = All-weaker IsWritten (IsOther 47) (λ b. written_other 47 b refl) (word t) (word_written t (text_octets t u))

place_slashless : (p : Place) → IsPlace p → All (IsOther 47) (place_word p)
place_slashless p is =
    let broker = slashless p.broker is.broker.text in
    cond_both (same_text p.vhost (codes "/")) (word p.broker) (word p.broker ++ codes ":" ++ word p.vhost) (All (IsOther 47)) (λ _. broker)
    (λ _. All-append (IsOther 47) (word p.broker ++ codes ":") (word p.vhost) (All-append (IsOther 47) (word p.broker) (codes ":") broker (All-cons (IsOther 47) 58 [] refl (All-nil (IsOther 47)))) (slashless p.vhost is.vhost.text))

-- a shovel's link, with its name from the back
link_is : (p : Place) (n : List ℕ) → shovel_link_name p n ≡ codes "s" ++ 47 ∷ (place_word p ++ 47 ∷ word n)
link_is p n = rw (append_assoc (codes "s/" ++ place_word p) (codes "/") (word n), append_assoc (codes "s/") (place_word p) (codes "/" ++ word n)) refl

parts_are : (p : Place) (n : List ℕ) → IsPlace p → IsUtf8 n → parts_of (shovel_link_name p n) ≡ codes "s" ∷ place_word p ∷ word n ∷ []
unfolding parts_of pieces_of
parts_are p n is u =
    let cut : ℕ → Bool = λ b. eqb b 47 in
    let first : All (IsOther 47) (codes "s") = All-cons (IsOther 47) 115 [] refl (All-nil (IsOther 47)) in
    ap (λ (l : List ℕ). slice_split cut l) (link_is p n)
    ∙ (slice_split_at cut (codes "s") 47 (place_word p ++ 47 ∷ word n) first refl
    ∙ ap (λ (qs : List (List ℕ)). codes "s" ∷ qs) (slice_split_at cut (place_word p) 47 (word n) (place_slashless p is) refl ∙ ap (λ (qs : List (List ℕ)). place_word p ∷ qs) (slice_split_none cut (word n) (slashless n u))))

first_part : part_word (codes "s") ≡ codes "s"
unfolding part_word
first_part = let back : text_of (codes "s") ≡ codes "s" = (texts-back (codes "s") (bare_text (codes "s") refl)).read in rw back refl

name_part : (n : List ℕ) → IsUtf8 n → part_word (word n) ≡ word n
unfolding part_word
name_part n u = ap word (texts-back n u).read

place_part : (p : Place) → IsPlace p → place_part_word (place_word p) ≡ place_word p
unfolding place_part_word
place_part p is = ap place_word (places-back p is.broker.text is.vhost.text).read

joined_is : (p : Place) (n : List ℕ) → IsPlace p → IsUtf8 n → joined (codes "s" ∷ place_word p ∷ word n ∷ []) ≡ codes "s" ++ 47 ∷ (place_word p ++ 47 ∷ word n)
unfolding joined
joined_is p n is u =
    let first = first_part in
    let place = place_part p is in
    let name = name_part n u in
    let parts : part_word (codes "s") ++ codes "/" ++ place_part_word (place_word p) ++ (codes "/" ++ part_word (word n) ++ []) ≡ codes "s" ++ codes "/" ++ place_word p ++ (codes "/" ++ word n ++ []) =
    (λ i. first i ++ codes "/" ++ place i ++ (codes "/" ++ name i ++ [])) in
    parts ∙ ap (λ (x : List ℕ). codes "s" ++ codes "/" ++ place_word p ++ x) (append-nil (codes "/" ++ word n))

link_same : (p : Place) (n : List ℕ) → IsPlace p → IsUtf8 n → link_name (shovel_link_name p n) ≡ shovel_link_name p n
unfolding link_name
link_same p n is u = ap joined (parts_are p n is u) ∙ joined_is p n is u ∙ sym (link_is p n)

run_short : (t : List ℕ) → is_run_name t ≡ true → length t ≤ 64
unfolding is_run_name
run_short t run =
    let a = and_parts _ _ run in
    let b = and_parts _ _ a.0 in
    let c = and_parts _ _ b.0 in
    leb-true _ _ c.1

link_short : (p : Place) (n : List ℕ) → IsPlace p → IsName n → is_bad_link (shovel_link_name p n) ≡ false
unfolding is_bad_link has_long
link_short p n is called =
    let broker : ltb 255 (length p.broker) ≡ false = le-ltb 255 (length p.broker) (omega (arith, run_short p.broker is.broker.run)) in
    let vhost : ltb 255 (length p.vhost) ≡ false = le-ltb 255 (length p.vhost) is.vhost.short in
    let name : ltb 255 (length n) ≡ false = le-ltb 255 (length n) called.short in
    let first : text_of (codes "s") ≡ codes "s" = (texts-back (codes "s") (bare_text (codes "s") refl)).read in
    rw (parts_are p n is called.text, first, (places-back p is.broker.text is.vhost.text).read, (texts-back n called.text).read, broker, vhost, name) refl

pub shovel_link : (p : Place) (n : List ℕ) → IsPlace p → IsName n → IsLink (shovel_link_name p n)
shovel_link p n is called =
    let front = runs_both (codes "s/") (place_word p) (bare_runs (codes "s/") (omega arith) refl) (place_runs p is) in
    let runs = runs_both (codes "s/" ++ place_word p ++ codes "/") (word n) (runs_both (codes "s/" ++ place_word p) (codes "/") front (bare_runs (codes "/") (omega arith) refl)) (name_runs n called.text) in
    let long : 1 < length (shovel_link_name p n) = omega (arith, front.some, length-append (codes "s/" ++ place_word p) (codes "/"), length-append (codes "s/" ++ place_word p ++ codes "/") (word n), word_some n) in
    record { written = runs_word (shovel_link_name p n) runs; valid = runs_text (shovel_link_name p n) runs long; same = link_same p n is called.text; short = link_short p n is called }
