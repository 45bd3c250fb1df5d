use Rattle.std.proofs.Common.{◌≡◌, true, ◌∷◌, ◌∙◌, List, All, length, map, ap, sym, subst}
use Rattle.std.proofs.lemmas.List.{length-map}
use Rattle.span_id.specs.Level.{verbosity}
use Rattle.span_id.specs.Meta.{PlainMeta, KeyValue, key_value, plain_fields}
use Rattle.span_forest.specs.Node.{node_of}
use Rattle.span_ffi.specs.Details.{text_pairs, packed, texts_fit_in_c, field_lengths}
use Rattle.span_ffi.specs.inside.Packing.{AreTexts, WritesAt}
use Rattle.span_ffi.proofs.Packing.{meta_lengths, same_numbers, filled, filled_texts, tells_said}
use Rattle.span_ffi.proofs.exports.details.tell_span.Goals as goal

pub returns-clause-said : goal.returns-clause-said
returns-clause-said c =
    let node = node_of c.args.span.now in
    let list = c.as_slice-list.result.now in
    let meta = c.as_meta-span_meta.ensures in
    let name = c.as_str-name.result.now in
    let target = c.as_str-target.result.now in
    let name_is : name ≡ node.name = c.as_str-name.ensures.value ∙ ap (λ (m : PlainMeta). m.name) meta in
    let target_is : target ≡ node.target = c.as_str-target.ensures.value ∙ ap (λ (m : PlainMeta). m.target) meta in
    let pairs_are : (name, target) ∷ plain_fields list ≡ text_pairs node =
    ap (λ n. (n, target) ∷ plain_fields list) name_is ∙ (ap (λ t. (node.name, t) ∷ plain_fields list) target_is ∙ ap (λ fields. (node.name, node.target) ∷ fields) c.as_slice-list.ensures) in
    let meta_is : c.meta_lengths.result ≡ meta_lengths node =
    same_numbers c.meta_lengths.result (verbosity node.level) (length node.name) (length node.target)
    (c.meta_lengths.ensures.level ∙ ap (λ (m : PlainMeta). verbosity m.level) meta)
    (c.meta_lengths.ensures.name ∙ ap (λ (m : PlainMeta). length m.name) meta)
    (c.meta_lengths.ensures.target ∙ ap (λ (m : PlainMeta). length m.target) meta) in
    let count_is : length list ≡ length node.fields = sym (length-map list key_value) ∙ ap length c.as_slice-list.ensures in
    tells_said node c.meta_lengths.result _ _
    (subst (λ (ps : List KeyValue). texts_fit_in_c ps ≡ true) pairs_are (sym c.in-Some.ensures.exact))
    (subst (All AreTexts) pairs_are c.write_texts.ensures.utf8) meta_is
    (filled c.args.fields.now c.write_lengths.new.into (map field_lengths node.fields) (length list)
    (count_is ∙ sym (length-map node.fields field_lengths)) c.if-list-fields.false
    (c.write_lengths.ensures.lengths ∙ ap (map field_lengths) c.as_slice-list.ensures) c.write_lengths.ensures.behind)
    (filled_texts c.args.into.now c.write_texts.new.into (packed (text_pairs node)) c.in-Some.texts
    (c.in-Some.ensures.len ∙ ap (λ ps. length (packed ps)) pairs_are) c.if-texts-into.false
    (subst (λ (ps : List KeyValue). WritesAt (packed ps) 0 c.args.into.now c.write_texts.new.into (length (packed ps))) pairs_are c.write_texts.ensures.written))
