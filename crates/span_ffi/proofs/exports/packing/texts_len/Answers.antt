use Rattle.std.proofs.Common.{◌≡◌, ◌∷◌, ◌≤◌, ◌<◌, ◌+◌, ◌^◌, ◌∙◌, Some, None, is_some, SomeIff, false, length, ap, sym, subst, string_bytes, inl, inr, arith}
use Rattle.std.proofs.lemmas.Bool.{cases_lt}
use Rattle.std.proofs.lemmas.List.{drop_all}
use Rattle.span_id.specs.Meta.{key_value, plain_fields}
use Rattle.span_ffi.specs.Details.{are_short}
use Rattle.span_ffi.proofs.Packing.{measured, measured_fit, measured_packed, measured_long, measured_over, none_from, some_from}
use Rattle.span_ffi.proofs.exports.packing.texts_len.Goals as goal

pub returns-in_err-more-clause-exact : goal.returns-in_err-more-clause-exact
returns-in_err-more-clause-exact c =
    let pairs = (c.args.first.now, c.args.second.now) ∷ plain_fields c.args.fields.now in
    let x = c.field-item.result in
    let key = c.deref.result.now in
    let value = c.deref-in-loop-field.result.now in
    let same : are_short (key, value) ≡ are_short (key_value x) =
    ap (λ v. are_short (v, value)) c.deref.ensures ∙ ap (λ v. are_short (string_bytes x.key, v)) c.deref-in-loop-field.ensures in
    let long : are_short (key_value x) ≡ false =
    sym same ∙ none_from (are_short (key, value)) (length key + length value) (sym c.in_err-more.was ∙ c.pair_len-in-loop-field.ensures) in
    let none : measured (2 ^ 64) 0 pairs ≡ None =
    sym c.loop-field.invariant.left
    ∙ measured_long (2 ^ 64) c.loop-field.len c.args.fields.now c.loop-field.field-index x c.loop-field-test.true c.field-item.is long in
    ap is_some c.from_residual-in_err-more.ensures ∙ (ap is_some (sym none) ∙ measured_fit pairs)

pub returns-in_err-len-2-clause-exact : goal.returns-in_err-len-2-clause-exact
returns-in_err-len-2-clause-exact c =
    let pairs = (c.args.first.now, c.args.second.now) ∷ plain_fields c.args.fields.now in
    let x = c.field-item.result in
    let key = c.deref.result.now in
    let value = c.deref-in-loop-field.result.now in
    let more = c.in_ok-more.more in
    let more_is : more ≡ length key + length value =
    some_from (are_short (key, value)) (length key + length value) more (sym c.in_ok-more.was ∙ c.pair_len-in-loop-field.ensures) in
    let key_len = ap length c.deref.ensures in
    let value_len = ap length c.deref-in-loop-field.ensures in
    let over : 2 ^ 64 ≤ c.loop-field.len + (length (string_bytes x.key) + length (string_bytes x.value)) =
    elim (cases_lt (c.loop-field.len + more) (2 ^ 64)) [
      | inl low ↦ absurd (subst (λ o. SomeIff o (c.loop-field.len + more < 2 ^ 64) (c.loop-field.len + more)) c.in_err-len-2.was c.checked_add.ensures low)
      | inr high ↦ omega (arith, high, more_is, key_len, value_len)
    ] in
    let none : measured (2 ^ 64) 0 pairs ≡ None =
    sym c.loop-field.invariant.left
    ∙ measured_over (2 ^ 64) c.loop-field.len c.args.fields.now c.loop-field.field-index x c.loop-field-test.true c.field-item.is over in
    ap is_some c.from_residual-in_err-len-2.ensures ∙ (ap is_some (sym none) ∙ measured_fit pairs)

pub returns-clause-exact : goal.returns-clause-exact
returns-clause-exact c =
    let pairs = (c.args.first.now, c.args.second.now) ∷ plain_fields c.args.fields.now in
    let xs = c.args.fields.now in
    let all : Some c.loop-field.len ≡ measured (2 ^ 64) 0 pairs =
    ap (λ v. measured (2 ^ 64) c.loop-field.len (plain_fields v)) (sym (drop_all c.loop-field.field-index xs c.loop-field-test.false)) ∙ c.loop-field.invariant.left in
    ap is_some all ∙ measured_fit pairs

pub returns-clause-len : goal.returns-clause-len
returns-clause-len c =
    let pairs = (c.args.first.now, c.args.second.now) ∷ plain_fields c.args.fields.now in
    let xs = c.args.fields.now in
    let all : Some c.loop-field.len ≡ measured (2 ^ 64) 0 pairs =
    ap (λ v. measured (2 ^ 64) c.loop-field.len (plain_fields v)) (sym (drop_all c.loop-field.field-index xs c.loop-field-test.false)) ∙ c.loop-field.invariant.left in
    measured_packed pairs c.loop-field.len all
