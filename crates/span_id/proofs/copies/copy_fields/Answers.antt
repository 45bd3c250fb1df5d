use Rattle.std.proofs.Common.{◌≡◌, refl, ◌∙◌, ap, ℕ, ◌+◌, ◌<◌, List, [], ◌∷◌, ◌++◌, length, take, get_or, add-one}
use Rattle.std.specs.Prelude.{string_bytes}
use Rattle.std.proofs.lemmas.List.{map-append}
use Rattle.std.proofs.Math.Seq.{take-suc}
use Rattle.span_id.specs.declared.meta.Field.{Field}
use Rattle.span_id.specs.Meta.{key_value, plain_fields}
use Rattle.span_id.proofs.copies.copy_fields.Goals as goal

-- one more copy stands for one more of the fields
one_more : (fields copies : List Field) (field copy : Field) (n : ℕ) → plain_fields copies ≡ plain_fields (take n fields) → n < length fields → field ≡ get_or fields n field → string_bytes copy.key ≡ string_bytes field.key → string_bytes copy.value ≡ string_bytes field.value → plain_fields (copies ++ (copy ∷ [])) ≡ plain_fields (take (n + 1) fields)
one_more fields copies field copy n copied inside is key value =
    rw (add-one, take-suc fields n field inside, ← is, map-append key_value copies (copy ∷ []), map-append key_value (take n fields) (field ∷ []), copied, key, value) refl

pub loop-field-preserved : goal.loop-field-preserved
loop-field-preserved c =
    let kept = c.loop-field.invariant in
    let pushed = c.push_reserved.ensures in
    let copy = c.in_ok-copy.ensures in
    record {
      copied = ap plain_fields pushed.items ∙ one_more c.args.fields.now c.loop-field.copies.items c.field-item.result c.in_ok-copy.copy c.loop-field.field-index kept.copied c.loop-field-test.true c.field-item.is copy.key copy.value;
      made = pushed.len ∙ ap (λ n. n + 1) kept.made;
      reserved = pushed.capacity ∙ kept.reserved;
    }
