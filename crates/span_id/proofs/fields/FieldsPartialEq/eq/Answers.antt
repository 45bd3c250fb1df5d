use Rattle.std.proofs.Common.{sym, ◌∙◌}
use Rattle.std.specs.Cmp.Derive.Mapped.{pointwise-map}
use Rattle.span_id.specs.Meta.{key_value, is_same_pair}
use Rattle.span_id.proofs.fields.FieldsPartialEq.eq.Goals as goal

pub returns : goal.returns
returns c =
    rw (← c.as_slice.ensures, ← c.as_slice-2.ensures)
    (c.eq.ensures ∙ sym (pointwise-map key_value is_same_pair c.as_slice.result.now c.as_slice-2.result.now))
