use Rattle.std.proofs.Common.{sym, ap, ◌∙◌}
use Rattle.std.specs.List.{fold}
use Rattle.std.specs.Cmp.Derive.Mapped.{items_map}
use Rattle.span_id.specs.Meta.{key_value, pair_input}
use Rattle.span_id.proofs.fields.FieldsHash.hash.Goals as goal

pub returns : goal.returns
returns g c =
    rw (← c.as_slice.ensures)
    (c.hash.ensures ∙ ap (fold g.H.Hasher.write c.args.state.now) (sym (items_map key_value pair_input c.as_slice.result.now)))
