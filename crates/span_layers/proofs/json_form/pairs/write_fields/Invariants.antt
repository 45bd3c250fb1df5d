use Rattle.std.proofs.Common.{◌≡◌, ◌++◌, drop, map}
use Rattle.json.specs.Tree.{items_tokens}
use Rattle.serde_json.specs.View.{items_of}
use Rattle.serde_json.specs.Written.{items_outline}
use Rattle.span_id.specs.Meta.{key_value}
use Rattle.span_layers.specs.Text.{field_value}
use Rattle.span_layers.proofs.json_form.pairs.write_fields.Given as goal

-- the tokens so far, with those of the fields that are left and of the closing bracket, are the whole list's
abbrev pub invariant-loop-field : goal.invariant-loop-field
invariant-loop-field l =
    (l.out.before ≡ l.initial.out.before)
    × (l.out.tokens ++ items_tokens (items_outline (items_of (map field_value (map key_value (drop l.field-index l.fields)))))
    ≡ l.initial.out.tokens ++ items_tokens (items_outline (items_of (map field_value (map key_value l.fields)))))
