use Rattle.std.proofs.Common.{◌∙◌, rules, sym, tests}
use Rattle.std.proofs.lemmas.Iterator.{YieldsList-from_slice}
use Rattle.std.proofs.lemmas.Iterator.Search.{all_from_yields_List}
use Rattle.std.proofs.lemmas.List.Folds.{list_all-map}
use Rattle.std.specs.Prelude.{string_bytes}
use Rattle.span_id.specs.Name.{is_name}
use Rattle.span_id.specs.declared.meta.Field.{Field}
use Rattle.span_id.specs.Meta.{KeyValue, key_value}
use Rattle.span_ffi.proofs.exports.events.are_keys.Goals as goal

pub returns : goal.returns
returns c =
    let is_key = λ (field : Field). is_name (string_bytes field.key) in
    all_from_yields_List is_key _ _ c.all.result c.all.ensures.ran (YieldsList-from_slice c.args.fields.now cc) (λ field answer before called. search (rules, tests))
    ∙ sym (list_all-map (λ (field : KeyValue). is_name field.0) key_value c.args.fields.now)
