use Rattle.std.proofs.Common.{◌≡◌, ◌++◌, [], ◌∷◌, map, length, ap, ◌∙◌, arith}
use Rattle.std.specs.Prelude.{ℕ, ◌==◌}
use Rattle.std.proofs.lemmas.List.{length-map, map-append}
use Rattle.span_id.specs.Bits.{has_bit}
use Rattle.span_layers.specs.declared.filters.Filter as declared
use Rattle.span_layers.specs.declared.note.Kind.{Kind}
use Rattle.span_layers.specs.Filter.{Filter, filter_of}
use Rattle.span_layers.specs.FmtSpan.{bits_of, is_wanted}
use Rattle.span_layers.specs.inside.Wanting.{mask_of, with_bit}
use Rattle.span_layers.proofs.Masks.{added_wanted}
use Rattle.span_layers.proofs.layers.push_filter.Goals as goal

abbrev view : declared.Filter → Filter
view f = filter_of f.rule f.spans

pub returns-clause-wanted : goal.returns-clause-wanted
returns-clause-wanted c =
    let before = c.args.filters.now.items in
    let spans = c.args.filter.spans in
    let number : c.len.result ≡ length (map view before) = omega (arith, c.len.ensures, length-map before view) in
    let bits : (kind : Kind) (layer : ℕ) → has_bit (mask_of c.add.new.self kind) layer ≡ with_bit (has_bit (mask_of c.args.wanting.now kind) layer) (layer == length (map view before)) (is_wanted (bits_of spans) kind) = λ kind layer. rw (← number) (c.add.ensures kind layer) in
    let items : map view c.push_reserved.new.self.items ≡ map view before ++ view c.args.filter ∷ [] = ap (map view) c.push_reserved.ensures.items ∙ map-append view before (c.args.filter ∷ []) in
    rw items (added_wanted c.args.wanting.now c.add.new.self (map view before) (view c.args.filter) bits c.requires.wanted)
