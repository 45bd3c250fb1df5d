use Rattle.std.proofs.Common.{◌∷◌, ◌++◌, ℕ, length, subst, ◌∙◌, zero-add}
use Rattle.std.proofs.lemmas.List.Elements.{All-cons}
use Rattle.span_id.specs.Meta.{plain_fields}
use Rattle.span_ffi.specs.Details.{packed}
use Rattle.span_ffi.specs.inside.Packing.{AreTexts, WritesAt}
use Rattle.span_ffi.proofs.Packing.{writes_then}
use Rattle.span_ffi.proofs.exports.packing.write_texts.Goals as goal

pub returns-clause-written : goal.returns-clause-written
returns-clause-written c =
    let first = c.args.first.now in
    let second = c.args.second.now in
    let fields = plain_fields c.args.fields.now in
    let pairs = (first, second) ∷ fields in
    let old = c.args.into.now in
    let new = c.write_fields.new.into in
    let joined =
    writes_then (first ++ second) (packed fields) old c.write_pair-behind.new.into new 0 c.write_pair-behind.result c.write_fields.result
    c.write_pair-behind.ensures.written c.write_fields.ensures.written in
    subst (λ (e : ℕ). WritesAt (packed pairs) 0 old new e) (joined.0 ∙ zero-add (length (packed pairs))) joined

pub returns-clause-utf8 : goal.returns-clause-utf8
returns-clause-utf8 c =
    All-cons AreTexts (c.args.first.now, c.args.second.now) (plain_fields c.args.fields.now) c.write_pair-behind.ensures.utf8 c.write_fields.ensures.utf8
