use Rattle.std.proofs.Common.{rules, ◌≡◌, sym, ◌∙◌}
use Rattle.std.specs.Arc.{arc_str_bytes}
use Rattle.span_layers.specs.Note.{plain_note}
use Rattle.span_outlet.proofs.SameTexts.{same_fields, same_texts}
use Rattle.span_outlet.proofs.same_text.tell_the_same.Goals as goal

pub returns : goal.returns
returns c = λ same form.
    let path : arc_str_bytes c.args.one.now.path ≡ arc_str_bytes c.args.other.now.path = search rules in
    let kind : c.args.one.now.kind ≡ c.args.other.now.kind = search rules in
    let fields : c.args.one.now.fields ≡ c.args.other.now.fields = same_fields _ _ (sym c.eq.ensures ∙ same) in
    same_texts form (plain_note c.args.one.now) (plain_note c.args.other.now) c.if-one-other.false kind c.if-one-other-2.false path (c.say_the_same.ensures c.if-not-say_the_same.false) fields
