use Rattle.std.proofs.Common.{rules, ◌≡◌, [], ap, sym, subst, ◌∙◌}
use Rattle.json.specs.Lex.{begins_colon, between, lex}
use Rattle.span_json.specs.Seen.{view}
use Rattle.span_json.specs.inside.Plain.{ReadsValue}
use Rattle.span_json.proofs.PlainSteps.{text_is}
use Rattle.span_json.proofs.plain.read_plain.Goals as goal

pub returns-then-is_empty : goal.returns-then-is_empty
unfolding lex
returns-then-is_empty c =
    let none : lex between c.read_value.new.text ≡ [] = sym c.skip_spaces.ensures ∙ ap (lex between) c.if-is_empty.ensures in
    let begun : c.new-text.result ≡ c.args.text.now = search rules in
    let from_text : ReadsValue 127 (lex between c.args.text.now) (view c.in_ok-value.value) (lex between c.read_value.new.text) =
    subst (λ t. ReadsValue 127 (lex between t) (view c.in_ok-value.value) (lex between c.read_value.new.text)) begun (c.in_ok-value.ensures (ap begins_colon none)) in
    text_is c.args.text.now (view c.in_ok-value.value) (lex between c.read_value.new.text) from_text none
