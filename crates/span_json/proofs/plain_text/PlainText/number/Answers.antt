use Rattle.std.proofs.Common.{rules, ◌≡◌, ◌+◌, ◌-◌, ◌++◌, take, drop, ap, ap₂, sym, ◌∙◌}
use Rattle.std.proofs.lemmas.List.{drop-drop, take-append-drop}
use Rattle.json.specs.Lex.{between, lex}
use Rattle.json.proofs.Printed.Numbers.{lex-number}
use Rattle.span_json.proofs.plain_text.PlainText.number.Goals as goal

pub returns-then-is_number : goal.returns-then-is_number
returns-then-is_number c =
    let text = c.self.inside.text.now in
    let at = c.self.inside.at in
    let end = c.number_end-end.result in
    let number = c.range-number.result.now in
    let up_to : at + (end - at) ≡ end = search rules in
    let front : take (end - at) (drop at text) ≡ number = sym c.range-number.ensures.value in
    let behind : drop (end - at) (drop at text) ≡ drop end text = drop-drop (end - at) at text ∙ ap (λ k. drop k text) up_to in
    let parts : c.args.self.now ≡ number ++ drop end text = sym c.self.view_is ∙ sym (take-append-drop (end - at) (drop at text)) ∙ ap₂ (λ a b. a ++ b) front behind in
    ap (lex between) parts ∙ lex-number number (drop end text) (search rules) c.if-not-ends_word.ensures
