use Rattle.std.proofs.Common.{rules, ◌≡◌, ◌++◌, [], ap, ◌∙◌}
use Rattle.json.specs.Print.{print}
use Rattle.json.specs.Tree.{json_tokens}
use Rattle.serde_json.specs.Written.{outline}
use Rattle.serde_json.proofs.Texts.{print-outline}
use Rattle.span_layers.specs.Note.{plain_note}
use Rattle.span_layers.specs.Text.{json_value}
use Rattle.span_layers.proofs.json_form.json_text.Goals as goal

-- what is printed for the tokens of a value is its compact text
pub returns : goal.returns
returns c =
    let value = json_value (plain_note c.args.note.now) in
    let written = c.write_note.new.out in
    let tokens : written.tokens ≡ json_tokens (outline value) = search rules in
    let nothing_before : written.before ≡ [] = search rules in
    c.into_inner.ensures.items ∙ ap (λ text. text ++ print written.tokens) nothing_before ∙ ap print tokens ∙ print-outline value
