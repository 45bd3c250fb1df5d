use Rattle.std.proofs.Common.{rules, ◌≡◌, ◌++◌, ap, ◌∙◌}
use Rattle.json.specs.Print.{print}
use Rattle.json.specs.Tree.{json_tokens}
use Rattle.serde_json.specs.Written.{outline}
use Rattle.serde_json.proofs.Texts.{print-outline}
use Rattle.span_layers.specs.Note.{plain_note}
use Rattle.span_layers.specs.Text.{json_value}
use Rattle.span_layers.proofs.json_form.json_onto.Goals as goal

-- what is printed for the tokens of a value is its compact text, and it stands behind what the buffer held
pub returns-in-Ok-clause-text : goal.returns-in-Ok-clause-text
returns-in-Ok-clause-text c =
    let value = json_value (plain_note c.args.note.now) in
    let held = c.args.out.now.items in
    let written = c.write_note-done.new.out in
    let tokens : written.tokens ≡ json_tokens (outline value) = search rules in
    let before : written.before ≡ held = search rules in
    c.into_inner.ensures.items ∙ ap (λ text. text ++ print written.tokens) before
    ∙ ap (λ text. held ++ text) (ap print tokens ∙ print-outline value)
