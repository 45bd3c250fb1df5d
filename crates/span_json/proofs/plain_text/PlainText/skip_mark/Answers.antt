use Rattle.std.proofs.Common.{◌∷◌, drop, ap, refl, sym, ◌∙◌}
use Rattle.std.proofs.lemmas.List.{drop-drop}
use Rattle.json.specs.Lex.{between, lex, operator_lexeme}
use Rattle.json.specs.Word.{head}
use Rattle.span_json.proofs.PlainLexemes.{mark_front}
use Rattle.span_json.proofs.plain_text.PlainText.skip_mark.Goals as goal

pub returns : goal.returns
returns c =
    let left = c.args.self.now in
    mark_front left (head left) c.requires refl
    ∙ ap (λ t. operator_lexeme (head left) ∷ lex between t) (sym (ap (λ t. drop 1 t) c.self.view_is) ∙ drop-drop 1 c.self.inside.at c.self.inside.text.now)
