use Rattle.std.proofs.Common.{◌≡◌, ◌+◌, ◌++◌, length, drop, ap, sym, ◌∙◌}
use Rattle.std.proofs.lemmas.Bool.{OnTrue_at, OnTrue_from}
use Rattle.std.proofs.lemmas.Bool.Decides.{Decides-eqb}
use Rattle.std.proofs.lemmas.List.{drop-drop, take_rest}
use Rattle.std.proofs.lemmas.Slice.Eq.{starts_is}
use Rattle.span_json.proofs.plain_text.PlainText.takes_literal.Goals as goal

pub returns : goal.returns
returns c =
    let text = c.self.inside.text.now in
    let at = c.self.inside.at in
    let literal = c.args.literal.now in
    let left = take_rest c.as_bytes.result.now at ∙ ap (drop at) c.as_bytes.ensures.value ∙ c.self.view_is in
    let begins = (starts_is Decides-eqb _ literal c.starts_with.result c.starts_with.ensures.value).0 c.if-not-starts_with.false in
    let behind : drop (length literal) c.args.self.now ≡ drop (at + length literal) text = ap (drop (length literal)) (sym c.self.view_is) ∙ drop-drop (length literal) at text in
    OnTrue_from c.ends_word.result _
    (λ passed. (sym left ∙ begins ∙ ap (λ t. literal ++ drop (length literal) t) left ∙ ap (λ t. literal ++ t) behind, OnTrue_at passed c.ends_word.ensures))
