use Rattle.std.proofs.Common.{◌≡◌, ◌+◌, drop, ap, sym, ◌∙◌}
use Rattle.std.proofs.lemmas.List.{drop-drop}
use Rattle.std.specs.List.{prefix_len}
use Rattle.json.specs.Word.{is_space}
use Rattle.json.specs.Lex.{between, lex}
use Rattle.span_json.proofs.PlainLexemes.{past_spaces}
use Rattle.span_json.proofs.plain_text.PlainText.skip_spaces.Goals as goal

pub returns : goal.returns
returns c =
    let text = c.self.inside.text.now in
    let at = c.self.inside.at in
    let spaces = prefix_len is_space (drop at text) in
    let end : c.spaces_end-self-inside.result ≡ at + spaces = c.spaces_end-self-inside.ensures.end ∙ ap (λ t. at + prefix_len is_space (drop at t)) c.as_bytes.ensures.value in
    ap (λ k. lex between (drop k text)) end ∙ sym (ap (lex between) (drop-drop spaces at text)) ∙ past_spaces (drop at text) ∙ ap (lex between) c.self.view_is
