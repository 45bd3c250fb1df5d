use Rattle.std.proofs.Common.{◌≡◌, ◌+◌, ◌-◌, ◌<◌, ◌∷◌, length, take, drop, get_or, ap, sym, ◌∙◌, arith, lt_of_not-le, add-zero}
use Rattle.std.proofs.lemmas.List.{drop-drop, get_or-drop, get_or_default, get_or_past, length-drop}
use Rattle.std.proofs.lemmas.Str.{IsCharBoundary-after_ascii}
use Rattle.std.specs.List.{prefix_len}
use Rattle.json.specs.Lex.{between, lex, token}
use Rattle.json.specs.Run.{is_plain}
use Rattle.json.specs.Token as spec
use Rattle.json.specs.Word.{head}
use Rattle.span_json.proofs.PlainLexemes.{text_front}
use Rattle.span_json.proofs.plain_text.PlainText.text.Goals as goal

pub range-requires-clause-start_boundary : goal.range-requires-clause-start_boundary
range-requires-clause-start_boundary c some =
    let text = c.self.inside.text.now in
    let at = c.self.inside.at in
    let quote : get_or text at 32 ≡ 34 = ap (λ k. get_or text k 32) (sym (add-zero at)) ∙ sym (get_or-drop at text 0 32) ∙ ap head c.self.view_is ∙ c.requires in
    let within : at < length text = lt_of_not-le (λ past. omega (arith, get_or_past text at 32 past)) in
    IsCharBoundary-after_ascii text at c.self.invariant.utf8 within (omega (arith, get_or_default text at 0 32 within ∙ quote))

pub returns : goal.returns
returns c =
    let text = c.self.inside.text.now in
    let at = c.self.inside.at in
    let end = c.plain_end-end.result in
    let after : drop 1 c.args.self.now ≡ drop (at + 1) text = ap (drop 1) (sym c.self.view_is) ∙ drop-drop 1 at text in
    let n = end - (at + 1) in
    let is : end ≡ at + 1 + prefix_len is_plain (drop (at + 1) text) = c.plain_end-end.ensures.end ∙ ap (λ t. at + 1 + prefix_len is_plain (drop (at + 1) t)) c.as_bytes-bytes.ensures.value in
    let run : n ≡ prefix_len is_plain (drop 1 c.args.self.now) = omega (arith, is, ap (prefix_len is_plain) after) in
    let up_to : at + 1 + n ≡ end = omega (arith, is) in
    let short : n < length (drop 1 c.args.self.now) = omega (arith, is, ap length after, length-drop (at + 1) text, c.plain_end-end.ensures.inside, ap length c.as_bytes-bytes.ensures.value, c.if-end-bytes.false) in
    let closes : get_or (drop 1 c.args.self.now) n 0 ≡ 34 =
    ap (λ t. get_or t n 0) after ∙ get_or-drop (at + 1) text n 0 ∙ ap (λ k. get_or text k 0) up_to ∙ ap (λ t. get_or t end 0) (sym c.as_bytes-bytes.ensures.value) ∙ c.if-bytes-end-ne34.false in
    let behind : at + 1 + (n + 1) ≡ end + 1 = omega (arith, up_to) in
    text_front c.args.self.now n c.requires run short closes
    ∙ ap (λ s. token (spec.string s) ∷ lex between (drop (n + 1) (drop 1 c.args.self.now))) (ap (take n) after ∙ sym c.range.ensures.value)
    ∙ ap (λ t. token (spec.string c.range.result.now) ∷ lex between t) (ap (drop (n + 1)) after ∙ drop-drop (n + 1) (at + 1) text ∙ ap (λ k. drop k text) behind)
