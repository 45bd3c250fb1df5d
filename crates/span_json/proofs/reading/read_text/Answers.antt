use Rattle.std.proofs.Common.{rules, ◌≡◌, [], None, sym, ap, ◌∙◌}
use Rattle.std.specs.Prelude.{option_and_then}
use Rattle.json.specs.Lex.{tokens}
use Rattle.json.specs.Json.{if_last, value}
use Rattle.json.proofs.Grammar.{value_is}
use Rattle.serde_json.specs.Read.{of_json}
use Rattle.span_json.proofs.reading.read_text.Goals as goal

-- a text of no tokens
pub returns-in_default-clause-err : goal.returns-in_default-clause-err
returns-in_default-clause-err c = λ _.
    let are : c.in_ok-reader.reader ≡ tokens c.args.text.now = search rules in
    let none : value 127 (tokens c.args.text.now) ≡ None = ap (value 127) (sym are ∙ c.in_default.ensures.value.0) ∙ value_is 127 [] in
    ap (λ r. option_and_then of_json (option_and_then (λ p. if_last p.0 p.1) r)) none
