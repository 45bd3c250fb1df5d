use Rattle.std.proofs.Common.{◌≡◌, ◌∙◌, drop, sym, ap}
use Rattle.std.proofs.lemmas.List.{take_rest}
use mir.Val.{bool_byte}
use Rattle.fast_float.specs.Text.{scan}
use Rattle.serde_json.specs.Read.{number_of}
use Rattle.span_json.proofs.Numbered.{signed_digits}
use Rattle.span_json.proofs.numbers.read_other.Goals as goal

pub returns : goal.returns
returns c =
    let bytes = c.as_bytes-bytes.result.now in
    let below = c.begins_with_minus-is_below_zero.result in
    let behind_the_sign : c.scan.result ≡ scan (drop (bool_byte below) bytes) = c.scan.ensures.parts ∙ ap scan (take_rest bytes c.from.result) ∙ ap (λ n. scan (drop n bytes)) c.from.ensures in
    c.value_of.ensures ∙ signed_digits below bytes c.scan.result (sym c.begins_with_minus-is_below_zero.ensures) behind_the_sign ∙ ap number_of c.as_bytes-bytes.ensures.value
