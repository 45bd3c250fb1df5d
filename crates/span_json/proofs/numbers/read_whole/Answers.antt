use Rattle.std.proofs.Common.{◌≡◌, ◌^◌, ◌<◌, Some, cond, drop, get_or, ap, sym, subst, ◌∙◌, ne_eqb}
use Rattle.std.specs.Str.Parse.{IsNumeral, digits_value, without_leading_plus}
use Rattle.serde_json.specs.Data.{unsigned}
use Rattle.span_json.proofs.Numbered.{whole_is}
use Rattle.span_json.proofs.numbers.read_whole.Goals as goal

pub returns-in-Ok : goal.returns-in-Ok
returns-in-Ok c =
    let bytes = c.args.bytes.now in
    let no_plus : without_leading_plus bytes ≡ bytes = ap (λ b. drop (cond b 1 0) bytes) (ne_eqb (get_or bytes 0 0) 43 c.if-bytes-eq43.false) in
    let read = c.in-Ok.ensures in
    whole_is bytes (subst (IsNumeral 10) no_plus read.0.0) (subst (λ s. digits_value 10 s < 2 ^ 64) no_plus read.0.1)
    ∙ ap (λ n. Some (unsigned n)) (ap (digits_value 10) (sym no_plus) ∙ sym read.1)
