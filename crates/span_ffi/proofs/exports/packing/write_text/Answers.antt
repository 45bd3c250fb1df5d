use Rattle.std.proofs.Common.{◌≡◌, ◌++◌, ◌+◌, ◌-◌, ◌∙◌, length, take, refl, ap, arith}
use Rattle.std.proofs.lemmas.Slice.{take-put_mid, drop-put_mid}
use Rattle.span_ffi.proofs.exports.packing.write_text.Goals as goal

pub returns-clause-written : goal.returns-clause-written
returns-clause-written c =
    let at = c.args.at in
    let text = c.args.text.now in
    let old = c.args.into.now in
    let bytes = c.copy_from_slice.new.self in
    let same : bytes ≡ text = c.copy_from_slice.ensures.after ∙ c.as_bytes.ensures.value in
    let size : length bytes ≡ length text = ap length same in
    let room = c.requires in (
      refl,
      take-put_mid at (at + length text - at) old bytes (at + length text) (omega arith) (omega arith) ∙ ap (λ v. take at old ++ v) same,
      drop-put_mid at (at + length text - at) old bytes (at + length text) (omega arith) (omega arith) (omega arith),
    )
