use Rattle.std.proofs.Common.{◌≡◌, ◌∙◌, ℕ, ◌<◌, ◌≤◌, Bool, ◌&&◌, nat_lt, length, ap, rules, tests}
use Rattle.std.specs.Prelude.{nat_le}
use Rattle.std.proofs.lemmas.Bool.{lt-ltb, le-leb}
use Rattle.span_id.specs.Name.{is_name}
use Rattle.span_id.proofs.meta.is_name.Goals as goal

both : (n : ℕ) (r s : Bool) → 0 < n → n ≤ 64 → r ≡ s → r ≡ (nat_lt 0 n && (nat_le n 64 && s))
both n r s some few same = rw (lt-ltb 0 n some, le-leb n 64 few) same

pub returns-then-bytes-le-MAX_NAME : goal.returns-then-bytes-le-MAX_NAME
returns-then-bytes-le-MAX_NAME c =
    let some : 0 < length c.as_bytes-bytes.result.now = search (rules, tests) in
    let few : length c.as_bytes-bytes.result.now ≤ 64 = search (rules, tests) in
    both (length c.as_bytes-bytes.result.now) c.are_name_bytes.result _ some few c.are_name_bytes.ensures ∙ ap is_name c.as_bytes-bytes.ensures.value
