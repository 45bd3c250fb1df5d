use Rattle.std.proofs.Common.{◌≡◌, ◌+◌, ◌/◌, ◌^◌, ◌<◌, ◌≤◌, ℕ, ◌∙◌, length, sym, ap, inl, inr, arith, w64}
use Rattle.std.specs.Int.{trailing_zeros, bit_at}
use Rattle.std.proofs.lemmas.Bool.{cases_lt}
use Rattle.std.proofs.lemmas.Nat.Bits.{bit_at-trailing_zeros, bit_at_above}
use Rattle.std.proofs.Math.Nat.{div-le_self}
use Rattle.span_core.proofs.Telling.{bit_left, told_past, told_none, told_next}
use Rattle.span_core.proofs.notes.layers.ToldLayersIterator.next.Goals as goal

pub returns-then-self-ge64-clause-steps : goal.returns-then-self-ge64-clause-steps
returns-then-self-ge64-clause-steps c =
    let none = sym c.self.view_is ∙ told_past c.self.inside.told.0 c.self.inside.next c.if-self-ge64.true in (none, none)

pub returns-then-rest-eq0-clause-steps : goal.returns-then-rest-eq0-clause-steps
returns-then-rest-eq0-clause-steps c =
    let few : c.self.inside.next ≤ 64 = omega (arith, c.if-self-ge64.false) in
    let none = sym c.self.view_is ∙ told_none c.self.inside.told.0 c.self.inside.next few c.if-rest-eq0.true in (none, none)

-- a bit of a number below 2 ^ 64 that is set is one of 64
below : (mask from skip : ℕ) → mask < 2 ^ 64 → bit_at (mask / 2 ^ from) skip ≡ 1 → from + skip < 64
below mask from skip small set = elim (cases_lt (from + skip) 64) [
  | inl lt ↦ lt
  | inr ge ↦ absurd (let none = bit_at_above mask 64 (from + skip) small ge in omega (arith, none, set, bit_left mask from skip))
]

pub returns-clause-steps : goal.returns-clause-steps
returns-clause-steps c =
    let mask = c.self.inside.told.0 in
    let from = c.self.inside.next in
    let rest = mask / 2 ^ from in
    let small : mask < 2 ^ 64 = omega arith in
    let fits : rest < 2 ^ 64 = omega (arith, div-le_self mask (2 ^ from)) in
    let some : 0 < rest = omega (arith, c.if-rest-eq0.false) in
    let lowest = bit_at-trailing_zeros w64 rest some fits in
    let skip = trailing_zeros w64 rest in
    sym c.self.view_is ∙ told_next mask from skip (below mask from skip small lowest.1) lowest.1 lowest.2

pub returns-clause-goes : goal.returns-clause-goes
returns-clause-goes c =
    record { on = λ _. (tt, tt, omega (arith, ap length (returns-clause-steps c))); keeps = tt; rests = λ _. tt }
