-- Bits of masks that are made of others.
use Rattle.std.proofs.Common.{◌≡◌, ℕ, zero, suc, ◌-◌, ◌<◌, Bool, true, false, ◌&&◌, eqb, not, refl, ◌∙◌, ap, arith, w64}
use Rattle.std.specs.Prelude.{bit_and, min, nat_lt}
use Rattle.std.specs.Int.{bit_at}
use Rattle.std.proofs.lemmas.Bool.Decides.{nat_tests}
use Rattle.std.proofs.lemmas.Nat.Bits.{bit_at_and, bit_at_not, bit_at_ones, bit_at-lt}
use Rattle.span_id.specs.Bits.{has_bit}

-- of two bits the lower is set where both are
both_set : (inside : Bool) (x y both : ℕ) → x < 2 → y < 2 → both ≡ min x y → (inside && eqb both 1) ≡ ((inside && eqb x 1) && (inside && eqb y 1))
both_set false x y both p q e = refl
both_set true zero zero both p q e = rw e refl
both_set true zero (suc zero) both p q e = rw e refl
both_set true (suc zero) zero both p q e = rw e refl
both_set true (suc zero) (suc zero) both p q e = rw e refl
both_set true x (suc (suc y)) both p q e = absurd (omega arith)
both_set true (suc (suc x)) y both p q e = absurd (omega arith)

pub has_bit-and : (a b layer : ℕ) → has_bit (bit_and a b) layer ≡ (has_bit a layer && has_bit b layer)
has_bit-and a b layer =
    both_set (nat_lt layer 64) (bit_at a layer) (bit_at b layer) (bit_at (bit_and a b) layer) (bit_at-lt a layer) (bit_at-lt b layer) (bit_at_and a b layer)

-- the bit that is set where the other isn't
other_set : (x other : ℕ) → x < 2 → other ≡ 1 - x → eqb other 1 ≡ not (eqb x 1)
other_set zero other p e = rw e refl
other_set (suc zero) other p e = rw e refl
other_set (suc (suc x)) other p e = absurd (omega arith)

under : (inside : Bool) (x y : Bool) → (inside ≡ true → x ≡ y) → (inside && x) ≡ (inside && y)
under false x y h = refl
under true x y h = h refl

negated : (inside x : Bool) → (inside && not x) ≡ (inside && not (inside && x))
negated false x = refl
negated true x = refl

pub has_bit-not : (a layer : ℕ) → a < 18446744073709551616 → has_bit (18446744073709551615 - a) layer ≡ (nat_lt layer 64 && not (has_bit a layer))
has_bit-not a layer small =
    under (nat_lt layer 64) (eqb (bit_at (18446744073709551615 - a) layer) 1) (not (eqb (bit_at a layer) 1))
    (λ inside. other_set (bit_at a layer) (bit_at (18446744073709551615 - a) layer) (bit_at-lt a layer) (bit_at_not w64 a layer small (grind (arith, nat_tests))))
    ∙ negated (nat_lt layer 64) (eqb (bit_at a layer) 1)

less : (inside x y : Bool) → ((inside && x) && (inside && y)) ≡ ((inside && x) && y)
less false x y = refl
less true x y = refl

pub has_bit-without : (a b layer : ℕ) → b < 18446744073709551616 → has_bit (bit_and a (18446744073709551615 - b)) layer ≡ (has_bit a layer && not (has_bit b layer))
has_bit-without a b layer small =
    has_bit-and a (18446744073709551615 - b) layer ∙ (ap (λ x. has_bit a layer && x) (has_bit-not b layer small)
    ∙ less (nat_lt layer 64) (eqb (bit_at a layer) 1) (not (has_bit b layer)))

pub has_bit-all : (layer : ℕ) → layer < 64 → has_bit 18446744073709551615 layer ≡ true
has_bit-all layer small =
    let inside : nat_lt layer 64 ≡ true = grind (arith, nat_tests) in
    rw (inside, bit_at_ones 64 layer small) refl
