-- The union of two sets of layers.
use Rattle.std.proofs.Common.{◌≡◌, ℕ, zero, suc, ◌<◌, ◌⊎◌, inl, inr, Bool, true, false, ◌&&◌, eqb, refl, sym, ap, ◌∙◌, arith}
use Rattle.std.specs.Prelude.{bit_or, max, nat_lt, IsTrue}
use Rattle.std.specs.Int.{bit_at}
use Rattle.std.proofs.lemmas.Nat.Bits.{bit_at_or, bit_at-lt}
use Rattle.std.proofs.lemmas.Bool.{false≢true}
use Rattle.span_id.specs.Bits.{has_bit}

-- of two bits the higher is set where one of them is
one_set : (inside : Bool) (x y either : ℕ) → x < 2 → y < 2 → either ≡ max x y
    → (inside && eqb either 1) ≡ true → ((inside && eqb x 1) ≡ true) ⊎ ((inside && eqb y 1) ≡ true)
one_set false x y either p q e set = inl set
one_set true zero zero either p q e set = absurd (false≢true (sym (ap (λ k. eqb k 1) e) ∙ set))
one_set true zero (suc zero) either p q e set = inr refl
one_set true (suc zero) y either p q e set = inl refl
one_set true zero (suc (suc y)) either p q e set = absurd (omega arith)
one_set true (suc (suc x)) y either p q e set = absurd (omega arith)

pub in_one : (a b layer : ℕ) → IsTrue (has_bit (bit_or a b) layer) → IsTrue (has_bit a layer) ⊎ IsTrue (has_bit b layer)
in_one a b layer set =
    one_set (nat_lt layer 64) (bit_at a layer) (bit_at b layer) (bit_at (bit_or a b) layer) (bit_at-lt a layer) (bit_at-lt b layer) (bit_at_or a b layer) set
