-- Masks in which the bit of one more layer is set.
use Rattle.std.proofs.Common.{◌≡◌, ℕ, zero, suc, ◌*◌, ◌%◌, ◌^◌, ◌<◌, Bool, true, false, ◌&&◌, ◌||◌, List, [], ◌∷◌, ◌++◌, length, refl, sym, ap, ◌∙◌, inl, inr, arith, w64}
use Rattle.std.specs.Prelude.{bit_or, ◌==◌}
use Rattle.std.proofs.lemmas.Bool.{cases_eq, eq-eqb, ne_eqb, lt-ltb}
use Rattle.std.proofs.lemmas.Nat.Bits.{bit_at_set_same, bit_at_set_other}
use Rattle.span_id.specs.Bits.{has_bit}
use Rattle.span_layers.specs.declared.note.Kind.{Kind}
use Rattle.span_layers.specs.FmtSpan.{is_wanted}
use Rattle.span_layers.specs.Filter.{Filter, layer_wants}
use Rattle.span_layers.specs.declared.wanting.Wanting.{Wanting}
use Rattle.span_layers.specs.inside.Wanting.{AreWanted, mask_of, with_bit}

or_true : (b : Bool) → (b || (true && true)) ≡ true
or_true true = refl
or_true false = refl

or_not_here : (b wanted : Bool) → (b || (false && wanted)) ≡ b
or_not_here true wanted = refl
or_not_here false wanted = refl

or_unwanted : (b here : Bool) → (b || (here && false)) ≡ b
or_unwanted true here = refl
or_unwanted false true = refl
or_unwanted false false = refl

-- the bit of this layer is set, and the others stay
pub has_bit-set : (mask layer number : ℕ) → layer < 64 → has_bit (bit_or mask (1 * 2 ^ layer % 2 ^ 64)) number ≡ with_bit (has_bit mask number) (number == layer) true
has_bit-set mask layer number within = elim (cases_eq number layer) [
  | inl same ↦ rw (same, lt-ltb layer 64 within, bit_at_set_same w64 mask layer within, eq-eqb layer layer refl) (sym (or_true _))
  | inr other ↦ rw (bit_at_set_other w64 mask layer within number other, ne_eqb number layer other) (sym (or_not_here (has_bit mask number) true))
]

-- where the layer isn't wanted, all stay
pub has_bit-unset : (mask layer number : ℕ) → has_bit mask number ≡ with_bit (has_bit mask number) (number == layer) false
has_bit-unset mask layer number = sym (or_unwanted (has_bit mask number) (number == layer))

eqb_suc : (a b : ℕ) → (suc a == suc b) ≡ (a == b)
eqb_suc a b = elim (cases_eq a b) [
  | inl same ↦ eq-eqb (suc a) (suc b) (omega (arith, same)) ∙ sym (eq-eqb a b same)
  | inr other ↦ ne_eqb (suc a) (suc b) (λ e. other (omega (arith, e))) ∙ sym (ne_eqb a b other)
]

-- a layer that is added at the end, in the place of the first one that is absent
added : (filters : List Filter) (f : Filter) (kind : Kind) (number : ℕ) → layer_wants (filters ++ f ∷ []) number kind ≡ with_bit (layer_wants filters number kind) (number == length filters) (is_wanted f.spans kind)
added [] f kind zero = refl
added [] f kind (suc number) = sym (ap (λ b. b && is_wanted f.spans kind) (ne_eqb (suc number) 0 (λ e. omega (arith, e))))
added (first ∷ filters) f kind zero =
    sym (ap (λ b. with_bit (is_wanted first.spans kind) b (is_wanted f.spans kind)) (ne_eqb 0 (suc (length filters)) (λ e. omega (arith, e)))
    ∙ or_not_here (is_wanted first.spans kind) (is_wanted f.spans kind))
added (first ∷ filters) f kind (suc number) =
    added filters f kind number
    ∙ ap (λ b. with_bit (layer_wants filters number kind) b (is_wanted f.spans kind)) (sym (eqb_suc number (length filters)))

-- masks to which what a layer wants is added
pub added_wanted : (before after : Wanting) (filters : List Filter) (f : Filter)
    → ((kind : Kind) (number : ℕ) → has_bit (mask_of after kind) number ≡ with_bit (has_bit (mask_of before kind) number) (number == length filters) (is_wanted f.spans kind))
    → AreWanted before filters → AreWanted after (filters ++ f ∷ [])
added_wanted before after filters f bits so_far = λ kind number.
    bits kind number ∙ ap (λ b. with_bit b (number == length filters) (is_wanted f.spans kind)) (so_far kind number) ∙ sym (added filters f kind number)
