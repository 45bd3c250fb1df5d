-- Ids that are there, and ids that aren't.
use Rattle.std.proofs.Common.{◌≡◌, ◌≢◌, ℕ, List, Option, Some, None, IsSome, refl, sym, ◌∙◌}
use Rattle.span_slots.specs.Table.{find}

module _ {T : Type 0} where
  pub some_same : (o : Option T) (a b : T) → o ≡ Some a → o ≡ Some b → a ≡ b
  some_same o a b h k = cc

  pub not_none : (o : Option T) (a : T) → o ≡ Some a → o ≡ None → ⊥
  not_none o a h k = let e : None ≡ Some a = sym k ∙ h in cc

  pub is_there : (o : Option T) → IsSome o → (v : T) × (o ≡ Some v)
  is_there None h = cc
  is_there (Some v) h = (v, refl)

  pub there_is : (o : Option T) (v : T) → o ≡ Some v → IsSome o
  there_is o v h = rw h refl

  -- an id that is there and one that isn't are two
  pub two_ids : (es : List (ℕ × T)) (id other : ℕ) → IsSome (find es id) → find es other ≡ None → id ≢ other
  two_ids es id other h k q = let s = is_there (find es id) h in not_none (find es id) s.0 s.1 (rw q k)
