-- A slot and its generation are found again in their id.
use Rattle.std.proofs.Common.{◌≡◌, ◌≢◌, ℕ, ◌<◌, false, eqb, sym, ap, ◌∙◌, arith}
use Rattle.std.proofs.lemmas.Bool.{ne_eqb}
use Rattle.span_id.specs.Id.{id_of, slot_of, generation_of, IsId}

pub slot_of_id : (s g : ℕ) → s < 16777216 → slot_of (id_of s g) ≡ s
slot_of_id s g h = omega arith

pub generation_of_id : (s g : ℕ) → s < 16777216 → generation_of (id_of s g) ≡ g
generation_of_id s g h = omega arith

pub id_again : (id : ℕ) → IsId id → id_of (slot_of id) (generation_of id) ≡ id
id_again id h = omega (arith, h.0)

-- ids of two slots differ
pub ids_differ : (s g id : ℕ) → s < 16777216 → s ≢ slot_of id → eqb (id_of s g) id ≡ false
ids_differ s g id h ne = ne_eqb (id_of s g) id (λ e. ne (sym (slot_of_id s g h) ∙ ap slot_of e))
