-- The text of a path, joined as the loop joins it, and the layers that see the same path.
use Rattle.std.proofs.Common.{◌≡◌, ℕ, ◌<◌, ◌++◌, ◌↔◌, ◌+◌, true, List, [], ◌∷◌, length, map, get_or, drop, append_assoc, add-one, drop-cons, Option, Some, refl, sym, ap, ◌∙◌, cond, rules}
use Rattle.std.specs.Prelude.{flat_map}
use Rattle.span_id.specs.Bits.{has_bit}
use Rattle.span_slots.specs.Table.{find}
use Rattle.span_forest.specs.declared.span.Span.{Span}
use Rattle.span_forest.specs.Node.{node_of}
use Rattle.span_forest.specs.Spans.{Spans, IsOpen, nodes_of}
use Rattle.span_forest.specs.Path.{name_for, path_text}
use Rattle.span_forest.specs.Forest.{IsForest}
use Rattle.span_forest.proofs.Paths.{Gathers, Gathers_none, Gathers_turn}

-- the names after the first, each behind a colon
abbrev pub following : List (List ℕ) → List ℕ
following names = flat_map (λ name. 58 ∷ name) names

pub path_text-cons : (name : List ℕ) (names : List (List ℕ)) → path_text (name ∷ names) ≡ name ++ following names
path_text-cons name [] = search rules
path_text-cons name (next ∷ names) = ap (λ rest. name ++ (58 ∷ rest)) (path_text-cons next names)

-- one more of the names is written
pub following-more : {X : Type 0} (bytes : X → List ℕ) (names : List X) (n : ℕ) (d : X) (old mid new all : List ℕ) → n < length names → mid ≡ old ++ (58 ∷ []) → new ≡ mid ++ bytes (get_or names n d) → old ++ following (map bytes (drop n names)) ≡ all → new ++ following (map bytes (drop (n + 1) names)) ≡ all
following-more bytes names n d old mid new all inside colon name written =
    let item = bytes (get_or names n d) in
    let rest = following (map bytes (drop (n + 1) names)) in
    let split : following (map bytes (drop n names)) ≡ 58 ∷ (item ++ rest) = rw (add-one, drop-cons names n d inside) refl in
    ap (λ text. text ++ rest) name ∙ append_assoc mid item rest ∙ ap (λ text. text ++ (item ++ rest)) colon ∙ append_assoc old (58 ∷ []) (item ++ rest)
    ∙ ap (λ text. old ++ text) (sym split) ∙ written

-- the first name is written, and then the others
pub joined-path : {X : Type 0} (bytes : X → List ℕ) (names others : List X) (first : X) (empty begun all : List ℕ) → names ≡ first ∷ others → empty ≡ [] → begun ≡ empty ++ bytes first → all ≡ begun ++ following (map bytes others) → all ≡ path_text (map bytes names)
joined-path bytes names others first empty begun all split nothing head whole =
    let rest = following (map bytes others) in
    whole ∙ ap (λ text. text ++ rest) (head ∙ ap (λ text. text ++ bytes first) nothing)
    ∙ sym (path_text-cons (bytes first) (map bytes others)) ∙ ap (λ all. path_text (map bytes all)) (sym split)

-- the names so far are those that the layer and each of the same layers see
pub record Sees (spans : Spans) (layer id : ℕ) (names : List (List ℕ)) (same : ℕ) (next : Option ℕ) : Type 0 where
  pub gathers : Gathers spans layer id names next
  pub alike : (other : ℕ) → has_bit same other ≡ true → Gathers spans other id names next
  pub own : layer < 64 → has_bit same layer ≡ true

pub Sees_none : (spans : Spans) (layer id same : ℕ) → ((other : ℕ) → other < 64 → has_bit same other ≡ true) → IsOpen spans id → Sees spans layer id [] same (Some id)
Sees_none spans layer id same all o =
    record { gathers = Gathers_none spans layer id o; alike = λ other _. Gathers_none spans other id o; own = all layer }

pub Sees_turn : (es : List (ℕ × Span)) (layer id at : ℕ) (span : Span) (names more : List (List ℕ)) (same left : ℕ) (next : Option ℕ) → IsForest (nodes_of es) → Sees (nodes_of es) layer id names same next → next ≡ Some at → find (nodes_of es) at ≡ Some (node_of span) → more ≡ names ++ name_for layer (Some (node_of span)) → ((other : ℕ) → (has_bit left other ≡ true) ↔ ((has_bit same other ≡ true) × (has_bit span.bits.0 other ≡ has_bit span.bits.0 layer))) → Sees (nodes_of es) layer id more left span.parent
Sees_turn es layer id at span names more same left next forest sees is found taken stays = record {
  gathers = (Gathers_turn es layer id at span names more next forest sees.gathers is found taken).gathers;
  alike = λ other h.
      let k = (stays other).0 h in
      let named : name_for layer (Some (node_of span)) ≡ name_for other (Some (node_of span)) =
      ap (λ b. cond b (span.meta.name ∷ []) []) (sym k.1) in
      (Gathers_turn es other id at span names more next forest (sees.alike other k.0) is found (taken ∙ ap (λ v. names ++ v) named)).gathers;
  own = λ low. (stays layer).1 (sees.own low, refl);
}
