-- The loop that gathers the names of a walk.
use Rattle.std.proofs.Common.{◌≡◌, ℕ, zero, suc, ◌<◌, ◌++◌, true, false, List, [], ◌∷◌, length, map, Option, Some, None, refl, sym, ap, subst, ◌∙◌, arith, append_assoc}
use Rattle.std.proofs.Common.{String, Global}
use Rattle.std.specs.Prelude.{string_bytes, reverse}
use Rattle.std.proofs.lemmas.List.{append-nil, map-append, reverse-append}
use Rattle.span_id.specs.Bits.{has_bit}
use Rattle.span_slots.specs.Table.{find}
use Rattle.span_forest.specs.declared.span.Span.{Span}
use Rattle.span_forest.specs.Node.{node_of}
use Rattle.span_forest.specs.Spans.{Spans, IsOpen, parent_in, parent_of, nodes_of}
use Rattle.span_forest.specs.Walk.{walk_within, walk, Ends}
use Rattle.span_forest.specs.Path.{name_for, names_for, path}
use Rattle.span_forest.specs.Forest.{IsForest}
use Rattle.span_forest.proofs.Ranks.{walk_more}
use Rattle.span_forest.proofs.Counts.{none_is}
use Rattle.span_forest.proofs.Nodes.{value_of_open}

-- the walk from a span that may be there
abbrev pub walk_from : Spans → Option ℕ → List ℕ
walk_from spans o = walk_within (length spans) spans o

walk_step_within : (n : ℕ) (spans : Spans) (id : ℕ) → Ends n spans (Some id) → walk_within n spans (Some id) ≡ id ∷ walk_within n spans (parent_of spans id)
walk_step_within zero spans id h = absurd h
walk_step_within (suc n) spans id h = ap (λ v. id ∷ v) (sym (walk_more n spans (parent_of spans id) h))

-- a walk is its first span and the walk of that one's parent
pub walk_step : (spans : Spans) (id : ℕ) → IsForest spans → IsOpen spans id → walk_from spans (Some id) ≡ id ∷ walk_from spans (parent_of spans id)
walk_step spans id w o = walk_step_within (length spans) spans id (w.walks_end id o)

-- the names so far and those of the rest of the walk are all names
pub record Gathers (spans : Spans) (layer id : ℕ) (names : List (List ℕ)) (next : Option ℕ) : Type 0 where
  pub all : names ++ names_for layer spans (walk_from spans next) ≡ names_for layer spans (walk spans id)
  pub here : (i : ℕ) → next ≡ Some i → IsOpen spans i

pub record Gathered (spans : Spans) (layer id : ℕ) (names : List (List ℕ)) (before next : Option ℕ) : Type 0 where
  pub gathers : Gathers spans layer id names next
  pub smaller : length (walk_from spans next) < length (walk_from spans before)

pub Gathers_none : (spans : Spans) (layer id : ℕ) → IsOpen spans id → Gathers spans layer id [] (Some id)
Gathers_none spans layer id o = record { all = refl; here = λ i e. (let same : id ≡ i = cc in rw (← same) o) }

pub Gathers_at : (spans : Spans) (layer id at : ℕ) (names : List (List ℕ)) (next : Option ℕ) → Gathers spans layer id names next → next ≡ Some at → Gathers spans layer id names (Some at)
Gathers_at spans layer id at names next g e = subst (Gathers spans layer id names) e g

pub Gathers_turn : (es : List (ℕ × Span)) (layer id at : ℕ) (span : Span) (names more : List (List ℕ)) (next : Option ℕ) → IsForest (nodes_of es) → Gathers (nodes_of es) layer id names next → next ≡ Some at → find (nodes_of es) at ≡ Some (node_of span) → more ≡ names ++ name_for layer (Some (node_of span)) → Gathered (nodes_of es) layer id more next span.parent
Gathers_turn es layer id at span names more next w g0 n found m =
    let spans = nodes_of es in
    let g = Gathers_at spans layer id at names next g0 n in
    let parent : parent_of spans at ≡ span.parent = ap parent_in found in
    let step : walk_from spans (Some at) ≡ at ∷ walk_from spans span.parent = walk_step spans at w (g.here at refl) ∙ ap (λ o. at ∷ walk_from spans o) parent in
    let first : names_for layer spans (walk_from spans (Some at)) ≡ name_for layer (Some (node_of span)) ++ names_for layer spans (walk_from spans span.parent) =
    ap (names_for layer spans) step ∙ ap (λ o. name_for layer o ++ names_for layer spans (walk_from spans span.parent)) found in
    record {
      gathers = record {
        all = ap (λ v. v ++ names_for layer spans (walk_from spans span.parent)) m ∙ (append_assoc names (name_for layer (Some (node_of span))) (names_for layer spans (walk_from spans span.parent)) ∙ (ap (λ v. names ++ v) (sym first) ∙ g.all));
        here = λ i e. w.parents_open at i (parent ∙ e);
      };
      smaller = (let k = ap length step in let b = ap (λ o. length (walk_from spans o)) n in omega arith);
    }

pub map-reverse : {A B : Type 0} (f : A → B) (xs : List A) → map f (reverse xs) ≡ reverse (map f xs)
map-reverse f [] = refl
map-reverse f (x ∷ xs) =
    ap (map f) (reverse-append (x ∷ []) xs)
    ∙ (map-append f (reverse xs) (x ∷ [])
    ∙ (ap (λ v. v ++ f x ∷ []) (map-reverse f xs)
    ∙ sym (reverse-append (f x ∷ []) (map f xs))))

-- a span that the layer admits gives its name
pub named : (layer : ℕ) (span : Span) (names more : List (String Global)) (text : String Global) → has_bit span.bits.0 layer ≡ true → more ≡ names ++ text ∷ [] → string_bytes text ≡ span.meta.name → map string_bytes more ≡ map string_bytes names ++ name_for layer (Some (node_of span))
named layer span names more text h m t =
    ap (map string_bytes) m ∙ (map-append string_bytes names (text ∷ []) ∙ (rw (h, t) refl))

-- another gives nothing
pub skipped : (layer : ℕ) (span : Span) (names more : List (String Global)) → has_bit span.bits.0 layer ≡ false → more ≡ names → map string_bytes more ≡ map string_bytes names ++ name_for layer (Some (node_of span))
skipped layer span names more h m = ap (map string_bytes) m ∙ (rw h (sym (append-nil (map string_bytes names))))

pub gathered : (spans : Spans) (layer id : ℕ) (names more : List (String Global)) (next : Option ℕ) → Gathers spans layer id (map string_bytes names) next → next ≡ None → more ≡ reverse names → map string_bytes more ≡ path layer spans id
gathered spans layer id names more next g e m =
    let all = g.all in
    let rest : names_for layer spans (walk_from spans next) ≡ [] = ap (λ o. names_for layer spans (walk_from spans o)) e in
    let whole : map string_bytes names ≡ names_for layer spans (walk spans id) = sym (append-nil (map string_bytes names)) ∙ (ap (λ v. map string_bytes names ++ v) (sym rest) ∙ all) in
    ap (map string_bytes) m ∙ (map-reverse string_bytes names ∙ ap reverse whole)

pub there : (es : List (ℕ × Span)) (layer id at : ℕ) (names : List (List ℕ)) (next : Option ℕ) → Gathers (nodes_of es) layer id names next → next ≡ Some at → find es at ≡ None → ⊥
there es layer id at names next g e h =
    let s = value_of_open es at (g.here at e) in none_is (find es at) s.0 h s.1
