-- The notes of a chain of spans that close: how each tells the path at the next.
use Rattle.std.proofs.Common.{◌≡◌, ◌≢◌, ℕ, zero, suc, ◌+◌, ◌<◌, ◌≤◌, Bool, true, false, cond, ◌&&◌, ◌||◌, List, [], ◌∷◌, ◌++◌, length, map, filter, reverse, replicate, take, set, eqb, Option, Some, None, refl, sym, ap, ◌∙◌, subst, inl, inr, arith}
use Rattle.std.specs.Prelude.{slice_get, IfSome, IsSomeAnd}
use Rattle.std.specs.List.{list_any, range_with_len}
use Rattle.std.specs.Option.{option_map_or}
use Rattle.std.proofs.lemmas.Bool.{cases_Bool, cases_lt, true≢false, eqb-true, eq-eqb, ne_eqb}
use Rattle.std.proofs.lemmas.Bool.Decides.{eqb_tells}
use Rattle.std.proofs.lemmas.List.{append-nil, reverse-append, length-set, get_or-set_same, get_or-set_other, get_or_past}
use Rattle.std.proofs.lemmas.Map.Views.{any-filter_same}
use Rattle.span_id.specs.Bits.{has_bit}
use Rattle.span_layers.specs.declared.note.Kind.TheVariants.{OnClose}
use Rattle.span_layers.specs.Note.{PlainNote, plain_note}
use Rattle.span_layers.specs.declared.note.Note.{Note}
use Rattle.span_layers.specs.Filter.{Filter, layer_wants}
use Rattle.span_forest.specs.Node.{Node}
use Rattle.span_forest.specs.Spans.{Spans, find, IsOpen, parent_of}
use Rattle.span_forest.specs.Walk.{walk, walk_within, Ends}
use Rattle.span_forest.specs.Path.{path, path_text, names_for, name_for}
use Rattle.span_forest.proofs.Ranks.{walk_more}
use Rattle.span_core.specs.Step.{is_open_parent}
use Rattle.span_core.specs.Happening.{bits_in, close_of, is_told, note_of, path_at}
use Rattle.span_core.specs.inside.Sound.{hears}
use Rattle.span_core.specs.inside.ClosingPaths.{GoesOn, IsChain, TellsBelow, IsBelow, AreBelow, AreBelowFirst, place_in, AreAscending, with_left, AreInTurn}
use Rattle.span_core.specs.declared.notes.closing.Place.{Place}
use Rattle.span_core.specs.declared.notes.closing.Below.{Below}
use Rattle.span_core.proofs.NewSpans.{ParentsOpen, parent_is_open, path_is}

-- a walk is its first span and the walk of that one's parent
walk_up : (n : ℕ) (spans : Spans) (id : ℕ) → Ends n spans (Some id) → walk_within n spans (Some id) ≡ id ∷ walk_within n spans (parent_of spans id)
walk_up zero spans id ends = absurd ends
walk_up (suc n) spans id ends = ap (λ ids. id ∷ ids) (sym (walk_more n spans (parent_of spans id) ends))

-- the first part of a walk is a chain
chain_of_walk : (spans : Spans) → ((id : ℕ) → IsOpen spans id → Ends (length spans) spans (Some id)) → ParentsOpen spans → (n : ℕ) (o : Option ℕ) → is_open_parent spans o ≡ true
    → GoesOn o (take n (walk_within (length spans) spans o)) × IsChain spans (take n (walk_within (length spans) spans o))
chain_of_walk spans ends parents zero o there = (tt, tt)
chain_of_walk spans ends parents (suc n) None there = (tt, tt)
chain_of_walk spans ends parents (suc n) (Some id) there =
    let rest = chain_of_walk spans ends parents n (parent_of spans id) (parent_is_open spans id parents) in
    rw (walk_up (length spans) spans id (ends id there)) (refl, (there, rest.0, rest.1))

pub closing_chain : (spans : Spans) (id : ℕ) (closed : List ℕ) → ((id : ℕ) → IsOpen spans id → Ends (length spans) spans (Some id)) → ParentsOpen spans → IsOpen spans id
    → closed ≡ take (length closed) (walk spans id) → IsChain spans closed
closing_chain spans id closed ends parents there are =
    subst (λ ids. IsChain spans ids) (sym are) (chain_of_walk spans ends parents (length closed) (Some id) there).1

-- a path is that of the parent, and the span's name where the layer admits it
path_step : (spans : Spans) (layer id : ℕ) → Ends (length spans) spans (Some id) → path layer spans id ≡ path_at layer spans (parent_of spans id) ++ name_for layer (find spans id)
path_step spans layer id ends =
    ap (λ ids. reverse (names_for layer spans ids)) (walk_up (length spans) spans id ends)
    ∙ reverse-append (name_for layer (find spans id)) (names_for layer spans (walk_within (length spans) spans (parent_of spans id)))
    ∙ (λ j. path_is spans layer (parent_of spans id) j ++ alone (find spans id) j)
  where
    alone : (o : Option Node) → reverse (name_for layer o) ≡ name_for layer o
    alone None = refl
    alone (Some node) = by_case (has_bit node.bits layer)
      where
        by_case : (b : Bool) → reverse (cond b (node.name ∷ []) []) ≡ cond b (node.name ∷ []) []
        by_case true = refl
        by_case false = refl

step_named : (spans : Spans) (layer id : ℕ) (node : Node) → Ends (length spans) spans (Some id) → find spans id ≡ Some node
    → path layer spans id ≡ path_at layer spans (parent_of spans id) ++ cond (has_bit (bits_in spans id) layer) (node.name ∷ []) []
step_named spans layer id node ends found =
    path_step spans layer id ends
    ∙ ap (λ o. path_at layer spans (parent_of spans id) ++ name_for layer o) found
    ∙ ap (λ (o : Option Node). path_at layer spans (parent_of spans id) ++ cond (has_bit (option_map_or (λ n. n.bits) o 0) layer) (node.name ∷ []) []) (sym found)

get_more : {X : Type 0} (xs more : List X) (at : ℕ) (x : X) → slice_get xs at ≡ Some x → slice_get (xs ++ more) at ≡ Some x
get_more [] more at x is = cc
get_more (y ∷ ys) more zero x is = is
get_more (y ∷ ys) more (suc at) x is = get_more ys more at x is

get_pushed : {X : Type 0} (xs : List X) (x : X) → slice_get (xs ++ x ∷ []) (length xs) ≡ Some x
get_pushed [] x = refl
get_pushed (y ∷ ys) x = get_pushed ys x

-- more notes change nothing of those that stand
below_more : (spans : Spans) (notes more : List PlainNote) (layer : ℕ) (next : Option ℕ) (place : Option Place) → IsBelow spans notes layer next place → IsBelow spans (notes ++ more) layer next place
below_more spans notes more layer next None is = tt
below_more spans notes more layer next (Some place) is = (is.0, get_more notes more place.at is.0 is.1, is.2)

below_at : (spans : Spans) (notes : List PlainNote) (layer : ℕ) (old_next next : Option ℕ) (old_place place : Option Place) → next ≡ old_next → place ≡ old_place → IsBelow spans notes layer old_next old_place → IsBelow spans notes layer next place
below_at spans notes layer old_next next old_place place nexts places is = rw (nexts, places) is

none_below : (spans : Spans) (notes : List PlainNote) (layer : ℕ) (next : Option ℕ) (place : Option Place) → place ≡ None → IsBelow spans notes layer next place
none_below spans notes layer next place none = rw none tt

-- what the note of a place tells
pub tells_below : (spans : Spans) (notes : List PlainNote) (layer id : ℕ) (place : Place) (note : PlainNote) → IsBelow spans notes layer (Some id) (Some place) → slice_get notes place.at ≡ Some note
    → TellsBelow (path layer spans id) place.name note
tells_below spans notes layer id place note is found =
    let same : is.0 ≡ note = some_same (is.0) note (sym is.1 ∙ found) in subst (TellsBelow (path layer spans id) place.name) same is.2
  where
    some_same : (a b : PlainNote) → Some a ≡ Some b → a ≡ b
    some_same a b same = cc

-- what the note that was looked up tells
pub told_above : (spans : Spans) (seen notes : List Note) (layer id : ℕ) (held place : Option Place) (found : Option Below) → seen ≡ notes → held ≡ place
    → IsBelow spans (map plain_note notes) layer (Some id) held
    → IfSome found (λ below. IsSomeAnd place (λ p. (slice_get (map plain_note seen) p.at ≡ Some (plain_note below.note.now)) × (p.name ≡ below.name)))
    → IfSome found (λ below. TellsBelow (path layer spans id) below.name (plain_note below.note.now))
told_above spans seen notes layer id held place None same at is there = tt
told_above spans seen notes layer id held None (Some below) same at is there = absurd there
told_above spans seen notes layer id held (Some place) (Some below) same at is there =
    subst (λ (bytes : ℕ). TellsBelow (path layer spans id) bytes (plain_note below.note.now)) there.1
    (tells_below spans (map plain_note notes) layer id place (plain_note below.note.now)
    (subst (λ (p : Option Place). IsBelow spans (map plain_note notes) layer (Some id) p) at is)
    (ap (λ (ns : List Note). slice_get (map plain_note ns) place.at) (sym same) ∙ there.0))

-- numbers that ascend from a bound on ascend from each lower one
AreAscending-lower : (test : ℕ → Bool) (low from end : ℕ) (ns : List ℕ) → low ≤ from → AreAscending test from end ns → AreAscending test low end ns
AreAscending-lower test low from end [] le up = tt
AreAscending-lower test low from end (n ∷ ns) le up = (omega (arith, le, up.0), up.1, up.2, up.3)

-- of the numbers of a range those that pass a test ascend
ascending : (test : ℕ → Bool) (from n : ℕ) → AreAscending test from (from + n) (filter test (range_with_len from n))
ascending test from zero = tt
ascending test from (suc n) =
    let next : from + 1 + n ≡ from + suc n = omega arith in
    let above : AreAscending test (from + 1) (from + suc n) (filter test (range_with_len (from + 1) n)) =
    subst (λ end. AreAscending test (from + 1) end (filter test (range_with_len (from + 1) n))) next (ascending test (from + 1) n) in
    elim (cases_Bool (test from)) [
      | inl passes ↦ rw passes (omega arith, omega arith, passes, above)
      | inr fails ↦ rw fails (AreAscending-lower test from (from + 1) (from + suc n) _ (omega arith) above)
    ]

all_ascending : (test : ℕ → Bool) (end : ℕ) → AreAscending test 0 end (filter test (range_with_len 0 end))
all_ascending test end = subst (λ n. AreAscending test 0 n (filter test (range_with_len 0 end))) zeros (ascending test 0 end)
  where
    zeros : 0 + end ≡ end
    zeros = omega arith

-- no number below the first bound is among them
absent_below : (test : ℕ → Bool) (from end k : ℕ) (ns : List ℕ) → k < from → AreAscending test from end ns → list_any (λ other. eqb other k) ns ≡ false
absent_below test from end k [] lt up = refl
absent_below test from end k (n ∷ ns) lt up =
    let other : eqb n k ≡ false = ne_eqb n k (λ same. absurd (omega (arith, same, lt, up.0))) in
    ap (λ b. b || list_any (λ m. eqb m k) ns) other ∙ absent_below test (n + 1) end k ns (omega (arith, lt, up.0)) up.3

-- each number of a range is there
in_range : (from n k : ℕ) → from ≤ k → k < from + n → list_any (λ other. eqb other k) (range_with_len from n) ≡ true
in_range from zero k low high = absurd (omega (arith, low, high))
in_range from (suc n) k low high =
    elim (eqb_tells from k) [
      | inl same ↦ ap (λ b. b || list_any (λ m. eqb m k) (range_with_len (from + 1) n)) same.0
      | inr other ↦ (let later : from + 1 ≤ k = omega (arith, low, other.1) in
          ap (λ b. b || list_any (λ m. eqb m k) (range_with_len (from + 1) n)) other.0
          ∙ in_range (from + 1) n k later (omega (arith, high)))
    ]

-- a layer of the range that isn't left fails the test
not_left : (test : ℕ → Bool) (n k : ℕ) → k < n → list_any (λ other. eqb other k) (filter test (range_with_len 0 n)) ≡ false → test k ≡ false
not_left test n k lt out =
    by_case (test k) (sym (any-filter_same (λ other. eqb other k) test (test k) (λ other same. ap test (eqb-true other k same)) (range_with_len 0 n)
    ∙ ap (λ b. test k && b) (in_range 0 n k (omega arith) (omega (arith, lt)))) ∙ out)
  where
    by_case : (b : Bool) → (b && true) ≡ false → b ≡ false
    by_case true fails = fails
    by_case false fails = refl

-- the layers that are told of a span that closes
pub told_closes : (rules : List Filter) (spans : Spans) (id : ℕ) (node : Node) → find spans id ≡ Some node
    → filter (hears rules node.bits OnClose) (range_with_len 0 (length rules)) ≡ filter (is_told rules (close_of spans id)) (range_with_len 0 (length rules))
told_closes rules spans id node found =
    ap (λ (o : Option Node). filter (hears rules (option_map_or (λ n. n.bits) o 0) OnClose) (range_with_len 0 (length rules))) (sym found)

-- where a layer stands
left_at : (spans : Spans) (id k : ℕ) (left : List ℕ) (b : Bool) → list_any (λ other. eqb other k) left ≡ b → with_left spans id left k ≡ cond b (Some id) (parent_of spans id)
left_at spans id k left b is = ap (λ t. cond t (Some id) (parent_of spans id)) is

and_both : (a b : Bool) → (a && b) ≡ true → (a ≡ true) × (b ≡ true)
and_both true b h = (refl, h)
and_both false b h = cc

not_first : (a b : Bool) → (a && b) ≡ false → b ≡ true → a ≡ false
not_first true b h k = absurd (true≢false (sym k ∙ h))
not_first false b h k = refl

-- a layer that is told: its place is that of its note
pub turn_more : (rules : List Filter) (spans : Spans) (id layer worker : ℕ) (node : Node) (left rest : List ℕ) (notes after : List PlainNote) (places later : List (Option Place)) (count : ℕ)
    → find spans id ≡ Some node → Ends (length spans) spans (Some id) → count ≡ length notes
    → left ≡ layer ∷ rest → AreInTurn rules spans id left notes places
    → after ≡ notes ++ note_of worker (close_of spans id) layer ∷ [] → later ≡ set places layer (Some (record { at = count; name = length node.name }))
    → AreInTurn rules spans id rest after later
turn_more rules spans id layer worker node left rest notes after places later count found ends counted next old after_is later_is =
    rw (after_is, later_is) (record {
      ascending = AreAscending-lower (is_told rules (close_of spans id)) 0 (layer + 1) (length rules) rest (omega arith) first.3;
      count = length-set places layer (Some place) ∙ old.count;
      below = record {
        below = λ k. elim (eqb_tells k layer) [
          | inl same ↦ subst (λ (n : ℕ). IsBelow spans told n (with_left spans id rest n) (place_in placed n)) (sym same.1) here
          | inr other ↦ below_at spans told k _ _ _ _ (past k other.1) (get_or-set_other places layer k (Some place) None other.1)
              (below_more spans notes (note ∷ []) k _ _ (old.below.below k))
        ];
        wanted = λ k unwanted. elim (eqb_tells k layer) [
          | inl same ↦ absurd (true≢false (sym both.1 ∙ ap (λ n. layer_wants rules n OnClose) (sym same.1) ∙ unwanted))
          | inr other ↦ get_or-set_other places layer k (Some place) None other.1 ∙ old.below.wanted k unwanted
        ];
      };
    })
  where
    note : PlainNote
    note = note_of worker (close_of spans id) layer

    told : List PlainNote
    told = notes ++ note ∷ []

    place : Place
    place = record { at = count; name = length node.name }

    placed : List (Option Place)
    placed = set places layer (Some place)

    first : AreAscending (is_told rules (close_of spans id)) 0 (length rules) (layer ∷ rest)
    first = subst (λ layers. AreAscending (is_told rules (close_of spans id)) 0 (length rules) layers) next old.ascending

    both : (has_bit (bits_in spans id) layer ≡ true) × (layer_wants rules layer OnClose ≡ true)
    both = and_both (has_bit (bits_in spans id) layer) (layer_wants rules layer OnClose) first.2

    named : path layer spans id ≡ path_at layer spans (parent_of spans id) ++ node.name ∷ []
    named = step_named spans layer id node ends found ∙ ap (λ b. path_at layer spans (parent_of spans id) ++ cond b (node.name ∷ []) []) both.0

    stands : slice_get told count ≡ Some note
    stands = ap (slice_get told) counted ∙ get_pushed notes note

    here : IsBelow spans told layer (with_left spans id rest layer) (place_in placed layer)
    here =
        below_at spans told layer (parent_of spans id) _ (Some place) _
        (left_at spans id layer rest false (absent_below (is_told rules (close_of spans id)) (layer + 1) (length rules) layer rest (omega arith) first.3))
        (get_or-set_same places layer (Some place) None (omega (arith, old.count, first.1)))
        (note, stands, (node.name, refl, ap path_text named))

    past : (k : ℕ) → k ≢ layer → with_left spans id rest k ≡ with_left spans id left k
    past k other =
        let apart : eqb layer k ≡ false = ne_eqb layer k (λ same. other (sym same)) in
        sym (left_at spans id k left _ (ap (list_any (λ n. eqb n k)) next ∙ ap (λ b. b || list_any (λ n. eqb n k) rest) apart))

-- the layer whose turn it is
pub turn_there : (rules : List Filter) (spans : Spans) (id layer : ℕ) (left rest : List ℕ) (notes : List PlainNote) (places : List (Option Place))
    → left ≡ layer ∷ rest → AreInTurn rules spans id left notes places → layer < length places
turn_there rules spans id layer left rest notes places next old =
    let first : AreAscending (is_told rules (close_of spans id)) 0 (length rules) (layer ∷ rest) = subst (λ layers. AreAscending (is_told rules (close_of spans id)) 0 (length rules) layers) next old.ascending in
    omega (arith, first.1, old.count)

pub turn_below : (rules : List Filter) (spans : Spans) (id layer : ℕ) (left rest : List ℕ) (notes : List PlainNote) (places : List (Option Place))
    → left ≡ layer ∷ rest → AreInTurn rules spans id left notes places → IsBelow spans notes layer (Some id) (place_in places layer)
turn_below rules spans id layer left rest notes places next old =
    below_at spans notes layer _ (Some id) _ _
    (sym (left_at spans id layer left true (ap (list_any (λ n. eqb n layer)) next ∙ ap (λ b. b || list_any (λ n. eqb n layer) rest) (eq-eqb layer layer refl)))) refl
    (old.below.below layer)

-- before the first turn: a layer that isn't told either has no place, as it wants no closes or isn't there, or doesn't
-- admit the span, and its path stays
pub turn_start : (rules : List Filter) (spans : Spans) (id : ℕ) (node : Node) (left : List ℕ) (notes : List PlainNote) (places : List (Option Place))
    → find spans id ≡ Some node → Ends (length spans) spans (Some id) → length places ≡ length rules
    → left ≡ filter (is_told rules (close_of spans id)) (range_with_len 0 (length rules))
    → AreBelow rules spans notes (λ layer. Some id) places → AreInTurn rules spans id left notes places
turn_start rules spans id node left notes places found ends long are old =
    record {
      ascending = subst (λ layers. AreAscending (is_told rules (close_of spans id)) 0 (length rules) layers) (sym are) (all_ascending (is_told rules (close_of spans id)) (length rules));
      count = long;
      below = record {
        below = λ k. elim (cases_Bool (list_any (λ other. eqb other k) left)) [
          | inl told ↦ below_at spans notes k _ _ _ _ (left_at spans id k left true told) refl (old.below k)
          | inr quiet ↦ below_at spans notes k (parent_of spans id) _ (place_in places k) _ (left_at spans id k left false quiet) refl (up k quiet)
        ];
        wanted = old.wanted;
      };
    }
  where
    same_path : (k : ℕ) → has_bit (bits_in spans id) k ≡ false → path k spans id ≡ path_at k spans (parent_of spans id)
    same_path k refused = step_named spans k id node ends found ∙ ap (λ b. path_at k spans (parent_of spans id) ++ cond b (node.name ∷ []) []) refused ∙ append-nil _

    moved : (k : ℕ) (place : Option Place) → has_bit (bits_in spans id) k ≡ false → IsBelow spans notes k (Some id) place → IsBelow spans notes k (parent_of spans id) place
    moved k None refused is = tt
    moved k (Some at) refused is = (is.0, is.1, (is.2.0, is.2.1, is.2.2 ∙ ap (λ p. path_text (p ++ is.2.0 ∷ [])) (same_path k refused)))

    up : (k : ℕ) → list_any (λ other. eqb other k) left ≡ false → IsBelow spans notes k (parent_of spans id) (place_in places k)
    up k quiet =
        elim (cases_lt k (length rules)) [
          | inl lt ↦ (let fails : is_told rules (close_of spans id) k ≡ false =
              not_left (is_told rules (close_of spans id)) (length rules) k lt (ap (list_any (λ other. eqb other k)) (sym are) ∙ quiet) in
              elim (cases_Bool (layer_wants rules k OnClose)) [
                | inl wants ↦ moved k (place_in places k) (not_first (has_bit (bits_in spans id) k) (layer_wants rules k OnClose) fails wants) (old.below k)
                | inr never ↦ none_below spans notes k (parent_of spans id) (place_in places k) (old.wanted k never)
              ])
          | inr past ↦ none_below spans notes k (parent_of spans id) (place_in places k) (get_or_past places k None (omega (arith, long, past)))
        ]

-- after the last turn
pub turn_end : (rules : List Filter) (spans : Spans) (id : ℕ) (left : List ℕ) (notes : List PlainNote) (places : List (Option Place))
    → left ≡ [] → AreInTurn rules spans id left notes places → AreBelow rules spans notes (λ layer. parent_of spans id) places
turn_end rules spans id left notes places none old =
    record {
      below = λ k. below_at spans notes k _ _ _ _ (sym (left_at spans id k left false (ap (list_any (λ other. eqb other k)) none))) refl (old.below.below k);
      wanted = old.below.wanted;
    }

nowhere : (layers k : ℕ) → place_in (replicate layers None) k ≡ None
nowhere zero k = refl
nowhere (suc layers) zero = refl
nowhere (suc layers) (suc k) = nowhere layers k

-- before the first span: there are no places
pub below_nothing : (rules : List Filter) (spans : Spans) (notes : List PlainNote) (closed : List ℕ) (places : List (Option Place)) (layers : ℕ)
    → places ≡ replicate layers None → AreBelowFirst rules spans notes closed places
below_nothing rules spans notes [] places layers none = tt
below_nothing rules spans notes (id ∷ ids) places layers none =
    record {
      below = λ k. none_below spans notes k (Some id) (place_in places k) (ap (λ ps. place_in ps k) none ∙ nowhere layers k);
      wanted = λ k unwanted. ap (λ ps. place_in ps k) none ∙ nowhere layers k;
    }

-- on to the next span, the parent of the one that was told of
pub below_next : (rules : List Filter) (spans : Spans) (notes : List PlainNote) (next : Option ℕ) (closed : List ℕ) (places : List (Option Place))
    → GoesOn next closed → AreBelow rules spans notes (λ layer. next) places → AreBelowFirst rules spans notes closed places
below_next rules spans notes next [] places on old = tt
below_next rules spans notes next (id ∷ ids) places on old = subst (λ (o : Option ℕ). AreBelow rules spans notes (λ layer. o) places) on old
