-- What a core knows of the lower parts of a stack stays true, whatever a call does.
use Rattle.std.proofs.Common.{◌≡◌, ◌≢◌, ℕ, zero, suc, ◌+◌, ◌-◌, ◌*◌, ◌<◌, ◌≤◌, Bool, true, false, not, ◌&&◌, ◌||◌, List, [], ◌∷◌, ◌++◌, length, reverse, take, drop, get_or, set, eqb, Option, Some, None, refl, sym, ap, ◌∙◌, subst, inl, inr, arith}
use Rattle.std.specs.Prelude.{IfSome, IfNone}
use Rattle.std.specs.List.{slice_get, find as first_that}
use Rattle.std.proofs.lemmas.Bool.{cases_Bool, cases_lt, false≢true, eq-eqb, and_parts, or_parts}
use Rattle.std.proofs.lemmas.Bool.Decides.{eqb_tells}
use Rattle.std.proofs.lemmas.List.{length-append, append-nil, take-append-drop, take-append-le, take_more, get_or_append_left, get_or-set_same, get_or-set_other, reverse-append, reverse-reverse}
use Rattle.std.proofs.Math.Seq.{get_or-append_seam, take-add}
use Rattle.std.proofs.lemmas.Option.{slice_get_within, slice_get-get_or, get_or_from_slice_get}
use Rattle.span_id.specs.declared.bits.Bits.{Bits}
use Rattle.span_id.specs.Bits.{has_bit}
use Rattle.span_id.specs.Ids.{has}
use Rattle.span_forest.specs.Spans.{Spans}
use Rattle.span_stack.specs.Stack.{first_places, distinct_from_top, top, without_last}
use Rattle.span_stack.proofs.Stacks.{or_true, has-first_places, first_places-push, without_last-at}
use Rattle.span_stack.proofs.Entries.{has-append}
use Rattle.span_core.specs.declared.summary.Summary.{Summary}
use Rattle.span_core.specs.Happening.{bits_in, contextual_span}
use Rattle.span_core.specs.inside.Summary.{AdmitNone, Summarises, IsSummary}

-- ---- an element of a list, and of a longer one

get_more : {X : Type 0} (xs ys : List X) (i : ℕ) (x : X) → slice_get xs i ≡ Some x → slice_get (xs ++ ys) i ≡ Some x
get_more xs ys i x is =
    let within = slice_get_within xs i x is in
    slice_get-get_or (xs ++ ys) i x (omega (arith, within, length-append xs ys))
    ∙ ap Some (get_or_append_left xs ys x i within ∙ get_or_from_slice_get xs i x x is)

get_back : {X : Type 0} (xs ys : List X) (i : ℕ) (x : X) → i < length xs → slice_get (xs ++ ys) i ≡ Some x → slice_get xs i ≡ Some x
get_back xs ys i x within is =
    slice_get-get_or xs i x within
    ∙ ap Some (sym (get_or_append_left xs ys x i within) ∙ get_or_from_slice_get (xs ++ ys) i x x is)

length-take_le : {X : Type 0} (n : ℕ) (xs : List X) → length (take n xs) ≤ n
length-take_le zero xs = omega arith
length-take_le (suc n) [] = omega arith
length-take_le (suc n) (x ∷ xs) = let step = length-take_le n xs in omega arith

-- ---- the layers that admit none

-- an id is looked for among the entries, and among those of them that are no duplicates
or_swap : (a b : Bool) → (a || (b || false)) ≡ (b || a)
or_swap true true = refl
or_swap true false = refl
or_swap false true = refl
or_swap false false = refl

has-reverse : (ids : List ℕ) (id : ℕ) → has (reverse ids) id ≡ has ids id
has-reverse [] id = refl
has-reverse (x ∷ ids) id =
    ap (λ xs. has xs id) (reverse-append (x ∷ []) ids)
    ∙ has-append (reverse ids) (x ∷ []) id
    ∙ ap (λ b. b || has (x ∷ []) id) (has-reverse ids id)
    ∙ or_swap (has ids id) (eqb x id)

has-distinct_from_top : (ids : List ℕ) (id : ℕ) → has (distinct_from_top ids) id ≡ has ids id
has-distinct_from_top ids id = has-reverse (first_places ids) id ∙ has-first_places ids id

-- the layers of a mask admit none of those that a walk has passed
abbrev pub AdmitNonePassed : Spans → List ℕ → ℕ → ℕ → ℕ → List ℕ → Type 0
AdmitNonePassed spans ids from to mask left =
    (id layer : ℕ) → has (take from ids) id ≡ false → has (take to ids) id ≡ true → has left id ≡ false → has_bit mask layer ≡ true
    → has_bit (bits_in spans id) layer ≡ false

-- it passed none yet
pub none_passed : (spans : Spans) (ids : List ℕ) (from to mask : ℕ) (left : List ℕ) → distinct_from_top (take to ids) ≡ left ++ distinct_from_top (take from ids)
    → AdmitNonePassed spans ids from to mask left
none_passed spans ids from to mask left parts = λ id layer outside inside passed admits.
    absurd (false≢true
    (sym (ap (λ b. b || has (distinct_from_top (take from ids)) id) passed ∙ (has-distinct_from_top (take from ids) id ∙ outside))
    ∙ sym (has-append left (distinct_from_top (take from ids)) id) ∙ sym (ap (λ xs. has xs id) parts) ∙ has-distinct_from_top (take to ids) id ∙ inside))

-- it passes one more
pub one_passed : (spans : Spans) (ids : List ℕ) (from to mask bits new next : ℕ) (left rest : List ℕ) → left ≡ next ∷ rest
    → bits ≡ bits_in spans next
    → ((layer : ℕ) → has_bit new layer ≡ (has_bit mask layer && not (has_bit bits layer)))
    → AdmitNonePassed spans ids from to mask left → AdmitNonePassed spans ids from to new rest
one_passed spans ids from to mask bits new next left rest is bits_are less before = λ id layer outside inside passed admits.
    let parts = and_parts (has_bit mask layer) (not (has_bit bits layer)) (sym (less layer) ∙ admits) in
    elim (eqb_tells next id) [
      | inl t ↦ ap (λ b. has_bit b layer) (ap (bits_in spans) (sym t.1) ∙ sym bits_are) ∙ isnt (has_bit bits layer) parts.1
      | inr t ↦ before id layer outside inside
          (ap (λ xs. has xs id) is ∙ ap (λ b. b || has rest id) t.0 ∙ passed) parts.0
    ]
  where
    isnt : (b : Bool) → not b ≡ true → b ≡ false
    isnt true h = absurd (false≢true h)
    isnt false h = refl

-- it has passed all
pub all_passed : (spans : Spans) (ids : List ℕ) (from to mask : ℕ) (left : List ℕ) → left ≡ []
    → AdmitNonePassed spans ids from to mask left → AdmitNone spans ids from to mask
all_passed spans ids from to mask left is before = record {
  none = λ id layer outside inside admits. before id layer outside inside (ap (λ xs. has xs id) is) admits;
}

-- so it is in another stack with the same entries there
admit_same : (spans : Spans) (ids other : List ℕ) (from to mask : ℕ) → take from other ≡ take from ids → take to other ≡ take to ids
    → AdmitNone spans ids from to mask → AdmitNone spans other from to mask
admit_same spans ids other from to mask below upto before = record {
  none = λ id layer outside inside admits.
      before.none id layer (ap (λ xs. has xs id) (sym below) ∙ outside) (ap (λ xs. has xs id) (sym upto) ∙ inside) admits;
}

-- ---- blocks and entries, more and fewer

-- a block more
pub summarises_push : (spans : Spans) (ids : List ℕ) (blocks : List Bits) (block : Bits) → Summarises spans ids blocks
    → length blocks * 64 + 64 ≤ length ids → AdmitNone spans ids (length blocks * 64) (length blocks * 64 + 64) block.0
    → Summarises spans ids (blocks ++ block ∷ [])
summarises_push spans ids blocks block before room none = record {
  within = omega (arith, room, length-append blocks (block ∷ []));
  each = λ nth b at.
      elim (cases_lt nth (length blocks)) [
        | inl lower ↦ before.each nth b (get_back blocks (block ∷ []) nth b lower at)
        | inr upper ↦ (let inside = slice_get_within (blocks ++ block ∷ []) nth b at in
            let here : nth ≡ length blocks = omega (arith, upper, inside, length-append blocks (block ∷ [])) in
            let same : b ≡ block = sym (get_or_from_slice_get (blocks ++ block ∷ []) nth b b at) ∙ ap (λ n. get_or (blocks ++ block ∷ []) n b) here ∙ get_or-append_seam blocks block [] b in
            subst (λ (n : ℕ). AdmitNone spans ids (n * 64) (n * 64 + 64) b.0) (sym here)
            (subst (λ (k : Bits). AdmitNone spans ids (length blocks * 64) (length blocks * 64 + 64) k.0) (sym same) none))
      ];
}

-- fewer blocks
summarises_fewer : (spans : Spans) (ids : List ℕ) (blocks further : List Bits) → Summarises spans ids (blocks ++ further) → Summarises spans ids blocks
summarises_fewer spans ids blocks further before = record {
  within = omega (arith, before.within, length-append blocks further);
  each = λ nth block at. before.each nth block (get_more blocks further nth block at);
}

pub summarises_take : (spans : Spans) (ids : List ℕ) (blocks : List Bits) (n : ℕ) → Summarises spans ids blocks → Summarises spans ids (take n blocks)
summarises_take spans ids blocks n before =
    summarises_fewer spans ids (take n blocks) (drop n blocks) (subst (Summarises spans ids) (sym (take-append-drop n blocks)) before)

-- no block
pub summarises_none : (spans : Spans) (ids : List ℕ) → Summarises spans ids []
summarises_none spans ids = record {
  within = omega arith;
  each = λ nth block at. absurd (let inside = slice_get_within [] nth block at in omega (arith, inside));
}

-- more entries on top
pub summarises_more : (spans : Spans) (ids further : List ℕ) (blocks : List Bits) → Summarises spans ids blocks → Summarises spans (ids ++ further) blocks
summarises_more spans ids further blocks before = record {
  within = omega (arith, before.within, length-append ids further);
  each = λ nth block at.
      (let inside = slice_get_within blocks nth block at in
      admit_same spans ids (ids ++ further) (nth * 64) (nth * 64 + 64) block.0
      (take-append-le (nth * 64) ids further (omega (arith, inside, before.within)))
      (take-append-le (nth * 64 + 64) ids further (omega (arith, inside, before.within)))
      (before.each nth block at));
}

-- fewer entries on top, none of them in a block
summarises_less : (spans : Spans) (ids further : List ℕ) (blocks : List Bits) → length blocks * 64 ≤ length ids
    → Summarises spans (ids ++ further) blocks → Summarises spans ids blocks
summarises_less spans ids further blocks within before = record {
  within = within;
  each = λ nth block at.
      (let inside = slice_get_within blocks nth block at in
      admit_same spans (ids ++ further) ids (nth * 64) (nth * 64 + 64) block.0
      (sym (take-append-le (nth * 64) ids further (omega (arith, inside, within))))
      (sym (take-append-le (nth * 64 + 64) ids further (omega (arith, inside, within))))
      (before.each nth block at));
}

-- ---- the topmost entry of an id is taken out

-- what stands on top is the last
last_of : (up : List ℕ) (id : ℕ) → slice_get up 0 ≡ Some id → (lower : List ℕ) × (reverse up ≡ lower ++ id ∷ [])
last_of [] id is = absurd (let inside = slice_get_within [] 0 id is in omega (arith, inside))
last_of (x ∷ up) id is =
    let same : x ≡ id = get_or_from_slice_get (x ∷ up) 0 id id is in
    (reverse up, ap (λ y. reverse (y ∷ up)) same ∙ reverse-append (id ∷ []) up)

topmost_last : (ids : List ℕ) (id : ℕ) → top ids ≡ Some id → (lower : List ℕ) × (ids ≡ lower ++ id ∷ [])
topmost_last ids id is =
    let split = last_of (reverse ids) id is in
    (split.0, sym (reverse-reverse ids) ∙ split.1)

pub summarises_top : (spans : Spans) (ids : List ℕ) (id : ℕ) (blocks : List Bits) (n : ℕ) → top ids ≡ Some id → n * 64 ≤ length ids - 1
    → Summarises spans ids blocks → Summarises spans (without_last ids id) (take n blocks)
summarises_top spans ids id blocks n is below before =
    let split = topmost_last ids id is in
    let left : without_last ids id ≡ split.0 =
    ap (λ xs. without_last xs id) split.1 ∙ without_last-at split.0 [] id refl ∙ append-nil split.0 in
    let shorter = length-take_le n blocks in
    let long : length ids ≡ length split.0 + 1 = ap length split.1 ∙ length-append split.0 (id ∷ []) in
    subst (λ (xs : List ℕ). Summarises spans xs (take n blocks)) (sym left)
    (summarises_less spans split.0 (id ∷ []) (take n blocks) (omega (arith, shorter, below, long))
    (subst (λ (xs : List ℕ). Summarises spans xs (take n blocks)) split.1 (summarises_take spans ids blocks n before)))

-- ---- the stack of the summary's worker

-- that worker's stack is replaced
pub summary_set : (spans : Spans) (stacks : List (List ℕ)) (w : ℕ) (ids : List ℕ) (summary : Summary) → w < length stacks → summary.worker ≡ w
    → Summarises spans ids summary.blocks.items → IsSummary spans (set stacks w ids) summary
summary_set spans stacks w ids summary within is before = record {
  blocks = subst (λ (xs : List ℕ). Summarises spans xs summary.blocks.items)
      (sym (ap (λ v. get_or (set stacks w ids) v []) is ∙ get_or-set_same stacks w ids [] within)) before;
}

-- another's is
pub summary_other : (spans : Spans) (stacks : List (List ℕ)) (w : ℕ) (ids : List ℕ) (summary : Summary) → summary.worker ≢ w
    → IsSummary spans stacks summary → IsSummary spans (set stacks w ids) summary
summary_other spans stacks w ids summary isnt before = record {
  blocks = subst (λ (xs : List ℕ). Summarises spans xs summary.blocks.items)
      (sym (get_or-set_other stacks w summary.worker ids [] isnt)) before.blocks;
}

-- ---- what is known of the lower part spares a look there

-- the first that passes a test, in two parts
find_first : (p : ℕ → Bool) (xs ys : List ℕ) (id : ℕ) → first_that p xs ≡ Some id → first_that p (xs ++ ys) ≡ Some id
find_first p [] ys id is = cc
find_first p (x ∷ xs) ys id is =
    elim (cases_Bool (p x)) [ inl t ↦ rw t (rw t at is) | inr f ↦ rw f (find_first p xs ys id (rw f at is)) ]

find_later : (p : ℕ → Bool) (xs ys : List ℕ) → first_that p xs ≡ None → first_that p (xs ++ ys) ≡ first_that p ys
find_later p [] ys is = refl
find_later p (x ∷ xs) ys is =
    elim (cases_Bool (p x)) [ inl t ↦ (let no : Some x ≡ None = rw t at is in cc) | inr f ↦ rw f (find_later p xs ys (rw f at is)) ]

pub seen_some : (p : ℕ → Bool) (o : Option ℕ) (whole part rest : List ℕ) → o ≡ first_that p part → whole ≡ part ++ rest
    → IfSome o (λ id. Some id ≡ first_that p whole)
seen_some p None whole part rest is parts = tt
seen_some p (Some id) whole part rest is parts = sym (ap (first_that p) parts ∙ find_first p part rest id (sym is))

pub seen_none : (p : ℕ → Bool) (o : Option ℕ) (whole part rest : List ℕ) → o ≡ first_that p part → whole ≡ part ++ rest
    → IfNone o (first_that p whole ≡ first_that p rest)
seen_none p None whole part rest is parts = ap (first_that p) parts ∙ find_later p part rest (sym is)
seen_none p (Some id) whole part rest is parts = tt

-- an entry on top that is a duplicate, or that the layer doesn't admit
seen_push : (spans : Spans) (ids : List ℕ) (id layer : ℕ) → (has ids id ≡ false → has_bit (bits_in spans id) layer ≡ false)
    → contextual_span spans (ids ++ id ∷ []) layer ≡ contextual_span spans ids layer
seen_push spans ids id layer isnt =
    let p : ℕ → Bool = λ other. has_bit (bits_in spans other) layer in
    ap (λ xs. first_that p (reverse xs)) (first_places-push ids id)
    ∙ elim (cases_Bool (has ids id)) [
      | inl t ↦ rw t refl
      | inr f ↦ rw f (ap (first_that p) (reverse-append (first_places ids) (id ∷ [])) ∙ (rw (isnt f) refl))
    ]

-- several of them
seen_below : (spans : Spans) (ids : List ℕ) (from layer n : ℕ) → from + n ≤ length ids
    → ((id : ℕ) → has (take from ids) id ≡ false → has (take (from + n) ids) id ≡ true → has_bit (bits_in spans id) layer ≡ false)
    → contextual_span spans (take (from + n) ids) layer ≡ contextual_span spans (take from ids) layer
seen_below spans ids from layer zero within none = ap (λ k. contextual_span spans (take k ids) layer) (omega arith)
seen_below spans ids from layer (suc n) within none =
    let there : from + n < length ids = omega (arith, within) in
    let top = get_or ids (from + n) 0 in
    let more : take (from + suc n) ids ≡ take (from + n) ids ++ top ∷ [] =
    ap (λ k. take k ids) (omega arith) ∙ take_more ids (from + n) 0 there in
    ap (λ xs. contextual_span spans xs layer) more
    ∙ seen_push spans (take (from + n) ids) top layer
    (λ absent. none top
    ((or_parts (has (take from ids) top) (has (take n (drop from ids)) top)
    (sym (has-append (take from ids) (take n (drop from ids)) top) ∙ ap (λ xs. has xs top) (sym (take-add from n ids)) ∙ absent)).0)
    (ap (λ xs. has xs top) more ∙ has-append (take (from + n) ids) (top ∷ []) top
    ∙ ap (λ b. has (take (from + n) ids) top || (b || false)) (eq-eqb top top refl) ∙ or_true (has (take (from + n) ids) top)))
    ∙ seen_below spans ids from layer n (omega (arith, within))
    (λ id outside inside. none id outside
    (ap (λ xs. has xs id) more ∙ has-append (take (from + n) ids) (top ∷ []) id ∙ ap (λ b. b || has (top ∷ []) id) inside))

-- a whole block
pub seen_skipped : (spans : Spans) (ids : List ℕ) (blocks : List Bits) (nth layer : ℕ) (block : Bits) → Summarises spans ids blocks
    → slice_get blocks nth ≡ Some block → has_bit block.0 layer ≡ true
    → contextual_span spans (take (nth * 64 + 64) ids) layer ≡ contextual_span spans (take (nth * 64) ids) layer
seen_skipped spans ids blocks nth layer block before at isnt =
    let inside = slice_get_within blocks nth block at in
    seen_below spans ids (nth * 64) layer 64 (omega (arith, inside, before.within))
    (λ id outside inside. (before.each nth block at).none id layer outside inside isnt)
