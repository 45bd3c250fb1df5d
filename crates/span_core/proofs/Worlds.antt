-- The entries of the spans and the workers' stacks agree after each change of the world.
use Rattle.std.proofs.Common.{◌≡◌, ℕ, zero, suc, ◌+◌, ◌-◌, ◌<◌, ◌==◌, Bool, true, false, cond, not, ◌||◌, ◌&&◌, List, [], ◌∷◌, ◌++◌, length, filter, get_or, set, replicate, Option, Some, None, refl, sym, ap, ◌∙◌, arith, inl, inr}
use Rattle.std.specs.List.{list_any}
use Rattle.std.proofs.lemmas.Bool.{cases_Bool, eq-eqb, false≢true}
use Rattle.std.proofs.lemmas.Bool.Decides.{nat_tests}
use Rattle.std.proofs.lemmas.List.Folds.{sum_by-replicate, list_any-append}
use Rattle.std.proofs.lemmas.List.Sums.{sum_by-set}
use Rattle.span_id.specs.Ids.{has}
use Rattle.span_forest.specs.declared.span.Holder.TheVariants.{Handle, Entry}
use Rattle.span_forest.specs.Node.{Node}
use Rattle.span_forest.specs.Spans.{Spans, find, with_change}
use Rattle.span_forest.specs.Walk.{walk}
use Rattle.span_forest.specs.Count.{is_held}
use Rattle.span_forest.specs.Live.{is_live, live_part}
use Rattle.span_forest.specs.Holders.{held_in, held_by, with_more, with_less}
use Rattle.span_forest.specs.Keep.{with_holder}
use Rattle.span_forest.specs.Release.{without_holder, spans_left}
use Rattle.span_stack.specs.Stack.{without_last}
use Rattle.span_core.specs.World.{IsWorld, workers_inside}

other_key : (a id j : ℕ) → (a == j) ≡ true → (id == j) ≡ false → (a == id) ≡ false
other_key a id j here other = grind (arith, nat_tests)

pub same_key : (a b : ℕ) → (a == b) ≡ true → a ≡ b
same_key a b h = grind (arith, nat_tests)

-- a change of one span
pub find-changed_same : (f : Node → Node) (spans : Spans) (id : ℕ) (node : Node) → find spans id ≡ Some node → find (with_change f spans id) id ≡ Some (f node)
find-changed_same f [] id node h = cc
find-changed_same f (e ∷ es) id node h =
    elim (cases_Bool (e.0 == id)) [
      | inl t ↦ (let h2 = rw t at h in rw t cc)
      | inr t ↦ rw t (find-changed_same f es id node (rw t at h))
    ]

pub find-changed_other : (f : Node → Node) (spans : Spans) (id j : ℕ) → (id == j) ≡ false → find (with_change f spans id) j ≡ find spans j
find-changed_other f [] id j other = refl
find-changed_other f (e ∷ es) id j other =
    elim (cases_Bool (e.0 == j)) [
      | inl t ↦ (let u = other_key e.0 id j t other in rw (t, u) refl)
      | inr t ↦ rw t (find-changed_other f es id j other)
    ]

-- a change that leaves the entries
pub entries-changed : (f : Node → Node) → ((node : Node) → (f node).entries ≡ node.entries) → (spans : Spans) (id j : ℕ) → held_in Entry (find (with_change f spans id) j) ≡ held_in Entry (find spans j)
entries-changed f same [] id j = refl
entries-changed f same (e ∷ es) id j =
    elim (cases_Bool (e.0 == j)) [
      | inl t ↦ rw t (at (e.0 == id))
      | inr t ↦ rw t (entries-changed f same es id j)
    ]
  where
    at : (b : Bool) → held_by Entry (cond b (f e.1) e.1) ≡ held_by Entry e.1
    at true = same e.1
    at false = refl

-- such a change keeps the world whole
pub world_changed : (f : Node → Node) → ((node : Node) → (f node).entries ≡ node.entries) → (spans : Spans) (id : ℕ) (stacks : List (List ℕ)) → IsWorld (record { spans = spans; stacks = stacks }) → IsWorld (record { spans = with_change f spans id; stacks = stacks })
world_changed f same spans id stacks whole = record { entered = λ j. entries-changed f same spans id j ∙ whole.entered j }

pub world_kept_handle : (spans : Spans) (id : ℕ) (stacks : List (List ℕ)) → IsWorld (record { spans = spans; stacks = stacks }) → IsWorld (record { spans = with_holder spans id Handle; stacks = stacks })
world_kept_handle spans id stacks whole = world_changed (with_more Handle) (λ node. refl) spans id stacks whole

-- no worker has entered anything
pub nobody_inside : (workers id : ℕ) → workers_inside (replicate workers []) id ≡ 0
nobody_inside workers id = sum_by-replicate (λ stack. cond (has stack id) 1 0) workers [] ∙ omega arith

abbrev pub one : Bool → ℕ
one b = cond b 1 0

either : (a b : Bool) → (a || (b || false)) ≡ (a || b)
either true b = refl
either false true = refl
either false false = refl

pub has-push : (stack : List ℕ) (id j : ℕ) → has (stack ++ id ∷ []) j ≡ (has stack j || (id == j))
has-push stack id j = list_any-append (λ entry. entry == j) stack (id ∷ []) ∙ either (has stack j) (id == j)

-- the workers inside a span, where one stack becomes another
pub inside-set : (stacks : List (List ℕ)) (w : ℕ) (stack new : List ℕ) (j : ℕ) → w < length stacks → get_or stacks w [] ≡ stack
    → workers_inside (set stacks w new) j + one (has stack j) ≡ workers_inside stacks j + one (has new j)
inside-set stacks w stack new j within is = rw is at (sum_by-set (λ s. cond (has s j) 1 0) stacks w new [] within)

-- as many more entries as workers
balanced : (spans after stacks pushed : ℕ) (b c : Bool) → spans ≡ stacks → pushed + one b ≡ stacks + one (b || c) → after ≡ spans + one c → (c ≡ true → b ≡ false) → after ≡ pushed
balanced spans after stacks pushed b true even grew more apart = (let grew' = rw (apart refl) at grew in omega (arith, even, more, grew'))
balanced spans after stacks pushed true false even grew more apart = omega (arith, even, more, grew)
balanced spans after stacks pushed false false even grew more apart = omega (arith, even, more, grew)

unmoved : (stacks pushed : ℕ) (b c : Bool) → pushed + one b ≡ stacks + one (b || c) → (c ≡ true → b ≡ true) → stacks ≡ pushed
unmoved stacks pushed true c grew apart = omega (arith, grew)
unmoved stacks pushed false false grew apart = omega (arith, grew)
unmoved stacks pushed false true grew apart = let same = apart refl in omega (arith, grew, ap one same)

pub entries-kept : (spans : Spans) (id j : ℕ) (node : Node) → find spans id ≡ Some node → held_in Entry (find (with_holder spans id Entry) j) ≡ held_in Entry (find spans j) + one (id == j)
entries-kept spans id j node is =
    elim (cases_Bool (id == j)) [
      | inl t ↦ (let here = same_key id j t in rw (t, ← here) (ap (held_in Entry) (find-changed_same (with_more Entry) spans id node is) ∙ sym (ap (λ o. held_in Entry o + 1) is)))
      | inr t ↦ rw t (ap (held_in Entry) (find-changed_other (with_more Entry) spans id j t) ∙ omega arith)
    ]

-- a worker enters
pub world_entered : (spans : Spans) (stacks : List (List ℕ)) (w id : ℕ) (stack : List ℕ) (stands : Bool) (node : Node) → w < length stacks → get_or stacks w [] ≡ stack → has stack id ≡ stands → find spans id ≡ Some node
    → IsWorld (record { spans = spans; stacks = stacks }) → IsWorld (record { spans = cond (not stands) (with_holder spans id Entry) spans; stacks = set stacks w (stack ++ id ∷ []) })
world_entered spans stacks w id stack true node within is stands found whole =
    record { entered = λ j. whole.entered j ∙ unmoved _ _ (has stack j) (id == j) (inside-set stacks w stack (stack ++ id ∷ []) j within is ∙ ap (λ b. workers_inside stacks j + one b) (has-push stack id j)) (λ e. ap (λ k. has stack k) (sym (same_key id j e)) ∙ stands) }
world_entered spans stacks w id stack false node within is stands found whole =
    record { entered = λ j. balanced (held_in Entry (find spans j)) _ (workers_inside stacks j) _ (has stack j) (id == j) (whole.entered j) (inside-set stacks w stack (stack ++ id ∷ []) j within is ∙ ap (λ b. workers_inside stacks j + one b) (has-push stack id j)) (entries-kept spans id j node found) (λ e. ap (λ k. has stack k) (sym (same_key id j e)) ∙ stands) }

-- the spans that are live have all entries
find-filter : (p : ℕ → Bool) (spans : Spans) (j : ℕ) → find (filter (λ e. p e.0) spans) j ≡ cond (p j) (find spans j) None
find-filter p [] j = elim (cases_Bool (p j)) [ inl t ↦ rw t refl | inr t ↦ rw t refl ]
find-filter p (e ∷ es) j =
    let rest = find-filter p es j in
    elim (cases_Bool (e.0 == j)) [
      | inl t ↦ (let here : e.0 ≡ j = same_key e.0 j t in
          elim (cases_Bool (p j)) [
            | inl u ↦ (let u' : p e.0 ≡ true = ap p here ∙ u in rw (u', u, t) refl)
            | inr u ↦ (let u' : p e.0 ≡ false = ap p here ∙ u in rw (u', u) (rest ∙ rw u refl))
          ])
      | inr t ↦ elim (cases_Bool (p e.0)) [ inl u ↦ rw (u, t) rest | inr u ↦ rw (u, t) rest ]
    ]

any_found : (q : ℕ × Node → Bool) (spans : Spans) (j : ℕ) (node : Node) → find spans j ≡ Some node → q (j, node) ≡ true → list_any q spans ≡ true
any_found q [] j node is passes = cc
any_found q (e ∷ es) j node is passes =
    elim (cases_Bool (e.0 == j)) [
      | inl t ↦ (let here : e.0 ≡ j = same_key e.0 j t in let h2 = rw t at is in let that : e.1 ≡ node = cc in
          let first : q (e.0, e.1) ≡ true = ap (λ k. q (k, e.1)) here ∙ ap (λ n. q (j, n)) that ∙ passes in rw first refl)
      | inr t ↦ (let rest = any_found q es j node (rw t at is) passes in rw rest (or_true (q e)))
    ]
  where
    or_true : (b : Bool) → (b || true) ≡ true
    or_true true = refl
    or_true false = refl

walk_has_first : (spans : Spans) (j : ℕ) (node : Node) → find spans j ≡ Some node → has (walk spans j) j ≡ true
walk_has_first [] j node is = cc
walk_has_first (e ∷ es) j node is = rw (eq-eqb j j refl) refl

pub live_of_held : (spans : Spans) (j : ℕ) (node : Node) → find spans j ≡ Some node → is_held node ≡ true → is_live spans j ≡ true
live_of_held spans j node is held =
    any_found (λ e. is_held e.1 && has (walk spans e.0) j) spans j node is (rw (held, walk_has_first spans j node is) refl)

held_with_entry : (node : Node) → 0 < node.entries → is_held node ≡ true
held_with_entry node h = grind (arith, nat_tests)

pub entries-live : (spans : Spans) (j : ℕ) → held_in Entry (find (live_part spans) j) ≡ held_in Entry (find spans j)
entries-live spans j =
    ap (held_in Entry) (find-filter (is_live spans) spans j)
    ∙ elim (cases_Bool (is_live spans j)) [
      | inl t ↦ rw t refl
      | inr t ↦ rw t (sym (by_case (find spans j) refl t))
    ]
  where
    by_case : (o : Option Node) → find spans j ≡ o → is_live spans j ≡ false → held_in Entry o ≡ 0
    by_case None is gone = refl
    by_case (Some node) is gone = none_left node.entries refl
      where
        none_left : (n : ℕ) → node.entries ≡ n → n ≡ 0
        none_left zero e = refl
        none_left (suc n) e = absurd (false≢true (sym gone ∙ live_of_held spans j node is (held_with_entry node (omega (arith, e)))))

pub world_released_handle : (spans : Spans) (id : ℕ) (stacks : List (List ℕ)) → IsWorld (record { spans = spans; stacks = stacks }) → IsWorld (record { spans = spans_left spans id Handle; stacks = stacks })
world_released_handle spans id stacks whole =
    record { entered = λ j. entries-live (without_holder spans id Handle) j ∙ entries-changed (with_less Handle) (λ node. refl) spans id j ∙ whole.entered j }

entries-taken : (spans : Spans) (id j : ℕ) (node : Node) → find spans id ≡ Some node → held_in Entry (find (without_holder spans id Entry) j) ≡ held_in Entry (find spans j) - one (id == j)
entries-taken spans id j node is =
    elim (cases_Bool (id == j)) [
      | inl t ↦ (let here = same_key id j t in rw (t, ← here) (ap (held_in Entry) (find-changed_same (with_less Entry) spans id node is) ∙ sym (ap (λ o. held_in Entry o - 1) is)))
      | inr t ↦ rw t (ap (held_in Entry) (find-changed_other (with_less Entry) spans id j t) ∙ omega arith)
    ]

pub has-without_last : (stack : List ℕ) (id j : ℕ) → (id == j) ≡ false → has (without_last stack id) j ≡ has stack j
has-without_last [] id j other = refl
has-without_last (lowest ∷ above) id j other =
    elim (cases_Bool (has above id)) [
      | inl t ↦ rw t (ap (λ b. (lowest == j) || b) (has-without_last above id j other))
      | inr t ↦ elim (cases_Bool (lowest == id)) [
        | inl u ↦ (let here : lowest ≡ id = same_key lowest id u in let v : (lowest == j) ≡ false = ap (λ k. k == j) here ∙ other in rw (t, u, v) refl)
        | inr u ↦ rw (t, u) refl
      ]
    ]

-- a worker leaves: where its id still stands in the stack, nothing changes but the stack
pub world_left_still : (spans : Spans) (stacks : List (List ℕ)) (w id : ℕ) (stack : List ℕ) → w < length stacks → get_or stacks w [] ≡ stack → has stack id ≡ true → has (without_last stack id) id ≡ true
    → IsWorld (record { spans = spans; stacks = stacks }) → IsWorld (record { spans = spans; stacks = set stacks w (without_last stack id) })
world_left_still spans stacks w id stack within is stands still whole =
    record { entered = λ j. whole.entered j ∙ same j }
  where
    same : (j : ℕ) → workers_inside stacks j ≡ workers_inside (set stacks w (without_last stack id)) j
    same j =
        let moved = inside-set stacks w stack (without_last stack id) j within is in
        let both : has (without_last stack id) j ≡ has stack j =
        elim (cases_Bool (id == j)) [
          | inl t ↦ (let here = same_key id j t in rw (← here) (still ∙ sym stands))
          | inr t ↦ has-without_last stack id j t
        ] in
        let moved' = rw both at moved in
        omega (arith, moved')

fewer : (spans stacks left : ℕ) (b c d : Bool) → spans ≡ stacks → left + one b ≡ stacks + one c → (d ≡ true → (b ≡ true) × (c ≡ false)) → (d ≡ false → b ≡ c) → spans - one d ≡ left
fewer spans stacks left b c true even moved here other = (let h = here refl in let moved' = rw (h.0, h.1) at moved in omega (arith, even, moved'))
fewer spans stacks left b c false even moved here other = (let h = other refl in let moved' = rw h at moved in omega (arith, even, moved'))

-- where it doesn't, the entry is released
pub world_left : (spans : Spans) (stacks : List (List ℕ)) (w id : ℕ) (stack : List ℕ) (node : Node) → w < length stacks → get_or stacks w [] ≡ stack → has stack id ≡ true → has (without_last stack id) id ≡ false → find spans id ≡ Some node
    → IsWorld (record { spans = spans; stacks = stacks }) → IsWorld (record { spans = spans_left spans id Entry; stacks = set stacks w (without_last stack id) })
world_left spans stacks w id stack node within is stands gone found whole =
    record {
      entered = λ j.
          entries-live (without_holder spans id Entry) j ∙ entries-taken spans id j node found
          ∙ fewer (held_in Entry (find spans j)) (workers_inside stacks j) _ (has stack j) (has (without_last stack id) j) (id == j) (whole.entered j)
          (inside-set stacks w stack (without_last stack id) j within is)
          (λ e. (ap (λ k. has stack k) (sym (same_key id j e)) ∙ stands, ap (λ k. has (without_last stack id) k) (sym (same_key id j e)) ∙ gone))
          (λ e. sym (has-without_last stack id j e));
    }
