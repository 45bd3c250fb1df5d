-- Each kind of step keeps the rule.
use Rattle.std.proofs.Common.{◌≡◌, ◌≢◌, ◌⊎◌, ℕ, zero, suc, ◌<◌, List, [], ◌∷◌, ◌++◌, length, set, get_or, replicate, Bool, true, false, ◌&&◌, refl, sym, ap, ◌∙◌, subst, inl, inr, ⊎_elim, arith}
use mathlib.Core.Option.{some, none, some-ne-none, some-injective}
use lib.ListN.{get_elem?}
use Rattle.atomic_table.specs.Table.{State, Me, step, keeps, opening, Allows, Splits, Joins}
use Rattle.atomic_table.proofs.Lists.{at_set, set_else, set_again}
use Rattle.span_seats.specs.declared.view.SeatView.{SeatView}
use Rattle.span_seats.specs.RootView.{has_number, IsOpenIn, HasNoHandle, stored}
use Rattle.span_seats.specs.inside.SeatView.{root_seat, joined_seat, first_view, root_after_split, handle_of_split, root_after_join}
use Rattle.span_seats.specs.inside.SeatRule.{FitsSeats, Holds, Stored, Looked}
use Rattle.span_seats.proofs.Numbers.{has_other}
use Rattle.span_seats.proofs.WellFormed.{off, empty_well_formed, stored_well_formed, with_well_formed, without_well_formed, first_has, later_has}

both_true : (a b : Bool) → a ≡ true → b ≡ true → (a && b) ≡ true
both_true a b p q = grind arith

set_at : {A : Type 0} (l : List A) (i : ℕ) (a b : A) → get_elem? l i ≡ some a → get_elem? (set l i b) i ≡ some b
set_at [] i a b e = absurd (some-ne-none a (sym e))
set_at (x ∷ xs) zero a b e = refl
set_at (x ∷ xs) (suc i) a b e = set_at xs i a b e

set_same : (l : List ℕ) (i : ℕ) → set l i (get_or l i 0) ≡ l
set_same [] i = refl
set_same (x ∷ xs) zero = refl
set_same (x ∷ xs) (suc i) = ap (λ ys. x ∷ ys) (set_same xs i)

snoc_at : {A : Type 0} (l : List A) (a b : A) (j : ℕ) → get_elem? (l ++ a ∷ []) j ≡ some b → (get_elem? l j ≡ some b) ⊎ ((j ≡ length l) × (a ≡ b))
snoc_at [] a b zero e = inr (refl, some-injective a b e)
snoc_at [] a b (suc j) e = absurd (some-ne-none b (sym e))
snoc_at (x ∷ xs) a b zero e = inl e
snoc_at (x ∷ xs) a b (suc j) e = ⊎_elim (λ h. inl h) (λ h. inr (ap suc h.0, h.1)) (snoc_at xs a b j e)

snoc_first : {A : Type 0} (l : List A) (a b : A) (j : ℕ) → get_elem? l j ≡ some b → get_elem? (l ++ a ∷ []) j ≡ some b
snoc_first [] a b j e = absurd (some-ne-none b (sym e))
snoc_first (x ∷ xs) a b zero e = e
snoc_first (x ∷ xs) a b (suc j) e = snoc_first xs a b j e

-- a handle's view that stands there after another view was written, stood there before
was : (views : List SeatView) (i : ℕ) (r : SeatView) → r.is_handle ≡ false → (k : ℕ) (u : SeatView) → get_elem? (set views i r) k ≡ some u → u.is_handle ≡ true → (k ≢ i) × (get_elem? views k ≡ some u)
was views i r none_here k u at is = ⊎_elim (λ (x : (k ≡ i) × (r ≡ u)). absurd (off none_here (ap (λ (y : SeatView). y.is_handle) x.1 ∙ is))) (λ (x : (k ≢ i) × (get_elem? views k ≡ some u)). x) (at_set views i k r u at)

alone : (r : SeatView) (k : ℕ) (u : SeatView) → get_elem? (r ∷ []) k ≡ some u → r ≡ u
alone r zero u e = some-injective _ _ e
alone r (suc k) u e = absurd (some-ne-none u (sym e))

-- a handle's view that stands there after a handle's seat was joined to the root's stood there before, and is another's
before : (views : List SeatView) (b : SeatView) (other : ℕ) → b.is_handle ≡ false → (k : ℕ) (u : SeatView) → get_elem? (set (set views 0 b) other joined_seat) k ≡ some u → u.is_handle ≡ true
    → (k ≢ other) × (get_elem? views k ≡ some u)
before views b other none_here k u a p = let x = was (set views 0 b) other joined_seat refl k u a p in (x.0, (was views 0 b none_here k u x.1 p).1)

module _ {S : Type 0} where
  -- the rule, at the view that the root is known to have
  at_root : (s : State S SeatView) (v : SeatView) → Holds s → get_elem? s.views 0 ≡ some v → (s.words ≡ v.root.words) × FitsSeats v s.views
  at_root s v h at = let e : h.root ≡ v = some-injective _ _ (sym h.first ∙ at) in subst (λ (r : SeatView). (s.words ≡ r.root.words) × FitsSeats r s.views) e (h.words, h.fits)

  -- the table is made
  pub begins : (slots : ℕ) → Holds {S = S} (opening (replicate slots 0) [] (first_view slots))
  begins slots = record {
    root = first_view slots;
    first = refl;
    words = refl;
    fits = record {
      all_found = refl;
      is_root = refl;
      well_formed = empty_well_formed slots;
      in_set = λ k u at is. absurd (off (ap (λ (v : SeatView). v.is_handle) (sym (alone _ k u at))) is);
      apart = λ j k u w a b x y e. absurd (off (ap (λ (v : SeatView). v.is_handle) (sym (alone _ j u a))) x);
    };
  }

  -- a word is stored
  stores : (n : ℕ) (me : Me S SeatView) (slot word : ℕ) → HasNoHandle me.0.root.handles slot → Allows (Holds {S = S}) n 0 me slot (λ _. word) (λ _. Stored (step n slot word 0 none) me word)
  stores n me slot word free s h homes at fits =
      let v = me.0 in
      let r = at_root s v h at in
      let w = root_seat (stored v.root slot word) v.all_found in (
        w,
        keeps,
        tt,
        record {
          root = w;
          first = set_at s.views 0 v w at;
          words = ap (λ ws. set ws slot word) r.0;
          fits = record {
            all_found = r.1.all_found;
            is_root = refl;
            well_formed = stored_well_formed v.root slot word free r.1.well_formed;
            in_set = λ k u a is. r.1.in_set k u (was s.views 0 w refl k u a is).1 is;
            apart = λ j k u x a b p q e. r.1.apart j k u x (was s.views 0 w refl j u a p).1 (was s.views 0 w refl k x b q).1 p q e;
          };
        },
        refl,
      )

  -- a look
  looks : (n : ℕ) (me : Me S SeatView) (slot : ℕ) → Allows (Holds {S = S}) n 0 me slot (λ x. x) (Looked (step n slot 0 0 none) me)
  looks n me slot s h homes at fits =
      let v = me.0 in
      let r = at_root s v h at in
      let same = set_again s.views 0 v at in (
        v,
        keeps,
        tt,
        record {
          root = v;
          first = set_at s.views 0 v v at;
          words = set_same s.words slot ∙ r.0;
          fits = subst (λ (vs : List SeatView). FitsSeats v vs) (sym same) r.1;
        },
        (refl, r.1.all_found),
      )

  -- a handle's seat is split off
  splits : (v : SeatView) → IsOpenIn v.root.words v.root.split_id → Splits (Holds {S = S}) 0 v (root_after_split v) (handle_of_split v)
  splits v opens s h at =
      let r = at_root s v h at in
      let w = root_after_split v in
      let g = handle_of_split v in
      let vs = set s.views 0 w in
      let lower : (k : ℕ) (u : SeatView) → get_elem? s.views k ≡ some u → u.is_handle ≡ true → u.handle.number < v.root.next_number = λ k u a is. r.1.well_formed.below u.handle.id u.handle.number (r.1.in_set k u a is) in record {
        root = w;
        first = snoc_first vs g w 0 (set_at s.views 0 v w at);
        words = r.0;
        fits = record {
          all_found = r.1.all_found;
          is_root = refl;
          well_formed = with_well_formed v.root opens r.1.well_formed;
          in_set = λ k u a is. ⊎_elim
              (λ (b : get_elem? vs k ≡ some u). later_has u.handle.id u.handle.number g.handle v.root.handles (r.1.in_set k u (was s.views 0 w refl k u b is).1 is))
              (λ (b : (k ≡ length vs) × (g ≡ u)). subst (λ (x : SeatView). has_number x.handle.id x.handle.number w.root.handles ≡ true) b.1 (first_has v.root.split_id v.root.next_number v.root.handles))
              (snoc_at vs g u k a);
          apart = λ j k u x a b p q e. ⊎_elim
              (λ (c : get_elem? vs j ≡ some u). let j' = (was s.views 0 w refl j u c p).1 in ⊎_elim
              (λ (d : get_elem? vs k ≡ some x). r.1.apart j k u x j' (was s.views 0 w refl k x d q).1 p q e)
              (λ (d : (k ≡ length vs) × (g ≡ x)). let lt = lower j u j' p in let is = ap (λ (y : SeatView). y.handle.number) d.1 in absurd (omega arith))
              (snoc_at vs g x k b))
              (λ (c : (j ≡ length vs) × (g ≡ u)). let is = ap (λ (y : SeatView). y.handle.number) c.1 in ⊎_elim
              (λ (d : get_elem? vs k ≡ some x). let lt = lower k x (was s.views 0 w refl k x d q).1 q in absurd (omega arith))
              (λ (d : (k ≡ length vs) × (g ≡ x)). c.0 ∙ sym d.0)
              (snoc_at vs g x k b))
              (snoc_at vs g u j a);
        };
      }

  -- a handle's seat is joined
  joins : (v : SeatView) (other : ℕ) (w : SeatView) → w.is_handle ≡ true → Joins (Holds {S = S}) 0 v other w (root_after_join v w) joined_seat
  joins v other w is s h at apart there =
      let r = at_root s v h at in
      let b = root_after_join v w in
      let vs = set s.views 0 b in
      let mine = (was s.views 0 b refl other w there is).1 in
      let found : has_number w.handle.id w.handle.number v.root.handles ≡ true = r.1.in_set other w mine is in
      let back = before s.views b other refl in record {
        root = b;
        first = set_else vs other 0 joined_seat (λ e. apart (sym e)) ∙ set_at s.views 0 v b at;
        words = r.0;
        fits = record {
          all_found = both_true v.all_found (has_number w.handle.id w.handle.number v.root.handles) r.1.all_found found;
          is_root = refl;
          well_formed = without_well_formed v.root w.handle.id w.handle.number r.1.well_formed;
          in_set = λ k u a p. let x = back k u a p in has_other u.handle.id u.handle.number w.handle.id w.handle.number v.root.handles (r.1.in_set k u x.1 p) (λ e. x.0 (r.1.apart k other u w x.1 mine p is e));
          apart = λ j k u x a c p q e. r.1.apart j k u x (back j u a p).1 (back k x c q).1 p q e;
        };
      }

  -- the same, at the place that the root's seat is known to have
  pub stores_at : (n id : ℕ) (me : Me S SeatView) (slot word : ℕ) → id ≡ 0 → HasNoHandle me.0.root.handles slot → Allows (Holds {S = S}) n id me slot (λ _. word) (λ _. Stored (step n slot word 0 none) me word)
  stores_at n id me slot word is free = subst (λ (k : ℕ). Allows (Holds {S = S}) n k me slot (λ _. word) (λ _. Stored (step n slot word 0 none) me word)) (sym is) (stores n me slot word free)

  pub looks_at : (n id : ℕ) (me : Me S SeatView) (slot : ℕ) → id ≡ 0 → Allows (Holds {S = S}) n id me slot (λ x. x) (Looked (step n slot 0 0 none) me)
  looks_at n id me slot is = subst (λ (k : ℕ). Allows (Holds {S = S}) n k me slot (λ x. x) (Looked (step n slot 0 0 none) me)) (sym is) (looks n me slot)

  pub splits_at : (id : ℕ) (v : SeatView) → id ≡ 0 → IsOpenIn v.root.words v.root.split_id → Splits (Holds {S = S}) id v (root_after_split v) (handle_of_split v)
  splits_at id v is opens = subst (λ (k : ℕ). Splits (Holds {S = S}) k v (root_after_split v) (handle_of_split v)) (sym is) (splits v opens)

  pub joins_at : (id : ℕ) (v : SeatView) (other : ℕ) (w : SeatView) → id ≡ 0 → w.is_handle ≡ true → Joins (Holds {S = S}) id v other w (root_after_join v w) joined_seat
  joins_at id v other w is joined = subst (λ (k : ℕ). Joins (Holds {S = S}) k v other w (root_after_join v w) joined_seat) (sym is) (joins v other w joined)
