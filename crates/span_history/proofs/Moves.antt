-- Each kind of step keeps the rule.
use Rattle.std.proofs.Common.{◌≡◌, ◌≢◌, ℕ, zero, suc, ◌+◌, ◌<◌, ◌≤◌, List, [], ◌∷◌, ◌++◌, length, set, Bool, true, false, true≢false, refl, sym, ap, ◌∙◌, subst, inl, inr, ⊎_elim, ◌⊎◌, arith}
use mathlib.Core.List.{IsPrefix}
use mathlib.Core.Option.{some, none, some-ne-none, some-injective}
use lib.ListN.{get_elem?}
use Rattle.atomic_table.specs.Table.{State, Me, step, keeps, opening, Allows, Splits, Joins}
use Rattle.atomic_table.proofs.Lists.{at_set, set_else, set_again}
use Rattle.span_outlet.specs.Batch.{PlainBatch}
use Rattle.span_history.specs.Own.{own, GoesOn}
use Rattle.span_history.specs.declared.view.SeatView.{SeatView}
use Rattle.span_history.specs.inside.Rule.{idle_seat, busy_seat, front_seat, spent_seat, Fits, Holds, Lengthened, Looked}
use Rattle.span_history.proofs.Prefixes.{prefix_self, prefix_trans}

off : {b : Bool} → b ≡ false → b ≡ true → ⊥
off f t = true≢false (sym t ∙ f)

set_at : {A : Type 0} (l : List A) (i : ℕ) (a b : A) → get_elem? l i ≡ some a → get_elem? (set l i b) i ≡ some b
set_at [] i a b e = absurd (some-ne-none a (sym e))
set_at (x ∷ xs) zero a b e = refl
set_at (x ∷ xs) (suc i) a b e = set_at xs i a b e

set_swap : {A : Type 0} (l : List A) (j : ℕ) (a b : A) → (j ≢ 0) → set (set l 0 a) j b ≡ set (set l j b) 0 a
set_swap [] j a b ne = refl
set_swap (x ∷ xs) zero a b ne = absurd (ne refl)
set_swap (x ∷ xs) (suc j) a b ne = refl

snoc_at : {A : Type 0} (l : List A) (a b : A) (j : ℕ) → get_elem? (l ++ a ∷ []) j ≡ some b → (get_elem? l j ≡ some b) ⊎ ((j ≡ length l) × (a ≡ b))
snoc_at [] a b zero e = inr (refl, some-injective a b e)
snoc_at [] a b (suc j) e = absurd (some-ne-none b (sym e))
snoc_at (x ∷ xs) a b zero e = inl e
snoc_at (x ∷ xs) a b (suc j) e = ⊎_elim (λ h. inl h) (λ h. inr (ap suc h.0, h.1)) (snoc_at xs a b j e)

snoc_first : {A : Type 0} (l : List A) (a b : A) (j : ℕ) → get_elem? l j ≡ some b → get_elem? (l ++ a ∷ []) j ≡ some b
snoc_first [] a b j e = absurd (some-ne-none b (sym e))
snoc_first (x ∷ xs) a b zero e = e
snoc_first (x ∷ xs) a b (suc j) e = snoc_first xs a b j e

alone : (r : SeatView) (k : ℕ) (u : SeatView) → get_elem? (r ∷ []) k ≡ some u → r ≡ u
alone r zero u e = some-injective _ _ e
alone r (suc k) u e = absurd (some-ne-none u (sym e))

-- what the keeper's new view has to meet
record Follows (v w : SeatView) (views : List SeatView) : Type 0 where
  shown : IsPrefix w.shown w.log
  held : w.has ≡ true → own w.number w.shown ≡ own w.number w.log
  longer : IsPrefix v.log w.log
  others : (k : ℕ) (u : SeatView) → get_elem? views k ≡ some u → k ≢ 0 → u.has ≡ true → own u.number v.log ≡ own u.number w.log
  next : v.next ≤ w.next
  number : w.has ≡ true → w.number < w.next
  free : w.has ≡ true → (k : ℕ) (u : SeatView) → get_elem? views k ≡ some u → k ≢ 0 → u.has ≡ true → u.number ≢ w.number

-- the keeper's view changes
fits_set : (v w : SeatView) (views : List SeatView) → Fits v views → Follows v w views → Fits w (set views 0 w)
fits_set v w views f h = record {
  shown = h.shown;
  held = h.held;
  fronts = λ k u at. ⊎_elim
      (λ (x : (k ≡ 0) × (w ≡ u)). subst (λ (y : SeatView). IsPrefix y.log w.log) x.1 (prefix_self w.log))
      (λ (x : (k ≢ 0) × (get_elem? views k ≡ some u)). prefix_trans u.log v.log w.log (f.fronts k u x.1) h.longer)
      (at_set views 0 k w u at);
  owned = λ k u at has. ⊎_elim
      (λ (x : (k ≡ 0) × (w ≡ u)). subst (λ (y : SeatView). own y.number y.log ≡ own y.number w.log) x.1 refl)
      (λ (x : (k ≢ 0) × (get_elem? views k ≡ some u)). f.owned k u x.1 has ∙ h.others k u x.1 x.0 has)
      (at_set views 0 k w u at);
  below = λ k u at has. ⊎_elim
      (λ (x : (k ≡ 0) × (w ≡ u)). subst (λ (y : SeatView). y.number < w.next) x.1 (h.number (ap (λ (y : SeatView). y.has) x.1 ∙ has)))
      (λ (x : (k ≢ 0) × (get_elem? views k ≡ some u)). let b = f.below k u x.1 has in let n = h.next in omega arith)
      (at_set views 0 k w u at);
  apart = λ j k u x a b p q e. ⊎_elim
      (λ (c : (j ≡ 0) × (w ≡ u)). ⊎_elim
      (λ (d : (k ≡ 0) × (w ≡ x)). c.0 ∙ sym d.0)
      (λ (d : (k ≢ 0) × (get_elem? views k ≡ some x)). absurd (h.free (ap (λ (y : SeatView). y.has) c.1 ∙ p) k x d.1 d.0 q (sym e ∙ sym (ap (λ (y : SeatView). y.number) c.1))))
      (at_set views 0 k w x b))
      (λ (c : (j ≢ 0) × (get_elem? views j ≡ some u)). ⊎_elim
      (λ (d : (k ≡ 0) × (w ≡ x)). absurd (h.free (ap (λ (y : SeatView). y.has) d.1 ∙ q) j u c.1 c.0 p (e ∙ sym (ap (λ (y : SeatView). y.number) d.1))))
      (λ (d : (k ≢ 0) × (get_elem? views k ≡ some x)). f.apart j k u x c.1 d.1 p q e)
      (at_set views 0 k w x b))
      (at_set views 0 j w u a);
}

-- a view more
record MayJoin (g w : SeatView) (views : List SeatView) : Type 0 where
  front : IsPrefix g.log w.log
  owns : g.has ≡ true → own g.number g.log ≡ own g.number w.log
  below : g.has ≡ true → g.number < w.next
  free : g.has ≡ true → (k : ℕ) (u : SeatView) → get_elem? views k ≡ some u → u.has ≡ true → u.number ≢ g.number

fits_add : (g w : SeatView) (views : List SeatView) → Fits w views → MayJoin g w views → Fits w (views ++ g ∷ [])
fits_add g w views f h = record {
  shown = f.shown;
  held = f.held;
  fronts = λ k u at. ⊎_elim
      (λ (x : get_elem? views k ≡ some u). f.fronts k u x)
      (λ (x : (k ≡ length views) × (g ≡ u)). subst (λ (y : SeatView). IsPrefix y.log w.log) x.1 h.front)
      (snoc_at views g u k at);
  owned = λ k u at has. ⊎_elim
      (λ (x : get_elem? views k ≡ some u). f.owned k u x has)
      (λ (x : (k ≡ length views) × (g ≡ u)). subst (λ (y : SeatView). own y.number y.log ≡ own y.number w.log) x.1 (h.owns (ap (λ (y : SeatView). y.has) x.1 ∙ has)))
      (snoc_at views g u k at);
  below = λ k u at has. ⊎_elim
      (λ (x : get_elem? views k ≡ some u). f.below k u x has)
      (λ (x : (k ≡ length views) × (g ≡ u)). subst (λ (y : SeatView). y.number < w.next) x.1 (h.below (ap (λ (y : SeatView). y.has) x.1 ∙ has)))
      (snoc_at views g u k at);
  apart = λ j k u x a b p q e. ⊎_elim
      (λ (c : get_elem? views j ≡ some u). ⊎_elim
      (λ (d : get_elem? views k ≡ some x). f.apart j k u x c d p q e)
      (λ (d : (k ≡ length views) × (g ≡ x)). absurd (h.free (ap (λ (y : SeatView). y.has) d.1 ∙ q) j u c p (e ∙ sym (ap (λ (y : SeatView). y.number) d.1))))
      (snoc_at views g x k b))
      (λ (c : (j ≡ length views) × (g ≡ u)). ⊎_elim
      (λ (d : get_elem? views k ≡ some x). absurd (h.free (ap (λ (y : SeatView). y.has) c.1 ∙ p) k x d q (sym e ∙ sym (ap (λ (y : SeatView). y.number) c.1))))
      (λ (d : (k ≡ length views) × (g ≡ x)). c.0 ∙ sym d.0)
      (snoc_at views g x k b))
      (snoc_at views g u j a);
}

-- a view is spent
spent_was : (views : List SeatView) (i k : ℕ) (u : SeatView) → get_elem? (set views i spent_seat) k ≡ some u → u.has ≡ true → (k ≢ i) × (get_elem? views k ≡ some u)
spent_was views i k u at has = ⊎_elim
    (λ (x : (k ≡ i) × (spent_seat ≡ u)). absurd (off refl (ap (λ (y : SeatView). y.has) x.1 ∙ has)))
    (λ (x : (k ≢ i) × (get_elem? views k ≡ some u)). x)
    (at_set views i k spent_seat u at)

fits_spend : (w : SeatView) (views : List SeatView) (i : ℕ) → Fits w views → Fits w (set views i spent_seat)
fits_spend w views i f = record {
  shown = f.shown;
  held = f.held;
  fronts = λ k u at. ⊎_elim
      (λ (x : (k ≡ i) × (spent_seat ≡ u)). subst (λ (y : SeatView). IsPrefix y.log w.log) x.1 (w.log, refl))
      (λ (x : (k ≢ i) × (get_elem? views k ≡ some u)). f.fronts k u x.1)
      (at_set views i k spent_seat u at);
  owned = λ k u at has. f.owned k u (spent_was views i k u at has).1 has;
  below = λ k u at has. f.below k u (spent_was views i k u at has).1 has;
  apart = λ j k u x a b p q e. f.apart j k u x (spent_was views i j u a p).1 (spent_was views i k x b q).1 p q e;
}

-- the keeper's number is none of another seat's
none_else : (v : SeatView) (views : List SeatView) → Fits v views → get_elem? views 0 ≡ some v → v.has ≡ true → (k : ℕ) (u : SeatView) → get_elem? views k ≡ some u → k ≢ 0 → u.has ≡ true → u.number ≢ v.number
none_else v views f at has k u there ne p e = ne (f.apart k 0 u v there at p has e)

module _ {S : Type 0} where
  at_keeper : (s : State S SeatView) (v : SeatView) → Holds s → get_elem? s.views 0 ≡ some v → Fits v s.views
  at_keeper s v h at = subst (λ (x : SeatView). Fits x s.views) (some-injective _ _ (sym h.first ∙ at)) h.fits

  pub begins : (words : List ℕ) → Holds {S = S} (opening words [] spent_seat)
  begins words = record {
    keeper = spent_seat;
    first = refl;
    fits = record {
      shown = prefix_self [];
      held = λ has. absurd (off refl has);
      fronts = λ k u at. subst (λ (x : SeatView). IsPrefix x.log []) (alone spent_seat k u at) (prefix_self []);
      owned = λ k u at has. absurd (off (ap (λ (x : SeatView). x.has) (sym (alone spent_seat k u at))) has);
      below = λ k u at has. absurd (off (ap (λ (x : SeatView). x.has) (sym (alone spent_seat k u at))) has);
      apart = λ j k u x a b p q e. absurd (off (ap (λ (y : SeatView). y.has) (sym (alone spent_seat j u a))) p);
    };
  }

  lengthens : (n : ℕ) (me : Me S SeatView) (log : List PlainBatch) (slot : ℕ) → me.0.has ≡ true → GoesOn me.0.number me.0.log log → Allows (Holds {S = S}) n 0 me slot (λ x. x) (Lengthened log (step n slot 0 0 none) me)
  lengthens n me log slot has goes s h homes at fits =
      let v = me.0 in
      let f = at_keeper s v h at in
      let w = busy_seat log log v.number v.next in (
        w,
        keeps,
        tt,
        record {
          keeper = w;
          first = set_at s.views 0 v w at;
          fits = fits_set v w s.views f (record {
            shown = prefix_self log;
            held = λ _. refl;
            longer = goes.longer;
            others = λ k u there ne p. sym (goes.others u.number (none_else v s.views f at has k u there ne p));
            next = omega arith;
            number = λ _. f.below 0 v at has;
            free = λ _. none_else v s.views f at has;
          });
        },
        refl,
      )

  looks : (n : ℕ) (me : Me S SeatView) (slot : ℕ) → Allows (Holds {S = S}) n 0 me slot (λ x. x) (Looked (step n slot 0 0 none) me)
  looks n me slot s h homes at fits =
      let v = me.0 in
      let f = at_keeper s v h at in (
        v,
        keeps,
        tt,
        record {
          keeper = v;
          first = set_at s.views 0 v v at;
          fits = subst (λ (vs : List SeatView). Fits v vs) (sym (set_again s.views 0 v at)) f;
        },
        (refl, f.shown, f.held),
      )

  spares : (v : SeatView) → Splits (Holds {S = S}) 0 v v spent_seat
  spares v s h at =
      let f = subst (λ (vs : List SeatView). Fits v vs) (sym (set_again s.views 0 v at)) (at_keeper s v h at) in
      let vs = set s.views 0 v in record {
        keeper = v;
        first = snoc_first vs spent_seat v 0 (set_at s.views 0 v v at);
        fits = fits_add spent_seat v vs f (record {
          front = (v.log, refl);
          owns = λ has. absurd (off refl has);
          below = λ has. absurd (off refl has);
          free = λ has. absurd (off refl has);
        });
      }

  enrolls : (v : SeatView) → v.has ≡ false → Splits (Holds {S = S}) 0 v (idle_seat v.log v.shown (v.next + 1)) (front_seat v.next v.log)
  enrolls v idle s h at =
      let f = at_keeper s v h at in
      let w = idle_seat v.log v.shown (v.next + 1) in
      let g = front_seat v.next v.log in
      let vs = set s.views 0 w in
      let r = fits_set v w s.views f (record {
        shown = f.shown;
        held = λ has. absurd (off refl has);
        longer = prefix_self v.log;
        others = λ k u there ne p. refl;
        next = omega arith;
        number = λ has. absurd (off refl has);
        free = λ has. absurd (off refl has);
      }) in record {
        keeper = w;
        first = snoc_first vs g w 0 (set_at s.views 0 v w at);
        fits = fits_add g w vs r (record {
          front = prefix_self v.log;
          owns = λ _. refl;
          below = λ _. omega arith;
          free = λ _ k u there p e. ⊎_elim
              (λ (x : (k ≡ 0) × (w ≡ u)). off refl (ap (λ (y : SeatView). y.has) x.1 ∙ p))
              (λ (x : (k ≢ 0) × (get_elem? s.views k ≡ some u)). let b = f.below k u x.1 p in omega arith)
              (at_set s.views 0 k w u there);
        });
      }

  gives : (v : SeatView) → v.has ≡ true → Splits (Holds {S = S}) 0 v (idle_seat v.log v.shown v.next) (front_seat v.number v.log)
  gives v has s h at =
      let f = at_keeper s v h at in
      let w = idle_seat v.log v.shown v.next in
      let g = front_seat v.number v.log in
      let vs = set s.views 0 w in
      let r = fits_set v w s.views f (record {
        shown = f.shown;
        held = λ has. absurd (off refl has);
        longer = prefix_self v.log;
        others = λ k u there ne p. refl;
        next = omega arith;
        number = λ has. absurd (off refl has);
        free = λ has. absurd (off refl has);
      }) in record {
        keeper = w;
        first = snoc_first vs g w 0 (set_at s.views 0 v w at);
        fits = fits_add g w vs r (record {
          front = prefix_self v.log;
          owns = λ _. refl;
          below = λ _. f.below 0 v at has;
          free = λ _ k u there p e. ⊎_elim
              (λ (x : (k ≡ 0) × (w ≡ u)). off refl (ap (λ (y : SeatView). y.has) x.1 ∙ p))
              (λ (x : (k ≢ 0) × (get_elem? s.views k ≡ some u)). none_else v s.views f at has k u x.1 x.0 p e)
              (at_set s.views 0 k w u there);
        });
      }

  joins : (v : SeatView) (other : ℕ) (w : SeatView) → w.has ≡ true → Joins (Holds {S = S}) 0 v other w (busy_seat v.log w.log w.number v.next) spent_seat
  joins v other w has s h at apart there =
      let f = at_keeper s v h at in
      let b = busy_seat v.log w.log w.number v.next in
      let mine : get_elem? s.views other ≡ some w = ⊎_elim
      (λ (x : (other ≡ 0) × (b ≡ w)). absurd (apart x.0))
      (λ (x : (other ≢ 0) × (get_elem? s.views other ≡ some w)). x.1)
      (at_set s.views 0 other b w there) in
      let vs = set s.views other spent_seat in
      let r = fits_set v b vs (fits_spend v s.views other f) (record {
        shown = f.fronts other w mine;
        held = λ _. f.owned other w mine has;
        longer = prefix_self v.log;
        others = λ k u a ne p. refl;
        next = omega arith;
        number = λ _. f.below other w mine has;
        free = λ _ k u a ne p e. (let x = spent_was s.views other k u a p in x.0 (f.apart k other u w x.1 mine p has e));
      }) in
      let swap = set_swap s.views other b spent_seat apart in record {
        keeper = b;
        first = set_else (set s.views 0 b) other 0 spent_seat (λ e. apart (sym e)) ∙ set_at s.views 0 v b at;
        fits = subst (λ (l : List SeatView). Fits b l) (sym swap) r;
      }

  -- the same, at the place that the keeper's seat is known to have
  pub lengthens_at : (n id : ℕ) (me : Me S SeatView) (log : List PlainBatch) (slot : ℕ) → id ≡ 0 → me.0.has ≡ true → GoesOn me.0.number me.0.log log → Allows (Holds {S = S}) n id me slot (λ x. x) (Lengthened log (step n slot 0 0 none) me)
  lengthens_at n id me log slot is has goes = subst (λ (k : ℕ). Allows (Holds {S = S}) n k me slot (λ x. x) (Lengthened log (step n slot 0 0 none) me)) (sym is) (lengthens n me log slot has goes)

  pub looks_at : (n id : ℕ) (me : Me S SeatView) (slot : ℕ) → id ≡ 0 → Allows (Holds {S = S}) n id me slot (λ x. x) (Looked (step n slot 0 0 none) me)
  looks_at n id me slot is = subst (λ (k : ℕ). Allows (Holds {S = S}) n k me slot (λ x. x) (Looked (step n slot 0 0 none) me)) (sym is) (looks n me slot)

  pub spares_at : (id : ℕ) (v : SeatView) → id ≡ 0 → Splits (Holds {S = S}) id v v spent_seat
  spares_at id v is = subst (λ (k : ℕ). Splits (Holds {S = S}) k v v spent_seat) (sym is) (spares v)

  pub enrolls_at : (id : ℕ) (v : SeatView) → id ≡ 0 → v.has ≡ false → Splits (Holds {S = S}) id v (idle_seat v.log v.shown (v.next + 1)) (front_seat v.next v.log)
  enrolls_at id v is idle = subst (λ (k : ℕ). Splits (Holds {S = S}) k v (idle_seat v.log v.shown (v.next + 1)) (front_seat v.next v.log)) (sym is) (enrolls v idle)

  pub gives_at : (id : ℕ) (v : SeatView) → id ≡ 0 → v.has ≡ true → Splits (Holds {S = S}) id v (idle_seat v.log v.shown v.next) (front_seat v.number v.log)
  gives_at id v is has = subst (λ (k : ℕ). Splits (Holds {S = S}) k v (idle_seat v.log v.shown v.next) (front_seat v.number v.log)) (sym is) (gives v has)

  pub joins_at : (id : ℕ) (v : SeatView) (other : ℕ) (w : SeatView) → id ≡ 0 → w.has ≡ true → Joins (Holds {S = S}) id v other w (busy_seat v.log w.log w.number v.next) spent_seat
  joins_at id v other w is has = subst (λ (k : ℕ). Joins (Holds {S = S}) k v other w (busy_seat v.log w.log w.number v.next) spent_seat) (sym is) (joins v other w has)
