-- The words of slots of which the spans close.
use Rattle.std.proofs.Common.{◌≡◌, ◌≢◌, ℕ, zero, suc, ◌+◌, ◌<◌, List, [], ◌∷◌, ◌++◌, take, length, set, get_or, true, true≢false, refl, sym, ap, ◌∙◌, subst, arith, get_or-set_other, length-set}
use mathlib.Core.Logic.{dite}
use native.Mathlib.Decide.{ℕ_discrete}
use Rattle.std.proofs.lemmas.List.{take_more}
use Rattle.std.proofs.lemmas.Grind.{get_or_default_zero}
use Rattle.std.proofs.lemmas.Bool.Decides.{nat_tests}
use Rattle.span_id.specs.Id.{slot_of}
use Rattle.span_id.specs.Ids.{has}
use Rattle.span_seats.specs.declared.view.RootView.{RootView}
use Rattle.span_seats.specs.RootView.{stored, closed_words}

has_at : (ids : List ℕ) (k : ℕ) → k < length ids → has ids (get_or ids k 0) ≡ true
has_at [] k h = absurd (omega arith)
has_at (x ∷ xs) zero h = grind (arith, nat_tests)
has_at (x ∷ xs) (suc k) h = let r = has_at xs k (omega arith) in grind (arith, nat_tests)

-- the item of a loop over the ids is one of them
pub has_item : (ids : List ℕ) (k x : ℕ) → k < length ids → x ≡ get_or ids k x → has ids x ≡ true
has_item ids k x h is = subst (λ (y : ℕ). has ids y ≡ true) (sym (is ∙ get_or_default_zero ids k x h)) (has_at ids k h)

closed_snoc : (words ids : List ℕ) (id : ℕ) → closed_words words (ids ++ id ∷ []) ≡ set (closed_words words ids) (slot_of id) 0
closed_snoc words [] id = refl
closed_snoc words (x ∷ xs) id = closed_snoc (set words (slot_of x) 0) xs id

closed_more : (words ids : List ℕ) (k x : ℕ) → k < length ids → x ≡ get_or ids k x → closed_words words (take (k + 1) ids) ≡ set (closed_words words (take k ids)) (slot_of x) 0
closed_more words ids k x h is =
    let more : take (k + 1) ids ≡ take k ids ++ x ∷ [] = take_more ids k x h ∙ ap (λ v. take k ids ++ v ∷ []) (sym is) in
    ap (λ (xs : List ℕ). closed_words words xs) more ∙ closed_snoc words (take k ids) x

-- what the loop has done after the first k of the ids
abbrev pub Closed : RootView → List ℕ → ℕ → RootView → Type 0
Closed start ids k r = (r.handles ≡ start.handles) × (r.next_number ≡ start.next_number) × (r.words ≡ closed_words start.words (take k ids))

-- one round
pub closed_round : (start : RootView) (ids : List ℕ) (k x slot : ℕ) (r r₁ : RootView) → k < length ids → x ≡ get_or ids k x → slot ≡ slot_of x → Closed start ids k r → r₁ ≡ stored r slot 0 → Closed start ids (k + 1) r₁
closed_round start ids k x slot r r₁ h is at so_far e = (
  ap (λ (y : RootView). y.handles) e ∙ so_far.0,
  ap (λ (y : RootView). y.next_number) e ∙ so_far.1,
  ap (λ (y : RootView). y.words) e
      ∙ (ap (λ (s : ℕ). set r.words s 0) at
      ∙ (ap (λ (ws : List ℕ). set ws (slot_of x) 0) so_far.2 ∙ sym (closed_more start.words ids k x h is))),
)

pub length-closed : (words ids : List ℕ) → length (closed_words words ids) ≡ length words
length-closed words [] = refl
length-closed words (x ∷ xs) = length-closed (set words (slot_of x) 0) xs ∙ length-set words (slot_of x) 0

-- the word of a slot that none of these ids has
pub closed_else : (words ids : List ℕ) (s : ℕ) → ((id : ℕ) → has ids id ≡ true → slot_of id ≢ s) → get_or (closed_words words ids) s 0 ≡ get_or words s 0
closed_else words [] s none = refl
closed_else words (x ∷ xs) s none =
    let ne : s ≢ slot_of x = λ e. none x (grind (arith, nat_tests)) (sym e) in
    closed_else (set words (slot_of x) 0) xs s (λ id e. none id (grind arith)) ∙ rw get_or-set_other refl

set_zero : (words : List ℕ) (i : ℕ) → get_or (set words i 0) i 0 ≡ 0
set_zero [] i = refl
set_zero (x ∷ xs) zero = refl
set_zero (x ∷ xs) (suc i) = set_zero xs i

-- the word of a slot is 0 where it was, and where one of these ids has the slot
pub closed_zero : (words ids : List ℕ) (s : ℕ) → (((id : ℕ) → has ids id ≡ true → slot_of id ≢ s) → get_or words s 0 ≡ 0) → get_or (closed_words words ids) s 0 ≡ 0
closed_zero words [] s h = h (λ id e. absurd (true≢false (sym e)))
closed_zero words (x ∷ xs) s h = closed_zero (set words (slot_of x) 0) xs s (λ none. dite (ℕ_discrete (slot_of x) s)
    (λ e. subst (λ (i : ℕ). get_or (set words i 0) s 0 ≡ 0) (sym e) (set_zero words s))
    (λ ne. let far : s ≢ slot_of x = λ q. ne (sym q) in rw get_or-set_other (h (λ id e. one id e none ne))))
  where
    one : (id : ℕ) → has (x ∷ xs) id ≡ true → ((id : ℕ) → has xs id ≡ true → slot_of id ≢ s) → slot_of x ≢ s → slot_of id ≢ s
    one id e none ne q = dite (ℕ_discrete x id) (λ is. ne (ap slot_of is ∙ q)) (λ is. none id (grind (arith, nat_tests)) q)
