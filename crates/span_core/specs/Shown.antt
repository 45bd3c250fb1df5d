-- A closing list that is shown to a function before it leaves the core.
use Rattle.std.specs.Prelude.{◌≡◌, ℕ, List}
use Rattle.std.specs.Fn.{Once}
use Rattle.std.specs.Borrow.{Bor, MutBor}

-- the function may be called with a state that is this, and with these ids
abbrev pub MayBeShown : {F S R : Type 0} → Once F (MutBor S × (Bor (List ℕ) × Unit {0})) R → F → S → List ℕ → Type 0
MayBeShown {F} {S} f see state ids =
    (lent : MutBor S) (list : Bor (List ℕ)) → lent.now ≡ state → list.now ≡ ids → f.pre see (lent, (list, tt))

-- it was called with the state that was this before, and with these ids, and left that state
pub record IsShown
    {F S R : Type 0} (f : Once F (MutBor S × (Bor (List ℕ) × Unit {0})) (R × (MutBor S × Unit {0})))
    (see : F) (before : S) (ids : List ℕ) (after : S)
    : Type 0 where
  pub lent : MutBor S
  pub list : Bor (List ℕ)
  pub answer : R
  pub left : MutBor S
  pub lent_is : lent.now ≡ before
  pub list_is : list.now ≡ ids
  pub called : f.post see (lent, (list, tt)) (answer, (left, tt))
  pub left_is : left.now ≡ after
