-- What is left of a forest once nothing holds some of its spans is determined.
use Rattle.std.proofs.Common.{◌≡◌, ℕ, zero, suc, ◌+◌, ◌≤◌, Option, Some, None, refl, sym, ap, subst, ◌∙◌, inl, inr, arith}
use Rattle.std.specs.Prelude.{◌↔◌, ◌⊎◌, IsSome}
use Rattle.std.proofs.lemmas.Bool.{cases_Bool}
use Rattle.span_forest.specs.declared.span.Holder.{Holder}
use Rattle.span_forest.specs.declared.span.Holder.TheVariants.{Handle, Entry}
use Rattle.span_forest.specs.Node.{Node}
use Rattle.span_forest.specs.Spans.{Spans, find, IsOpen, parent_in, parent_of}
use Rattle.span_forest.specs.Forest.{IsForest}
use Rattle.span_forest.specs.Holders.{with_less}
use Rattle.span_forest.specs.Release.{without_holder}
use Rattle.span_forest.proofs.Ranks.{IsRanked, ranked}
use Rattle.span_forest.proofs.Nodes.{with_less-parent, IsForest-changed, IsOpen-changed}
use Rattle.span_forest.proofs.Finds.{child_open}
use Rattle.span_forest.proofs.Spared.{none_open, not_some}
use Rattle.span_outlet.specs.Request.{Request, new_span, clone_span, enter, exit, try_close, record_fields, event}
use Rattle.span_core.specs.World.{World}
use Rattle.span_core.specs.Step.{stays_inside}
use Rattle.span_core.specs.Core.{CoreView}
use Rattle.span_core.specs.ClosedSpans.{spans_before_closing}
use Rattle.span_core.specs.GivenBack.{NothingHolds, ClosesWhatNothingHolds}

-- what is left of these spans: gone are exactly those that nothing holds, and the others stay
record IsLeft (given_back left : Spans) : Type 0 where
  pub gone : (id : ℕ) → IsOpen given_back id → ((find left id ≡ None) ↔ NothingHolds given_back left id)
  pub others : (id : ℕ) → IsOpen left id → find left id ≡ find given_back id

none_or : (o : Option Node) → (o ≡ None) ⊎ IsSome o
none_or None = inl refl
none_or (Some node) = inr refl

-- from the leaves up: a span that is gone from the one is gone from the other
gone_too : (spans one other : Spans) (w : IsRanked spans) → IsLeft spans one → IsLeft spans other → (n id : ℕ) → IsOpen spans id → w.top ≤ w.rank id + n → find one id ≡ None → find other id ≡ None
gone_too spans one other w a b zero id o low none = absurd (let k = w.bounded id o in omega (arith, k, low))
gone_too spans one other w a b (suc n) id o low none =
    let nothing = (a.gone id o).0 none in
    (b.gone id o).1 (record {
      no_holder = nothing.no_holder;
      no_child = λ child e.
          (let there = child_open other child id e in
          let e' : parent_of spans child ≡ Some id = sym (ap parent_in (b.others child there)) ∙ e in
          let lower = w.falls child id e' in
          elim (none_or (find one child)) [
            | inl t ↦ none_open (find other child) (gone_too spans one other w a b n child (child_open spans child id e') (omega (arith, lower, low)) t) there
            | inr t ↦ nothing.no_child child (ap parent_in (a.others child t) ∙ e')
          ]);
    })

one_left : (spans one other : Spans) → IsRanked spans → IsLeft spans one → IsLeft spans other → (id : ℕ) → find one id ≡ find other id
one_left spans one other w a b id =
    elim (none_or (find one id)) [
      | inl t ↦ t ∙ sym (not_some (find other id) (λ o. none_open (find other id) (gone_too spans one other w a b w.top id (subst IsSome (b.others id o) o) (omega arith) t) o))
      | inr t ↦ elim (none_or (find other id)) [
        | inl u ↦ absurd (none_open (find one id) (gone_too spans other one w b a w.top id (subst IsSome (a.others id t) t) (omega arith) u) t)
        | inr u ↦ a.others id t ∙ sym (b.others id u)
      ]
    ]

-- a holder is taken out, or none
by_holder : (P : Spans → Type 0) (old : World) (request : Request) → P old.spans → ((id : ℕ) (holder : Holder) → P (without_holder old.spans id holder)) → P (spans_before_closing old request)
by_holder P old (exit worker id) same less =
    elim (cases_Bool (stays_inside old worker id)) [ inl t ↦ rw t same | inr t ↦ rw t (less id Entry) ]
by_holder P old (try_close worker id) same less = less id Handle
by_holder P old (new_span worker meta fields parent) same less = same
by_holder P old (clone_span worker id) same less = same
by_holder P old (enter worker id) same less = same
by_holder P old (record_fields worker id fields) same less = same
by_holder P old (event worker meta message fields parent) same less = same

pub one_release : (old : CoreView) → IsForest old.world.spans → (request : Request) (new other : CoreView) → ClosesWhatNothingHolds old request new → ClosesWhatNothingHolds old request other
    → (id : ℕ) → find new.world.spans id ≡ find other.world.spans id
one_release old forest request new other a b =
    let left = spans_before_closing old.world request in
    let still = by_holder IsForest old.world request forest (λ id holder. IsForest-changed (with_less holder) (with_less-parent holder) old.world.spans id forest) in
    let were = by_holder (λ spans. (id : ℕ) → IsOpen spans id → IsOpen old.world.spans id) old.world request (λ id o. o) (λ at holder id o. IsOpen-changed (with_less holder) old.world.spans at id o) in
    one_left left new.world.spans other.world.spans (ranked left still)
    (record { gone = λ id o. a.gone id (were id o); others = a.others })
    (record { gone = λ id o. b.gone id (were id o); others = b.others })
