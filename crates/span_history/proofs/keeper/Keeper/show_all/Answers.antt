use Rattle.std.proofs.Common.{◌≡◌, ◌++◌, ◌∷◌, List, [], Option, All, sym, ap, ◌∙◌, subst, append_assoc}
use Rattle.std.specs.Prelude.{IfSome}
use Rattle.std.proofs.lemmas.List.{append-nil}
use Rattle.span_history.specs.Own.{FrontView, KeeperView, IsFront}
use Rattle.span_history.specs.inside.Places.{fronts_at}
use Rattle.span_history.proofs.Shown.{one_more_shown}
use Rattle.span_history.proofs.keeper.Keeper.show_all.Goals as goal

pub loop-place-preserved-in-Some-place-2 : goal.loop-place-preserved-in-Some-place-2
loop-place-preserved-in-Some-place-2 g c =
    let before = c.loop-place.invariant in
    let P = λ (front : FrontView). IsFront front c.args.self.now.history in
    let shown : P c.in-Some-place-2.front = subst (λ (k : KeeperView). IsFront c.in-Some-place-2.front k.history) before.0 c.show.ensures.front in (
      c.show.ensures.same ∙ before.0,
      one_more_shown P c.loop-place.yielded c.in-Some-place.place before.1 (subst (λ (place : Option FrontView). IfSome place P) (sym c.in-Some-place-2.is) shown),
      ap fronts_at (append_assoc c.loop-place.yielded (c.in-Some-place.place ∷ []) c.next.new.self ∙ ap (λ w. c.loop-place.yielded ++ w) (sym c.in-Some-place.ensures.steps)) ∙ before.2,
    )

pub loop-place-preserved : goal.loop-place-preserved
loop-place-preserved g c =
    let before = c.loop-place.invariant in
    let P = λ (front : FrontView). IsFront front c.args.self.now.history in (
      before.0,
      one_more_shown P c.loop-place.yielded c.in-Some-place.place before.1 (subst (λ (place : Option FrontView). IfSome place P) (sym c.in-None-place.is) tt),
      ap fronts_at (append_assoc c.loop-place.yielded (c.in-Some-place.place ∷ []) c.next.new.self ∙ ap (λ w. c.loop-place.yielded ++ w) (sym c.in-Some-place.ensures.steps)) ∙ before.2,
    )

pub returns-clause-fronts : goal.returns-clause-fronts
returns-clause-fronts g c =
    let before = c.loop-place.invariant in
    let all : fronts_at c.loop-place.yielded ≡ c.args.fronts = ap fronts_at (sym (append-nil c.loop-place.yielded) ∙ ap (λ w. c.loop-place.yielded ++ w) (sym c.in-None.ensures.steps.0)) ∙ before.2 in
    subst (λ (list : List FrontView). All (λ front. IsFront front c.args.self.now.history) list) all before.1
