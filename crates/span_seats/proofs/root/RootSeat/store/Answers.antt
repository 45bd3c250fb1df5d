use Rattle.std.proofs.Common.{ℕ, ◌<◌, length, sym, ap, ◌∙◌, subst}
use Rattle.span_seats.specs.declared.view.RootView.{RootView}
use Rattle.span_seats.specs.RootView.{HasNoHandle}
use Rattle.span_seats.proofs.Moves.{stores_at}
use Rattle.span_seats.proofs.root.RootSeat.store.Goals as goal

pub store-requires : goal.store-requires
store-requires g c =
    let i = c.self.invariant in
    let free : HasNoHandle c.self.inside.seat.me.0.root.handles c.args.slot = rw c.self.view_is c.requires.free in
    (i.1 ∙ sym i.0, subst (λ (k : ℕ). c.args.slot < k) (ap (λ (r : RootView). length r.words) (sym c.self.view_is) ∙ i.3) c.requires.slot, stores_at _ _ _ _ _ i.4 free)
