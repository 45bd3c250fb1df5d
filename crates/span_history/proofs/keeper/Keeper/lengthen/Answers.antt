use Rattle.std.proofs.Common.{◌≡◌, ℕ, List, sym, ap, ◌∙◌, subst}
use Rattle.span_outlet.specs.Batch.{PlainBatch}
use Rattle.span_history.specs.Own.{GoesOn, FrontView, KeeperView}
use Rattle.span_history.proofs.Moves.{spares_at, joins_at, looks_at, lengthens_at, gives_at}
use Rattle.span_history.proofs.keeper.Keeper.lengthen.Goals as goal

pub split_seat-spare-requires : goal.split_seat-spare-requires
split_seat-spare-requires g c =
    let i = c.self.invariant in
    (i.1 ∙ sym i.0, i.2, spares_at _ _ i.3)

pub join_seat-requires : goal.join_seat-requires
join_seat-requires g c =
    let i = c.self.invariant in
    let h = c.front.invariant in
    let s = c.split_seat-spare.ensures in
    let r = c.replace-mine.ensures.value in
    (s.0 ∙ i.1 ∙ sym i.0, ap (λ x. x.table_id) r ∙ h.0 ∙ sym i.0, ap (λ x. x.me.1) r ∙ h.1, i.2, joins_at _ _ _ _ (s.1 ∙ i.3) (ap (λ x. x.me.0.has) r ∙ h.2))

pub load-requires : goal.load-requires
load-requires g c =
    let i = c.self.invariant in
    let s = c.split_seat-spare.ensures in
    let j = c.join_seat.ensures in
    (j.0 ∙ s.0 ∙ i.1 ∙ sym i.0, i.2, looks_at _ _ _ _ (j.1 ∙ s.1 ∙ i.3))

pub load-requires-2 : goal.load-requires-2
load-requires-2 g c =
    let i = c.self.invariant in
    let s = c.split_seat-spare.ensures in
    let r = c.replace-mine.ensures.value in
    let j = c.join_seat.ensures in
    let l = c.load.ensures in
    let me = l.2.0 ∙ j.2 in
    let number : c.args.front.now.number ≡ c.load.new.seat.me.0.number = ap (λ (f : FrontView). f.number) (sym c.front.view_is) ∙ sym (ap (λ m. m.0.number) me ∙ ap (λ x. x.me.0.number) r) in
    let log : c.args.self.now.history ≡ c.load.new.seat.me.0.log = ap (λ (k : KeeperView). k.history) (sym c.self.view_is) ∙ sym (ap (λ m. m.0.log) me ∙ ap (λ m. m.0.log) s.2) in
    let goes : GoesOn c.load.new.seat.me.0.number c.load.new.seat.me.0.log g.N.Longer.longer =
    subst (λ (n : ℕ). GoesOn n c.load.new.seat.me.0.log g.N.Longer.longer) number (subst (λ (h : List PlainBatch). GoesOn c.args.front.now.number h g.N.Longer.longer) log c.requires.goes) in
    (l.0 ∙ j.0 ∙ s.0 ∙ i.1 ∙ sym i.0, i.2, lengthens_at _ _ _ _ _ (l.1 ∙ j.1 ∙ s.1 ∙ i.3) (ap (λ m. m.0.has) me) goes)

pub split_seat-requires : goal.split_seat-requires
split_seat-requires g c =
    let i = c.self.invariant in
    let s = c.split_seat-spare.ensures in
    let j = c.join_seat.ensures in
    let l = c.load.ensures in
    let k = c.load-2.ensures in
    (k.0 ∙ l.0 ∙ j.0 ∙ s.0 ∙ i.1 ∙ sym i.0, i.2, gives_at _ _ (k.1 ∙ l.1 ∙ j.1 ∙ s.1 ∙ i.3) (ap (λ m. m.0.has) k.2))
