use Rattle.std.proofs.Common.{IfSome, sym, subst, ◌∙◌}
use Rattle.span_replay.specs.inside.Lately.{IsBound}
use Rattle.span_replay.proofs.BoundLately.{newest_bound, other_bound}
use Rattle.span_replay.proofs.run.lately.Lately.bind.Goals as goal
use Rattle.span_replay.proofs.run.lately.Lately.bind.Goals.{in-Some+then-is, in-Some+else-is, in-None}

pub returns : goal.returns
returns c = λ labels bound. (
  newest_bound labels c.args.label.now c.args.id c.of-self.result c.of-self.ensures,
  elim c.match-take.branch [
    | in-Some+then-is w ↦ rw w.self-is tt
    | in-Some+else-is w ↦ rw w.self-is (other_bound labels c.args.label.now c.args.id w.in-Some.newest (sym w.is.ensures ∙ w.if-is.false) (subst (λ kept. IfSome kept (IsBound labels)) (sym c.take.ensures.value ∙ w.in-Some.is) bound.0))
    | in-None w ↦ rw w.self-is tt
  ],
)
