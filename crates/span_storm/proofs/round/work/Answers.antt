use Rattle.std.proofs.Common.{arith, sym, ◌∙◌}
use Rattle.std.proofs.lemmas.Result.{err_from_is_err_and}
use Rattle.span_storm.proofs.Gathering.{stopped_at}
use Rattle.span_storm.proofs.Refusing.{none_made}
use Rattle.span_storm.proofs.round.work.Goals as goal

pub make_rounds-requires-clause-rounds : goal.make_rounds-requires-clause-rounds
make_rounds-requires-clause-rounds g c = (
  none_made c.args.worker (sym c.accepted-none.ensures.own ∙ (c.accepted-none.ensures.value ∙ c.requires.new)),
  omega (arith, c.requires.new, c.ranges.rounds),
)

pub returns-in_err-make_rounds-clause-stopped : goal.returns-in_err-make_rounds-clause-stopped
returns-in_err-make_rounds-clause-stopped g c =
    let p = err_from_is_err_and c.from_residual.result c.from_residual.ensures.1 in
    rw (p.1, p.2) (stopped_at _ _ _ c.make_rounds.new.worker c.args.worker.number c.args.rounds c.in_err-make_rounds.ensures.number (omega (arith, c.in_err-make_rounds.ensures.fewer, c.requires.new)) _ c.in_err-make_rounds.ensures.stopped)
