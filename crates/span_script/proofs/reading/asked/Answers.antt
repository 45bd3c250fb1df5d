use Rattle.span_script.specs.Views.{op_seen, stage_seen}
use Rattle.span_script.proofs.Fits.{read_fits}
use Rattle.span_script.proofs.reading.asked.Goals as goal

pub returns-clause-worker : goal.returns-clause-worker
returns-clause-worker g c = read_fits _ (stage_seen c.args.stage) (g.V.JsonValue.json c.args.line) (op_seen c.in_ok-op.op) _ c.with_op.ensures
