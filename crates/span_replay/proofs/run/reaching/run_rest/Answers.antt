use Rattle.std.proofs.Common.{refl}
use Rattle.span_script.specs.Operation.{running}
use Rattle.span_replay.specs.inside.Reaching.{reached_at}
use Rattle.span_replay.proofs.Reachings.{rest_ended, rest_ends, value_fails, knows}
use Rattle.span_replay.proofs.run.reaching.run_rest.Goals as goal

pub returns-in-Ok-clause-ended : goal.returns-in-Ok-clause-ended
returns-in-Ok-clause-ended g c = rest_ended _ (reached_at c.args.reaching.now running) (reached_at c.run_value.new.reaching running) (reached_at c.run_lines.new.reaching running) _ _ _ c.in-Ok.ensures.turned c.run_lines.ensures.ended

pub returns-in-Ok-clause-err : goal.returns-in-Ok-clause-err
returns-in-Ok-clause-err g c = rest_ends _ (reached_at c.args.reaching.now running) (reached_at c.run_value.new.reaching running) (reached_at c.run_lines.new.reaching running) _ _ _ c.in-Ok.ensures.turned c.run_lines.ensures.err

pub returns-clause-err : goal.returns-clause-err
returns-clause-err g c = λ hooks about. value_fails about _ _ _ _ (reached_at c.args.reaching.now running) (reached_at c.run_value.new.reaching running) _ _ _ refl (c.in-Err.ensures.err hooks) c.at_line.ensures

pub returns-clause-known : goal.returns-clause-known
returns-clause-known g c =
    knows _ _ (reached_at c.args.reaching.now running) (reached_at c.run_value.new.reaching running) _ _ _ _ (c.in-Err.ensures.err 0) c.at_line.ensures c.in-Err.ensures.workers c.requires.written.workers
