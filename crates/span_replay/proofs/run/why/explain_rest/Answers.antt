use Rattle.std.proofs.Common.{◌∙◌, refl}
use Rattle.span_script.specs.Operation.{running}
use Rattle.span_replay.specs.inside.Reaching.{reached_at}
use Rattle.span_replay.proofs.Explaining.{all_explained, fault_explained, script_knows}
use Rattle.span_replay.proofs.run.why.explain_rest.Goals as goal

pub returns-in-Ok-clause-explained : goal.returns-in-Ok-clause-explained
returns-in-Ok-clause-explained g c =
    all_explained _ _ _ (reached_at c.run_rest.new.reaching) _ (λ hooks. c.in-Ok.ensures.ended hooks _) (c.from-open.ensures ∙ c.open_spans.ensures) c.explain.ensures.text c.explain.ensures.ended

pub returns-in-Err-Script-clause-explained : goal.returns-in-Err-Script-clause-explained
returns-in-Err-Script-clause-explained g c =
    fault_explained _ _ _ (reached_at c.run_rest.new.reaching) _ _ _ c.in-Err-Script.field-0-is (λ hooks. c.in-Err-Script.ensures.err hooks _) refl c.explain-in-Err-Script.ensures.text c.explain-in-Err-Script.ensures.ended

pub explain-requires : goal.explain-requires
explain-requires g c = record { workers = c.in-Ok.ensures.written.workers }

pub explain-requires-in-Err-Script : goal.explain-requires-in-Err-Script
explain-requires-in-Err-Script g c = record {
  workers = script_knows _ _ _ _ (reached_at c.run_rest.new.reaching running) c.in-Err-Script.field-0-is c.in-Err-Script.ensures.known;
}
