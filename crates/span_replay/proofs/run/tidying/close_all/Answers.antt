use Rattle.std.proofs.Common.{◌≡◌, ◌∙◌, ℕ, List, refl, sym, subst}
use Rattle.std.proofs.lemmas.Result.{err_from_is_err_and}
use Rattle.span_core.specs.Core.{CoreView}
use Rattle.span_replay.specs.inside.Turns.{ArePartlyMade}
use Rattle.span_replay.specs.Written.{closes, each_written}
use Rattle.span_run.proofs.Fronts.{Known}
use Rattle.span_replay.proofs.Tidied.{part_none, each_made, each_fails, each_ends}
use Rattle.span_replay.proofs.Flushes.{fails_from}
use Rattle.span_replay.proofs.run.tidying.close_all.Goals as goal

none_closed : (a : Known) (core : CoreView) (all ids : List ℕ) → ids ≡ all → ArePartlyMade a a (each_written closes core all) (each_written closes core ids)
none_closed a core all ids e = subst (λ xs. ArePartlyMade a a (each_written closes core all) (each_written closes core xs)) (sym e) (part_none a (each_written closes core all))

pub loop-id-init : goal.loop-id-init
loop-id-init g c = record {
  made = none_closed _ _ _ _ (c.into_iter-id-iterator.ensures.into_iter_gives ∙ c.ids-id-items.ensures);
  written = c.requires.written;
  workers = refl;
  failed = refl;
  flushes = refl;
}

pub returns-in_err-close-clause-err : goal.returns-in_err-close-clause-err
returns-in_err-close-clause-err g c =
    let p = err_from_is_err_and c.from_residual.result c.from_residual.ensures.1 in
    rw (p.1, p.2) (each_fails closes _ _ _ _ _ _ _ _ _ c.loop-id.invariant.made c.in-Some.ensures.steps c.in_err-close.ensures.err)

pub loop-id-preserved : goal.loop-id-preserved
loop-id-preserved g c = record {
  made = each_made closes _ _ _ _ _ _ _ _ _ c.loop-id.invariant.made c.in-Some.ensures.steps c.in_ok-close.ensures.made;
  written = c.in_ok-close.ensures.written;
  workers = c.in_ok-close.ensures.workers ∙ c.loop-id.invariant.workers;
  failed = c.in_ok-close.ensures.calls.0.1 ∙ c.loop-id.invariant.failed;
  flushes = c.in_ok-close.ensures.calls.1 ∙ c.loop-id.invariant.flushes;
}

pub returns-clause-made : goal.returns-clause-made
returns-clause-made g c = each_ends closes _ _ _ _ _ c.loop-id.invariant.made c.in-None.ensures.steps.0

pub returns-in_err-close-clause-calls : goal.returns-in_err-close-clause-calls
returns-in_err-close-clause-calls g c =
    let p = err_from_is_err_and c.from_residual.result c.from_residual.ensures.1 in
    rw (p.1, p.2) (fails_from _ _ _ _ c.loop-id.invariant.failed c.in_err-close.ensures.calls.0, c.in_err-close.ensures.calls.1 ∙ c.loop-id.invariant.flushes)
