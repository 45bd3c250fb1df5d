use Rattle.std.proofs.Common.{◌∙◌}
use Rattle.span_replay.proofs.Tidied.{all_made_as, all_fail_as, exits_made}
use Rattle.span_replay.proofs.run.tidying.leave.Goals as goal

pub returns-in-Ok-clause-made : goal.returns-in-Ok-clause-made
returns-in-Ok-clause-made g c =
    all_made_as _ _ _ _ _ _ _ (exits_made c.args.script.now.core _ _ (c.deref.ensures.value ∙ c.in-Ok.ensures.ids)) c.call_all.ensures.made

pub returns-in-Ok-clause-err : goal.returns-in-Ok-clause-err
returns-in-Ok-clause-err g c =
    all_fail_as _ _ _ _ _ _ (exits_made c.args.script.now.core _ _ (c.deref.ensures.value ∙ c.in-Ok.ensures.ids)) c.call_all.ensures.err
