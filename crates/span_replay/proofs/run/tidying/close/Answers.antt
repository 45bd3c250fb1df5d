use Rattle.std.proofs.Common.{◌∙◌, replicate, ap}
use Rattle.span_replay.proofs.Tidied.{all_made_as, all_fail_as, closes_made}
use Rattle.span_replay.proofs.run.tidying.close.Goals as goal

pub returns-in-Ok-clause-made : goal.returns-in-Ok-clause-made
returns-in-Ok-clause-made g c =
    all_made_as _ _ _ _ _ _ _ (closes_made c.args.script.now.core c.args.id _ (c.deref.ensures.value ∙ c.in-Ok.ensures.items_if_clones_equal (λ y same. same) ∙ ap (λ n. replicate n c.args.id) c.handles.ensures)) c.call_all.ensures.made

pub returns-in-Ok-clause-err : goal.returns-in-Ok-clause-err
returns-in-Ok-clause-err g c =
    all_fail_as _ _ _ _ _ _ (closes_made c.args.script.now.core c.args.id _ (c.deref.ensures.value ∙ c.in-Ok.ensures.items_if_clones_equal (λ y same. same) ∙ ap (λ n. replicate n c.args.id) c.handles.ensures)) c.call_all.ensures.err
