use Rattle.std.proofs.Common.{◌∙◌, ap}
use Rattle.std.proofs.lemmas.Result.{err_from_is_err_and}
use Rattle.span_replay.specs.Faults.{has_handles}
use Rattle.span_script.specs.Views.{new_seen}
use Rattle.span_replay.proofs.WrittenCalls.{new_is, no_parent}
use Rattle.span_replay.proofs.run.script.Script.place.Goals as goal

pub returns-in_err-parent : goal.returns-in_err-parent
returns-in_err-parent g c =
    let p = err_from_is_err_and c.from_residual.result c.from_residual.ensures.1 in
    rw (p.1, p.2) (λ stage.
    no_parent (record { core = c.args.self.now.core; labels = c.args.self.now.labels; stage = stage }) (new_seen c.args.new.now) _ _ c.requires.number c.in_err-parent.ensures)

pub returns-then-is_taken : goal.returns-then-is_taken
returns-then-is_taken g c = λ stage.
    new_is (record { core = c.args.self.now.core; labels = c.args.self.now.labels; stage = stage }) (new_seen c.args.new.now) _ _ _ _ c.requires.number c.in_ok-parent.ensures (c.is_taken.ensures ∙ ap (has_handles c.args.self.now.core.world.spans) c.requires.named) c.if-is_taken.true

pub returns : goal.returns
returns g c = λ stage.
    new_is (record { core = c.args.self.now.core; labels = c.args.self.now.labels; stage = stage }) (new_seen c.args.new.now) _ _ _ _ c.requires.number c.in_ok-parent.ensures (c.is_taken.ensures ∙ ap (has_handles c.args.self.now.core.world.spans) c.requires.named) c.if-is_taken.false
