use Rattle.std.proofs.Common.{◌∙◌, subst}
use Rattle.std.specs.Prelude.{IfSome}
use Rattle.std.proofs.lemmas.Result.{IfOk-weaker, on_ok_weaker}
use Rattle.span_layers.specs.Note.{plain_note}
use Rattle.span_forest.specs.Path.{path, path_text}
use Rattle.span_core.specs.inside.ClosingPaths.{TellsBelow}
use Rattle.span_core.proofs.notes.closing.close_path.Goals as goal

pub returns-in-Some-path_above-clause-path : goal.returns-in-Some-path_above-clause-path
returns-in-Some-path_above-clause-path c =
    let at = path c.args.layer c.args.forest.now.spans c.args.what.now.id in
    let tells : TellsBelow at c.in-Some.below.name (plain_note c.in-Some.below.note.now) =
    subst (λ o. IfSome o (λ below. TellsBelow at below.name (plain_note below.note.now))) c.in-Some.is c.requires.below in
    IfOk-weaker c.same_text.result _ _ (λ text same. same ∙ c.in-Some-path_above.ensures.path at tells) c.same_text.ensures.text

pub returns-in-Some-path_above-clause-known : goal.returns-in-Some-path_above-clause-known
returns-in-Some-path_above-clause-known c =
    on_ok_weaker c.same_text.result (λ knows. knows path_text c.args.forest.now.spans c.requires.known) c.same_text.ensures.known
