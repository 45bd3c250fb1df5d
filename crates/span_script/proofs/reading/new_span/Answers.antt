use Rattle.std.proofs.Common.{◌∙◌, refl, Ok}
use Rattle.std.proofs.lemmas.Result.{err_from_is_err_and}
use Rattle.span_script.specs.Views.{parent_seen}
use Rattle.span_script.specs.inside.Heads.{head_seen}
use Rattle.span_script.specs.inside.Parts.{new_made, new_rest}
use Rattle.span_script.proofs.Parts.{faulty_at, faulty_after, stopped_after, stopped_at, new_came, new_given, new_parts, new_under, new_with}
use Rattle.span_script.proofs.reading.new_span.Goals as goal

pub returns : goal.returns
returns g c =
    new_came _ _ _ _ _ c.in_ok-head.ensures c.in-Ok.ensures c.in_ok-fields.ensures
    ∙ new_given _ _ _ _ _ _ _ _ c.in_ok-meta.ensures.given c.in_ok-meta.ensures.meta

pub returns-in_err-meta : goal.returns-in_err-meta
returns-in_err-meta g c =
    let p = err_from_is_err_and c.from_residual-in_err-meta.result c.from_residual-in_err-meta.ensures.1 in
    rw (p.1, p.2) (stopped_at _ (λ given. Ok (new_made (head_seen c.in_ok-head.head) (parent_seen c.in-Ok.parent) c.in_ok-fields.fields given)) _ _
    (new_came _ _ _ _ _ c.in_ok-head.ensures c.in-Ok.ensures c.in_ok-fields.ensures) c.in_err-meta.ensures.given)

pub returns-in_err-fields : goal.returns-in_err-fields
returns-in_err-fields g c =
    let p = err_from_is_err_and c.from_residual-in_err-fields.result c.from_residual-in_err-fields.ensures.1 in
    rw (p.1, p.2) (stopped_after _ (new_under c.args.workers (g.V.JsonValue.json c.args.line)) _ _ _ (new_parts _ _) c.in_ok-head.ensures
    (stopped_after _ (new_with c.args.workers (g.V.JsonValue.json c.args.line) (head_seen c.in_ok-head.head)) _ _ _ refl c.in-Ok.ensures
    (stopped_at _ (new_rest c.args.workers (g.V.JsonValue.json c.args.line) (head_seen c.in_ok-head.head) (parent_seen c.in-Ok.parent)) _ _ refl c.in_err-fields.ensures)))

pub returns-in-Err : goal.returns-in-Err
returns-in-Err g c =
    faulty_after _ (new_under c.args.workers (g.V.JsonValue.json c.args.line)) _ _ _ (new_parts _ _) c.in_ok-head.ensures
    (faulty_at _ (new_with c.args.workers (g.V.JsonValue.json c.args.line) (head_seen c.in_ok-head.head)) _ _ refl c.in-Err.ensures)

pub returns-in_err-head : goal.returns-in_err-head
returns-in_err-head g c =
    let p = err_from_is_err_and c.from_residual.result c.from_residual.ensures.1 in
    rw (p.1, p.2) (faulty_at _ (new_under c.args.workers (g.V.JsonValue.json c.args.line)) _ _ (new_parts _ _) c.in_err-head.ensures)
