use Rattle.std.proofs.Common.{refl}
use Rattle.std.proofs.lemmas.Result.{err_from_is_err_and}
use Rattle.span_script.specs.inside.Heads.{head_seen}
use Rattle.span_script.specs.inside.Parts.{event_rest}
use Rattle.span_script.proofs.Parts.{faulty_at, meant_after, stopped_after, stopped_at, event_with, event_parts}
use Rattle.span_script.proofs.reading.event.Goals as goal

pub returns : goal.returns
returns g c =
    meant_after _ (event_with c.args.workers (g.V.JsonValue.json c.args.line)) _ _ _ (event_parts _ _) c.in_ok-head.ensures
    (meant_after _ (event_rest c.args.workers (g.V.JsonValue.json c.args.line) (head_seen c.in_ok-head.head)) _ _ _ refl c.in_ok-fields.ensures c.event_with.ensures)

pub returns-in_err-fields : goal.returns-in_err-fields
returns-in_err-fields g c =
    let p = err_from_is_err_and c.from_residual-in_err-fields.result c.from_residual-in_err-fields.ensures.1 in
    rw (p.1, p.2) (stopped_after _ (event_with c.args.workers (g.V.JsonValue.json c.args.line)) _ _ _ (event_parts _ _) c.in_ok-head.ensures
    (stopped_at _ (event_rest c.args.workers (g.V.JsonValue.json c.args.line) (head_seen c.in_ok-head.head)) _ _ refl c.in_err-fields.ensures))

pub returns-in_err-head : goal.returns-in_err-head
returns-in_err-head g c =
    let p = err_from_is_err_and c.from_residual.result c.from_residual.ensures.1 in
    rw (p.1, p.2) (faulty_at _ (event_with c.args.workers (g.V.JsonValue.json c.args.line)) _ _ (event_parts _ _) c.in_err-head.ensures)
