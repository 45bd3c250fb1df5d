use Rattle.std.proofs.Common.{rules, drop_of_length-le}
use Rattle.std.specs.Vec.Iter.{into_iter_items}
use Rattle.span_replay.specs.Explained.{open_span_of}
use Rattle.span_replay.specs.inside.Reaching.{reached_at}
use Rattle.span_replay.proofs.Explaining.{spans_begin, spans_more, spans_end}
use Rattle.span_replay.proofs.run.explained.open_spans.Goals as goal

pub loop-one-init : goal.loop-one-init
loop-one-init g c = λ stage. spans_begin (open_span_of (reached_at c.args.reaching.now stage)) _ _ _ _ c.in_ok-spans.ensures.items c.into_iter-one-iterator.ensures.into_iter_gives.0 c.in-Ok.ensures

pub loop-one-preserved : goal.loop-one-preserved
loop-one-preserved g c = λ stage. spans_more (open_span_of (reached_at c.args.reaching.now stage)) _ _ _ _ _ _ _ c.in-Some.ensures.steps.0 c.in_ok-push.ensures.items (c.in_ok-span.ensures stage) (c.loop-one.invariant stage)

pub returns : goal.returns
returns g c = λ stage. spans_end (open_span_of (reached_at c.args.reaching.now stage)) _ _ _ (drop_of_length-le (into_iter_items c.loop-one.one-iterator) {i = 0} (search rules)) (c.loop-one.invariant stage)
