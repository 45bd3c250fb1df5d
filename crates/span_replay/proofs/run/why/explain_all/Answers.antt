use Rattle.std.proofs.Common.{arith, refl, sym, ◌∙◌, rules, drop_of_length-le}
use Rattle.span_replay.specs.inside.Setup.{hooks_in, setup_state}
use Rattle.span_replay.proofs.Openings.{when_some, when_none}
use Rattle.span_replay.proofs.Explaining.{set_up_more, set_up_called, set_up_fault, set_up_ends, skipped_set_up, refused_at}
use Rattle.span_replay.proofs.run.why.explain_all.Goals as goal

pub loop-lines-init : goal.loop-lines-init
loop-lines-init g c = record { meant = refl; hooks = refl; count = omega arith }

pub loop-lines-preserved-then-is_skipped : goal.loop-lines-preserved-then-is_skipped
loop-lines-preserved-then-is_skipped g c =
    let before = c.loop-lines.invariant in
    let shorter = c.cut_line.ensures.shorter in
    record {
      meant = set_up_more _ _ _ _ _ (setup_state c.loop-lines.setup) (setup_state c.loop-lines.setup) _ c.cut_line.result.0.now c.cut_line.result.1.now refl refl before.hooks before.meant c.cut_line.ensures.line
          (skipped_set_up (hooks_in c.loop-lines.setup) (setup_state c.loop-lines.setup) c.cut_line.result.0.now (sym c.if-is_skipped.ensures));
      hooks = before.hooks;
      count = let count = before.count in omega (arith, count, shorter);
    }

pub loop-lines-preserved : goal.loop-lines-preserved
loop-lines-preserved g c =
    let before = c.loop-lines.invariant in
    let shorter = c.cut_line.ensures.shorter in
    record {
      meant = set_up_more _ _ _ _ _ (setup_state c.loop-lines.setup) (setup_state c.set_up.new.setup) _ c.cut_line.result.0.now c.cut_line.result.1.now refl refl before.hooks before.meant c.cut_line.ensures.line
          (when_none _ c.in-Ok-None.field-0-is c.in-Ok-None.ensures.turned);
      hooks = c.in-Ok-None.ensures.hooks ∙ before.hooks;
      count = let count = before.count in omega (arith, count, shorter);
    }

pub returns-in-Ok-Some-clause-explained : goal.returns-in-Ok-Some-clause-explained
returns-in-Ok-Some-clause-explained g c =
    let before = c.loop-lines.invariant in
    let some = c.in-Ok-Some.field-0-is in
    set_up_called _ _ _ _ _ _ (setup_state c.loop-lines.setup) (setup_state c.set_up.new.setup) _ c.cut_line.result.0.now c.cut_line.result.1.now _ before.hooks (when_some _ _ _ some c.in-Ok-Some.ensures.same) before.meant c.cut_line.ensures.line
    (when_some _ _ _ some c.in-Ok-Some.ensures.value) (when_some _ _ _ some c.in-Ok-Some.ensures.label) c.explain_calls.ensures.explained

pub returns-in-Err-Refused-clause-explained : goal.returns-in-Err-Refused-clause-explained
returns-in-Err-Refused-clause-explained g c =
    let before = c.loop-lines.invariant in
    set_up_fault _ _ _ _ _ _ (setup_state c.loop-lines.setup).core (setup_state c.loop-lines.setup).stage _ c.cut_line.result.0.now c.cut_line.result.1.now _ refl before.hooks before.meant c.cut_line.ensures.line
    (refused_at _ _ c.in-Err-Refused.reason c.in-Err-Refused.field-0-is c.in-Err-Refused.ensures.err) (rw c.in-Err-Refused.field-0-is refl) c.nothing_open.ensures.text c.nothing_open.ensures.ended

pub returns-clause-explained : goal.returns-clause-explained
returns-clause-explained g c =
    set_up_ends _ _ _ _ _ (setup_state c.loop-lines.setup).core (setup_state c.loop-lines.setup).stage _ refl c.loop-lines.invariant.meant (drop_of_length-le c.loop-lines.lines.now {i = 0} (search rules)) c.nothing_open-2.ensures.text c.nothing_open-2.ensures.ended
