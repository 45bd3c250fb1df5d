use Rattle.std.proofs.Common.{List, All, sym, ap, subst, ◌∙◌}
use Rattle.span_history.specs.Own.{IsFront}
use Rattle.span_outlet.specs.Batch.{PlainBatch}
use Rattle.span_registry.proofs.Free.{free_legal}
use Rattle.span_registry.proofs.Within.{within_limits}
use Rattle.span_registry.proofs.under_lock.reports.end.Goals as goal

pub of-counts-requires-clause-handles : goal.of-counts-requires-clause-handles
of-counts-requires-clause-handles g c = sym c.share.invariant.0 ∙ c.audit.ensures ∙ c.locked.invariant.handles_are

pub of-counts-requires-clause-calls : goal.of-counts-requires-clause-calls
of-counts-requires-clause-calls g c = sym c.share.invariant.1 ∙ c.audit-2.ensures ∙ c.locked.invariant.calls_are

pub returns-clause-ended : goal.returns-clause-ended
returns-clause-ended g c =
    let bounds = c.counts_and_calls_have_bounds.ensures in
    rw (← c.locked.view_is, ← c.share.view_is) (record {
      limits_are = c.locked.invariant.limits_are;
      rules_are = c.locked.invariant.rules_are;
      legal = free_legal c.locked.invariant;
      within = within_limits _ _ c.locked.invariant.limits_are bounds.counts c.each_slot_has_one_open_span.ensures.in_range bounds.calls;
      fronts =
          c.share.invariant.2 ∙ ap (λ share. share.call_parts) c.share.view_is ∙ c.requires.calls ∙ c.locked.invariant.call_parts_are
          ∙ ap (λ l. l.workers) c.locked.invariant.limits_are;
      seen_are = subst (λ (history : List PlainBatch). All (λ front. IsFront front history) c.share.inside.seen) c.locked.invariant.history_is c.show_all.ensures.fronts;
      emptied = c.of-counts.ensures.emptied;
    })

pub returns-clause-forms : goal.returns-clause-forms
returns-clause-forms g c = c.into_outlet.ensures.forms ∙ c.locked.invariant.forms_are
