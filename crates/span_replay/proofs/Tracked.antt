-- The core of a run, and the labels: what every call keeps.
use Rattle.std.proofs.Common.{◌≡◌, ℕ, ◌+◌, ◌<◌, ◌≤◌, true, false, List, Option, Some, refl, sym, ap, ◌∙◌, inl, inr, arith, unwrap_or}
use Rattle.std.proofs.lemmas.Bool.{true≢false}
use Rattle.span_forest.specs.declared.span.Holder.TheVariants.{Handle}
use Rattle.span_id.specs.Meta.{KeyValue, PlainMeta}
use Rattle.span_forest.specs.Holders.{IsHeld}
use Rattle.span_outlet.specs.Request.{Request, new_span, made, worker_of}
use Rattle.span_core.specs.Core.{CoreView, id_after, IsDue}
use Rattle.span_core.specs.Outcome.{done, outcome}
use Rattle.span_core.proofs.Deciding.{handle_from}
use Rattle.span_core.proofs.Steady.{IsSteady, answer_in, steady_then}
use Rattle.span_core.proofs.Weights.{weight, most_more, weight_then, handle_before}
use Rattle.span_core.proofs.OutcomeCases.{by_outcome}
use Rattle.span_replay.specs.Labels.{Bound, id_in}
use Rattle.span_replay.specs.Faults.{is_taken, has_handles}
use Rattle.span_replay.specs.Meaning.{labels_after}
use Rattle.span_replay.specs.Written.{answer_for, core_left}
use Rattle.span_replay.proofs.Bindings.{bound_same, bound_other}

-- the core is steady, and a label names each span that has a handle
pub record IsTracked (core : CoreView) (labels : Bound) : Type 0 where
  pub steady : IsSteady core
  pub named : (id : ℕ) → IsHeld core.world.spans id Handle → (label : List ℕ) × (id_in labels label ≡ Some id)

-- what a call leaves: the limits stay, and the weight grows by at most so much
pub record Leads (old : CoreView) (new : CoreView) (labels : Bound) (more : ℕ) : Type 0 where
  pub tracked : IsTracked new labels
  pub limits : new.limits ≡ old.limits
  pub weight : weight new ≤ weight old + more

-- nothing changes
pub leads_nowhere : (core : CoreView) (labels : Bound) (more : ℕ) → IsTracked core labels → Leads core core labels more
leads_nowhere core labels more tracked = record { tracked = tracked; limits = refl; weight = omega arith }

-- one after the other
pub leads_on : (old mid new : CoreView) (labels : Bound) → Leads old mid labels 0 → Leads mid new labels 0 → Leads old new labels 0
leads_on old mid new labels first rest = record {
  tracked = rest.tracked;
  limits = rest.limits ∙ first.limits;
  weight = (let a = first.weight in let b = rest.weight in omega (arith, a, b));
}

-- a call other than a new span
abbrev pub MakesNone : CoreView → Request → Type 0
MakesNone core request = (id : ℕ) → answer_in core request ≡ made id → ⊥

-- what is done, but for a new span
pub done_leads : (core : CoreView) (labels : Bound) (request : Request) → IsTracked core labels → worker_of request < core.limits.workers → MakesNone core request → IsDue core request
    → Leads core (core_left core (done core request)) labels (most_more request)
done_leads core labels request tracked low none due = record {
  tracked = record {
    steady = steady_then core request _ tracked.steady low due;
    named = λ id held. elim (handle_before core request due id held) [
      | inl before ↦ tracked.named id before
      | inr new ↦ absurd (none id new)
    ];
  };
  limits = refl;
  weight = weight_then core request _ tracked.steady low due;
}

-- any call but a new span, whether it is done or not
pub call_leads : (core : CoreView) (labels : Bound) (request : Request) → IsTracked core labels → worker_of request < core.limits.workers → MakesNone core request
    → Leads core (core_left core (outcome core request)) labels (most_more request)
call_leads core labels request tracked low none =
    by_outcome (λ o. Leads core (core_left core o) labels (most_more request)) core request
    (λ fault. leads_nowhere core labels (most_more request) tracked)
    (leads_nowhere core labels (most_more request) tracked)
    (λ due. done_leads core labels request tracked low none due)

-- a new span: where one is made, the label names it, and what the label named before had no handle
pub made_leads : (core : CoreView) (labels : Bound) (label : List ℕ) (worker : ℕ) (meta : PlainMeta) (fields : List KeyValue) (parent : Option ℕ)
    → IsTracked core labels → worker < core.limits.workers → is_taken core.world.spans labels label ≡ false
    → Leads core (core_left core (outcome core (new_span worker meta fields parent))) (labels_after labels label (answer_for (outcome core (new_span worker meta fields parent)))) 3
made_leads core labels label worker meta fields parent tracked low free =
    by_outcome (λ o. Leads core (core_left core o) (labels_after labels label (answer_for o)) 3) core request
    (λ fault. leads_nowhere core labels 3 tracked)
    (leads_nowhere core labels 3 tracked)
    (λ due. record {
      tracked = record {
        steady = steady_then core request _ tracked.steady low due;
        named = λ id held. elim (handle_before core request due id held) [
          | inl before ↦ (let was = tracked.named id before in (was.0, bound_other labels label was.0 (unwrap_or (id_after core) 0) (apart id before was.0 was.1) ∙ was.1))
          | inr new ↦ (let same : unwrap_or (id_after core) 0 ≡ id = cc in (label, bound_same labels label (unwrap_or (id_after core) 0) ∙ ap (λ i. Some i) same))
        ];
      };
      limits = refl;
      weight = weight_then core request _ tracked.steady low due;
    })
  where
    request : Request
    request = new_span worker meta fields parent

    apart : (id : ℕ) → IsHeld core.world.spans id Handle → (other : List ℕ) → id_in labels other ≡ Some id → other ≡ label → ⊥
    apart id before other named same =
        let here : id_in labels label ≡ Some id = ap (id_in labels) (sym same) ∙ named in
        let taken : is_taken core.world.spans labels label ≡ true = ap (has_handles core.world.spans) here ∙ handle_from core.world.spans id before in
        true≢false (sym taken ∙ free)
