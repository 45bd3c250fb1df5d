-- That a span has a handle, as a test and as a fact.
use Rattle.std.proofs.Common.{◌≡◌, ℕ, true}
use Rattle.std.proofs.lemmas.Bool.{ltb-true, lt-ltb}
use Rattle.span_forest.specs.declared.span.Holder.TheVariants.{Handle}
use Rattle.span_forest.specs.Spans.{Spans, find}
use Rattle.span_forest.specs.Holders.{IsHeld, held_in}
use Rattle.span_core.specs.Step.{has_handle}

pub held_from : (spans : Spans) (id : ℕ) → has_handle spans id ≡ true → IsHeld spans id Handle
held_from spans id so = ltb-true 0 (held_in Handle (find spans id)) so

pub handle_from : (spans : Spans) (id : ℕ) → IsHeld spans id Handle → has_handle spans id ≡ true
handle_from spans id held = lt-ltb 0 (held_in Handle (find spans id)) held
