-- Why a call inside a core was refused, where all else is known.
use Rattle.std.proofs.Common.{◌≡◌, ℕ, refl}
use Rattle.std.specs.Prelude.{Result, Ok, Err, IfErr}
use Rattle.span_id.specs.declared.fault.Fault.{Fault}
use Rattle.span_id.specs.declared.fault.Fault.TheVariants.{Unknown, Memory}
use Rattle.span_forest.specs.declared.span.Holder.{Holder}
use Rattle.span_forest.specs.Spans.{Spans}
use Rattle.span_forest.specs.Holders.{IsHeld}
use Rattle.span_forest.specs.Release.{WhyNotReleased}

only_memory : (spans : Spans) (id : ℕ) (holder : Holder) (fault : Fault) → IsHeld spans id holder → WhyNotReleased spans id holder fault → fault ≡ Memory
only_memory spans id holder Memory held why = refl
only_memory spans id holder Unknown held why = absurd (why held)
only_memory spans id holder _ held why = absurd why

-- a holder that is there is refused for want of memory alone
pub listed_or_memory : {T : Type 0} (spans : Spans) (id : ℕ) (holder : Holder) (result : Result T Fault) → IsHeld spans id holder → IfErr result (λ fault. WhyNotReleased spans id holder fault) → IfErr result (λ fault. fault ≡ Memory)
listed_or_memory spans id holder (Ok list) held why = tt
listed_or_memory spans id holder (Err fault) held why = only_memory spans id holder fault held why
