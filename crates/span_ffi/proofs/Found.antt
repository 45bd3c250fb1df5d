-- A call with the meta of a callsite that was found is a call at the callsite.
use Rattle.std.proofs.Common.{◌≡◌, ℕ, Option, Some, sym, subst}
use Rattle.span_id.specs.Meta.{PlainMeta}
use Rattle.span_core.specs.Core.{CoreView}
use Rattle.span_border.specs.declared.status.Status.{Status}
use Rattle.span_border.specs.declared.status.Status.TheVariants.{Done, Refused, BadData, EmptyHandle, HandleInUse, NoSuchWorker, NoLine, ShortBuffer, NoSuchCallsite}
use Rattle.span_ffi.specs.Calls.{LacksWorker}
use Rattle.span_ffi.specs.Callsites.{AtCallsite}

module _ (worker : ℕ) (Does : PlainMeta → CoreView → Status → CoreView → Type 0) (meta : PlainMeta) (old new : CoreView)
    (lacks : Does meta old NoSuchWorker new → LacksWorker old worker new)
    (never : Does meta old NoSuchCallsite new → ⊥) where
  at_some : (status : Status) → Does meta old status new → AtCallsite worker (Some meta) Does old status new
  at_some Done does = does
  at_some (Refused fault) does = does
  at_some BadData does = does
  at_some EmptyHandle does = does
  at_some HandleInUse does = does
  at_some NoSuchWorker does = lacks does
  at_some NoLine does = does
  at_some ShortBuffer does = does
  at_some NoSuchCallsite does = absurd (never does)

  pub at_found : (found : Option PlainMeta) (status : Status)
      → found ≡ Some meta → Does meta old status new → AtCallsite worker found Does old status new
  at_found found status is does =
      subst (λ (that : Option PlainMeta). AtCallsite worker that Does old status new) (sym is) (at_some status does)
