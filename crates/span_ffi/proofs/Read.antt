-- A call with what was read of its data is the call that the data ask for.
use Rattle.std.proofs.Common.{◌≡◌, ℕ, List, drop, take, subst}
use Rattle.span_id.specs.declared.fault.Fault.TheVariants.{Unknown, CountFull, Full, NotEntered, TooManyLayers, BadName, Backlog, BadLimits, Memory}
use Rattle.span_id.specs.Meta.{PlainMeta}
use Rattle.span_outlet.specs.declared.batch.ParentOf.{ParentOf}
use Rattle.span_outlet.specs.Request.{Request, Answer, event, told}
use Rattle.span_core.specs.Core.{CoreView}
use Rattle.span_ffi.specs.declared.data.SpanMeta.{SpanMeta}
use Rattle.span_ffi.specs.declared.data.SpanField.{SpanField}
use Rattle.span_border.specs.declared.status.Status.{Status}
use Rattle.span_border.specs.declared.status.Status.TheVariants.{Done, Refused, BadData, EmptyHandle, HandleInUse, NoSuchWorker, NoLine, ShortBuffer, NoSuchCallsite}
use Rattle.span_ffi.specs.Data.{IsMeta, IsEvent, IsEventAt, said_meta, said_fields, behind_meta}
use Rattle.span_ffi.specs.Calls.{AnswersData}

-- the same call, where other words say when the data say something
module _ (worker : ℕ) (Says Says' : Type 0) (request : Request) (answer : Answer) (old new : CoreView)
    (there : Says → Says') (back : Says' → Says) where
  pub said_alike : (status : Status) → AnswersData worker Says request answer old status new
      → AnswersData worker Says' request answer old status new
  said_alike NoSuchWorker is = is
  said_alike BadData (within, nothing, same) = (within, λ says. nothing (back says), same)
  said_alike (Refused Memory) (within, says, same) = (within, there says, same)
  said_alike (Refused Unknown) (says, is) = (there says, is)
  said_alike (Refused CountFull) (says, is) = (there says, is)
  said_alike (Refused Full) (says, is) = (there says, is)
  said_alike (Refused NotEntered) (says, is) = (there says, is)
  said_alike (Refused TooManyLayers) (says, is) = (there says, is)
  said_alike (Refused BadName) (says, is) = (there says, is)
  said_alike (Refused Backlog) (says, is) = (there says, is)
  said_alike (Refused BadLimits) (says, is) = (there says, is)
  said_alike Done (says, is) = (there says, is)
  said_alike EmptyHandle (says, is) = (there says, is)
  said_alike HandleInUse (says, is) = (there says, is)
  said_alike NoLine (says, is) = (there says, is)
  said_alike ShortBuffer (says, is) = (there says, is)
  said_alike NoSuchCallsite (says, is) = (there says, is)

-- an event is told with the meta that was read, and with what stands behind its texts
module _ (worker : ℕ) (meta : SpanMeta) (message_len : ℕ) (fields : List SpanField) (bytes : List ℕ) (parent : ParentOf)
    (old : CoreView) (status : Status) (new : CoreView) where
  abbrev tells_read : PlainMeta → List ℕ → Type 0
  tells_read read rest =
      AnswersData worker (IsEventAt message_len fields rest)
      (event worker read (take message_len rest) (said_fields fields (drop message_len rest)) parent) told old status new

  pub tells_as_read : (read : PlainMeta) (rest : List ℕ) → IsMeta meta bytes
      → read ≡ said_meta meta bytes → rest ≡ behind_meta meta bytes
      → tells_read read rest → AnswersData worker (IsEvent meta message_len fields bytes)
      (event worker (said_meta meta bytes) (take message_len (behind_meta meta bytes)) (said_fields fields (drop message_len (behind_meta meta bytes))) parent)
      told old status new
  tells_as_read read rest meta_is is behind tells =
      let behind_bytes = behind_meta meta bytes in
      said_alike worker (IsEventAt message_len fields behind_bytes) (IsEvent meta message_len fields bytes)
      (event worker (said_meta meta bytes) (take message_len behind_bytes) (said_fields fields (drop message_len behind_bytes)) parent)
      told old new
      (λ says. record { meta_is = meta_is; message = says.message; fields_are = says.fields_are })
      (λ says. record { message = says.message; fields_are = says.fields_are })
      status
      (subst (λ (m : PlainMeta). tells_read m behind_bytes) is (subst (λ (r : List ℕ). tells_read read r) behind tells))
