-- The one flush at the end of a run: what stands before it and after it, and the failed calls that are counted.
use Rattle.std.proofs.Common.{◌≡◌, ℕ, List, [], Some, None, Result, Ok, Err, IfSome, IfErr, IsTrue, false, arith, sym, subst, append-nil, inl, inr}
use Rattle.std.specs.Io.KnownBytes.{Appends, Keeps}
use Rattle.std.proofs.KnownBytes.{Appends-kept}
use Rattle.span_run.specs.Counted.{flushes_of, next_count}
use Rattle.span_run.specs.declared.counted.Counted.{Counted}
use Rattle.span_run.specs.Device.{AppendsFront}
use Rattle.span_replay.specs.ReplayFault.{EndsAsCounted, FailsAsCounted}
use Rattle.span_replay.specs.declared.run.fault.ReplayFault.{ReplayFault}
use Rattle.span_replay.specs.declared.run.fault.ReplayFault.TheVariants.{Script, Memory, Read, Write}
use Rattle.span_run.proofs.Fronts.{Known}
use Rattle.span_replay.specs.Meaning.{meaning}
use Rattle.span_replay.specs.Replayed.{Fails, FlushesOnce, IsFlushed, IsWrittenWhole, KeepsUnread, Runs}
use Rattle.span_replay.specs.inside.Ended.{has_end}

-- ---- a run that came to an end of its own has written the whole text, and no call of a device has failed

pub ended_whole : (hooks : ℕ) (i a b : Known) (ended : Result ℕ ReplayFault) → IsTrue (has_end ended) → IfSome i (λ bytes. Runs (meaning hooks bytes) a b ended) → IsWrittenWhole hooks i a b
ended_whole hooks None a b ended h p = tt
ended_whole hooks (Some bytes) a b (Ok left) h p = p.1
ended_whole hooks (Some bytes) a b (Err (Script number reason)) h p = p.1
ended_whole hooks (Some bytes) a b (Err Memory) h p = cc
ended_whole hooks (Some bytes) a b (Err Read) h p = cc
ended_whole hooks (Some bytes) a b (Err Write) h p = cc

pub none_failed : (reads reads' writes writes' : ℕ) (ended : Result ℕ ReplayFault) → IsTrue (has_end ended) → EndsAsCounted reads reads' writes writes' ended → (reads' ≡ reads) × (writes' ≡ writes)
none_failed reads reads' writes writes' (Ok left) h p = p
none_failed reads reads' writes writes' (Err (Script number reason)) h p = p
none_failed reads reads' writes writes' (Err Memory) h p = cc
none_failed reads reads' writes writes' (Err Read) h p = cc
none_failed reads reads' writes writes' (Err Write) h p = cc

pub ended_counts : (ended : Result ℕ ReplayFault) (reads reads' writes writes' : ℕ) → IsTrue (has_end ended) → reads' ≡ reads → writes' ≡ writes → EndsAsCounted reads reads' writes writes' ended
ended_counts (Ok left) reads reads' writes writes' h r w = (r, w)
ended_counts (Err (Script number reason)) reads reads' writes writes' h r w = (r, w)
ended_counts (Err Memory) reads reads' writes writes' h r w = cc
ended_counts (Err Read) reads reads' writes writes' h r w = cc
ended_counts (Err Write) reads reads' writes writes' h r w = cc

-- no reader has ended it
pub ended_unread : (a b : Known) (ended : Result ℕ ReplayFault) → IsTrue (has_end ended) → IfErr ended (KeepsUnread a b)
ended_unread a b (Ok left) h = tt
ended_unread a b (Err (Script number reason)) h = tt
ended_unread a b (Err Memory) h = cc
ended_unread a b (Err Read) h = cc
ended_unread a b (Err Write) h = cc

-- ---- the flush keeps it

pub whole_kept : (hooks : ℕ) (i a b c : Known) → IsWrittenWhole hooks i a b → Keeps b c → IsWrittenWhole hooks i a c
whole_kept hooks None a b c p k = tt
whole_kept hooks (Some bytes) a b c p k = Appends-kept a b c _ p k

pub ended_kept : (hooks : ℕ) (i a b c : Known) (ended : Result ℕ ReplayFault) → IsTrue (has_end ended) → IfSome i (λ bytes. Runs (meaning hooks bytes) a b ended) → Keeps b c → IfSome i (λ bytes. Runs (meaning hooks bytes) a c ended)
ended_kept hooks None a b c ended h p k = tt
ended_kept hooks (Some bytes) a b c (Ok left) h p k = (p.0, Appends-kept a b c _ p.1 k)
ended_kept hooks (Some bytes) a b c (Err (Script number reason)) h p k = (p.0, Appends-kept a b c _ p.1 k)
ended_kept hooks (Some bytes) a b c (Err Memory) h p k = cc
ended_kept hooks (Some bytes) a b c (Err Read) h p k = cc
ended_kept hooks (Some bytes) a b c (Err Write) h p k = cc

pub ended_once : {W Whole : Type 0} (ended : Result ℕ ReplayFault) (old new : Counted W) → IsTrue (has_end ended) → IsFlushed Whole old new → FlushesOnce Whole old new ended
ended_once (Ok left) old new h p = p
ended_once (Err (Script number reason)) old new h p = p
ended_once (Err Memory) old new h p = cc
ended_once (Err Read) old new h p = cc
ended_once (Err Write) old new h p = cc

-- ---- a run that ended before is not flushed

pub never_flushed : {W : Type 0} (Whole : Type 0) (ended : Result ℕ ReplayFault) (old new : Counted W) → has_end ended ≡ false → flushes_of new ≡ flushes_of old → FlushesOnce Whole old new ended
never_flushed Whole (Ok left) old new h same = cc
never_flushed Whole (Err (Script number reason)) old new h same = cc
never_flushed Whole (Err Memory) old new h same = same
never_flushed Whole (Err Read) old new h same = same
never_flushed Whole (Err Write) old new h same = inl same

-- ---- the flush fails

pub whole_front : (a b : Known) (text : List ℕ) → Appends a b text → AppendsFront a b text
whole_front a b text p = record { front = text; rest = []; whole = sym (append-nil text); taken = p }

device_fails : (hooks : ℕ) (i a b : Known) → IsWrittenWhole hooks i a b → IfSome i (λ bytes. Fails (meaning hooks bytes) a b Write)
device_fails hooks None a b p = tt
device_fails hooks (Some bytes) a b p = whole_front a b _ p

pub flush_fails : (hooks : ℕ) (i a b : Known) (e : ReplayFault) → IsWrittenWhole hooks i a b → e ≡ Write → IfSome i (λ bytes. Fails (meaning hooks bytes) a b e)
flush_fails hooks i a b e p d = subst (λ fault. IfSome i (λ bytes. Fails (meaning hooks bytes) a b fault)) (sym d) (device_fails hooks i a b p)

pub flush_once : {W Whole : Type 0} (old new : Counted W) (e : ReplayFault) → Whole → flushes_of new ≡ next_count (flushes_of old) → e ≡ Write → FlushesOnce Whole old new (Err e)
flush_once {W} {Whole} old new e p once d = subst (λ fault. FlushesOnce Whole old new (Err fault)) (sym d) (inr (p, once))

pub flush_read : (a b : Known) (e : ReplayFault) → e ≡ Write → KeepsUnread a b e
flush_read a b e d = subst (KeepsUnread a b) (sym d) tt

pub flush_counts : (reads reads' writes writes' writes'' : ℕ) (e : ReplayFault) → reads' ≡ reads → writes' ≡ writes → FailsAsCounted 0 0 writes' writes'' e → e ≡ Write → FailsAsCounted reads reads' writes writes'' e
flush_counts reads reads' writes writes' writes'' e r w p d =
    let one : writes'' ≡ next_count writes' = (subst (FailsAsCounted 0 0 writes' writes'') d p).1 in
    subst (FailsAsCounted reads reads' writes writes'') (sym d) (r, subst (λ n. writes'' ≡ next_count n) w one)

-- ---- the calls that failed before

pub fails_from : (writes writes' writes'' : ℕ) (e : ReplayFault) → writes' ≡ writes → FailsAsCounted 0 0 writes' writes'' e → FailsAsCounted 0 0 writes writes'' e
fails_from writes writes' writes'' e same p = subst (λ n. FailsAsCounted 0 0 n writes'' e) same p

-- no read has failed
pub ends_read : {T : Type 0} (reads reads' writes writes' : ℕ) (result : Result T ReplayFault) → reads' ≡ reads → EndsAsCounted 0 0 writes writes' result → EndsAsCounted reads reads' writes writes' result
ends_read reads reads' writes writes' (Ok value) same p = (same, p.1)
ends_read reads reads' writes writes' (Err (Script number reason)) same p = (same, p.1)
ends_read reads reads' writes writes' (Err Memory) same p = (same, p.1)
ends_read reads reads' writes writes' (Err Read) same p = absurd (omega (arith, p.0))
ends_read reads reads' writes writes' (Err Write) same p = (same, p.1)

-- ---- what the one flush says of a text, said of what follows from it

pub once_for : {W Text Whole : Type 0} → (Text → Whole) → (old new : Counted W) (r : Result ℕ ReplayFault) → FlushesOnce Text old new r → FlushesOnce Whole old new r
once_for f old new (Ok left) p = record { whole = f p.whole; once = p.once; last = p.last }
once_for f old new (Err (Script number reason)) p = record { whole = f p.whole; once = p.once; last = p.last }
once_for f old new (Err Memory) p = p
once_for f old new (Err Read) p = p
once_for f old new (Err Write) (inl p) = inl p
once_for f old new (Err Write) (inr p) = inr (f p.0, p.1)
