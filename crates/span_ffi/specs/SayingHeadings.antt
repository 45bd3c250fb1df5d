-- What the calls on a registry do that say what its headings tell of a call, and count those that were lost.
use Rattle.std.specs.Prelude.{◌≡◌, ⊤, ℕ, List, Option, Some, None, IsSomeAnd}
use Rattle.span_id.specs.declared.fault.Fault.TheVariants.{Memory}
use Rattle.span_border.specs.declared.status.Status.{Status}
use Rattle.span_border.specs.declared.status.Status.TheVariants.{Done, Refused, BadData}
use Rattle.span_ffi.specs.Headings.{HeadingsView, AreKinds}

-- no headings are kept, or the numbers are no kinds
abbrev pub SaysNothing : List ℕ → Option HeadingsView → Type 0
SaysNothing kinds None = ⊤
SaysNothing kinds (Some _) = AreKinds kinds → ⊥

-- A stamp is said for the calls that follow, and of which kinds the values of the next one are. Where that says nothing,
-- and where memory is refused, nothing changes.
abbrev pub SaysOfCalls : ℕ → List ℕ → Option HeadingsView → Status → Option HeadingsView → Type 0
SaysOfCalls stamp kinds old Done new = AreKinds kinds
    × IsSomeAnd old (λ before. new ≡ Some (record before { stamp = stamp; kinds = kinds }))
SaysOfCalls stamp kinds old BadData new = SaysNothing kinds old × (new ≡ old)
SaysOfCalls stamp kinds old (Refused Memory) new =
    AreKinds kinds × IsSomeAnd old (λ _. new ≡ old)
SaysOfCalls stamp kinds old _ new = ⊥

-- how many headings were lost is told, where any are kept
abbrev pub CountsLost : ℕ → Option HeadingsView → Status → Option HeadingsView → Type 0
CountsLost lost old Done new = IsSomeAnd old (λ headings. lost ≡ headings.lost) × (new ≡ old)
CountsLost lost old BadData new = (old ≡ None) × (new ≡ old)
CountsLost lost old _ new = ⊥
