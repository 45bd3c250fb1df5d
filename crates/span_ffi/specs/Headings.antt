-- What is kept of accepted calls beside the notes of their batches: what contracts see of the end that puts it in.
use Rattle.std.specs.Prelude.{◌≡◌, ◌⊎◌, ℕ, ◌+◌, ◌≤◌, List, [], ◌∷◌, ◌++◌, All, Option, Some, None}
use Rattle.span_outlet.specs.Outlet.{RingName, one_more}
use Rattle.span_ffi.specs.declared.headings.About.{About}
use Rattle.span_ffi.specs.declared.headings.Heading.{Heading}

-- the name of its ring, the headings that it sent, how many places are known to be free, what was said for the calls that
-- follow (a stamp, and for the next one the kinds of its values), and how many headings were lost
pub record HeadingsView : Type 0 where
  pub name : RingName
  pub sent : List Heading
  pub free : ℕ
  pub stamp : ℕ
  pub kinds : List ℕ
  pub lost : ℕ

-- the numbers are kinds of values: 0 text, 1 integer, 2 float, 3 bool, 4 null
abbrev pub AreKinds : List ℕ → Type 0
AreKinds kinds = All (λ kind. kind ≤ 4) kinds

-- the heading of a batch: with its number, at this callsite, about this, and with what was said for the call
pub record IsHeading (batch : ℕ) (callsite : Option ℕ) (about : About) (said : HeadingsView) (heading : Heading)
    : Type 0 where
  pub same_batch : heading.batch ≡ batch
  pub same_stamp : heading.stamp ≡ said.stamp
  pub same_callsite : heading.callsite ≡ callsite
  pub same_kinds : heading.kinds.items ≡ said.kinds
  pub same_about : heading.about ≡ about

-- the heading takes a place and is sent behind those before it; or none is known to be free, and it is lost and counted
-- (the number stays at 2^64 - 1)
abbrev pub SendsOrLoses : Heading → HeadingsView → HeadingsView → Type 0
SendsOrLoses heading old new =
    ((new ≡ record old { sent = old.sent ++ heading ∷ []; free = new.free }) × (old.free ≤ new.free + 1))
    ⊎ ((old.free ≡ 0) × (new ≡ record old { lost = one_more old.lost }))

-- The heading of a batch is sent if there is a place. The kinds were said for it alone. It is lost too where memory was
-- refused to what the call was about.
abbrev pub SendsHeading : ℕ → Option ℕ → Option About → HeadingsView → HeadingsView → Type 0
SendsHeading batch callsite None old new = new ≡ record old { kinds = []; lost = one_more old.lost }
SendsHeading batch callsite (Some about) old new =
    (heading : Heading) × IsHeading batch callsite about old heading
    × SendsOrLoses heading (record old { kinds = [] }) new
