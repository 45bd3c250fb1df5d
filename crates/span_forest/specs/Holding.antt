-- What keeps a span open: the handles and entries of the spans at it or below it.
use Rattle.std.specs.Prelude.{ℕ, ◌+◌, ◌≡◌, Bool, true, false, ◌&&◌, ◌==◌, cond, List, [], ◌∷◌, ◌++◌, replicate, map, filter}
use Rattle.span_id.specs.Ids.{has}
use Rattle.span_forest.specs.declared.span.Holder.{Holder}
use Rattle.span_forest.specs.declared.span.Holder.TheVariants.{Handle, Entry}
use Rattle.span_forest.specs.declared.holding.Held.{Held}
pub use Rattle.span_slots.specs.Table.{all_ids}
use Rattle.span_forest.specs.Node.{Node}
use Rattle.span_forest.specs.Spans.{Spans}
use Rattle.span_forest.specs.Walk.{walk}
use Rattle.span_forest.specs.Count.{is_held}
use Rattle.span_forest.specs.Holders.{IsHeld}
use Rattle.span_forest.specs.Release.{spans_left}

-- a span with how many handles and how many entries it has
abbrev pub held_of : ℕ × Node → Held
held_of e = record { id = e.0; handles = e.1.handles; entries = e.1.entries }

-- the spans that have a handle or an entry of their own: what keeps all open spans open
abbrev pub held_spans : Spans → List Held
held_spans spans = map held_of (filter (λ e. is_held e.1) spans)

-- what keeps a span open: those of them on whose walk it stands
abbrev pub what_holds : Spans → ℕ → List Held
what_holds spans id = filter (λ held. has (walk spans held.id) id) (held_spans spans)

-- the spans after these releases, one after the other: each is an id and the kind of holder that is given back
abbrev pub spans_after : Spans → List (ℕ × Holder) → Spans
spans_after spans [] = spans
spans_after spans (r ∷ rs) = spans_after (spans_left spans r.0 r.1) rs

-- the releases that give back all of these handles and entries, in the order of the list
abbrev pub releases_of : List Held → List (ℕ × Holder)
releases_of [] = []
releases_of (held ∷ list) =
    replicate held.handles (held.id, Handle) ++ replicate held.entries (held.id, Entry) ++ releases_of list

-- each of the releases gives back a holder that is there when its turn comes
abbrev pub AreHeld : Spans → List (ℕ × Holder) → Type 0
AreHeld spans [] = Unit {0}
AreHeld spans (r ∷ rs) = IsHeld spans r.0 r.1 × AreHeld (spans_left spans r.0 r.1) rs

-- two kinds of holder are the same
abbrev pub same_holder : Holder → Holder → Bool
same_holder Handle Handle = true
same_holder Entry Entry = true
same_holder _ _ = false

-- how many of the releases give back a holder of this kind of an id
abbrev pub given_back : Holder → ℕ → List (ℕ × Holder) → ℕ
given_back holder id [] = 0
given_back holder id (r ∷ rs) = cond (r.0 == id && same_holder r.1 holder) 1 0 + given_back holder id rs

-- the releases give back all handles and entries of the span
pub record IsGivenBack (releases : List (ℕ × Holder)) (held : Held) : Type 0 where
  pub handles : given_back Handle held.id releases ≡ held.handles
  pub entries : given_back Entry held.id releases ≡ held.entries
