-- The paths that a core remembers from call to call, for the functions inside this crate: no public clause cites it.
--
-- A span that is open keeps its name, its layers and its parent, and so does each span above it, which stays open as
-- long as it does. So the path that was told at it is what its layer reads there until it closes. And no id is given
-- twice: a path that was told at a span that closed is never read again.
use Rattle.std.specs.Prelude.{◌≡◌, ℕ, List, Option, IfSome, IsTrue, All}
use Rattle.std.specs.Arc.{arc_str_bytes}
use Rattle.span_id.specs.declared.bits.Bits.{Bits}
use Rattle.span_id.specs.Bits.{has_bit}
use Rattle.span_slots.specs.Table.{IsIssued}
use Rattle.span_forest.specs.Spans.{Spans, IsOpen}
use Rattle.span_forest.specs.Forest.{ForestView, table_of}
use Rattle.span_forest.specs.Path.{path, path_text}
use Rattle.span_core.specs.Happening.{path_at}
use Rattle.span_core.specs.declared.known_paths.KnownPath.{KnownPath}
use Rattle.span_core.specs.declared.known_paths.KnownPaths.{KnownPaths}

-- this is the path that each of these layers reads at a span
abbrev pub IsReadBy : ForestView → Bits → ℕ → List ℕ → Type 0
IsReadBy forest layers id text =
    (layer : ℕ) → IsTrue (has_bit layers.0 layer) → text ≡ path_text (path layer forest.spans id)

-- the path was told at an id that was given, and as long as its span is open it is what its layers read there
pub record IsRemembered (forest : ForestView) (known : KnownPath) : Type 0 where
  pub issued : IsIssued (table_of forest) known.place
  pub text : IsOpen forest.spans known.place → IsReadBy forest known.same known.place (arc_str_bytes known.text)

-- the same of each path that is remembered
pub record Remembers (forest : ForestView) (known : KnownPaths) : Type 0 where
  pub each : All (λ place. IfSome place (IsRemembered forest)) known.places.items

-- an id was given, and each of these layers reads at its span what it was told at a place of the spans before
pub record ReadsOn
    (told : List (List ℕ) → List ℕ) (before : Spans) (place : Option ℕ) (layers : Bits) (forest : ForestView) (id : ℕ)
    : Type 0 where
  pub issued : IsIssued (table_of forest) id
  pub text : (layer : ℕ) → IsTrue (has_bit layers.0 layer)
      → told (path_at layer before place) ≡ path_text (path layer forest.spans id)
