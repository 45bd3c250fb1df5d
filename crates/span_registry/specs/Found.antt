-- What is answered of an open span.
use Rattle.std.specs.Prelude.{◌≡◌, ℕ, string_bytes}
use Rattle.span_registry.specs.declared.found.Found.{Found}
use Rattle.span_forest.specs.Node.{Node}

-- the span's name and parent, its handles and entries, and its count
pub record IsFound (node : Node) (count : ℕ) (found : Found) : Type 0 where
  pub name : string_bytes found.name ≡ node.name
  pub parent : found.parent ≡ node.parent
  pub handles : found.handles ≡ node.handles
  pub entries : found.entries ≡ node.entries
  pub count_is : found.count ≡ count
