-- Open spans by their parents: no public clause cites it.
use Rattle.std.specs.Prelude.{◌≡◌, ℕ, List, [], map}
use Rattle.std.specs.Option.{option_map_or}
use Rattle.std.specs.Ordering.{nat_cmp}
use Rattle.std.specs.BTreeMap.{get}
use Rattle.span_why.specs.Why.{PlainOpenSpan, plain_open_span, roots, children_of}
use Rattle.span_why.specs.declared.families.Families.{Families}

-- the roots
abbrev pub roots_in : Families → List PlainOpenSpan
roots_in families = map (λ span. plain_open_span span.now) families.roots.items

-- the spans that are listed as children of this id
abbrev pub children_in : Families → ℕ → List PlainOpenSpan
children_in families id =
    option_map_or (λ listed. map (λ span. plain_open_span span.now) listed.items) (get nat_cmp families.children id) []

-- all roots and all children are listed, in the order of the spans
pub record AreFamilies (spans : List PlainOpenSpan) (families : Families) : Type 0 where
  pub roots_are : roots_in families ≡ roots spans
  pub children_are : (id : ℕ) → children_in families id ≡ children_of spans id
