-- The items of a list, found in what keeps them.
use Rattle.std.proofs.Common.{◌≡◌, ℕ, ◌<◌, List, [], ◌∷◌, length, map, get_or, refl, ap, sym, ◌∙◌, Some, subst}
use Rattle.std.specs.Option.{option_map}
use Rattle.std.proofs.lemmas.List.{get_or-map, length-map}
use Rattle.serde_json.specs.Data.{Data, item}
use Rattle.serde_json.specs.Find.{as_array}
use Rattle.serde_json.specs.View.{items_of}
use Rattle.span_json.specs.Seen as line
use Rattle.span_script.specs.inside.Lists.{listed, list_in, items_in, or_nothing}

listed_again : (ds : List Data) → listed (items_of ds) ≡ ds
listed_again [] = refl
listed_again (d ∷ ds) = ap (λ (es : List Data). d ∷ es) (listed_again ds)

line_items : (vs : List line.Given) → items_of (map line.view vs) ≡ line.items_view vs
line_items [] = refl
line_items (v ∷ vs) = ap (item (line.view v)) (line_items vs)

-- a list over the line's own text
pub line_list : (d : Data) (vs : List line.Given) → Some (line.items_view vs) ≡ as_array d → Some (items_of (map line.view vs)) ≡ as_array d
line_list d vs is = ap (λ items. Some items) (line_items vs) ∙ is

module _ {A : Type 0} (see : A → Data) (d : Data) (vs : List A) (is : Some (items_of (map see vs)) ≡ as_array d) where
  items_are : items_in d ≡ map see vs
  items_are = sym (ap (λ o. or_nothing (option_map listed o)) is) ∙ listed_again (map see vs)

  pub counted : (count : ℕ) → count ≡ length vs → Some count ≡ option_map length (list_in d)
  counted count many =
      ap (λ n. Some n) (many ∙ sym (length-map vs see) ∙ ap length (sym (listed_again (map see vs))))
      ∙ ap (λ o. option_map length (option_map listed o)) is

  pub within : (place : ℕ) → place < length (items_in d) → place < length vs
  within place low = subst (λ n. place < n) (ap length items_are ∙ length-map vs see) low

  pub found : (place : ℕ) (v : A) → place < length (items_in d) → v ≡ get_or vs place v → see v ≡ get_or (items_in d) place (see v)
  found place v low at =
      ap see at ∙ sym (get_or-map see vs place v (see v) (within place low)) ∙ ap (λ ds. get_or ds place (see v)) (sym items_are)
