-- A JSON value as data: each number has its value, and each key its last value.
use Rattle.std.specs.Prelude.{ℕ, List, [], ◌∷◌, map}
use Rattle.std.specs.Borrow.{Bor}
use Rattle.serde_json.specs.Data.{Num, unsigned, negative, float, Data, null, boolean, number, string, array, object, Items, Members, no_members, put}
use Rattle.serde_json.specs.View.{items_of}
use Rattle.span_json.specs.declared.value.Number.{Number}
use Rattle.span_json.specs.declared.value.Number.TheVariants.{Whole, Negative, Float}
use Rattle.span_json.specs.declared.value.Value.{Value, fold-Value}
use Rattle.span_json.specs.declared.value.Value.TheOpen.{Value-F}

-- a number is the value that it holds
abbrev pub number_view : Number → Num
number_view (Whole n) = unsigned n
number_view (Negative z) = negative z
number_view (Float x) = float x

-- what was found, with these members put in: where a key comes twice, its later value takes the place of the earlier one
abbrev pub put_all : List (Bor (List ℕ) × Data) → Members → Members
put_all [] found = found
put_all (m ∷ ms) found = put_all ms (put m.0.now m.1 found)

-- what a value stands for, once the values inside it are data
abbrev pub view_step : Value-F Data → Data
view_step Value-F.Null = null
view_step (Value-F.Bool b) = boolean b
view_step (Value-F.Number n) = number (number_view n)
view_step (Value-F.Text s) = string s.now
view_step (Value-F.List v) = array (items_of v.items)
view_step (Value-F.Object v) = object (put_all v.items no_members)

-- what a value stands for
abbrev pub view : Value → Data
view = fold-Value Data view_step

-- a list's items in their order
abbrev pub items_view : List Value → Items
items_view values = items_of (map view values)

-- a value as it was read
abbrev pub Given : Type 0
Given = Value

-- a member of an object: its key and its value
abbrev pub Member : Type 0
Member = Bor (List ℕ) × Value

-- an object's members, after what was found before them
abbrev pub members_view : List Member → Members → Members
members_view members found = put_all (map (λ m. (m.0, view m.1)) members) found
