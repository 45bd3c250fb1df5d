-- The items of a list, one after another: no public clause cites it.
use Rattle.std.specs.Prelude.{List, [], ◌∷◌, Option, Some, None}
use Rattle.std.specs.Option.{option_map}
use Rattle.serde_json.specs.Data.{Data, Items, no_items, item}
use Rattle.serde_json.specs.Find.{as_array}

abbrev pub listed : Items → List Data
listed no_items = []
listed (item value items) = value ∷ listed items

-- the items of a list
abbrev pub list_in : Data → Option (List Data)
list_in value = option_map listed (as_array value)

abbrev pub or_nothing : Option (List Data) → List Data
or_nothing None = []
or_nothing (Some values) = values

-- none where it is no list
abbrev pub items_in : Data → List Data
items_in value = or_nothing (list_in value)
