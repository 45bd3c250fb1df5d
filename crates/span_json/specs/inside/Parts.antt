-- What is read of a value, of a list and of an object, as data.
use Rattle.std.specs.Prelude.{ℕ, List, Option}
use Rattle.json.specs.Token.{Token}
use Rattle.json.specs.Json as json
use Rattle.serde_json.specs.Data.{Data, Items, no_items, item, Members}
use Rattle.serde_json.specs.Read.{of_json, of_items, of_members, converted}

abbrev pub value_in : ℕ → List Token → Option (Data × List Token)
value_in depth ts = converted of_json (json.value depth ts)

-- the items up to the list's end, in so many turns
abbrev pub items_in : ℕ → ℕ → List Token → Option (Items × List Token)
items_in depth turns ts = converted of_items (json.items (json.value depth) turns ts)

-- the members up to the object's end, after what was found before them
abbrev pub members_in : ℕ → ℕ → Members → List Token → Option (Members × List Token)
members_in depth turns found ts = converted (λ ms. of_members ms found) (json.members (json.value depth) turns ts)

-- items, and others behind them
abbrev pub joined : Items → Items → Items
joined no_items more = more
joined (item d ds) more = item d (joined ds more)
