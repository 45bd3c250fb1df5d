-- How fronts stand in memory.
use Rattle.std.specs.Prelude.{List, [], Option, Some, None, flat_map}
use Rattle.std.specs.Option.{option_to_list}
use Rattle.span_history.specs.Own.{FrontView}

-- the fronts of these places
abbrev pub fronts_at : List (Option FrontView) → List FrontView
fronts_at places = flat_map option_to_list places

-- the fronts of the places, if there are any
abbrev pub fronts_in : Option (List (Option FrontView)) → List FrontView
fronts_in None = []
fronts_in (Some places) = fronts_at places
