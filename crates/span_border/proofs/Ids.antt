-- Ids are told as the numbers that they are. Assumes nothing.
use Rattle.std.proofs.lemmas.List.{map-id}

pub ruleset same_ids = (map-id)
