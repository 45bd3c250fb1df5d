use Rattle.std.proofs.Common.{◌≡◌, ◌+◌, ◌*◌, ◌-◌, ◌≤◌, length}
use Rattle.json.specs.Json.{parse_map}
use Rattle.serde_json.specs.Data.{no_members}
use Rattle.span_json.specs.Seen.{items_view, members_view}
use Rattle.span_json.specs.inside.Parts.{items_in, members_in, joined}
use Rattle.span_json.proofs.reading.+reading.Given as goal

abbrev pub decreases-list_items : goal.decreases-list_items
decreases-list_items l = 2 * l.depth + 1

abbrev pub decreases-object_members : goal.decreases-object_members
decreases-object_members l = 2 * l.depth + 1

abbrev pub decreases-value_from : goal.decreases-value_from
decreases-value_from l = 2 * l.depth

-- the items so far stand before those that are left
abbrev pub invariant-list_items-loop-token : goal.invariant-list_items-loop-token
invariant-list_items-loop-token l = record {
  so_far : items_in l.depth (length l.fn.reader) l.fn.reader ≡ parse_map (joined (items_view l.items.items)) (items_in l.depth (length l.fn.reader - length l.items.items) l.reader);
  turns : length l.reader + length l.items.items ≤ length l.fn.reader;
}

abbrev pub decreases-list_items-loop-token : goal.decreases-list_items-loop-token
decreases-list_items-loop-token l = length l.reader

-- the members that are left go in after those so far
abbrev pub invariant-object_members-loop-token : goal.invariant-object_members-loop-token
invariant-object_members-loop-token l = record {
  so_far : members_in l.depth (length l.fn.reader) no_members l.fn.reader ≡ members_in l.depth (length l.fn.reader - length l.members.items) (members_view l.members.items no_members) l.reader;
  turns : length l.reader + length l.members.items ≤ length l.fn.reader;
}

abbrev pub decreases-object_members-loop-token : goal.decreases-object_members-loop-token
decreases-object_members-loop-token l = length l.reader
