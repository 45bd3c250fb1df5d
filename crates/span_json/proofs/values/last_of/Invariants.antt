use Rattle.std.proofs.Common.{◌≡◌, take}
use Rattle.serde_json.specs.Data.{no_members}
use Rattle.serde_json.specs.Find.{get_member}
use Rattle.span_json.specs.Seen.{members_view}
use Rattle.span_json.proofs.values.last_of.Given as goal

-- no member from the place on has the key
abbrev pub invariant-loop-place : goal.invariant-loop-place
invariant-loop-place l = get_member l.key (members_view l.members.items no_members) ≡ get_member l.key (members_view (take l.place l.members.items) no_members)
