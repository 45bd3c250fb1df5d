use Rattle.std.proofs.Common.{◌+◌, ◌*◌, length}
use Rattle.json.specs.Lex.{after_comma, between, lex, punctuate}
use Rattle.span_json.specs.inside.Plain.{ItemsLeft, MembersLeft}
use Rattle.span_json.proofs.plain.+plain.Given as goal

abbrev pub decreases-read_items : goal.decreases-read_items
decreases-read_items l = 3 * l.depth + 2

abbrev pub decreases-read_members : goal.decreases-read_members
decreases-read_members l = 3 * l.depth + 2

abbrev pub decreases-read_member : goal.decreases-read_member
decreases-read_member l = 3 * l.depth + 1

abbrev pub decreases-read_value : goal.decreases-read_value
decreases-read_value l = 3 * l.depth

abbrev pub invariant-read_items-loop-items : goal.invariant-read_items-loop-items
invariant-read_items-loop-items l = ItemsLeft l.depth (lex between l.initial.text) l.items.items (lex between l.text)

abbrev pub decreases-read_items-loop-items : goal.decreases-read_items-loop-items
decreases-read_items-loop-items l = length (punctuate after_comma (lex between l.text))

abbrev pub invariant-read_members-loop-members : goal.invariant-read_members-loop-members
invariant-read_members-loop-members l = MembersLeft l.depth (lex between l.initial.text) l.members.items (lex between l.text)

abbrev pub decreases-read_members-loop-members : goal.decreases-read_members-loop-members
decreases-read_members-loop-members l = length (punctuate after_comma (lex between l.text))
