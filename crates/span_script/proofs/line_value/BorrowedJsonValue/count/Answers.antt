use Rattle.std.proofs.Common.{rules}
use Rattle.span_json.specs.Seen.{view}
use Rattle.span_script.proofs.Items.{line_list, counted}
use Rattle.span_script.proofs.line_value.BorrowedJsonValue.count.Goals as goal

pub returns-in-Some : goal.returns-in-Some
returns-in-Some c = counted view _ c.in-Some.items.now.items (line_list _ _ c.in-Some.ensures) _ (search rules)
