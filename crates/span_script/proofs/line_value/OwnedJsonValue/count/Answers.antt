use Rattle.std.proofs.Common.{rules}
use Rattle.serde_json.specs.View.{view}
use Rattle.span_script.proofs.Items.{counted}
use Rattle.span_script.proofs.line_value.OwnedJsonValue.count.Goals as goal

pub returns-in-Some : goal.returns-in-Some
returns-in-Some c = counted view _ c.in-Some.items.now.items c.in-Some.ensures _ (search rules)
