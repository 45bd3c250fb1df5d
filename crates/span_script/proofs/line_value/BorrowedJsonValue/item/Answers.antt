use Rattle.std.proofs.Common.{rules, ◌<◌, length}
use Rattle.span_json.specs.Seen.{view}
use Rattle.span_script.proofs.Items.{line_list, within, found}
use Rattle.span_script.proofs.line_value.BorrowedJsonValue.item.Goals as goal

pub index-requires : goal.index-requires
index-requires c =
    let low : c.args.place < length c.in-Some.items.now.items = within view _ c.in-Some.items.now.items (line_list _ _ c.in-Some.ensures) _ c.requires in
    search rules

pub returns-in-Some : goal.returns-in-Some
returns-in-Some c = found view _ c.in-Some.items.now.items (line_list _ _ c.in-Some.ensures) _ _ c.requires (search rules)
