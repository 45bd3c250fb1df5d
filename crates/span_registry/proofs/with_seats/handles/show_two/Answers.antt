use Rattle.std.proofs.Common.{refl}
use Rattle.span_seats.specs.RootView.{with_number, without_number}
use Rattle.span_registry.proofs.Seats.{seated_back}
use Rattle.span_registry.proofs.with_seats.handles.show_two.Goals as goal

pub returns-clause-seated : goal.returns-clause-seated
returns-clause-seated g c =
    let shown = c.two_handles_have_two_numbers.ensures in
    let first = c.args.first in
    let second = c.args.second in
    let between = with_number (without_number c.args.root.now first.id first.number) in
    let once = seated_back c.args.core.now c.args.root.now _ first first.id c.requires.seated shown.first refl refl between refl in
    seated_back c.args.core.now between _ second second.id once shown.second refl refl _ shown.root
