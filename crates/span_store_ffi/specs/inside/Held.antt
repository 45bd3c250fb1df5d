-- What lies behind the handle of a store: no public clause cites it.
use base.Stored.{Coded}
use Rattle.std.specs.Prelude.{Option}
use Rattle.std.specs.Coded.{coded_option}
pub use Rattle.span_store.specs.contracts.store.Store.{the_row}

-- how the logic stores what is held
abbrev pub held_coded : Coded (Option the_row.Denot)
held_coded = coded_option the_row.coded
