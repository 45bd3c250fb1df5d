use Rattle.span_core.proofs.calls.closes.leave.Goals as goal

pub returns-clause-remembers : goal.returns-clause-remembers
returns-clause-remembers c = c.forget.ensures _ (c.release_on_exit.ensures.remembers _ c.requires.remembers)
