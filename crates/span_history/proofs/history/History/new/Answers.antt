use Rattle.span_history.proofs.Moves.{begins}
use Rattle.span_history.proofs.history.History.new.Goals as goal

pub of_words-requires : goal.of_words-requires
of_words-requires c = begins _
