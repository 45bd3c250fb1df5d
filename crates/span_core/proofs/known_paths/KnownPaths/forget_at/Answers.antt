use Rattle.std.proofs.Common.{refl}
use Rattle.span_core.proofs.Remembering.{remembers_none}
use Rattle.span_core.proofs.known_paths.KnownPaths.forget_at.Goals as goal

pub returns-then-is_of : goal.returns-then-is_of
returns-then-is_of c = λ forest before. remembers_none forest _ _ c.args.at refl before
