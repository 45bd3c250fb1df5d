use Rattle.std.proofs.Common.{[], ◌∷◌, subst, sym}
use Rattle.std.specs.List.{All}
use Rattle.std.proofs.lemmas.List.Elements.{All-append, All-cons, All-nil}
use Rattle.span_core.specs.inside.Telling.{KnowsPath}
use Rattle.span_core.proofs.notes.paths.SharedPaths.push.Goals as goal

pub returns-in_ok-push-clause-known : goal.returns-in_ok-push-clause-known
returns-in_ok-push-clause-known c =
    λ told spans path knows. record {
      first = knows.first;
      further = subst (All (KnowsPath told spans)) (sym c.in_ok-push.ensures.items)
          (All-append (KnowsPath told spans) c.args.self.now.further.items (c.args.path ∷ []) knows.further (All-cons (KnowsPath told spans) c.args.path [] path (All-nil (KnowsPath told spans))));
    }

pub returns-else-is_some-clause-known : goal.returns-else-is_some-clause-known
returns-else-is_some-clause-known c = λ told spans path knows. record { first = path; further = knows.further }
