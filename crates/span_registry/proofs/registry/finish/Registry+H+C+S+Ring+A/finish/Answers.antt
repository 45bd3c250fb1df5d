use Rattle.std.proofs.Common.{◌∙◌, sym}
use Rattle.span_registry.proofs.registry.finish.Registry+H+C+S+Ring+A.finish.Goals as goal

pub returns-clause-ended : goal.returns-clause-ended
returns-clause-ended g c =
    let made = c.finish.ensures in
    record {
      end = record {
        core = c.into_inner.result;
        ended = record {
          limits_are = made.setup.0;
          rules_are = made.setup.1;
          legal = made.legal;
          within = made.within;
          fronts = made.fronts;
          seen_are = made.seen;
          emptied = made.emptied;
        };
        report_is = made.report;
      };
      ring_is = made.setup.2 ∙ sym c.requires.pair;
      taken = made.taken;
      first = made.first;
    }
