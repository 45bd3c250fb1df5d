use Rattle.std.proofs.Common.{refl, rules}
use Rattle.span_replay.proofs.Telling.{explained_at_end, explained_counts, explained_ends, explained_fails, long_explained, read_explained}
use Rattle.span_replay.proofs.run.why.explain_input.Goals as goal

pub returns-in-Ok-clause-explained : goal.returns-in-Ok-clause-explained
returns-in-Ok-clause-explained g c = read_explained _ _ _ _ _ c.in-Ok.script.items _ c.in-Ok.ensures.all c.in-Ok.ensures.end (search rules) c.deref.ensures.value c.explain_script.ensures.explained

pub returns-in-Err-Script-clause-explained : goal.returns-in-Err-Script-clause-explained
returns-in-Err-Script-clause-explained g c = long_explained _ _ _ _ _ _ _ _ c.in-Err-Script.field-0-is c.in-Err-Script.ensures.err c.new.ensures.items refl

pub returns-in-Ok-clause-ends : goal.returns-in-Ok-clause-ends
returns-in-Ok-clause-ends g c = explained_ends _ _ c.explain_script.ensures.explained

pub returns-in-Ok-clause-whole : goal.returns-in-Ok-clause-whole
returns-in-Ok-clause-whole g c = explained_at_end _ c.in-Ok.ensures.end

pub returns-in-Ok-clause-err : goal.returns-in-Ok-clause-err
returns-in-Ok-clause-err g c = explained_fails _ c.explain_script.ensures.memory

pub returns-in-Ok-clause-counts : goal.returns-in-Ok-clause-counts
returns-in-Ok-clause-counts g c = explained_counts _ _ _ c.in-Ok.ensures.counts.0 c.explain_script.ensures.memory
