use Rattle.std.proofs.Common.{◌≡◌, ℕ, ◌∷◌, ◌++◌, [], Option, None, inr, sym, ap, ◌∙◌, subst}
use Rattle.std.specs.Prelude.{IfSome}
use Rattle.span_id.specs.Id.{IsId}
use Rattle.span_forest.specs.Node.{Node, new_node}
use Rattle.span_forest.specs.Spans.{find, with_entry}
use Rattle.span_forest.specs.Path.{path, path_text}
use Rattle.span_core.specs.inside.Given.{meta_given}
use Rattle.span_core.specs.inside.Remembering.{ReadsOn, Remembers}
use Rattle.span_core.proofs.NewSpans.{new_path}
use Rattle.span_core.proofs.Remembering.{remembers_new}
use Rattle.span_core.proofs.calls.spans.add_span.Goals as goal
use Rattle.span_core.proofs.calls.spans.add_span.Goals.{After-remember_new}

gone : (c : After-remember_new) → find c.args.forest.now.spans c.args.new.now.id ≡ None
gone c = subst (λ (o : Option ℕ). IfSome o (λ id. find c.args.forest.now.spans id ≡ None)) c.requires.next c.next_id_is_new.ensures.not_open

in_layout : (c : After-remember_new) → IsId c.args.new.now.id
in_layout c = subst (λ (o : Option ℕ). IfSome o IsId) c.requires.next c.next_id_is_new.ensures.in_layout

same : (c : After-remember_new) → c.in-Ok.field-0 ≡ c.args.new.now.id
same c = cc (c.in-Ok.ensures.id, c.requires.next)

abbrev node : After-remember_new → Node
node c = new_node (meta_given c.args.new.now.meta) c.args.fields c.args.new.now.parent c.args.new.now.bits.0

-- the spans have the new one more, under the id that was announced
spans_are : (c : After-remember_new) → c.add.new.self.spans ≡ with_entry c.args.forest.now.spans c.args.new.now.id (node c)
spans_are c =
    ap (λ f. f.spans) c.in-Ok.ensures.forest
    ∙ (λ j. with_entry c.args.forest.now.spans (same c j) (new_node (c.requires.meta j) c.args.fields c.args.new.now.parent c.args.new.now.bits.0))

-- what was remembered is so still
remembers : (c : After-remember_new) → Remembers c.add.new.self c.args.recent.now.paths
remembers c =
    let gone_there = subst (λ (o : Option ℕ). IfSome o (λ id. find c.args.forest.now.spans id ≡ None)) c.in-Ok.ensures.id c.next_id_is_new.ensures.not_open in
    remembers_new _ _ _ _ _ c.in-Ok.ensures.forest c.in-Ok.ensures.never_issued gone_there
    c.open_spans_are_counted.ensures.parent c.walks_end.ensures c.walks_end-2.ensures c.requires.remembers

-- what the layers were told before the span was there is what they read at it
reads_on : (c : After-remember_new)
    → ReadsOn (λ path. path_text (path ++ (meta_given c.args.new.now.meta).name ∷ [])) c.args.forest.now.spans c.args.new.now.parent c.args.new.now.bits c.add.new.self c.args.new.now.id
reads_on c = record {
  issued = (c.in-Ok.ensures.issued c.args.new.now.id (in_layout c)).1 (inr (same c));
  text = λ layer admitted. ap path_text (sym (new_path c.args.forest.now.spans c.args.new.now.id (node c) layer (gone c) c.open_spans_are_counted.ensures.parent c.requires.open admitted))
      ∙ ap (λ spans. path_text (path layer spans c.args.new.now.id)) (sym (spans_are c));
}

pub returns-clause-remembers : goal.returns-clause-remembers
returns-clause-remembers c = c.remember_new.ensures _ _ _ (reads_on c) c.requires.paths (remembers c)
