use Rattle.std.proofs.Common.{◌≡◌, ◌-◌, [], ◌∷◌, arith, length, ap, sym, ◌∙◌, length-append}
use Rattle.span_id.specs.Ids.{has}
use Rattle.span_stack.specs.inside.Entry.{ids_of}
use Rattle.span_stack.proofs.Entries.{AreFlagged-push, or_false}
use Rattle.span_stack.proofs.stack.SpanStack.put.Goals as goal

pub invariant_of-self : goal.invariant_of-self
invariant_of-self c =
    let old = c.self.inside.entries in
    let right = c.requires.flagged ∙ sym (ap (λ s. has s.ids c.args.id) c.self.view_is) ∙ sym (or_false (has (ids_of old.items) c.args.id)) in
    let room : old.capacity - length old.items ≡ c.args.self.now.room = ap (λ s. s.room) c.self.view_is in
    record {
      flagged = rw c.push_reserved.ensures.items (AreFlagged-push [] old.items _ c.self.invariant.flagged right);
      fits = rw (c.push_reserved.ensures.items, c.push_reserved.ensures.capacity)
          (omega (arith, room, c.requires.room, length-append old.items (record { id = c.args.id; duplicate = c.args.duplicate } ∷ [])));
    }
