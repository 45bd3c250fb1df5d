use Rattle.std.proofs.Common.{◌≡◌, ℕ, Option, ◌∙◌, Some, sym, ap, refl, arith}
use Rattle.std.proofs.lemmas.Result.{err_from_is_err_and}
use Rattle.span_id.specs.declared.bits.Bits.{Bits}
use Rattle.span_store.specs.declared.entry.Entry.{Entry}
use Rattle.span_store.specs.Calls.{Add}
use Rattle.span_store.specs.inside.Reading.{HasRoomAbove}
use Rattle.span_store.proofs.Adds.{IsConsistent-added, added}
use Rattle.span_store.proofs.Upheld.{handles_fit}
use Rattle.span_store.proofs.Views.{view_of, no_child-at, no_child-room, after_refused, add_refused_above, add_refused_full, add_accepted, added_view, no_next}
use Rattle.span_slots.specs.Table.{next_id}
use Rattle.span_store.specs.StoredSpan.{plain_entry, added_span}
use Rattle.span_store.proofs.store.Store.add.Goals as goal

-- the new entry
made : Option ℕ → Bits → ℕ → Entry
made parent bits word = record { parent = parent; bits = bits; word = word; handles = 1; children = 0 }

pub returns-in_err-parent-clause-refused : goal.returns-in_err-parent-clause-refused
returns-in_err-parent-clause-refused c =
    let i = c.self.inside in
    let p = err_from_is_err_and c.from_residual.result c.from_residual.ensures.1 in
    rw (p.1, p.2) (rw (← c.self.view_is) (add_refused_above (view_of i.slots i.max_count) c.args.parent c.args.bits.0 c.args.word c.in_err-parent.field-0.0 (no_child-at i.slots i.max_count c.args.parent c.self.invariant.counted ∙ c.in_err-parent.ensures.refused)))

pub returns-in_err-parent-clause-change : goal.returns-in_err-parent-clause-change
returns-in_err-parent-clause-change c =
    let i = c.self.inside in
    rw (← c.self.view_is) (sym (after_refused (view_of i.slots i.max_count) (Add c.args.parent c.args.bits.0 c.args.word) c.in_err-parent.field-0.0 (add_refused_above (view_of i.slots i.max_count) c.args.parent c.args.bits.0 c.args.word c.in_err-parent.field-0.0 (no_child-at i.slots i.max_count c.args.parent c.self.invariant.counted ∙ c.in_err-parent.ensures.refused))))

pub returns-in_err-id-clause-refused : goal.returns-in_err-id-clause-refused
returns-in_err-id-clause-refused c =
    let i = c.self.inside in
    let p = err_from_is_err_and c.from_residual-in_err-id.result c.from_residual-in_err-id.ensures.1 in
    rw (p.1, p.2) (rw (← c.self.view_is) (add_refused_full (view_of i.slots i.max_count) c.args.parent c.args.bits.0 c.args.word (no_child-room i.slots i.max_count c.args.parent c.self.invariant.counted c.in_ok-parent.ensures.accepted) (no_next (next_id i.slots) c.in_err-id.ensures.full.1) ∙ ap (λ f. Some f) (sym c.in_err-id.ensures.fault)))

pub overflow_add-self : goal.overflow_add-self
overflow_add-self c =
    let i = c.self.inside in
    let fits = handles_fit i.slots i.max_count i.handles c.self.invariant in
    omega arith

pub invariant_of-self-2 : goal.invariant_of-self-2
unfolding made
invariant_of-self-2 c =
    let i = c.self.inside in
    let room : HasRoomAbove i.max_count i.slots.entries c.in_ok-parent.parent = rw c.in_ok-parent.ensures.same c.in_ok-parent.ensures.accepted in
    IsConsistent-added i.slots i.max_count i.handles c.in_ok-id.id (made c.in_ok-parent.parent c.args.bits c.args.word) c.self.invariant c.in_ok-id.ensures.id c.in_ok-id.ensures.vacant refl refl c.place.new.slots room c.in_ok-id.ensures.table c.in_ok-id.ensures.few

pub returns-clause-accepted : goal.returns-clause-accepted
returns-clause-accepted c =
    let i = c.self.inside in
    rw (← c.self.view_is) (add_accepted (view_of i.slots i.max_count) c.args.parent c.args.bits.0 c.args.word c.in_ok-id.id (no_child-room i.slots i.max_count c.args.parent c.self.invariant.counted c.in_ok-parent.ensures.accepted) c.in_ok-id.ensures.id)

pub returns-clause-change : goal.returns-clause-change
unfolding made
returns-clause-change c =
    let i = c.self.inside in
    let room : HasRoomAbove i.max_count i.slots.entries c.in_ok-parent.parent = rw c.in_ok-parent.ensures.same c.in_ok-parent.ensures.accepted in
    let a = added i.slots i.max_count i.handles c.in_ok-id.id (made c.in_ok-parent.parent c.args.bits c.args.word) c.self.invariant c.in_ok-id.ensures.id c.in_ok-id.ensures.vacant refl refl c.place.new.slots room c.in_ok-id.ensures.table in
    let span : plain_entry (made c.in_ok-parent.parent c.args.bits c.args.word) ≡ added_span c.args.parent c.args.bits.0 c.args.word = ap (λ p. added_span p c.args.bits.0 c.args.word) c.in_ok-parent.ensures.same in
    rw (← c.self.view_is) (added_view i.slots c.place.new.slots i.max_count c.args.parent c.args.bits.0 c.args.word c.in_ok-id.id (plain_entry (made c.in_ok-parent.parent c.args.bits c.args.word)) a.table span (add_accepted (view_of i.slots i.max_count) c.args.parent c.args.bits.0 c.args.word c.in_ok-id.id (no_child-room i.slots i.max_count c.args.parent c.self.invariant.counted c.in_ok-parent.ensures.accepted) c.in_ok-id.ensures.id))
