use Rattle.std.proofs.Common.{◌≡◌, ◌≤◌, ◌<◌, ◌∙◌, List, ap, sym, subst, arith, length, take_all}
use Rattle.std.proofs.lemmas.List.{length-map}
use Rattle.span_layers.specs.declared.filters.Filter as declared
use Rattle.span_layers.specs.Filter.{Filter, filter_of}
use Rattle.span_layers.specs.MaxLevel.{levels_named, IsMostVerbose}
use Rattle.span_layers.proofs.MaxLevel.{most_more_layers, admitted_at_most}
use Rattle.span_layers.proofs.filters.Rules.max_level.Goals as goal

abbrev view : declared.Filter → Filter
view f = filter_of f.rule f.spans

pub loop-filter-preserved : goal.loop-filter-preserved
loop-filter-preserved c =
    let filters = c.self.inside.filters.items in
    let k = c.loop-filter.filter-index in
    let x = c.filter-item.result in
    let within : k < length filters = omega (arith, c.loop-filter-test.true, ap length c.deref-filter-items.ensures.value) in
    let is = rw c.deref-filter-items.ensures.value at c.filter-item.is in
    let so_far = rw (sym c.self.view_is) at c.loop-filter.invariant in
    rw (sym c.self.view_is, c.more_verbose-most.ensures) (most_more_layers view filters k x c.loop-filter.most c.max_level.result within is so_far c.max_level.ensures)

pub returns-clause-named : goal.returns-clause-named
returns-clause-named c =
    let filters = c.args.self.now in
    let size : length filters ≡ length c.self.inside.filters.items = sym (ap length c.self.view_is) ∙ length-map c.self.inside.filters.items view in
    let past : length filters ≤ c.loop-filter.filter-index = omega (arith, c.loop-filter-test.false, ap length c.deref-filter-items.ensures.value) in
    subst (λ (fs : List Filter). IsMostVerbose (levels_named fs) c.loop-filter.most) (take_all c.loop-filter.filter-index filters past) c.loop-filter.invariant

pub returns-clause-admitted : goal.returns-clause-admitted
returns-clause-admitted c =
    let filters = c.args.self.now in
    let size : length filters ≡ length c.self.inside.filters.items = sym (ap length c.self.view_is) ∙ length-map c.self.inside.filters.items view in
    let past : length filters ≤ c.loop-filter.filter-index = omega (arith, c.loop-filter-test.false, ap length c.deref-filter-items.ensures.value) in
    let whole = subst (λ (fs : List Filter). IsMostVerbose (levels_named fs) c.loop-filter.most) (take_all c.loop-filter.filter-index filters past) c.loop-filter.invariant in
    admitted_at_most filters c.loop-filter.most whole
