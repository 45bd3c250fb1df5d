use Rattle.std.proofs.Common.{refl, arith}
use Rattle.std.proofs.lemmas.List.{length-map, length-append, map-append}
use Rattle.span_layers.specs.Filter.{filter_of}
use Rattle.span_layers.proofs.layers.Layers.add_fitting.Goals as goal

pub push_filter-requires-clause-few : goal.push_filter-requires-clause-few
push_filter-requires-clause-few g c =
    let rows = c.self.inside.0.0.0.0.filters.items in
    let views = length-map rows (λ f. filter_of f.rule f.spans) in
    let room = rw (← c.self.view_is) at c.requires in
    rw c.reserve-reserved.ensures.filters (omega (arith, room, views))

pub push_filter-requires-clause-wanted : goal.push_filter-requires-clause-wanted
push_filter-requires-clause-wanted g c = rw c.reserve-reserved.ensures.filters c.self.invariant.0.1

pub invariant_of-self-2 : goal.invariant_of-self-2
invariant_of-self-2 g c =
    let rows = c.self.inside.0.0.0.0.filters.items in
    let views = length-map rows (λ f. filter_of f.rule f.spans) in
    let room = rw (← c.self.view_is) at c.requires in
    ((rw (c.push_filter.ensures.filters, c.reserve-reserved.ensures.filters, length-append) (omega (arith, room, views)), c.push_filter.ensures.wanted), tt)

pub returns-clause-filters : goal.returns-clause-filters
returns-clause-filters g c = rw (← c.self.view_is, c.push_filter.ensures.filters, c.reserve-reserved.ensures.filters, map-append) refl
