use Rattle.std.proofs.Common.{◌≡◌, ◌≢◌, ◌<◌, ◌+◌, ◌≤◌, ◌∙◌, ℕ, Bool, true, false, IsTrue, List, length, take, get_or, ap, subst}
use Rattle.std.specs.Prelude.{◌↔◌}
use Rattle.std.proofs.lemmas.List.{take_all}
use Rattle.std.proofs.lemmas.List.Elements.{All-more}
use Rattle.span_id.specs.Meta.{PlainMeta, plain_meta}
use Rattle.span_ffi.specs.CallsiteOf.{LacksMeta}
use Rattle.span_ffi.proofs.callsites.Callsites.first_like.Goals as goal

-- where the next one isn't the meta either, none up to it is
none_more : (callsites : List PlainMeta) (at : ℕ) (meta other shown : PlainMeta) (same : Bool) → at < length callsites
    → other ≡ get_or callsites at other → shown ≡ other → (IsTrue same ↔ (shown ≡ meta)) → same ≡ false
    → LacksMeta meta (take at callsites) → LacksMeta meta (take (at + 1) callsites)
none_more callsites at meta other shown same is_there is shown_is both differs before =
    All-more (λ (that : PlainMeta). that ≢ meta) callsites at other is_there before
    (λ here. let same_as : same ≡ true = both.1 (shown_is ∙ is ∙ here) in cc)

pub loop-number-preserved : goal.loop-number-preserved
loop-number-preserved c =
    let all : c.deref-other-items.result.now ≡ c.args.self.now = c.deref-other-items.ensures.value ∙ c.self.view_is in
    let is_there = subst (λ (list : List PlainMeta). c.loop-number.number < length list) all c.loop-number-test.true in
    let is = c.other-item.is ∙ ap (λ (list : List PlainMeta). get_or list c.loop-number.number c.other-item.result) all in
    none_more c.args.self.now c.loop-number.number (plain_meta c.args.meta.now) c.other-item.result
    (plain_meta c.as_meta.result.now) c.is_same.result is_there is c.as_meta.ensures c.is_same.ensures c.if-is_same.false
    c.loop-number.invariant

pub returns-clause-none : goal.returns-clause-none
returns-clause-none c =
    let all : c.deref-other-items.result.now ≡ c.args.self.now = c.deref-other-items.ensures.value ∙ c.self.view_is in
    let past = subst (λ (list : List PlainMeta). length list ≤ c.loop-number.number) all c.loop-number-test.false in
    subst (LacksMeta (plain_meta c.args.meta.now)) (take_all c.loop-number.number c.args.self.now past)
    c.loop-number.invariant
