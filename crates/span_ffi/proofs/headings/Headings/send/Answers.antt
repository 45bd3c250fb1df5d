use Rattle.std.proofs.Common.{ℕ, List, [], Vec, Global, refl, sym, subst, ◌∙◌, ap}
use Rattle.span_ffi.specs.Headings.{HeadingsView, SendsHeading, SendsOrLoses}
use Rattle.span_ffi.specs.declared.headings.Heading.{Heading}
use Rattle.span_ffi.specs.contracts.headings.Headings.{the_view}
use Rattle.span_ffi.proofs.headings.Headings.send.Goals as goal

-- the heading is the one that is pushed
pub returns : goal.returns
returns c =
    let heading : Heading = record {
      batch = c.args.batch;
      stamp = c.self.inside.stamp;
      callsite = c.args.callsite;
      kinds = c.replace-kinds.result;
      about = c.in-Some.about;
    } in
    subst (λ about. SendsHeading c.args.batch c.args.callsite about c.args.self.now c.push.new.self) (sym c.in-Some.is) (
      heading,
      record {
        same_batch = refl;
        same_stamp = ap (λ (view : HeadingsView). view.stamp) c.self.view_is;
        same_callsite = refl;
        same_kinds = ap (λ (kinds : Vec ℕ Global). kinds.items) c.replace-kinds.ensures.value
            ∙ ap (λ (view : HeadingsView). view.kinds) c.self.view_is;
        same_about = refl;
      },
      subst (λ old. SendsOrLoses heading (record old { kinds = [] }) c.push.new.self) c.self.view_is
          (subst (λ (kinds : List ℕ). SendsOrLoses heading (record (the_view c.self.inside) { kinds = kinds }) c.push.new.self)
          (ap (λ (kinds : Vec ℕ Global). kinds.items) c.replace-kinds.ensures.after ∙ c.new.ensures.items) c.push.ensures),
    )
