-- The calls of the tidying, one after another.
use Rattle.std.proofs.Common.{◌≡◌, ℕ, zero, suc, ◌+◌, ◌-◌, ◌<◌, ◌≤◌, List, [], ◌∷◌, ◌++◌, refl, ap, sym, ◌∙◌, subst, append_assoc, append-nil, arith, Result}
use Rattle.std.proofs.Common.{length, map, drop, get_or, reverse, replicate, drop_of_length-le}
use Rattle.std.specs.Prelude.{IfErr, OnOk, ⊤}
use Rattle.std.proofs.lemmas.List.{drop_more}
use Rattle.std.specs.Io.KnownBytes.{Appends}
use Rattle.span_forest.specs.declared.span.Holder.TheVariants.{Handle}
use Rattle.span_forest.specs.Holders.{held_in}
use Rattle.span_forest.specs.Spans.{find}
use Rattle.span_core.specs.World.{stack_of}
use Rattle.span_script.specs.declared.operations.SpanCall.TheVariants.{Close, Exit}
use Rattle.span_replay.specs.Requests.{request_of_call}
use Rattle.std.specs.List.{range_with_len}
use Rattle.std.proofs.KnownBytes.{Appends-nil, Appends-trans}
use Rattle.span_core.specs.Core.{CoreView}
use Rattle.span_outlet.specs.Request as call
use Rattle.span_run.specs.Device.{AppendsFront}
use Rattle.span_replay.specs.inside.Turns.{AreMade, ArePartlyMade, TextFails}
use Rattle.span_replay.specs.Written.{Written, written_after, call_written, calls_written, each_written, exits, closes}
use Rattle.span_replay.specs.declared.run.fault.ReplayFault.{ReplayFault}
use Rattle.span_replay.specs.declared.run.fault.ReplayFault.TheVariants.{Script, Memory, Read, Write}
use Rattle.span_run.proofs.Fronts.{Known, front_after, front_more}

pub part_none : (a : Known) (w : Written) → ArePartlyMade a a w w
part_none a w = record { text = []; taken = Appends-nil a; is = refl }

pub part_more : (a b c : Known) (whole more rest : Written) (text : List ℕ) → ArePartlyMade a b whole more → more ≡ written_after text rest → Appends b c text → ArePartlyMade a c whole rest
part_more a b c whole more rest text s e p = record {
  text = s.text ++ text;
  taken = Appends-trans a b c s.text text s.taken p;
  is = s.is ∙ ap (written_after s.text) e ∙ ap (λ x. record { text = x; core = rest.core }) (sym (append_assoc s.text text rest.text));
}

part_front : (a b c : Known) (whole more : Written) → ArePartlyMade a b whole more → AppendsFront b c more.text → AppendsFront a c whole.text
part_front a b c whole more s p = subst (AppendsFront a c) (sym (ap (λ w. w.text) s.is)) (front_after a b c s.text more.text s.taken p)

pub part_fails : (a b c : Known) (whole more : Written) (e : ReplayFault) → ArePartlyMade a b whole more → TextFails more.text b c e → TextFails whole.text a c e
part_fails a b c whole more (Script line reason) s p = p
part_fails a b c whole more Memory s p = part_front a b c whole more s p
part_fails a b c whole more Read s p = part_front a b c whole more s p
part_fails a b c whole more Write s p = part_front a b c whole more s p

first_fails : (b c : Known) (text more : List ℕ) (e : ReplayFault) → TextFails text b c e → TextFails (text ++ more) b c e
first_fails b c text more (Script line reason) p = p
first_fails b c text more Memory p = front_more b c text more p
first_fails b c text more Read p = front_more b c text more p
first_fails b c text more Write p = front_more b c text more p

pub part_ends : (a b : Known) (whole : Written) (core : CoreView) → ArePartlyMade a b whole (record { text = []; core = core }) → AreMade whole core a b
part_ends a b whole core s = record {
  core_is = sym (ap (λ w. w.core) s.is);
  taken = subst (Appends a b) (sym (ap (λ w. w.text) s.is ∙ append-nil s.text)) s.taken;
}

-- ---- one call more

call_more : (core : CoreView) (request : call.Request) (requests : List call.Request) → calls_written core (request ∷ requests) ≡ written_after (call_written core request).text (calls_written (call_written core request).core requests)
unfolding calls_written
call_more core request requests = refl

calls_none : (core : CoreView) → calls_written core [] ≡ record { text = []; core = core }
unfolding calls_written
calls_none core = refl

pub one_made : (a b c : Known) (whole : Written) (core new : CoreView) (all more : List call.Request) (request : call.Request) → ArePartlyMade a b whole (calls_written core all) → all ≡ request ∷ more
    → AreMade (call_written core request) new b c → ArePartlyMade a c whole (calls_written new more)
one_made a b c whole core new all more request s e p =
    part_more a b c whole _ _ (call_written core request).text s
    (ap (calls_written core) e ∙ call_more core request more ∙ ap (λ k. written_after (call_written core request).text (calls_written k more)) (sym p.core_is)) p.taken

pub one_fails : (a b c : Known) (whole : Written) (core : CoreView) (all more : List call.Request) (request : call.Request) (e : ReplayFault) → ArePartlyMade a b whole (calls_written core all) → all ≡ request ∷ more
    → TextFails (call_written core request).text b c e → TextFails whole.text a c e
one_fails a b c whole core all more request e s is p =
    part_fails a b c whole _ e s (subst (λ w. TextFails w.text b c e) (sym (ap (calls_written core) is ∙ call_more core request more)) (first_fails b c _ _ e p))

pub none_left : (a b : Known) (whole : Written) (core : CoreView) (all : List call.Request) → ArePartlyMade a b whole (calls_written core all) → all ≡ [] → AreMade whole core a b
none_left a b whole core all s e = part_ends a b whole core (subst (ArePartlyMade a b whole) (ap (calls_written core) e ∙ calls_none core) s)

-- the call on the next of some ids, and none after the last
pub next_call : (make : ℕ → call.Request) (i id : ℕ) (ids : List ℕ) → i < length ids → id ≡ get_or ids i id → map make (drop i ids) ≡ make id ∷ map make (drop (i + 1) ids)
next_call make i id ids h e = ap (map make) (drop_more ids i id h) ∙ ap (λ x. make x ∷ map make (drop (i + 1) ids)) (sym e)

pub no_call : (make : ℕ → call.Request) (i : ℕ) (ids : List ℕ) → length ids ≤ i → map make (drop i ids) ≡ []
no_call make i ids h = ap (map make) (drop_of_length-le ids h)

-- ---- one number more

each_more : (calls : CoreView → ℕ → List call.Request) (core : CoreView) (n : ℕ) (ns : List ℕ) → each_written calls core (n ∷ ns)
    ≡ written_after (calls_written core (calls core n)).text (each_written calls (calls_written core (calls core n)).core ns)
unfolding each_written
each_more calls core n ns = refl

each_none : (calls : CoreView → ℕ → List call.Request) (core : CoreView) → each_written calls core [] ≡ record { text = []; core = core }
unfolding each_written
each_none calls core = refl

pub each_made : (calls : CoreView → ℕ → List call.Request) (a b c : Known) (whole : Written) (core new : CoreView) (all more : List ℕ) (n : ℕ) → ArePartlyMade a b whole (each_written calls core all) → all ≡ n ∷ more
    → AreMade (calls_written core (calls core n)) new b c → ArePartlyMade a c whole (each_written calls new more)
each_made calls a b c whole core new all more n s e p =
    part_more a b c whole _ _ (calls_written core (calls core n)).text s
    (ap (each_written calls core) e ∙ each_more calls core n more ∙ ap (λ k. written_after (calls_written core (calls core n)).text (each_written calls k more)) (sym p.core_is)) p.taken

pub each_fails : (calls : CoreView → ℕ → List call.Request) (a b c : Known) (whole : Written) (core : CoreView) (all more : List ℕ) (n : ℕ) (e : ReplayFault) → ArePartlyMade a b whole (each_written calls core all) → all ≡ n ∷ more
    → TextFails (calls_written core (calls core n)).text b c e → TextFails whole.text a c e
each_fails calls a b c whole core all more n e s is p =
    part_fails a b c whole _ e s (subst (λ w. TextFails w.text b c e) (sym (ap (each_written calls core) is ∙ each_more calls core n more)) (first_fails b c _ _ e p))

pub each_ends : (calls : CoreView → ℕ → List call.Request) (a b : Known) (whole : Written) (core : CoreView) (all : List ℕ) → ArePartlyMade a b whole (each_written calls core all) → all ≡ [] → AreMade whole core a b
each_ends calls a b whole core all s e = part_ends a b whole core (subst (ArePartlyMade a b whole) (ap (each_written calls core) e ∙ each_none calls core) s)

-- ---- workers

pub one_worker : (i n : ℕ) → i < n → range_with_len i (n - i) ≡ i ∷ range_with_len (i + 1) (n - (i + 1))
one_worker i n h = let left : n - i ≡ suc (n - (i + 1)) = omega (arith, h) in rw left refl

pub no_worker : (i n : ℕ) → n ≤ i → range_with_len i (n - i) ≡ []
no_worker i n h = let left : n - i ≡ zero = omega (arith, h) in rw left refl

-- ---- what the entries and the handles of a span come to

pub exits_made : (core : CoreView) (worker : ℕ) (ids : List ℕ) → ids ≡ reverse (stack_of core.world worker) → map (request_of_call Exit worker) ids ≡ exits core worker
exits_made core worker ids is = ap (map (call.exit worker)) is

map_same : (make : ℕ → call.Request) (n id : ℕ) → map make (replicate n id) ≡ replicate n (make id)
map_same make zero id = refl
map_same make (suc n) id = ap (λ rest. make id ∷ rest) (map_same make n id)

pub closes_made : (core : CoreView) (id : ℕ) (ids : List ℕ) → ids ≡ replicate (held_in Handle (find core.world.spans id)) id → map (request_of_call Close 0) ids ≡ closes core id
closes_made core id ids is = ap (map (call.try_close 0)) is ∙ map_same (call.try_close 0) _ id

-- calls that come to those that are meant
pub all_made_as : (result : Result ⊤ ReplayFault) (core new : CoreView) (requests meant : List call.Request) (a b : Known) → requests ≡ meant
    → OnOk result (AreMade (calls_written core requests) new a b) → OnOk result (AreMade (calls_written core meant) new a b)
all_made_as result core new requests meant a b is p = subst (λ rs. OnOk result (AreMade (calls_written core rs) new a b)) is p

pub all_fail_as : (result : Result ⊤ ReplayFault) (core : CoreView) (requests meant : List call.Request) (a b : Known) → requests ≡ meant
    → IfErr result (TextFails (calls_written core requests).text a b) → IfErr result (TextFails (calls_written core meant).text a b)
all_fail_as result core requests meant a b is p = subst (λ rs. IfErr result (TextFails (calls_written core rs).text a b)) is p

-- ---- a call's text and the buffer

-- the buffer was cleared before the call
pub call_text : (cleared text shown added : List ℕ) → cleared ≡ [] → text ≡ cleared ++ added → shown ≡ text → shown ≡ added
call_text cleared text shown added none is same = same ∙ is ∙ ap (λ x. x ++ added) none
