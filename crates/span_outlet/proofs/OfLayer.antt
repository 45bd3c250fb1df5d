-- What a search for the next line of a layer finds.
use Rattle.std.proofs.Common.{◌≡◌, ℕ, ◌≤◌, Bool, true, false, cond, List, [], ◌∷◌, length, refl, sym, ap, subst, ◌∙◌, arith, map, Option, Some, None, Bor, Iter, IfSome}
use Rattle.std.specs.Prelude.{◌==◌}
use denote.Param.Members.{Mut}
use Rattle.std.specs.Fn.{CalledAt}
use Rattle.std.specs.List.{FoldsTo}
use Rattle.std.specs.Iterator.{Yields, YieldsThen, YieldsFirstRef, MakesProgress, item_count}
use Rattle.std.specs.Slice.Iter.{iter_rest, iter_steps}
use Rattle.std.proofs.lemmas.List.{nil_from_length}
use Rattle.span_outlet.specs.declared.line.Line.{Line}
use Rattle.span_outlet.specs.Lines.{PlainLine, plain_line, lines_of_layer}
use Rattle.span_outlet.specs.inside.OfLayer.{of_layer}

-- the lines of a layer, as contracts see them
chosen : (is : Bool) (line : Line) (ls : List Line) (ks : List PlainLine) → map plain_line ls ≡ ks → map plain_line (cond is (line ∷ ls) ls) ≡ cond is (plain_line line ∷ ks) ks
chosen true line ls ks rest = ap (λ l. plain_line line ∷ l) rest
chosen false line ls ks rest = rest

pub plain_of_layer : (layer : ℕ) (lines : List Line) → map plain_line (of_layer layer lines) ≡ lines_of_layer layer (map plain_line lines)
plain_of_layer layer [] = refl
plain_of_layer layer (line ∷ lines) = chosen (line.layer == layer) line (of_layer layer lines) (lines_of_layer layer (map plain_line lines)) (plain_of_layer layer lines)

-- they are no more than there are lines
fewer : (is : Bool) (line : Line) (ls lines : List Line) → length ls ≤ length lines → length (cond is (line ∷ ls) ls) ≤ length (line ∷ lines)
fewer true line ls lines rest = omega (arith, rest)
fewer false line ls lines rest = omega (arith, rest)

pub no_more : (layer : ℕ) (lines : List Line) → length (of_layer layer lines) ≤ length lines
no_more layer [] = omega arith
no_more layer (line ∷ lines) = fewer (line.layer == layer) line (of_layer layer lines) lines (no_more layer lines)

-- lines that calls of `next` passed over are none of the layer's, if each call of the closure answered so and left it as
-- it was
passed_over : {F : Type 0} (R : F → Bor Line → F → Type 0) (f : F) (layer : ℕ) → ((x : Bor Line) (g : F) → R f x g → (g ≡ f) × ((x.now.layer == layer) ≡ false))
    → (xs : List (Bor Line)) (s t : Iter Line) (g : F) → Yields iter_steps s xs t → FoldsTo R f xs g
    → (g ≡ f) × (of_layer layer (iter_rest s) ≡ of_layer layer (iter_rest t))
passed_over R f layer other [] s t g calls turns = (sym turns, ap (λ i. of_layer layer (iter_rest i)) calls)
passed_over R f layer other (x ∷ xs) s t g calls turns =
    let turn = other x turns.0 turns.1 in
    let later = passed_over R f layer other xs calls.0 t g calls.2 (subst (λ h. FoldsTo R h xs g) turn.0 turns.2) in
    (later.0, ap (of_layer layer) calls.1 ∙ ap (λ is. cond is (x.now ∷ of_layer layer (iter_rest calls.0)) (of_layer layer (iter_rest calls.0))) turn.1 ∙ later.1)

-- so what they stopped at is the layer's next
next_of_layer : (layer : ℕ) (s t u : Iter Line) (r : Option (Bor Line)) → of_layer layer (iter_rest s) ≡ of_layer layer (iter_rest t)
    → iter_steps t r u → IfSome r (λ x. (x.now.layer == layer) ≡ true)
    → YieldsFirstRef (λ rest. rest) (of_layer layer (iter_rest s)) r (of_layer layer (iter_rest u))
next_of_layer layer s t u None passed call stops =
    let none : of_layer layer (iter_rest t) ≡ [] = ap (of_layer layer) (nil_from_length (iter_rest t) call.0) in
    (passed ∙ none, ap (λ i. of_layer layer (iter_rest i)) call.1 ∙ none)
next_of_layer layer s t u (Some x) passed call stops =
    passed ∙ ap (of_layer layer) call ∙ ap (λ is. cond is (x.now ∷ of_layer layer (iter_rest u)) (of_layer layer (iter_rest u))) stops

-- what `find` finds, where its closure asks for the layer
pub found_of_layer : {F : Type 0} {G : Mut F (Bor (Bor Line) × Unit {0}) Bool} (layer : ℕ) (s u : Iter Line) (f : F) (r : Option (Bor Line))
    → ((x : Bor Line) (b : Bool) (g : F) → CalledAt G f x b g → (g ≡ f) × (b ≡ (x.now.layer == layer)))
    → (xs : List (Bor Line)) × (g : F) × YieldsThen iter_steps s xs r u × FoldsTo (λ p x q. CalledAt G p x false q) f xs g × IfSome r (λ x. (h : F) × CalledAt G g x true h)
    → YieldsFirstRef (λ rest. rest) (of_layer layer (iter_rest s)) r (of_layer layer (iter_rest u))
found_of_layer {F} {G} layer s u f r asks ran =
    let passed = passed_over (λ p x q. CalledAt G p x false q) f layer (λ x g turn. let said = asks x false g turn in (said.0, sym said.1)) ran.0 s ran.2.0 ran.1 ran.2.1 ran.3 in
    next_of_layer layer s ran.2.0 u r passed.1 ran.2.2 (stopped r passed.0 ran.4)
  where
    stopped : (o : Option (Bor Line)) {g : F} → g ≡ f → IfSome o (λ x. (h : F) × CalledAt G g x true h) → IfSome o (λ x. (x.now.layer == layer) ≡ true)
    stopped None same stop = stop
    stopped (Some x) same stop = sym (asks x true stop.0 (subst (λ p. CalledAt G p x true stop.0) same stop.1)).1

-- a line is one less that is left
pub one_less : (old new : List Line) (r : Option (Bor Line)) → YieldsFirstRef (λ rest. rest) old r new → MakesProgress (λ _. Unit {0}) (item_count {A = Line} (λ rest. rest)) old r new
one_less old new None step = record { on = λ _. tt; keeps = tt; rests = λ _. tt }
one_less old new (Some line) step = record { on = λ _. (tt, tt, omega (arith, ap length step)); keeps = tt; rests = λ _. tt }
