-- A front of a text that went out, piece after piece.
use Rattle.std.proofs.Common.{ℕ, List, [], ◌++◌, refl, ap, sym, ◌∙◌, append_assoc, Option}
use Rattle.std.specs.Io.KnownBytes.{Appends, Keeps}
use Rattle.std.proofs.KnownBytes.{Appends-nil, Appends-trans, Appends-kept}
use Rattle.span_run.specs.Device.{AppendsFront}

-- the bytes that went out, where they are known
abbrev pub Known : Type 0
Known = Option (List ℕ)

pub front_none : (a b : Known) (text : List ℕ) → Keeps a b → AppendsFront a b text
front_none a b text k = record { front = []; rest = text; whole = refl; taken = Appends-kept a a b [] (Appends-nil a) k }

pub front_after : (a b c : Known) (text more : List ℕ) → Appends a b text → AppendsFront b c more → AppendsFront a c (text ++ more)
front_after a b c text more p q = record {
  front = text ++ q.front;
  rest = q.rest;
  whole = ap (λ x. text ++ x) q.whole ∙ sym (append_assoc text q.front q.rest);
  taken = Appends-trans a b c text q.front p q.taken;
}

pub front_more : (a b : Known) (text more : List ℕ) → AppendsFront a b text → AppendsFront a b (text ++ more)
front_more a b text more p = record {
  front = p.front;
  rest = p.rest ++ more;
  whole = ap (λ x. x ++ more) p.whole ∙ append_assoc p.front p.rest more;
  taken = p.taken;
}
