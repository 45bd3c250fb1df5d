use Rattle.std.proofs.Common.{◌≡◌, ℕ, ◌<◌, ◌≤◌, List, [], length, map, Bool, true, false, eqb, Some, None, IsSome, ltb, refl, sym, ap, subst, ◌∙◌, rules, arith}
use Rattle.std.specs.Prelude.{reverse}
use Rattle.std.proofs.lemmas.Bool.{le-ltb}
use Rattle.std.proofs.lemmas.Bool.Decides.{nat_tests}
use Rattle.std.proofs.lemmas.List.{length-map, nil_from_length}
use Rattle.span_slots.specs.Table.{Table, next_slot, next_id, next_slot_of, table_inserted}
use Rattle.span_slots.specs.Change.{inserted_in}
use Rattle.span_slots.proofs.Slots.insert.Goals as goal

-- where no slot was freed and each was used, there is no next slot
no_slot : (slots used : ℕ) (freed : List ℕ) → freed ≡ [] → slots ≤ used → next_slot_of slots used (reverse freed) ≡ None
no_slot slots used freed none full =
    let test : ltb used slots ≡ false = le-ltb used slots full in
    rw (none, test) refl

none_there : (items : List ℕ) (count : ℕ) (test : Bool) → count ≡ length items → test ≡ eqb count 0 → test ≡ true → items ≡ []
none_there items count test same is empty =
    let zero : eqb count 0 ≡ true = sym is ∙ empty in
    let none : count ≡ 0 = grind (arith, nat_tests) in
    nil_from_length items (sym same ∙ none)

module _ {T : Type 0} (t : Table T) where
  -- the next slot is taken by the call
  inserted : (new : Table T) (value : T) (slot : ℕ) → next_slot t ≡ Some slot → new ≡ table_inserted t slot value → new ≡ inserted_in t value (next_slot t)
  inserted new value slot is stored = rw is stored

  accepted : (id : ℕ) → next_id t ≡ Some id → (true ≡ true → IsSome (next_id t)) × (IsSome (next_id t) → true ≡ true)
  accepted id is = (λ _. subst IsSome (sym is) refl, λ _. refl)

  -- there is no next slot
  refused : next_slot t ≡ None → (false ≡ true → IsSome (next_id t)) × (IsSome (next_id t) → false ≡ true)
  refused none = rw none (search rules)

  kept : (value : T) → next_slot t ≡ None → t ≡ inserted_in t value (next_slot t)
  kept value none = rw none refl

pub returns-then-not-is_empty : goal.returns-then-not-is_empty
returns-then-not-is_empty g c =
    let old = c.args.self.now in
    let told = c.reuse.ensures in
    record {
      full = accepted old c.reuse.result told.id;
      id = told.id;
      vacant = told.vacant;
      table = told.table;
      change = inserted old c.reuse.new.self c.args.value _ told.slot told.table;
      unchanged = tt;
      value_returned = tt;
      fault = tt;
    }

pub returns-then-len-self : goal.returns-then-len-self
returns-then-len-self g c =
    let old = c.args.self.now in
    let told = c.fresh.ensures in
    record {
      full = accepted old c.fresh.result told.id;
      id = told.id;
      vacant = told.vacant;
      table = told.table;
      change = inserted old c.fresh.new.self c.args.value _ told.slot told.table;
      unchanged = tt;
      value_returned = tt;
      fault = tt;
    }

pub returns : goal.returns
returns g c =
    let i = c.self.inside in
    let old = c.args.self.now in
    let used = length-map i.cells.items (λ cell. cell.given) in
    let none = none_there i.freed.items _ _ i.freed.ok.0 c.is_empty.ensures c.if-not-is_empty.false in
    let slot = no_slot i.slots (length (map (λ cell. cell.given) i.cells.items)) i.freed.items none (omega (arith, i.cells.ok.0, c.len.ensures, used, c.if-len-self.false)) in
    let no_next = subst (λ t. next_slot t ≡ None) c.self.view_is slot in
    record {
      full = refused old no_next;
      id = tt;
      vacant = tt;
      table = tt;
      change = kept old c.args.value no_next;
      unchanged = refl;
      value_returned = refl;
      fault = refl;
    }

pub fresh-requires : goal.fresh-requires
fresh-requires g c =
    let i = c.self.inside in
    let used = length-map i.cells.items (λ cell. cell.given) in
    let none = none_there i.freed.items _ _ i.freed.ok.0 c.is_empty.ensures c.if-not-is_empty.false in
    record {
      none_freed = subst (λ t. t.freed ≡ []) c.self.view_is (ap reverse none);
      room = subst (λ t. length t.given < t.slots) c.self.view_is (omega (arith, i.cells.ok.0, c.len.ensures, used, c.if-len-self.true));
    }
