use Rattle.std.proofs.Common.{true, false, rules, ◌≡◌, [], ◌∷◌, ◌++◌, ap, sym, subst, ◌∙◌}
use Rattle.json.specs.Lex.{token, operator_lexeme, comma, begins_colon, between, lex}
use Rattle.json.specs.Token as spec
use Rattle.serde_json.specs.Data.{no_members}
use Rattle.span_json.specs.Seen.{Member, items_view, members_view, view}
use Rattle.span_json.specs.declared.value.Value as the
use Rattle.span_json.specs.inside.Plain.{ItemsLeft, MembersLeft, ReadsItems, ReadsMembers, ReadsValue}
use Rattle.span_json.proofs.PlainLexemes.{null_front, true_front, false_front}
use Rattle.span_json.proofs.PlainSteps.{text_read, number_read, null_read, boolean_read, list_read, object_read}
use Rattle.span_json.proofs.PlainSteps.{no_items_read, items_go_on, items_fewer, items_end}
use Rattle.span_json.proofs.PlainSteps.{no_members_read, members_begin, members_go_on, members_fewer, members_end}
use Rattle.span_json.proofs.plain.+plain.Goals as goal

-- ---- a list

pub read_items-returns-then-takes : goal.read_items-returns-then-takes
read_items-returns-then-takes t c =
    let old = lex between c.args.text.now in
    let inner = lex between c.skip_spaces.new.self in
    let new = lex between c.takes.new.self in
    let begins : old ≡ token spec.begin_array ∷ inner = c.skip_mark.ensures ∙ ap (λ b. operator_lexeme b ∷ lex between c.skip_mark.new.self) c.requires ∙ ap (λ ls. token spec.begin_array ∷ ls) (sym c.skip_spaces.ensures) in
    subst (λ vs. ReadsItems c.args.depth old (items_view vs) new) (sym c.new-items.ensures.items) (no_items_read c.args.depth old inner new begins c.if-takes.ensures)

pub read_items-returns-then-takes-2 : goal.read_items-returns-then-takes-2
read_items-returns-then-takes-2 t c =
    let old = lex between c.args.text.now in
    let inner = lex between c.takes.new.self in
    let mid = lex between c.read_value.new.text in
    let new = lex between c.takes-in-loop-items.new.self in
    let item = c.in_ok-item.item in
    let begins : old ≡ token spec.begin_array ∷ inner =
    c.skip_mark.ensures ∙ ap (λ b. operator_lexeme b ∷ lex between c.skip_mark.new.self) c.requires ∙ ap (λ ls. token spec.begin_array ∷ ls) (sym c.skip_spaces.ensures ∙ ap (lex between) (sym c.if-takes.ensures)) in
    let ends : mid ≡ token spec.end_array ∷ new = sym c.skip_spaces-in-loop-items.ensures ∙ c.if-takes-2.ensures in
    let pushed : c.push.new.self.items ≡ c.loop-items.items.items ++ item ∷ [] = search rules in
    subst (λ vs. ReadsItems c.args.depth old (items_view vs) new) (sym pushed)
    (items_end c.args.depth inner c.loop-items.items.items item (lex between c.loop-items.text) mid new c.loop-items.invariant (c.in_ok-item.ensures (ap begins_colon ends)) old begins ends)

pub read_items-loop-items-smaller : goal.read_items-loop-items-smaller
read_items-loop-items-smaller t c =
    let mid = lex between c.read_value.new.text in
    let new = lex between c.takes-in-loop-items-2.new.self in
    let goes_on : mid ≡ comma ∷ new = sym c.skip_spaces-in-loop-items.ensures ∙ ap (lex between) (sym c.if-takes-2.ensures) ∙ c.if-not-takes.ensures in
    items_fewer c.args.depth (lex between c.takes.new.self) c.loop-items.items.items c.in_ok-item.item (lex between c.loop-items.text) mid new c.loop-items.invariant (c.in_ok-item.ensures (ap begins_colon goes_on)) goes_on

pub read_items-loop-items-preserved : goal.read_items-loop-items-preserved
read_items-loop-items-preserved t c =
    let inner = lex between c.takes.new.self in
    let mid = lex between c.read_value.new.text in
    let new = lex between c.takes-in-loop-items-2.new.self in
    let item = c.in_ok-item.item in
    let goes_on : mid ≡ comma ∷ new = sym c.skip_spaces-in-loop-items.ensures ∙ ap (lex between) (sym c.if-takes-2.ensures) ∙ c.if-not-takes.ensures in
    let pushed : c.push.new.self.items ≡ c.loop-items.items.items ++ item ∷ [] = search rules in
    subst (λ vs. ItemsLeft c.args.depth inner vs new) (sym pushed)
    (items_go_on c.args.depth inner c.loop-items.items.items item (lex between c.loop-items.text) mid new c.loop-items.invariant (c.in_ok-item.ensures (ap begins_colon goes_on)) goes_on)

-- ---- an object

pub read_members-returns-then-takes : goal.read_members-returns-then-takes
read_members-returns-then-takes t c =
    let old = lex between c.args.text.now in
    let inner = lex between c.skip_spaces.new.self in
    let new = lex between c.takes.new.self in
    let begins : old ≡ token spec.begin_object ∷ inner = c.skip_mark.ensures ∙ ap (λ b. operator_lexeme b ∷ lex between c.skip_mark.new.self) c.requires ∙ ap (λ ls. token spec.begin_object ∷ ls) (sym c.skip_spaces.ensures) in
    let none : c.in-Ok.members.items ≡ [] = search rules in
    subst (λ ms. ReadsMembers c.args.depth old (members_view ms no_members) new) (sym none) (no_members_read c.args.depth old inner new begins c.if-takes.ensures)

pub read_members-loop-members-init : goal.read_members-loop-members-init
read_members-loop-members-init t c =
    let inner = lex between c.takes.new.self in
    let none : c.in-Ok.members.items ≡ [] = search rules in
    subst (λ ms. MembersLeft c.args.depth inner ms inner) (sym none) (members_begin c.args.depth inner)

pub read_members-returns-then-takes-2 : goal.read_members-returns-then-takes-2
read_members-returns-then-takes-2 t c =
    let old = lex between c.args.text.now in
    let inner = lex between c.takes.new.self in
    let mid = lex between c.read_member.new.text in
    let new = lex between c.takes-in-loop-members.new.self in
    let member : Member = c.in_ok-member.member in
    let begins : old ≡ token spec.begin_object ∷ inner =
    c.skip_mark.ensures ∙ ap (λ b. operator_lexeme b ∷ lex between c.skip_mark.new.self) c.requires ∙ ap (λ ls. token spec.begin_object ∷ ls) (sym c.skip_spaces.ensures ∙ ap (lex between) (sym c.if-takes.ensures)) in
    let ends : mid ≡ token spec.end_object ∷ new = sym c.skip_spaces-in-loop-members.ensures ∙ c.if-takes-2.ensures in
    let pushed : c.push.new.self.items ≡ c.loop-members.members.items ++ member ∷ [] = search rules in
    subst (λ ms. ReadsMembers c.args.depth old (members_view ms no_members) new) (sym pushed)
    (members_end c.args.depth inner c.loop-members.members.items member (lex between c.loop-members.text) mid new c.loop-members.invariant (c.in_ok-member.ensures (ap begins_colon ends)) old begins ends)

pub read_members-loop-members-smaller : goal.read_members-loop-members-smaller
read_members-loop-members-smaller t c =
    let mid = lex between c.read_member.new.text in
    let new = lex between c.takes-in-loop-members-2.new.self in
    let goes_on : mid ≡ comma ∷ new = sym c.skip_spaces-in-loop-members.ensures ∙ ap (lex between) (sym c.if-takes-2.ensures) ∙ c.if-not-takes.ensures in
    members_fewer c.args.depth (lex between c.takes.new.self) c.loop-members.members.items c.in_ok-member.member (lex between c.loop-members.text) mid new c.loop-members.invariant (c.in_ok-member.ensures (ap begins_colon goes_on)) goes_on

pub read_members-loop-members-preserved : goal.read_members-loop-members-preserved
read_members-loop-members-preserved t c =
    let inner = lex between c.takes.new.self in
    let mid = lex between c.read_member.new.text in
    let new = lex between c.takes-in-loop-members-2.new.self in
    let member : Member = c.in_ok-member.member in
    let goes_on : mid ≡ comma ∷ new = sym c.skip_spaces-in-loop-members.ensures ∙ ap (lex between) (sym c.if-takes-2.ensures) ∙ c.if-not-takes.ensures in
    let pushed : c.push.new.self.items ≡ c.loop-members.members.items ++ member ∷ [] = search rules in
    subst (λ ms. MembersLeft c.args.depth inner ms new) (sym pushed)
    (members_go_on c.args.depth inner c.loop-members.members.items member (lex between c.loop-members.text) mid new c.loop-members.invariant (c.in_ok-member.ensures (ap begins_colon goes_on)) goes_on)

-- ---- a value

pub read_value-returns-in-Some : goal.read_value-returns-in-Some
read_value-returns-in-Some t c = text_read c.args.depth c.in-Some.text _ _ (sym c.skip_spaces.ensures ∙ c.in-Some.ensures)

pub read_value-returns-in_ok-read_items-in-91 :
    goal.read_value-returns-in_ok-read_items-in-91
read_value-returns-in_ok-read_items-in-91 t c = λ _.
    subst (λ ls. ReadsValue c.args.depth ls (view (the.List c.in_ok-read_items-in-91.field-0)) (lex between c.read_items.new.text)) c.skip_spaces.ensures
    (list_read c.args.depth c.in_ok-read_items-in-91.field-0 _ _ (search rules) c.in_ok-read_items-in-91.ensures)

pub read_value-returns-in_ok-read_members-in-123 :
    goal.read_value-returns-in_ok-read_members-in-123
read_value-returns-in_ok-read_members-in-123 t c = λ _.
    subst (λ ls. ReadsValue c.args.depth ls (view (the.Object c.in_ok-read_members-in-123.field-0)) (lex between c.read_members.new.text)) c.skip_spaces.ensures
    (object_read c.args.depth c.in_ok-read_members-in-123.field-0 _ _ (search rules) c.in_ok-read_members-in-123.ensures)

pub read_value-returns-in-Some-read_number :
    goal.read_value-returns-in-Some-read_number
read_value-returns-in-Some-read_number t c = λ _.
    number_read c.args.depth c.in-Some-number.number.now c.in-Some-read_number.number _ _ (sym c.skip_spaces.ensures ∙ c.in-Some-number.ensures) (search rules)

pub read_value-returns-in-110 : goal.read_value-returns-in-110
read_value-returns-in-110 t c = λ _.
    let taken = c.if-takes_literal.ensures in
    null_read c.args.depth _ _ (sym c.skip_spaces.ensures ∙ null_front c.skip_spaces.new.self c.takes_literal.new.self taken.1 taken.0)

pub read_value-returns-in-116 : goal.read_value-returns-in-116
read_value-returns-in-116 t c = λ _.
    let taken = c.if-takes_literal-2.ensures in
    boolean_read c.args.depth true _ _ (sym c.skip_spaces.ensures ∙ true_front c.skip_spaces.new.self _ taken.1 taken.0)

pub read_value-returns-in-102 : goal.read_value-returns-in-102
read_value-returns-in-102 t c = λ _.
    let taken = c.if-takes_literal-3.ensures in
    boolean_read c.args.depth false _ _ (sym c.skip_spaces.ensures ∙ false_front c.skip_spaces.new.self _ taken.1 taken.0)
