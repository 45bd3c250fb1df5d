use Rattle.std.proofs.Common.{rules, ◌≡◌, ◌-◌, ◌+◌, length, ◌∷◌, ◌++◌, [], None, Some, arith, ◌∙◌, sym, ap, length-append}
use Rattle.json.specs.Json.{after_end_array, read_key, parse_map}
use Rattle.json.specs.Token as spec
use Rattle.json.specs.Reads.{token_of}
use Rattle.serde_json.specs.Data.{no_members, array, object}
use Rattle.span_json.specs.Seen.{Member, items_view, members_view}
use Rattle.span_json.specs.inside.Parts.{value_in, items_in, members_in, joined}
use Rattle.span_json.proofs.Begun.{view-List, view-Object, none_begun, number_begun, list_begun, object_begun}
use Rattle.span_json.proofs.Ends.{list_goes_on, no_key, begins_no_value}
use Rattle.span_json.proofs.Loops.{list_ends, list_grows, object_grows, list_fails, object_fails}
use Rattle.span_json.proofs.Turns.{object_wrong}
use Rattle.span_json.proofs.reading.+reading.Goals as goal

-- ---- a list

pub list_items-returns-in-EndArray-clause-ok : goal.list_items-returns-in-EndArray-clause-ok
list_items-returns-in-EndArray-clause-ok t c =
    let ended : c.loop-token.reader ≡ spec.end_array ∷ c.next.new.self = search rules in
    list_ends c.args.depth (length c.args.reader.now - length c.loop-token.items.items) c.loop-token.reader _ _ _ c.loop-token.invariant.so_far (omega (arith, ap length ended)) ended

pub list_items-returns-in_err-item : goal.list_items-returns-in_err-item
list_items-returns-in_err-item t c =
    let taken = c.in-Some.ensures.value in
    record {
      ok = search rules;
      err = λ e.
          list_fails c.args.depth (length c.args.reader.now - length c.loop-token.items.items) c.loop-token.reader _ _ c.loop-token.invariant.so_far
          (ap after_end_array taken ∙ list_goes_on c.in-Some.token c.next.new.self c.in_default-token.not-EndArray)
          (ap (value_in c.args.depth) taken ∙ c.in_err-item.ensures.err (search rules));
      no_longer = omega (arith, ap length taken);
    }

pub list_items-loop-token-preserved : goal.list_items-loop-token-preserved
list_items-loop-token-preserved t c =
    let taken = c.in-Some.ensures.value in
    let pushed : c.push.new.self.items ≡ c.loop-token.items.items ++ c.in_ok-item.item ∷ [] = search rules in
    let left = length c.args.reader.now - length c.loop-token.items.items in
    let longer : length c.push.new.self.items ≡ length c.loop-token.items.items + 1 = ap length pushed ∙ length-append c.loop-token.items.items (c.in_ok-item.item ∷ []) in
    let fewer : left - 1 ≡ length c.args.reader.now - length c.push.new.self.items = omega arith in
    record {
      so_far =
          list_grows c.args.depth left c.loop-token.reader _ c.loop-token.items.items c.in_ok-item.item c.value_from.new.reader c.loop-token.invariant.so_far
          (omega (arith, ap length taken))
          (ap after_end_array taken ∙ list_goes_on c.in-Some.token c.next.new.self c.in_default-token.not-EndArray)
          (ap (value_in c.args.depth) taken ∙ c.in_ok-item.ensures.ok)
          ∙ ap (λ items. parse_map (joined (items_view items)) (items_in c.args.depth (left - 1) c.value_from.new.reader)) (sym pushed)
          ∙ ap (λ n. parse_map (joined (items_view c.push.new.self.items)) (items_in c.args.depth n c.value_from.new.reader)) fewer;
      turns = omega (arith, ap length taken);
    }

pub list_items-returns-clause-err : goal.list_items-returns-clause-err
list_items-returns-clause-err t c =
    let none = c.in_default.ensures.value.0 in
    λ _. list_fails c.args.depth (length c.args.reader.now - length c.loop-token.items.items) c.loop-token.reader _ _ c.loop-token.invariant.so_far
    (ap after_end_array none) (ap (value_in c.args.depth) none ∙ none_begun c.args.depth)

-- ---- an object

pub object_members-loop-token-init : goal.object_members-loop-token-init
object_members-loop-token-init t c =
    let none : c.in-Ok.members.items ≡ [] = search rules in
    let all : length c.args.reader.now ≡ length c.args.reader.now - length c.in-Ok.members.items = omega (arith, ap length none) in
    record {
      so_far =
          ap (λ n. members_in c.args.depth n no_members c.args.reader.now) all
          ∙ ap (λ ms. members_in c.args.depth (length c.args.reader.now - length c.in-Ok.members.items) (members_view ms no_members) c.args.reader.now) (sym none);
      turns = omega (arith, ap length none);
    }

pub object_members-returns-in_default-token : goal.object_members-returns-in_default-token
object_members-returns-in_default-token t c =
    let taken = c.in-Some.ensures.value in
    let left = length c.args.reader.now - length c.loop-token.members.items in
    let found = members_view c.loop-token.members.items no_members in
    record {
      ok = tt;
      err = λ _.
          c.loop-token.invariant.so_far
          ∙ object_wrong c.args.depth left found c.loop-token.reader (ap read_key taken ∙ no_key c.in-Some.token c.next.new.self c.in_default-token.not-EndObject c.in_default-token.not-Key);
      no_longer = omega (arith, ap length taken);
    }

pub object_members-returns-in_default-next-2-clause-err :
    goal.object_members-returns-in_default-next-2-clause-err
object_members-returns-in_default-next-2-clause-err t c =
    let key : c.loop-token.reader ≡ spec.key c.in-Key.key.now ∷ c.next.new.self = search rules in
    let left = length c.args.reader.now - length c.loop-token.members.items in
    let found = members_view c.loop-token.members.items no_members in
    λ _.
    c.loop-token.invariant.so_far
    ∙ ap (members_in c.args.depth left found) key
    ∙ object_fails c.args.depth left found c.in-Key.key.now c.next.new.self (ap (value_in c.args.depth) c.in_default-next-2.ensures.value.0 ∙ none_begun c.args.depth)

pub object_members-returns-in_err-member-clause-err :
    goal.object_members-returns-in_err-member-clause-err
object_members-returns-in_err-member-clause-err t c =
    let key : c.loop-token.reader ≡ spec.key c.in-Key.key.now ∷ c.next.new.self = search rules in
    let left = length c.args.reader.now - length c.loop-token.members.items in
    let found = members_view c.loop-token.members.items no_members in
    λ e.
    c.loop-token.invariant.so_far
    ∙ ap (members_in c.args.depth left found) key
    ∙ object_fails c.args.depth left found c.in-Key.key.now c.next.new.self (ap (value_in c.args.depth) c.in-Some-next.ensures.value ∙ c.in_err-member.ensures.err (search rules))

pub object_members-loop-token-preserved : goal.object_members-loop-token-preserved
object_members-loop-token-preserved t c =
    let key : c.loop-token.reader ≡ spec.key c.in-Key.key.now ∷ c.next.new.self = search rules in
    let taken = c.in-Some-next.ensures.value in
    let member : Member = (c.in-Key.key, c.in_ok-member.member) in
    let pushed : c.push.new.self.items ≡ c.loop-token.members.items ++ member ∷ [] = search rules in
    let left = length c.args.reader.now - length c.loop-token.members.items in
    let longer : length c.push.new.self.items ≡ length c.loop-token.members.items + 1 = ap length pushed ∙ length-append c.loop-token.members.items (member ∷ []) in
    let fewer : left - 1 ≡ length c.args.reader.now - length c.push.new.self.items = omega arith in
    record {
      so_far =
          object_grows c.args.depth left c.loop-token.reader _ c.loop-token.members.items member c.next.new.self c.value_from.new.reader c.loop-token.invariant.so_far
          (omega (arith, ap length key)) key (ap (value_in c.args.depth) taken ∙ c.in_ok-member.ensures.ok)
          ∙ ap (λ ms. members_in c.args.depth (left - 1) (members_view ms no_members) c.value_from.new.reader) (sym pushed)
          ∙ ap (λ n. members_in c.args.depth n (members_view c.push.new.self.items no_members) c.value_from.new.reader) fewer;
      turns = omega (arith, ap length key, ap length taken);
    }

pub value_from-returns-in_err-list_items-in-BeginArray-clause-err :
    goal.value_from-returns-in_err-list_items-in-BeginArray-clause-err
value_from-returns-in_err-list_items-in-BeginArray-clause-err t c = λ e.
    ap (λ token. value_in c.args.depth (token_of token ∷ c.args.reader.now)) c.in-BeginArray.is
    ∙ list_begun c.args.depth c.args.reader.now (search rules)
    ∙ ap (parse_map array) (c.in_err-list_items-in-BeginArray.ensures.err (search rules))

pub value_from-returns-in_err-object_members-in-BeginObject-clause-err :
    goal.value_from-returns-in_err-object_members-in-BeginObject-clause-err
value_from-returns-in_err-object_members-in-BeginObject-clause-err t c = λ e.
    ap (λ token. value_in c.args.depth (token_of token ∷ c.args.reader.now)) c.in-BeginObject.is
    ∙ object_begun c.args.depth c.args.reader.now (search rules)
    ∙ ap (parse_map object) (c.in_err-object_members-in-BeginObject.ensures.err (search rules))

pub value_from-returns-in-Some-clause-ok : goal.value_from-returns-in-Some-clause-ok
value_from-returns-in-Some-clause-ok t c =
    ap (λ token. value_in c.args.depth (token_of token ∷ c.args.reader.now)) c.in-Number.is
    ∙ number_begun c.args.depth c.args.reader.now c.in-Number.text.now (Some c.in-Some.number) (search rules)

pub value_from-returns-in-None-clause-err : goal.value_from-returns-in-None-clause-err
value_from-returns-in-None-clause-err t c = λ _.
    ap (λ token. value_in c.args.depth (token_of token ∷ c.args.reader.now)) c.in-Number.is
    ∙ number_begun c.args.depth c.args.reader.now c.in-Number.text.now None (search rules)

pub value_from-returns-in_ok-list_items-in-BeginArray-clause-ok :
    goal.value_from-returns-in_ok-list_items-in-BeginArray-clause-ok
value_from-returns-in_ok-list_items-in-BeginArray-clause-ok t c =
    let v = c.in_ok-list_items-in-BeginArray.field-0 in
    ap (λ token. value_in c.args.depth (token_of token ∷ c.args.reader.now)) c.in-BeginArray.is
    ∙ list_begun c.args.depth c.args.reader.now (search rules)
    ∙ ap (parse_map array) c.in_ok-list_items-in-BeginArray.ensures.ok
    ∙ ap (λ d. Some (d, c.list_items.new.reader)) (sym (view-List v))

pub value_from-returns-in_ok-object_members-in-BeginObject-clause-ok :
    goal.value_from-returns-in_ok-object_members-in-BeginObject-clause-ok
value_from-returns-in_ok-object_members-in-BeginObject-clause-ok t c =
    let v = c.in_ok-object_members-in-BeginObject.field-0 in
    ap (λ token. value_in c.args.depth (token_of token ∷ c.args.reader.now)) c.in-BeginObject.is
    ∙ object_begun c.args.depth c.args.reader.now (search rules)
    ∙ ap (parse_map object) c.in_ok-object_members-in-BeginObject.ensures.ok
    ∙ ap (λ d. Some (d, c.object_members.new.reader)) (sym (view-Object v))

pub value_from-returns-in-EndArray-clause-err : goal.value_from-returns-in-EndArray-clause-err
value_from-returns-in-EndArray-clause-err t c = λ _. begins_no_value c.args.depth c.args.token c.args.reader.now c.in-EndArray.is
