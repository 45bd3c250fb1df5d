-- Worked cases of the definitions.
use Rattle.std.proofs.Common.{◌≡◌, List, ℕ, [], ◌∷◌, codes, true, false, refl, Ok, Err}
use Rattle.serde_json.specs.Data.{Data, Members, null, number, unsigned, string, array, object, no_items, item, no_members, member}
use Rattle.span_id.specs.declared.level.Level.TheVariants.{Error, Warn, Info, Trace}
use Rattle.span_layers.specs.declared.form.Form.TheVariants.{Compact, Json}
use Rattle.span_script.specs.Operation.{operation_of, add_layer, make, on_span, record_fields, tell, find, by_label, by_id, current, root, op_of, layer_of, on_span_of, new_of, record_of, event_of, find_of, all_of, is_setup, at_start, in_setup, running}
use Rattle.span_script.specs.Script.{script_lines, is_skipped}
use Rattle.span_script.specs.declared.key.Key.TheVariants as key
use Rattle.span_script.specs.declared.reason.Reason.TheVariants.{BadKey, LateLine, NoSuchOp, NotObject}
use Rattle.span_script.specs.declared.operations.SpanCall.TheVariants.{Exit}

-- ---- lines

an_empty_script_has_no_line : script_lines [] ≡ []
unfolding script_lines
an_empty_script_has_no_line = refl

an_empty_line_is_a_line : script_lines (codes "a\n\nb") ≡ codes "a" ∷ [] ∷ codes "b" ∷ []
unfolding script_lines
an_empty_line_is_a_line = refl

nothing_stands_after_the_last_newline : script_lines (codes "a\n") ≡ codes "a" ∷ []
unfolding script_lines
nothing_stands_after_the_last_newline = refl

a_blank_line_is_skipped : is_skipped (codes " \t\r") ≡ true
a_blank_line_is_skipped = refl

-- ---- operations

-- {"op":<op>} and more members
abbrev line : List ℕ → Members → Data
line op members = object (member (codes "op") (string op) members)

abbrev one : Data
one = number (unsigned 1)

abbrev text : Data
text = string (codes "a")

a_list_is_no_object : operation_of 4 at_start (array (item one no_items)) ≡ Err NotObject
unfolding operation_of
a_list_is_no_object = refl

an_unknown_op : operation_of 4 at_start (line (codes "jump") no_members) ≡ Err NoSuchOp
unfolding operation_of op_of
an_unknown_op = refl

limits_after_a_layer : operation_of 4 in_setup (line (codes "limits") no_members) ≡ Err LateLine
unfolding operation_of op_of
limits_after_a_layer = refl

limits_after_a_span_with_a_bad_key : operation_of 4 running (line (codes "limits") (member (codes "slots") null no_members)) ≡ Err LateLine
unfolding operation_of op_of
limits_after_a_span_with_a_bad_key = refl

a_layer_without_keys : operation_of 4 at_start (line (codes "layer") no_members) ≡ Ok (add_layer (record { form = Compact; spans = 15; rule = ([], Trace) ∷ [] }))
unfolding operation_of op_of layer_of
a_layer_without_keys = refl

-- [<first>,<second>]
abbrev two : Data → Data → Data
two first second = array (item first (item second no_items))

a_layer_after_a_layer : operation_of 4 in_setup (line (codes "layer") (member (codes "form") (string (codes "json")) (member (codes "spans") one
    (member (codes "rule") (array (item (two text (string (codes "WARN"))) (item (two (string []) (string (codes "ERROR"))) no_items))) no_members))))
    ≡ Ok (add_layer (record { form = Json; spans = 1; rule = (codes "a", Warn) ∷ ([], Error) ∷ [] }))
unfolding operation_of op_of layer_of all_of
a_layer_after_a_layer = refl

a_layer_that_admits_nothing : operation_of 4 at_start (line (codes "layer") (member (codes "rule") (array no_items) no_members))
    ≡ Ok (add_layer (record { form = Compact; spans = 15; rule = [] }))
unfolding operation_of op_of layer_of all_of
a_layer_that_admits_nothing = refl

a_layer_after_a_span : operation_of 4 running (line (codes "layer") (member (codes "form") null no_members)) ≡ Err LateLine
unfolding operation_of op_of
a_layer_after_a_span = refl

no_form : operation_of 4 at_start (line (codes "layer") (member (codes "form") null (member (codes "spans") null no_members))) ≡ Err (BadKey key.Form)
unfolding operation_of op_of layer_of
no_form = refl

a_set_of_five_kinds : operation_of 4 at_start (line (codes "layer") (member (codes "spans") (number (unsigned 16)) (member (codes "rule") null no_members)))
    ≡ Err (BadKey key.Spans)
unfolding operation_of op_of layer_of
a_set_of_five_kinds = refl

a_rule_of_one_pair_alone : operation_of 4 at_start (line (codes "layer") (member (codes "rule") (two text (string (codes "WARN"))) no_members))
    ≡ Err (BadKey key.Rule)
unfolding operation_of op_of layer_of all_of
a_rule_of_one_pair_alone = refl

a_rule_with_an_unknown_level : operation_of 4 at_start (line (codes "layer") (member (codes "rule") (array (item (two text text) no_items)) no_members))
    ≡ Err (BadKey key.Rule)
unfolding operation_of op_of layer_of all_of
a_rule_with_an_unknown_level = refl

a_new_span_by_its_name : operation_of 4 at_start (line (codes "new") (member (codes "name") text no_members))
    ≡ Ok (make (record { name = codes "a"; target = codes "app"; level = Info; parent = current; fields = []; label = codes "a"; worker = 0 }))
unfolding operation_of op_of new_of
a_new_span_by_its_name = refl

null_is_a_root : operation_of 4 at_start (line (codes "new") (member (codes "name") text (member (codes "parent") null (member (codes "w") one no_members))))
    ≡ Ok (make (record { name = codes "a"; target = codes "app"; level = Info; parent = root; fields = []; label = codes "a"; worker = 1 }))
unfolding operation_of op_of new_of
null_is_a_root = refl

a_record : operation_of 4 running (line (codes "record") (member (codes "span") one (member (codes "fields") (array (item (two text (string (codes "1"))) no_items)) no_members)))
    ≡ Ok (record_fields (by_id 1) ((codes "a", codes "1") ∷ []) 0)
unfolding operation_of op_of record_of all_of
a_record = refl

a_record_by_a_label : operation_of 4 running (line (codes "record") (member (codes "span") text (member (codes "w") (number (unsigned 3)) no_members)))
    ≡ Ok (record_fields (by_label (codes "a")) [] 3)
unfolding operation_of op_of record_of
a_record_by_a_label = refl

a_record_of_no_span : operation_of 4 running (line (codes "record") (member (codes "span") null (member (codes "fields") null no_members))) ≡ Err (BadKey key.Span)
unfolding operation_of op_of record_of
a_record_of_no_span = refl

a_field_of_three_texts : operation_of 4 running (line (codes "record") (member (codes "span") text
    (member (codes "fields") (array (item (array (item text (item text (item text no_items)))) no_items)) (member (codes "w") null no_members)))) ≡ Err (BadKey key.Fields)
unfolding operation_of op_of record_of all_of
a_field_of_three_texts = refl

an_event_by_its_message : operation_of 4 running (line (codes "event") (member (codes "message") (string []) no_members))
    ≡ Ok (tell (record { name = codes "event"; target = codes "app"; level = Info; message = []; fields = []; worker = 0 }))
unfolding operation_of op_of event_of
an_event_by_its_message = refl

an_event_with_all_keys : operation_of 4 running (line (codes "event") (member (codes "message") text (member (codes "target") (string (codes "t"))
    (member (codes "level") (string (codes "WARN")) (member (codes "fields") (array (item (two text text) no_items)) (member (codes "w") one no_members))))))
    ≡ Ok (tell (record { name = codes "event"; target = codes "t"; level = Warn; message = codes "a"; fields = (codes "a", codes "a") ∷ []; worker = 1 }))
unfolding operation_of op_of event_of all_of
an_event_with_all_keys = refl

an_event_without_a_message : operation_of 4 running (line (codes "event") (member (codes "target") null no_members)) ≡ Err (BadKey key.Message)
unfolding operation_of op_of event_of
an_event_without_a_message = refl

an_event_at_no_level : operation_of 4 running (line (codes "event") (member (codes "message") text (member (codes "level") null (member (codes "fields") null no_members))))
    ≡ Err (BadKey key.Level)
unfolding operation_of op_of event_of
an_event_at_no_level = refl

a_worker_that_is_not_there : operation_of 1 running (line (codes "exit") (member (codes "span") text (member (codes "w") one no_members))) ≡ Err (BadKey key.Worker)
unfolding operation_of op_of on_span_of
a_worker_that_is_not_there = refl

an_exit : operation_of 2 running (line (codes "exit") (member (codes "span") text (member (codes "w") one no_members))) ≡ Ok (on_span Exit (by_label (codes "a")) 1)
unfolding operation_of op_of on_span_of
an_exit = refl

an_id_of_the_older_layout : operation_of 4 at_start (line (codes "find") (member (codes "old") (number (unsigned 65537)) no_members)) ≡ Ok (find (by_id 16777217))
unfolding operation_of op_of find_of
an_id_of_the_older_layout = refl

a_span_looked_up_twice : operation_of 4 at_start (line (codes "find") (member (codes "span") one (member (codes "old") one no_members))) ≡ Err (BadKey key.Old)
unfolding operation_of op_of find_of
a_span_looked_up_twice = refl

a_layer_sets_up : is_setup (line (codes "layer") (member (codes "form") null no_members)) ≡ true
unfolding is_setup
a_layer_sets_up = refl

limits_set_up : is_setup (line (codes "limits") no_members) ≡ true
unfolding is_setup
limits_set_up = refl

an_event_sets_nothing_up : is_setup (line (codes "event") no_members) ≡ false
unfolding is_setup
an_event_sets_nothing_up = refl

a_list_sets_nothing_up : is_setup (array no_items) ≡ false
unfolding is_setup
a_list_sets_nothing_up = refl
