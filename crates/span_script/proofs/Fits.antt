-- What is known of each operation that a line is read as: its worker is one of the workers, and `limits` is the first.
use Rattle.std.proofs.Common.{◌≡◌, ℕ, ◌<◌, Bool, true, false, if◌then◌else◌, Option, Some, None, Result, Ok, Err, refl, subst}
use Rattle.std.specs.Prelude.{IfOk, [], codes, nat_lt, option_and_then}
use Rattle.std.proofs.lemmas.Bool.{ltb-true}
use Rattle.serde_json.specs.Data.{Data}
use Rattle.serde_json.specs.Find.{get, as_object, as_str}
use Rattle.span_id.specs.declared.level.Level.TheVariants.{Info}
use Rattle.span_layers.specs.declared.form.Form.TheVariants.{Compact}
use Rattle.span_layers.specs.declared.style.TheConstants.FmtSpan.{FULL}
use Rattle.span_layers.specs.FmtSpan.{bits_of}
use Rattle.span_script.specs.Key.{key_text}
use Rattle.span_script.specs.Operation.{Operation, set_limits, add_layer, make, on_span, record_fields, tell, find, Stage, at_start, in_setup, running, Op, limits_op, layer_op, new_op, span_op, record_op, event_op, find_op, required, given_or, optional, below, whole_number, worker_in, limit_in, form_in, kinds_in, rule_in, all_targets, level_in, parent_key_in, field_list_in, span_key_in, old_id_in, op_of, current, limits_of, layer_of, new_of, on_span_of, record_of, event_of, find_by_span, find_by, find_of, keys_of, operation_of}
use Rattle.span_script.specs.Reason.{◌>>=◌, or_fault, AnswersOrStops}
use Rattle.span_script.specs.Views.{operation_seen, NamesWorker}
use Rattle.span_script.specs.declared.key.Key.TheVariants as key
use Rattle.span_script.specs.declared.operations.Operation as code
use Rattle.span_script.specs.declared.operations.Operation.TheVariants.{Limits, Layer, New, OnSpan, Record, Event, Find}
use Rattle.span_script.specs.declared.operations.SpanCall.{SpanCall}
use Rattle.span_script.specs.declared.reason.Reason.{Reason}
use Rattle.span_script.specs.declared.reason.Reason.TheVariants.{NotObject, BadKey}
use Rattle.span_script.specs.declared.stop.Stop.{Stop}

-- the worker that a line names is one of so many, and `limits` comes first
abbrev pub IsFit : ℕ → Stage → Operation → Type 0
IsFit workers stage (set_limits limits) = stage ≡ at_start
IsFit workers stage (add_layer layer) = Unit {0}
IsFit workers stage (make new) = new.worker < workers
IsFit workers stage (on_span call key worker) = worker < workers
IsFit workers stage (record_fields key fields worker) = worker < workers
IsFit workers stage (tell event) = event.worker < workers
IsFit workers stage (find key) = Unit {0}

-- ---- what holds of the answer, where there is one

-- what is found is so, where something is found
pub record WhereOk {A : Type 0} (r : Result A Reason) (P : A → Type 0) : Type 0 where
  pub is : IfOk r P

pub then_ok : {A B : Type 0} (r : Result A Reason) (next : A → Result B Reason) {P : B → Type 0} → ((a : A) → WhereOk (next a) P) → WhereOk (r >>= next) P
then_ok (Ok a) next h = h a
then_ok (Err reason) next h = record { is = tt }

pub then_ok_with : {A B : Type 0} (r : Result A Reason) (next : A → Result B Reason) {P : B → Type 0} {Q : A → Type 0} → WhereOk r Q → ((a : A) → Q a → WhereOk (next a) P) → WhereOk (r >>= next) P
then_ok_with (Ok a) next q h = h a q.is
then_ok_with (Err reason) next q h = record { is = tt }

-- ---- the worker

module _ (workers : ℕ) (some : 0 < workers) where
  in_bound : (n : ℕ) (b : Bool) → nat_lt n workers ≡ b → WhereOk (or_fault (if b then Some n else None) (BadKey key.Worker)) (λ worker. worker < workers)
  in_bound n true is = record { is = ltb-true n workers is }
  in_bound n false is = record { is = tt }

  number_fits : (o : Option ℕ) → WhereOk (or_fault (option_and_then (below workers) o) (BadKey key.Worker)) (λ worker. worker < workers)
  number_fits None = record { is = tt }
  number_fits (Some n) = in_bound n (nat_lt n workers) refl

  value_fits : (o : Option Data) → WhereOk (given_or key.Worker (worker_in workers) 0 o) (λ worker. worker < workers)
  value_fits None = record { is = some }
  value_fits (Some value) = number_fits (whole_number value)

  worker_fits : (line : Data) → WhereOk (optional key.Worker (worker_in workers) 0 line) (λ worker. worker < workers)
  worker_fits line = value_fits (get (key_text key.Worker) line)

  -- ---- the operations

  limits_fit : (line : Data) → WhereOk (limits_of line) (IsFit workers at_start)
  unfolding limits_of
  limits_fit line =
      then_ok (optional key.Slots limit_in 1024 line) _ (λ slots.
      then_ok (optional key.LastGeneration limit_in 4294967295 line) _ (λ last_generation.
      then_ok (optional key.MaxCount limit_in 4294967295 line) _ (λ max_count.
      then_ok (optional key.Workers limit_in 4 line) _ (λ given. record { is = refl }))))

  layer_fits : (stage : Stage) (line : Data) → WhereOk (layer_of line) (IsFit workers stage)
  unfolding layer_of
  layer_fits stage line =
      then_ok (optional key.Form form_in Compact line) _ (λ form.
      then_ok (optional key.Spans kinds_in (bits_of FULL) line) _ (λ spans.
      then_ok (optional key.Rule rule_in all_targets line) _ (λ rule. record { is = tt })))

  new_fits : (stage : Stage) (line : Data) → WhereOk (new_of workers line) (IsFit workers stage)
  unfolding new_of
  new_fits stage line =
      then_ok (required key.Name as_str line) _ (λ name.
      then_ok (optional key.Target as_str (codes "app") line) _ (λ target.
      then_ok (optional key.Level level_in Info line) _ (λ level.
      then_ok (optional key.Parent parent_key_in current line) _ (λ parent.
      then_ok (optional key.Fields field_list_in [] line) _ (λ fields.
      then_ok (optional key.Label as_str name line) _ (λ label.
      then_ok_with (optional key.Worker (worker_in workers) 0 line) _ (worker_fits line) (λ worker low. record { is = low })))))))

  span_fits : (stage : Stage) (call : SpanCall) (line : Data) → WhereOk (on_span_of workers call line) (IsFit workers stage)
  unfolding on_span_of
  span_fits stage call line =
      then_ok (required key.Span span_key_in line) _ (λ span.
      then_ok_with (optional key.Worker (worker_in workers) 0 line) _ (worker_fits line) (λ worker low. record { is = low }))

  record_fits : (stage : Stage) (line : Data) → WhereOk (record_of workers line) (IsFit workers stage)
  unfolding record_of
  record_fits stage line =
      then_ok (required key.Span span_key_in line) _ (λ span.
      then_ok (optional key.Fields field_list_in [] line) _ (λ fields.
      then_ok_with (optional key.Worker (worker_in workers) 0 line) _ (worker_fits line) (λ worker low. record { is = low })))

  event_fits : (stage : Stage) (line : Data) → WhereOk (event_of workers line) (IsFit workers stage)
  unfolding event_of
  event_fits stage line =
      then_ok (required key.Message as_str line) _ (λ message.
      then_ok (optional key.Target as_str (codes "app") line) _ (λ target.
      then_ok (optional key.Level level_in Info line) _ (λ level.
      then_ok (optional key.Fields field_list_in [] line) _ (λ fields.
      then_ok_with (optional key.Worker (worker_in workers) 0 line) _ (worker_fits line) (λ worker low. record { is = low })))))

  by_span_fits : (stage : Stage) (line : Data) (old : Option Data) → WhereOk (find_by_span line old) (IsFit workers stage)
  by_span_fits stage line None = then_ok (required key.Span span_key_in line) _ (λ span. record { is = tt })
  by_span_fits stage line (Some old) = then_ok (required key.Span span_key_in line) _ (λ span. record { is = tt })

  by_fits : (stage : Stage) (line : Data) (span old : Option Data) → WhereOk (find_by line span old) (IsFit workers stage)
  by_fits stage line None (Some old) = then_ok (or_fault (old_id_in old) (BadKey key.Old)) _ (λ span. record { is = tt })
  by_fits stage line None None = by_span_fits stage line None
  by_fits stage line (Some span) old = by_span_fits stage line old

  find_fits : (stage : Stage) (line : Data) → WhereOk (find_of line) (IsFit workers stage)
  unfolding find_of
  find_fits stage line = by_fits stage line (get (key_text key.Span) line) (get (key_text key.Old) line)

  pub keys_fit : (stage : Stage) (line : Data) (op : Op) → WhereOk (keys_of workers stage line op) (IsFit workers stage)
  keys_fit at_start line limits_op = limits_fit line
  keys_fit in_setup line limits_op = record { is = tt }
  keys_fit running line limits_op = record { is = tt }
  keys_fit at_start line layer_op = layer_fits at_start line
  keys_fit in_setup line layer_op = layer_fits in_setup line
  keys_fit running line layer_op = record { is = tt }
  keys_fit stage line new_op = new_fits stage line
  keys_fit stage line (span_op call) = span_fits stage call line
  keys_fit stage line record_op = record_fits stage line
  keys_fit stage line event_op = event_fits stage line
  keys_fit stage line find_op = find_fits stage line

  -- the operation that a line's value asks for
  pub operation_fits : (stage : Stage) (line : Data) → WhereOk (operation_of workers stage line) (IsFit workers stage)
  unfolding operation_of
  operation_fits stage line = then_ok (or_fault (as_object line) NotObject) _ (λ object. then_ok (op_of line) _ (λ op. keys_fit stage line op))

-- ---- the operation as the code has it

names_worker : (workers : ℕ) (stage : Stage) (operation : code.Operation) → IsFit workers stage (operation_seen operation) → NamesWorker operation workers
names_worker workers stage (Limits limits) fit = tt
names_worker workers stage (Layer layer) fit = tt
names_worker workers stage (New new) fit = fit
names_worker workers stage (OnSpan call key worker) fit = fit
names_worker workers stage (Record key fields worker) fit = fit
names_worker workers stage (Event event) fit = fit
names_worker workers stage (Find key) fit = tt

-- what a line was read as names one of the workers
pub read_fits : (workers : ℕ) (stage : Stage) (line : Data) (op : Op) (result : Result code.Operation Stop) → AnswersOrStops operation_seen result (keys_of workers stage line op)
    → 0 < workers → IfOk result (λ operation. NamesWorker operation workers)
read_fits workers stage line op (Ok operation) is some =
    names_worker workers stage operation (subst (λ answer. IfOk answer (IsFit workers stage)) is (keys_fit workers some stage line op).is)
read_fits workers stage line op (Err stop) is some = tt
