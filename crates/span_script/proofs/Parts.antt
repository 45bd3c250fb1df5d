-- The keys of a new span and of an event, put together from those before the fields, the fields, and those after them.
use Rattle.std.proofs.Common.{◌≡◌, ℕ, List, [], refl, sym, ap, ◌∙◌, subst, Result, Ok, Err}
use Rattle.std.specs.Prelude.{codes}
use Rattle.serde_json.specs.Data.{Data}
use Rattle.serde_json.specs.Find.{as_str}
use Rattle.span_id.specs.declared.level.Level.{Level}
use Rattle.span_id.specs.declared.level.Level.TheVariants.{Info}
use Rattle.span_id.specs.Meta.{PlainMeta}
use Rattle.span_script.specs.Operation.{Op, Operation, make, Parent, Stage, required, optional, worker_in, level_in, parent_key_in, field_list_in, current, new_of, event_of, keys_of}
use Rattle.span_script.specs.Reason.{◌>>=◌, AnswersOrStops, StopsFor}
use Rattle.span_script.specs.Views.{operation_seen}
use Rattle.span_script.specs.inside.Parts.{Head, head_of, label_and_worker_of, new_made, new_rest, event_rest}
use Rattle.span_script.specs.declared.key.Key.TheVariants as key
use Rattle.span_script.specs.declared.operations.Operation as code
use Rattle.span_script.specs.declared.reason.Reason.{Reason}
use Rattle.span_script.specs.declared.stop.Stop.{Stop}
use Rattle.span_script.specs.declared.stop.Stop.TheVariants.{Memory, Refused}

abbrev Fields : Type 0
Fields = List (List ℕ × List ℕ)

abbrev given_fields : Data → Result Fields Reason
given_fields line = optional key.Fields field_list_in [] line

-- ---- what came of a part, and of the rest

-- what is meant by a part that answered, and by the rest
pub meant_after : {A : Type 0} (part : Result A Reason) (rest : A → Result Operation Reason) (a : A) (meant : Result Operation Reason) (result : Result code.Operation Stop)
    → meant ≡ (part >>= rest) → part ≡ Ok a → AnswersOrStops operation_seen result (rest a) → AnswersOrStops operation_seen result meant
meant_after part rest a meant result whole is p = subst (AnswersOrStops operation_seen result) (sym (whole ∙ ap (λ r. r >>= rest) is)) p

-- a part at fault is the whole's
pub faulty_at : {A : Type 0} (part : Result A Reason) (rest : A → Result Operation Reason) (meant : Result Operation Reason) (reason : Reason)
    → meant ≡ (part >>= rest) → part ≡ Err reason → meant ≡ Err reason
faulty_at part rest meant reason whole is = whole ∙ ap (λ r. r >>= rest) is

pub stopped_at : {A : Type 0} (part : Result A Reason) (rest : A → Result Operation Reason) (meant : Result Operation Reason) (stop : Stop)
    → meant ≡ (part >>= rest) → StopsFor part stop → StopsFor meant stop
stopped_at part rest meant Memory whole is = tt
stopped_at part rest meant (Refused reason) whole is = faulty_at part rest meant reason whole is

pub stopped_after : {A : Type 0} (part : Result A Reason) (rest : A → Result Operation Reason) (a : A) (meant : Result Operation Reason) (stop : Stop)
    → meant ≡ (part >>= rest) → part ≡ Ok a → StopsFor (rest a) stop → StopsFor meant stop
stopped_after part rest a meant stop whole is p = subst (λ m. StopsFor m stop) (sym (whole ∙ ap (λ r. r >>= rest) is)) p

pub faulty_after : {A : Type 0} (part : Result A Reason) (rest : A → Result Operation Reason) (a : A) (meant : Result Operation Reason) (reason : Reason)
    → meant ≡ (part >>= rest) → part ≡ Ok a → rest a ≡ Err reason → meant ≡ Err reason
faulty_after part rest a meant reason whole is p = whole ∙ ap (λ r. r >>= rest) is ∙ p

-- ---- the head

head_cut : (text target : Result (List ℕ) Reason) (level : Result Level Reason) (rest : Head → Result Operation Reason)
    → (text >>= λ x. target >>= λ t. level >>= λ l. rest (record { text = x; target = t; level = l }))
    ≡ ((text >>= λ x. target >>= λ t. level >>= λ l. Ok (record { text = x; target = t; level = l })) >>= rest)
head_cut (Err reason) target level rest = refl
head_cut (Ok x) (Err reason) level rest = refl
head_cut (Ok x) (Ok t) (Err reason) rest = refl
head_cut (Ok x) (Ok t) (Ok l) rest = refl

-- ---- a new span

abbrev pub new_with : ℕ → Data → Head → Parent → Result Operation Reason
new_with workers line head parent = given_fields line >>= new_rest workers line head parent

abbrev pub new_under : ℕ → Data → Head → Result Operation Reason
new_under workers line head = optional key.Parent parent_key_in current line >>= new_with workers line head

last_cut : (head : Head) (parent : Parent) (fields : Fields) (label : Result (List ℕ) Reason) (worker : Result ℕ Reason)
    → (label >>= λ l. worker >>= λ w. Ok (new_made head parent fields (l, w))) ≡ ((label >>= λ l. worker >>= λ w. Ok (l, w)) >>= λ given. Ok (new_made head parent fields given))
last_cut head parent fields (Ok l) (Ok w) = refl
last_cut head parent fields (Ok l) (Err reason) = refl
last_cut head parent fields (Err reason) worker = refl

-- the parts are those of the new span as the code has it
pub new_given : (workers : ℕ) (line : Data) (head : Head) (parent : Parent) (fields : Fields) (meta : PlainMeta) (label : List ℕ) (worker : ℕ)
    → label_and_worker_of workers line head.text ≡ Ok (label, worker) → meta ≡ record { name = head.text; target = head.target; level = head.level }
    → new_rest workers line head parent fields
    ≡ Ok (make (record { name = meta.name; target = meta.target; level = meta.level; parent = parent; fields = fields; label = label; worker = worker }))
new_given workers line head parent fields meta label worker is same =
    ap (λ r. r >>= λ given. Ok (new_made head parent fields given)) is
    ∙ ap (λ (m : PlainMeta). Ok (make (record { name = m.name; target = m.target; level = m.level; parent = parent; fields = fields; label = label; worker = worker }))) (sym same)

pub new_parts : (workers : ℕ) (line : Data) → new_of workers line ≡ (head_of key.Name line >>= new_under workers line)
unfolding new_of head_of label_and_worker_of
new_parts workers line =
    (λ i. required key.Name as_str line >>= λ x. optional key.Target as_str (codes "app") line >>= λ t. optional key.Level level_in Info line >>= λ l. optional key.Parent parent_key_in current line >>= λ p.
    given_fields line >>= λ fields. last_cut (record { text = x; target = t; level = l }) p fields (optional key.Label as_str x line) (optional key.Worker (worker_in workers) 0 line) i)
    ∙ head_cut (required key.Name as_str line) (optional key.Target as_str (codes "app") line) (optional key.Level level_in Info line) (new_under workers line)

-- where all but the label and the worker were read
pub new_came : (workers : ℕ) (line : Data) (head : Head) (parent : Parent) (fields : Fields)
    → head_of key.Name line ≡ Ok head → optional key.Parent parent_key_in current line ≡ Ok parent → given_fields line ≡ Ok fields
    → new_of workers line ≡ new_rest workers line head parent fields
new_came workers line head parent fields h p f =
    new_parts workers line
    ∙ ap (λ r. r >>= new_under workers line) h
    ∙ ap (λ r. r >>= new_with workers line head) p
    ∙ ap (λ r. r >>= new_rest workers line head parent) f

-- ---- an event

abbrev pub event_with : ℕ → Data → Head → Result Operation Reason
event_with workers line head = given_fields line >>= event_rest workers line head

pub event_parts : (workers : ℕ) (line : Data) → event_of workers line ≡ (head_of key.Message line >>= event_with workers line)
unfolding event_of head_of
event_parts workers line =
    head_cut (required key.Message as_str line) (optional key.Target as_str (codes "app") line) (optional key.Level level_in Info line) (event_with workers line)

-- ---- an operation's keys

-- what is meant by the op that the line has
pub asked_by : (workers : ℕ) (stage : Stage) (line : Data) (op found : Op) (result : Result code.Operation Stop) → op ≡ found
    → AnswersOrStops operation_seen result (keys_of workers stage line found) → AnswersOrStops operation_seen result (keys_of workers stage line op)
asked_by workers stage line op found result is p = subst (λ o. AnswersOrStops operation_seen result (keys_of workers stage line o)) (sym is) p
