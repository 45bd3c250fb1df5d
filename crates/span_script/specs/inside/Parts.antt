-- The keys of a new span and of an event, cut where the code reads them apart: no public clause cites it.
use Rattle.std.specs.Prelude.{ℕ, List, codes, Result, Ok}
use Rattle.serde_json.specs.Data.{Data}
use Rattle.serde_json.specs.Find.{as_str}
use Rattle.span_id.specs.declared.level.Level.{Level}
use Rattle.span_id.specs.declared.level.Level.TheVariants.{Info}
use Rattle.span_script.specs.Operation.{required, optional, worker_in, level_in, Parent, Operation, make, tell}
use Rattle.span_script.specs.Reason.{◌>>=◌}
use Rattle.span_script.specs.declared.key.Key.{Key}
use Rattle.span_script.specs.declared.key.Key.TheVariants as key
use Rattle.span_script.specs.declared.reason.Reason.{Reason}

-- what both begin with: a span's name or an event's message, the target and the level
pub record Head : Type 0 where
  pub text : List ℕ
  pub target : List ℕ
  pub level : Level

unfoldable pub head_of : Key → Data → Result Head Reason
head_of k line = do
  text ← required k as_str line
  target ← optional key.Target as_str (codes "app") line
  level ← optional key.Level level_in Info line
  Ok (record { text = text; target = target; level = level })

-- ---- a new span

unfoldable pub label_and_worker_of : ℕ → Data → List ℕ → Result (List ℕ × ℕ) Reason
label_and_worker_of workers line name = do
  label ← optional key.Label as_str name line
  worker ← optional key.Worker (worker_in workers) 0 line
  Ok (label, worker)

abbrev pub new_made : Head → Parent → List (List ℕ × List ℕ) → List ℕ × ℕ → Operation
new_made head parent fields given = make (record {
  name = head.text;
  target = head.target;
  level = head.level;
  parent = parent;
  fields = fields;
  label = given.0;
  worker = given.1;
})

-- where this parent and these fields were read
abbrev pub new_rest : ℕ → Data → Head → Parent → List (List ℕ × List ℕ) → Result Operation Reason
new_rest workers line head parent fields =
    label_and_worker_of workers line head.text >>= λ given. Ok (new_made head parent fields given)

-- ---- an event

abbrev pub event_told : Head → List (List ℕ × List ℕ) → ℕ → Operation
event_told head fields worker = tell (record {
  name = codes "event";
  target = head.target;
  level = head.level;
  message = head.text;
  fields = fields;
  worker = worker;
})

-- where these fields were read
abbrev pub event_rest : ℕ → Data → Head → List (List ℕ × List ℕ) → Result Operation Reason
event_rest workers line head fields =
    optional key.Worker (worker_in workers) 0 line >>= λ worker. Ok (event_told head fields worker)
