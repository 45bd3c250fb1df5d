-- The keys of a script's lines.
use Rattle.std.specs.Prelude.{ℕ, List, codes}
use Rattle.span_script.specs.declared.key.Key.{Key}
use Rattle.span_script.specs.declared.key.Key.TheVariants.{Slots, LastGeneration, MaxCount, Workers, Form, Spans, Rule, Name, Message, Target, Level, Parent, Fields, Label, Worker, Span, Old}

-- a key as it is written in a line
abbrev pub key_text : Key → List ℕ
key_text Slots = codes "slots"
key_text LastGeneration = codes "last_generation"
key_text MaxCount = codes "max_count"
key_text Workers = codes "workers"
key_text Form = codes "form"
key_text Spans = codes "spans"
key_text Rule = codes "rule"
key_text Name = codes "name"
key_text Message = codes "message"
key_text Target = codes "target"
key_text Level = codes "level"
key_text Parent = codes "parent"
key_text Fields = codes "fields"
key_text Label = codes "label"
key_text Worker = codes "w"
key_text Span = codes "span"
key_text Old = codes "old"
