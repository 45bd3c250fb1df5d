-- What is written for a call, and at the end.
use Rattle.std.specs.Prelude.{ℕ, List, ◌++◌, codes, true, false}
use Rattle.std.specs.Fmt.{decimal}
use Rattle.span_id.specs.Fault.{fault_text}
use Rattle.span_replay.specs.declared.run.answer.Answer.{Answer}
use Rattle.span_replay.specs.declared.run.answer.Answer.TheVariants.{Limits, Layer, Made, NotWanted, Cloned, Closed, Entered, Recorded, Told, Refused}
use Rattle.span_replay.specs.declared.run.answer.Found as found

-- the line of a span that was looked up
abbrev pub span_text : List ℕ → ℕ → ℕ → ℕ → ℕ → List ℕ
span_text name parent handles entries count =
    codes "= " ++ (name ++ (codes " parent " ++ (decimal parent ++ (codes " handles " ++ (decimal handles
    ++ (codes " entries " ++ (decimal entries ++ (codes " count " ++ (decimal count ++ codes "\n")))))))))

-- the line of what was found
abbrev pub found_text : found.Found → List ℕ
found_text found = span_text found.name.now found.parent found.handles found.entries found.count

-- the line of an answer
abbrev pub answer_text : Answer → List ℕ
answer_text Limits = codes "= limits\n"
answer_text (Layer number) = codes "= layer " ++ (decimal number ++ codes "\n")
answer_text (Made id) = codes "= " ++ (decimal id ++ codes "\n")
answer_text NotWanted = codes "= not wanted\n"
answer_text Cloned = codes "= cloned\n"
answer_text (Closed true) = codes "= closed\n"
answer_text (Closed false) = codes "= open\n"
answer_text (Entered true) = codes "= entered\n"
answer_text (Entered false) = codes "= again\n"
answer_text Recorded = codes "= recorded\n"
answer_text Told = codes "= told\n"
answer_text (Refused fault) = codes "! " ++ (fault_text fault ++ codes "\n")

-- the last line: how many spans are open
abbrev pub left_text : ℕ → List ℕ
left_text left = codes "left " ++ (decimal left ++ codes "\n")
