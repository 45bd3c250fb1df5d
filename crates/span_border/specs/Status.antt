-- What the numbers that calls answer mean.
use Rattle.std.specs.Prelude.{ℕ, ◌==◌, List, [], ◌∷◌, codes, Option}
use Rattle.std.specs.List.{find as first_that}
use Rattle.span_id.specs.declared.fault.Fault.TheVariants.{Unknown, CountFull, Full, NotEntered, TooManyLayers, BadName, Backlog, BadLimits, Memory}
use Rattle.span_id.specs.Fault.{number_of, fault_text}
use Rattle.span_border.specs.declared.status.Status.{Status}
use Rattle.span_border.specs.declared.status.Status.TheVariants.{Done, Refused, BadData, EmptyHandle, HandleInUse, NoSuchWorker, NoLine, ShortBuffer, NoSuchCallsite}

-- the number of a status; a refusal has its fault's
abbrev pub status_number : Status → ℕ
status_number Done = 0
status_number (Refused fault) = number_of fault
status_number BadData = 11
status_number EmptyHandle = 12
status_number HandleInUse = 13
status_number NoSuchWorker = 14
status_number NoLine = 15
status_number ShortBuffer = 16
status_number NoSuchCallsite = 17

-- every status
abbrev pub statuses : List Status
statuses =
    Done ∷ Refused Unknown ∷ Refused CountFull ∷ Refused Full ∷ Refused NotEntered ∷ Refused TooManyLayers
    ∷ Refused BadName ∷ Refused Backlog ∷ Refused BadLimits ∷ Refused Memory
    ∷ BadData ∷ EmptyHandle ∷ HandleInUse ∷ NoSuchWorker ∷ NoLine ∷ ShortBuffer
    ∷ NoSuchCallsite ∷ []

-- the status that a number means; 9 and numbers above 17 mean none
abbrev pub meant : ℕ → Option Status
meant number = first_that (λ status. status_number status == number) statuses

-- a status in words
abbrev pub status_text : Status → List ℕ
status_text Done = codes "done"
status_text (Refused fault) = fault_text fault
status_text BadData = codes "bad data"
status_text EmptyHandle = codes "empty handle"
status_text HandleInUse = codes "handle in use"
status_text NoSuchWorker = codes "no such worker"
status_text NoLine = codes "no line"
status_text ShortBuffer = codes "short buffer"
status_text NoSuchCallsite = codes "no such callsite"
