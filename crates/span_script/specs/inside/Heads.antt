-- The code's heads of lines, as the definitions see them: no public clause cites it.
use Rattle.span_script.specs.inside.Parts as meant
use Rattle.span_script.specs.declared.reading.Head.{Head}

abbrev pub head_seen : Head → meant.Head
head_seen head = record { text = head.text.now; target = head.target.now; level = head.level }
