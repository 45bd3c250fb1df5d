-- Where a span was made, as the code has it: no public clause cites it.
use Rattle.span_ffi.specs.declared.exports.note_headings.Origin.{Origin as Found}
use Rattle.span_ffi.specs.NoteHeadings.{Origin}

-- as plain values
abbrev pub plain_origin : Found → Origin
plain_origin found =
    record { parent = found.parent; callsite = found.callsite; meta = found.meta.now; kinds = found.kinds.now }
