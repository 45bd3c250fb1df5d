-- A store that C holds may go to another thread.
use denote.Struct.Struct.{exits_of}
use denote.Struct.Owning.{shape, fields, to}
use denote.Param.Send.{IsSend, AllSend, owning_send, struct_send, sendable}
use Rattle.span_border.proofs.HandleSend.{keyless, quiet, the_field_send}
use Rattle.span_store.specs.contracts.store.Store.{the_row as Held}
use Rattle.span_store.proofs.store.Store.TheSendSync.{the_send as can_go}
use Rattle.span_store_ffi.specs.contracts.handle.SpanStore.{the_row, the_type}

pub send : IsSend the_row
send =
    let all : AllSend (fields the_type) = (search sendable, (the_field_send, tt)) in
    owning_send the_type all (λ d. keyless Held can_go d.alloc d.at d.held)
    (λ k. quiet (to the_type) (exits_of k (fields the_type)) ((struct_send (shape the_type) all).leaving k))
