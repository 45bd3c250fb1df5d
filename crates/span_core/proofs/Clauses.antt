-- That a call was accepted, from what its parts became.
use Rattle.std.proofs.Common.{◌≡◌, List, sym, subst}
use Rattle.span_layers.specs.Note.{PlainNote}
use Rattle.span_core.specs.Core.{CoreView, IsDue, IsAccepted}
use Rattle.span_outlet.specs.Request.{Request, Answer}
use Rattle.span_core.proofs.Soundness.{IsOneMore}

-- of a core nothing changed but the world and what was sent
pub record IsElseSame (old new : CoreView) : Type 0 where
  pub limits : new.limits ≡ old.limits
  pub rules : new.rules ≡ old.rules
  pub times_full : new.times_full ≡ old.times_full
  pub forms : new.forms ≡ old.forms
  pub name : new.name ≡ old.name

-- the call was one step, and its batch was sent
pub accepted_by : (before old new : CoreView) (request : Request) (answer : Answer) (notes : List PlainNote)
    → before ≡ old → IsDue old request
    → IsOneMore before.rules before.sent before.world (record { request = request; answer = answer; notes = notes }) new.world new.sent
    → IsElseSame before new
    → IsAccepted old request answer new
accepted_by before old new request answer notes same due call else_same =
    subst (λ (v : CoreView). IsAccepted v request answer new) same
    (record {
      due = subst (λ (v : CoreView). IsDue v request) (sym same) due;
      limits = else_same.limits;
      rules = else_same.rules;
      notes = notes;
      step = call.step;
      sent = call.sent;
      times_full = else_same.times_full;
      forms = else_same.forms;
      name = else_same.name;
    })

-- an answer may be said otherwise
pub accepted_as : (old new : CoreView) (request : Request) (answer other : Answer) → answer ≡ other → IsAccepted old request answer new → IsAccepted old request other new
accepted_as old new request answer other same accepted = subst (λ (a : Answer). IsAccepted old request a new) same accepted
