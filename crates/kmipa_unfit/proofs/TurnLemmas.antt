-- What the bytes of an answer say.
use Rattle.std.proofs.Common.{ℕ, List, Some, Result, Ok, Err}
use Rattle.kmipa_ttlv.specs.ViewTree.{view_tree}
use Rattle.kmipa_ttlv.specs.declared.view.View.{View}
use Rattle.kmipa_msgs.specs.Messages.{RequestOf, response_of}
use Rattle.kmipa_msgs.specs.Outside.{TellsSaid}
use Rattle.kmipa_msgs.specs.Responses.{SaysResponse, ResponseFault}
use Rattle.kmipa_msgs.specs.declared.fault.ReadFault.{ReadFault}
use Rattle.kmipa_msgs.specs.declared.fault.ReadFault.TheVariants as read
use Rattle.kmipa_msgs.specs.declared.response.Response.{Response}
use Rattle.kmipa_check.specs.Calls.{outside}
use Rattle.kmipa_check.specs.CallReading.{ItemRead}
use Rattle.kmipa_unfit.specs.Finding.{AnswerSays}

pub answer_said : (request : RequestOf) (bytes : List ℕ) (view : View) (result : Result Response ReadFault) → ItemRead bytes (Some view)
    → TellsSaid response_of (SaysResponse (view_tree view) request) (ResponseFault (view_tree view) request) result → AnswerSays request bytes result
answer_said request bytes view (Ok response) h says = record { item = view_tree view; spelled = h; inside = says }
answer_said request bytes view (Err (read.Outside o)) h says = outside (view_tree view) h says
answer_said request bytes view (Err read.Memory) h says = tt
