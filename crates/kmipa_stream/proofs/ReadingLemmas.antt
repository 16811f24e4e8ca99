-- What the marks say that are held of a call.
use Rattle.std.proofs.Common.{◌≡◌, ℕ, ℤ, List, Option, Some, None, refl, sym, subst}
use Rattle.kmipa_record.specs.Marks.{MarkOf}
use Rattle.kmipa_msgs.specs.Messages.{RequestOf, ResponseOf}
use Rattle.kmipa_msgs.specs.Requests.{RequestFault}
use Rattle.kmipa_msgs.specs.Responses.{ResponseFault}
use Rattle.kmipa_msgs.specs.declared.kind.OutsideKind.{OutsideKind}
use Rattle.kmipa_check.specs.Calls.{AreRequest, AreResponse, HasBegin, has_ended, is_open, IsRecorded, IsOutsideOn}
use Rattle.kmipa_check.specs.CallReading.{MessageFault, MarkFault, IsOutsideAt}
use Rattle.kmipa_check.specs.declared.fault.Side.{Side}
use Rattle.kmipa_check.specs.declared.fault.Side.TheVariants.{Client, Server}
use Rattle.kmipa_check.specs.declared.fault.CheckFault.{CheckFault}
use Rattle.kmipa_check.specs.declared.fault.CheckFault.TheVariants as check_fault
use Rattle.kmipa_stream.specs.Seeing.{EndsSo, HoldsBegin, HoldsEnd, IsSeen}
use Rattle.kmipa_stream.specs.declared.seen.SeenCall.{SeenCall}

pub open_recorded : (marks : List MarkOf) (s : SeenCall) (asked : List ℕ) (request : RequestOf) → IsSeen marks s → HoldsBegin marks s asked → s.end ≡ None → AreRequest asked request
    → IsRecorded marks (record { number = s.number; begin = s.begin; end = None; request = request; response = None })
open_recorded marks s asked request i h e said =
    let P : Option ℕ → Type 0 = λ o. EndsSo marks s.number o in
    record { asked = asked; carried = h.at; request = said; ended = is_open (subst P e i.ended) refl refl }

pub whole_recorded : (marks : List MarkOf) (s : SeenCall) (asked answered : List ℕ) (request : RequestOf) (response : ResponseOf) → HoldsBegin marks s asked → HoldsEnd marks s answered → AreRequest asked request
    → AreResponse request answered response → IsRecorded marks (record { number = s.number; begin = s.begin; end = s.end; request = request; response = Some response })
whole_recorded marks s asked answered request response h g said reported = record {
  asked = asked;
  carried = h.at;
  request = said;
  ended = has_ended g.place answered response g.at reported g.noted refl;
}

outside_at : (marks : List MarkOf) (place : ℕ) (number n : ℤ) (side s : Side) (asked : List ℕ) (item : ℕ) (kind : OutsideKind) → HasBegin marks number place asked
    → IsOutsideOn marks number side asked item kind → n ≡ number → s ≡ side → IsOutsideAt marks place n s item kind
outside_at marks place number n side s asked item kind begin out e f =
    let here : IsOutsideAt marks place number side item kind = record { asked = asked; carried = begin; outside = out } in
    let P : Side → Type 0 = λ x. IsOutsideAt marks place number x item kind in
    let Q : ℤ → Type 0 = λ x. IsOutsideAt marks place x s item kind in
    subst Q (sym e) (subst P (sym f) here)

pub request_outside : (marks : List MarkOf) (s : SeenCall) (asked : List ℕ) (fault : CheckFault) → HoldsBegin marks s asked → MessageFault RequestFault Client s.number asked fault → MarkFault marks s.begin fault
request_outside marks s asked (check_fault.Outside n side o) h f = outside_at marks s.begin s.number n Client side asked o.item o.kind h.at f.2 f.0 f.1
request_outside marks s asked (check_fault.Witness w) h f = f
request_outside marks s asked check_fault.Memory h f = tt

pub response_outside : (marks : List MarkOf) (s : SeenCall) (asked answered : List ℕ) (request : RequestOf) (fault : CheckFault) → HoldsBegin marks s asked → HoldsEnd marks s answered → AreRequest asked request
    → MessageFault (λ t. ResponseFault t request) Server s.number answered fault → MarkFault marks s.begin fault
response_outside marks s asked answered request (check_fault.Outside n side o) h g said f =
    outside_at marks s.begin s.number n Server side asked o.item o.kind h.at (record { end = g.place; answered = answered; ended = g.at; request = request; said = said; outside = f.2 }) f.0 f.1
response_outside marks s asked answered request (check_fault.Witness w) h g said f = f
response_outside marks s asked answered request check_fault.Memory h g said f = tt
