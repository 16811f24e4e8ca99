-- What the reading of calls and of their messages tells.
use Rattle.std.specs.Prelude.{◌≡◌, ℕ, ℤ, List, map, take, All, slice_get, Option, Some, None, Result, Ok, Err}
use Rattle.kmipa_ttlv.specs.Tree.{Tree}
use Rattle.kmipa_ttlv.specs.Spelling.{Spells}
use Rattle.kmipa_ttlv.specs.ViewTree.{view_tree}
use Rattle.kmipa_ttlv.specs.declared.view.View.{View}
use Rattle.kmipa_record.specs.Marks.{MarkOf, begins, begun}
use Rattle.kmipa_msgs.specs.declared.kind.OutsideKind.{OutsideKind}
use Rattle.kmipa_msgs.specs.declared.kind.OutsideKind.TheVariants.{NotAMessage}
use Rattle.kmipa_msgs.specs.declared.request.Request.{Request}
use Rattle.kmipa_msgs.specs.declared.response.Response.{Response}
use Rattle.kmipa_msgs.specs.Messages.{RequestOf, request_of, response_of}
use Rattle.kmipa_msgs.specs.Requests.{RequestFault}
use Rattle.kmipa_msgs.specs.Responses.{ResponseFault}
use Rattle.kmipa_record.specs.declared.call.Call.{Call}
use Rattle.kmipa_check.specs.declared.fault.Side.{Side}
use Rattle.kmipa_check.specs.declared.fault.Side.TheVariants.{Client, Server}
use Rattle.kmipa_check.specs.declared.fault.StepFault.{StepFault}
use Rattle.kmipa_check.specs.declared.fault.StepFault.TheVariants as step_fault
use Rattle.kmipa_check.specs.declared.fault.WitnessKind.TheVariants.{AnswerForm}
use Rattle.kmipa_check.specs.declared.fault.CheckFault.{CheckFault}
use Rattle.kmipa_check.specs.declared.fault.CheckFault.TheVariants.{Outside, Witness, Memory}
use Rattle.kmipa_check.specs.Calls.{AreRequest, AreResponse, AreOutside, HasBegin, HasEnd, CallOf, IsRecorded, IsOutsideOn, IsFirstOutside, call_of}

-- a fault of the message on this side of the call of this number
abbrev pub MessageFault : (Tree → ℕ → OutsideKind → Type 0) → Side → ℤ → List ℕ → CheckFault → Type 0
MessageFault Fault side number bytes (Outside n s o) = (n ≡ number) × (s ≡ side) × AreOutside Fault bytes o.item o.kind
MessageFault Fault side number bytes (Witness w) = ⊥
MessageFault Fault side number bytes Memory = Unit {0}

abbrev pub RequestRead : ℤ → List ℕ → Result Request CheckFault → Type 0
RequestRead number bytes (Ok request) = AreRequest bytes (request_of request)
RequestRead number bytes (Err fault) = MessageFault RequestFault Client number bytes fault

abbrev pub ResponseRead : ℤ → RequestOf → List ℕ → Result Response CheckFault → Type 0
ResponseRead number request bytes (Ok response) = AreResponse request bytes (response_of response)
ResponseRead number request bytes (Err fault) = MessageFault (λ t. ResponseFault t request) Server number bytes fault

-- the first message that is outside; want of memory tells nothing
abbrev pub CallsFault : List MarkOf → CheckFault → Type 0
CallsFault marks (Outside number side o) = IsFirstOutside marks number side o.item o.kind
CallsFault marks (Witness w) = ⊥
CallsFault marks Memory = Unit {0}

-- ---- how they are read, not promised

-- the one item that the bytes spell, or none where they spell none
abbrev pub ItemRead : List ℕ → Option View → Type 0
ItemRead bytes (Some view) = Spells (view_tree view) bytes
ItemRead bytes None = (item : Tree) → Spells item bytes → ⊥

-- the message of this call on this side is no message
abbrev pub no_message : ℤ → Side → CheckFault
no_message number side = Outside number side (record { item = 0; kind = NotAMessage })

-- the mark at the place begins a call of this number, and the call's message on this side is outside
pub record IsOutsideAt (marks : List MarkOf) (place : ℕ) (number : ℤ) (side : Side) (item : ℕ) (kind : OutsideKind) : Type 0 where
  pub asked : List ℕ
  pub carried : HasBegin marks number place asked
  pub outside : IsOutsideOn marks number side asked item kind

-- the mark at the place begins no call
abbrev pub BeginsNone : List MarkOf → ℕ → Type 0
BeginsNone marks place = (number : ℤ) (client asked : List ℕ) → slice_get marks place ≡ Some (begins number client asked) → ⊥

-- where the call of this number ended, and the response to its request; nothing of an open call
abbrev pub EndRead : List MarkOf → ℤ → RequestOf → Result (Option (ℕ × Response)) CheckFault → Type 0
EndRead marks number request (Ok (Some (end, response))) = (answered : List ℕ) × HasEnd marks number end answered × AreResponse request answered (response_of response)
EndRead marks number request (Ok None) = (end : ℕ) (answered : List ℕ) → HasEnd marks number end answered → ⊥
EndRead marks number request (Err (Outside n side o)) =
    (n ≡ number) × (side ≡ Server) × ((end : ℕ) × (answered : List ℕ) × HasEnd marks number end answered × AreOutside (λ t. ResponseFault t request) answered o.item o.kind)
EndRead marks number request (Err (Witness w)) = ⊥
EndRead marks number request (Err Memory) = Unit {0}

-- what the bytes of an answer say to a request
abbrev pub AnswerRead : RequestOf → List ℕ → Result Response StepFault → Type 0
AnswerRead request bytes (Ok response) = AreResponse request bytes (response_of response)
AnswerRead request bytes (Err (step_fault.Unfit kind)) = (kind ≡ AnswerForm) × ((item : ℕ) × (reason : OutsideKind) × AreOutside (λ t. ResponseFault t request) bytes item reason)
AnswerRead request bytes (Err step_fault.Memory) = Unit {0}

abbrev pub MarkFault : List MarkOf → ℕ → CheckFault → Type 0
MarkFault marks place (Outside number side o) = IsOutsideAt marks place number side o.item o.kind
MarkFault marks place (Witness w) = ⊥
MarkFault marks place Memory = Unit {0}

-- the call that the mark at the place begins, if it begins one
abbrev pub MarkRead : List MarkOf → ℕ → Result (Option Call) CheckFault → Type 0
MarkRead marks place (Ok (Some call)) = IsRecorded marks (call_of call) × (call.begin ≡ place)
MarkRead marks place (Ok None) = BeginsNone marks place
MarkRead marks place (Err fault) = MarkFault marks place fault

-- the calls are those that the first so many marks begin
pub record AreReadUpTo (marks : List MarkOf) (place : ℕ) (calls : List CallOf) : Type 0 where
  pub recorded : All (IsRecorded marks) calls
  pub numbers : map (λ (c : CallOf). c.number) calls ≡ begun (take place marks)
