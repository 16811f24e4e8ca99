-- The calls of a transcript: what their messages say, and which message is the first that is outside the profile.
use Rattle.std.specs.Prelude.{◌≡◌, ◌<◌, ℕ, ℤ, List, map, length, take, All, AllPairs, Contains, slice_get, Option, Some, None, option_map}
use Rattle.kmipa_ttlv.specs.Tree.{Tree}
use Rattle.kmipa_ttlv.specs.Spelling.{Spells}
use Rattle.kmipa_record.specs.Marks.{MarkOf, begins, ends, begun}
use Rattle.kmipa_msgs.specs.declared.kind.OutsideKind.{OutsideKind}
use Rattle.kmipa_msgs.specs.declared.kind.OutsideKind.TheVariants.{NotAMessage}
use Rattle.kmipa_msgs.specs.Messages.{RequestOf, ResponseOf, request_of, response_of}
use Rattle.kmipa_msgs.specs.Outside.{Inside, OutsideAt}
use Rattle.kmipa_msgs.specs.Requests.{SaysRequest, RequestFault}
use Rattle.kmipa_msgs.specs.Responses.{SaysResponse, ResponseFault}
use Rattle.kmipa_record.specs.declared.call.Call.{Call}
use Rattle.kmipa_check.specs.declared.fault.Side.{Side}
use Rattle.kmipa_check.specs.declared.fault.Side.TheVariants.{Client, Server}

-- the bytes spell one item, which says this message and no other
pub record AreMessage {M : Type 0} (Said : Tree → M → Type 0) (Fault : Tree → ℕ → OutsideKind → Type 0) (bytes : List ℕ) (message : M) : Type 0 where
  pub item : Tree
  pub spelled : Spells item bytes
  pub inside : Inside (Said item) (Fault item) message

-- the bytes spell no item, or one that is outside at this place for this reason
pub data AreOutside (Fault : Tree → ℕ → OutsideKind → Type 0) (bytes : List ℕ) (place : ℕ) (kind : OutsideKind) : Type 0 where
  no_item : ((item : Tree) → Spells item bytes → ⊥) → place ≡ 0 → kind ≡ NotAMessage → AreOutside Fault bytes place kind
  outside : (item : Tree) → Spells item bytes → OutsideAt (Fault item) place kind → AreOutside Fault bytes place kind

abbrev pub AreRequest : List ℕ → RequestOf → Type 0
AreRequest = AreMessage SaysRequest RequestFault

abbrev pub AreResponse : RequestOf → List ℕ → ResponseOf → Type 0
AreResponse request = AreMessage (λ t. SaysResponse t request) (λ t. ResponseFault t request)

-- A call as it was recorded: its number, the place of its begin mark among the marks, that of its end mark where it has one, what its
-- request says, and what its response says where it has one.
pub record CallOf : Type 0 where
  pub number : ℤ
  pub begin : ℕ
  pub end : Option ℕ
  pub request : RequestOf
  pub response : Option ResponseOf

-- the begin mark of a call of this number stands at this place, and carries this message
pub record HasBegin (marks : List MarkOf) (number : ℤ) (begin : ℕ) (asked : List ℕ) : Type 0 where
  pub client : List ℕ
  pub there : slice_get marks begin ≡ Some (begins number client asked)

-- so does its end mark
abbrev pub HasEnd : List MarkOf → ℤ → ℕ → List ℕ → Type 0
HasEnd marks number end answered = slice_get marks end ≡ Some (ends number answered)

-- how a call ended: its end mark carries what its response says; or it is open, and has neither
pub data IsEnded (marks : List MarkOf) (c : CallOf) : Type 0 where
  has_ended : (end : ℕ) (answered : List ℕ) (response : ResponseOf) → HasEnd marks c.number end answered → AreResponse c.request answered response
      → c.end ≡ Some end → c.response ≡ Some response → IsEnded marks c
  is_open : ((end : ℕ) (answered : List ℕ) → HasEnd marks c.number end answered → ⊥) → c.end ≡ None → c.response ≡ None → IsEnded marks c

-- the call is recorded so
pub record IsRecorded (marks : List MarkOf) (c : CallOf) : Type 0 where
  pub asked : List ℕ
  pub carried : HasBegin marks c.number c.begin asked
  pub request : AreRequest asked c.request
  pub ended : IsEnded marks c

-- these are the first calls of a transcript, in the order of their begin marks
pub record AreFirstCalls (marks : List MarkOf) (calls : List CallOf) : Type 0 where
  pub numbers : map (λ (c : CallOf). c.number) calls ≡ take (length calls) (begun marks)
  pub recorded : All (IsRecorded marks) calls

-- these are all its calls
pub record AreCalls (marks : List MarkOf) (calls : List CallOf) : Type 0 where
  pub numbers : map (λ (c : CallOf). c.number) calls ≡ begun marks
  pub recorded : All (IsRecorded marks) calls

-- the calls begin one after the other, and each ends after its begin
pub record AreTimed (calls : List CallOf) : Type 0 where
  pub ascend : AllPairs (λ (a b : CallOf). a.begin < b.begin) calls
  pub closed : (c : CallOf) (end : ℕ) → Contains calls c → c.end ≡ Some end → c.begin < end

-- the call of this number has ended, its request isn't outside, and its response is
pub record IsResponseOutside (marks : List MarkOf) (number : ℤ) (asked : List ℕ) (item : ℕ) (kind : OutsideKind) : Type 0 where
  pub end : ℕ
  pub answered : List ℕ
  pub ended : HasEnd marks number end answered
  pub request : RequestOf
  pub said : AreRequest asked request
  pub outside : AreOutside (λ t. ResponseFault t request) answered item kind

-- a call's request is outside; or it isn't, and its response is
abbrev pub IsOutsideOn : List MarkOf → ℤ → Side → List ℕ → ℕ → OutsideKind → Type 0
IsOutsideOn marks number Client asked item kind = AreOutside RequestFault asked item kind
IsOutsideOn marks number Server asked item kind = IsResponseOutside marks number asked item kind

-- the messages of these calls are inside, and the next call, by begin marks, is this one, whose message on this side is outside
pub record IsFirstOutside (marks : List MarkOf) (number : ℤ) (side : Side) (item : ℕ) (kind : OutsideKind) : Type 0 where
  pub before : List CallOf
  pub inside : AreFirstCalls marks before
  pub next : slice_get (begun marks) (length before) ≡ Some number
  pub begin : ℕ
  pub asked : List ℕ
  pub carried : HasBegin marks number begin asked
  pub outside : IsOutsideOn marks number side asked item kind

-- what a call of the program means
abbrev pub call_of : Call → CallOf
call_of c = record { number = c.number; begin = c.begin; end = c.end; request = request_of c.request; response = option_map response_of c.response }
