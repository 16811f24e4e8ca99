-- A PLACE OF A CALL: an item of the request that has an answer. It is judged, or it is passed (profile).
use Rattle.std.specs.Prelude.{◌≡◌, ℕ, Bool, true, false, ◌==◌, if◌then◌else◌, Option, Some, None}
use Rattle.kmipa_ttlv.specs.Tree.{Tree}
use Rattle.kmipa_attrs.specs.Fields.{at, inside, value_in, as_structure, as_enumeration}
use Rattle.kmipa_attrs.specs.Tags.{operation_tag, request_payload, response_payload}
use Rattle.kmipa_attrs.specs.declared.fields.Field.{Field}
use Rattle.kmipa_attrs.specs.declared.fields.Field.TheVariants.{Absent, Wrong, There}
use Rattle.kmipa_msgs.specs.declared.kind.OutsideKind.{OutsideKind}
use Rattle.kmipa_msgs.specs.Messages.{AskOf, AnswerOf, ask_of, answer_of}
use Rattle.kmipa_msgs.specs.Tables.{children}
use Rattle.kmipa_msgs.specs.Asks.{SaysAsk, ItemFault}
use Rattle.kmipa_msgs.specs.Replies.{SaysAnswer, AnswerFault}
use Rattle.kmipa_passed.specs.Passed.{request_says, answer_says}
use Rattle.kmipa_aside.specs.Passed.{PassedOf, passed_of}
use Rattle.kmipa_places.specs.Told.{told}
use Rattle.kmipa_places.specs.Unordered.{asks_in}
use Rattle.kmipa_places.specs.Outcomes.{outcome_at}
use Rattle.kmipa_places.specs.declared.place.By.{By}
use Rattle.kmipa_places.specs.declared.place.By.TheVariants.{Request, Answer, Witness}
use Rattle.kmipa_places.specs.declared.place.Place.{Place}
use Rattle.kmipa_places.specs.declared.place.Place

-- ---- what is known of a place that is passed

-- Poll (KMIP 2.1, section 11)
abbrev pub poll : ℕ
poll = 0x1A

abbrev pub is_poll : Field ℕ → Bool
is_poll Absent = false
is_poll Wrong = false
is_poll (There n) = n == poll

abbrev pub number_in : Field ℕ → ℕ
number_in Absent = 0
number_in Wrong = 0
number_in (There n) = n

-- the operation that an answer names, where one of this number is asked for
abbrev pub names_to : Field ℕ → Field ℕ → Option ℕ
names_to Absent named = None
names_to Wrong named = None
names_to (There n) named = if n == poll then None else value_in named

-- the Operation of an item
abbrev pub operation_at : Tree → Field ℕ
operation_at t = at as_enumeration operation_tag (children t)

-- What the items of a request, with or without order, and of its response say of a place that is passed: 0 is asked for where the Operation can't be
-- read, and the answer's is not judged where one of both can't be, nor that of a Poll, which is answered for another call.
pub record SaysPassed (unordered : Bool) (t u : Tree) (p : PassedOf) : Type 0 where
  pub asks : p.asks ≡ number_in (operation_at t)
  pub names : p.names ≡ names_to (operation_at t) (operation_at u)
  pub ask : p.ask ≡ asks_in unordered (request_says p.asks (inside request_payload (children t)))
  pub outcome : Some p.answer.outcome ≡ outcome_at u
  pub answer : p.answer ≡ answer_says p.answer.outcome (at as_structure response_payload (children u))

-- ---- which places are passed

-- Its request isn't judged: a condition holds at its item, which is kind 13 where the request is without order and the ID Placeholder is meant; or
-- it is a Poll.
pub data AsksPassed (unordered : Bool) (t : Tree) : Type 0 where
  item_outside : (k : OutsideKind) → ItemFault unordered (told t) k → AsksPassed unordered t
  polls : is_poll (operation_at t) ≡ true → AsksPassed unordered t

-- a condition holds at its answer to what is asked
pub data AnswersPassed (t u : Tree) : Type 0 where
  answer_outside : (ask : AskOf) → SaysAsk (told t) ask → (k : OutsideKind) → AnswerFault (Some ask) u k → AnswersPassed t u

-- The first of these by which it is passed: its request, its answer, or the witness, which sets it aside.
pub data IsPassed (unordered aside : Bool) (t u : Tree) (by : By) : Type 0 where
  by_request : by ≡ Request → AsksPassed unordered t → IsPassed unordered aside t u by
  by_answer : by ≡ Answer → (AsksPassed unordered t → ⊥) → AnswersPassed t u → IsPassed unordered aside t u by
  by_witness : by ≡ Witness → (AsksPassed unordered t → ⊥) → (AnswersPassed t u → ⊥) → aside ≡ true → IsPassed unordered aside t u by

-- none is, and it is judged as its request and its answer say
pub record IsJudged (unordered aside : Bool) (t u : Tree) (ask : AskOf) (answer : AnswerOf) : Type 0 where
  pub asks : SaysAsk (told t) ask
  pub answers : SaysAnswer (Some ask) u answer
  pub request : AsksPassed unordered t → ⊥
  pub response : AnswersPassed t u → ⊥
  pub witness : aside ≡ false

-- ---- THE PLACE

pub data PlaceOf : Type 0 where
  judged : AskOf → AnswerOf → PlaceOf
  passed : By → PassedOf → PlaceOf

abbrev pub place_of : Place → PlaceOf
place_of (Place.TheVariants.Judged ask answer) = judged (ask_of ask) (answer_of answer)
place_of (Place.TheVariants.Passed by p) = passed by (passed_of p)

-- of a request with or without order; set aside by the witness or not; with these items of its request and its response
abbrev pub IsPlace : Bool → Bool → Tree → Tree → PlaceOf → Type 0
IsPlace unordered aside t u (judged ask answer) = IsJudged unordered aside t u ask answer
IsPlace unordered aside t u (passed by p) = IsPassed unordered aside t u by × SaysPassed unordered t u p
