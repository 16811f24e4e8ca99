-- What an explanation of a message that is outside claims.
use Rattle.std.specs.Prelude.{◌≡◌, ℕ, zero, suc, ℤ, List, slice_get, Option, Some, None, option_and_then}
use Rattle.std.specs.String.{string_bytes}
use Rattle.kmipa_ttlv.specs.Spelling.{Spells}
use Rattle.kmipa_ttlv.specs.Tree.{Tree}
use Rattle.kmipa_attrs.specs.Fields.{at, value_in, as_enumeration}
use Rattle.kmipa_attrs.specs.Tags.{operation_tag}
use Rattle.kmipa_msgs.specs.declared.kind.OutsideKind.{OutsideKind}
use Rattle.kmipa_msgs.specs.Headers.{batch}
use Rattle.kmipa_msgs.specs.Messages.{RequestOf}
use Rattle.kmipa_msgs.specs.Tables.{children}
use Rattle.kmipa_record.specs.Marks.{MarkOf, begins, mark_of}
use Rattle.kmipa_record.specs.declared.transcript.Begin.{Begin}
use Rattle.kmipa_record.specs.declared.transcript.End.{End}
use Rattle.kmipa_check.specs.Calls.{AreRequest, HasBegin, HasEnd}
use Rattle.kmipa_check.specs.declared.fault.Side.{Side}
use Rattle.kmipa_check.specs.declared.fault.Side.TheVariants.{Client, Server}
use Rattle.kmipa_outside.specs.Messages.{TellsRequest, TellsResponse}
use Rattle.kmipa_outside.specs.declared.explaining.OutsideExplanation.{OutsideExplanation}
use Rattle.kmipa_outside.specs.declared.told.MessageTold.{MessageTold}

-- the number of the operation that an item asks for
abbrev pub number_of : Tree → Option ℕ
number_of t = value_in (at as_enumeration operation_tag (children t))

-- the same at an item of a request, counted from 1; none of the request itself
abbrev pub number_asked : Tree → ℕ → Option ℕ
number_asked t zero = None
number_asked t (suc place) = option_and_then number_of (slice_get (batch t) place)

-- what the bytes of a request ask for at an item; nothing, where they spell no item
abbrev pub AsksNumber : List ℕ → ℕ → Option ℕ → Type 0
AsksNumber bytes item None = (t : Tree) → Spells t bytes → number_asked t item ≡ None
AsksNumber bytes item (Some number) = (t : Tree) × Spells t bytes × (number_asked t item ≡ Some number)

-- what is told of the response to a request
pub record TellsAnswer (marks : List MarkOf) (number : ℤ) (asked : List ℕ) (item : ℕ) (kind : OutsideKind) (told : MessageTold) : Type 0 where
  pub end : ℕ
  pub answered : List ℕ
  pub ended : HasEnd marks number end answered
  pub request : RequestOf
  pub said : AreRequest asked request
  pub tells : TellsResponse request answered item kind told

-- what is told of the call's message on this side
abbrev pub TellsSide : List MarkOf → ℤ → Side → List ℕ → ℕ → OutsideKind → MessageTold → Type 0
TellsSide marks number Client asked item kind told = TellsRequest asked item kind told
TellsSide marks number Server asked item kind told = TellsAnswer marks number asked item kind told

-- each claim holds of the call of this number: who asked, what for at this item, and what its message on this side has there
pub record ExplainsOutside (marks : List MarkOf) (number : ℤ) (side : Side) (item : ℕ) (kind : OutsideKind) (e : OutsideExplanation) : Type 0 where
  pub begin : ℕ
  pub asked : List ℕ
  pub same_side : e.side ≡ side
  pub begun : slice_get marks begin ≡ Some (begins number (string_bytes e.client) asked)
  pub operation : AsksNumber asked item e.operation
  pub told : TellsSide marks number side asked item kind e.told

-- ---- how the messages are found, not promised

-- it is a begin mark of the call of this number
abbrev pub IsBeginOf : List MarkOf → ℤ → Begin → Type 0
IsBeginOf marks number b = (place : ℕ) × (slice_get marks place ≡ Some (begins number (string_bytes b.client) b.message.items))

-- it is an end mark of the call of this number
abbrev pub IsEndOf : List MarkOf → ℤ → End → Type 0
IsEndOf marks number e = (place : ℕ) × HasEnd marks number place e.message.items

-- the call of this number has no begin mark, or no end mark
abbrev pub HasNoBegin : List MarkOf → ℤ → Type 0
HasNoBegin marks number = (place : ℕ) (asked : List ℕ) → HasBegin marks number place asked → ⊥

abbrev pub HasNoEnd : List MarkOf → ℤ → Type 0
HasNoEnd marks number = (place : ℕ) (answered : List ℕ) → HasEnd marks number place answered → ⊥

-- the bytes say some request
abbrev pub SaysSome : List ℕ → Type 0
SaysSome bytes = (request : RequestOf) × AreRequest bytes request
