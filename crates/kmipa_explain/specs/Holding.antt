-- What the reasons rest on that speak of an object, told of what was held where the item was refused.
use Rattle.std.specs.Prelude.{◌≡◌, ◌≢◌, ◌<◌, ℕ, ℤ, List, length, slice_get, Option, Some, None, option_map}
use Rattle.std.specs.String.{string_bytes}
use Rattle.kmipa_object.specs.declared.allow.Allow.TheVariants.{Not}
use Rattle.kmipa_msgs.specs.Messages.{AskedOf, AskOf, PayloadOf, AnswerOf}
use Rattle.kmipa_record.specs.Declarations.{DeclarationOf}
use Rattle.kmipa_ops.specs.Explains.{shows}
use Rattle.kmipa_ops.specs.declared.why.Why.{Why}
use Rattle.kmipa_ops.specs.declared.why.Why.TheVariants.{NoSuchObject, WrongState, IdentifierTaken, NameTaken, BytesDiffer, LengthImpossible, AttributeDiffers, AttributeMissing, ListedWrongly, ListedTooFew, ReasonUnfounded, EchoDiffers}
use Rattle.kmipa_explain.specs.Echoes.{TellsEcho}
use Rattle.kmipa_explain.specs.Items.{about}
use Rattle.kmipa_explain.specs.Lengths.{TellsLength}
use Rattle.kmipa_explain.specs.Taken.{TellsIdentifier, TellsName}
use Rattle.kmipa_explain.specs.Values.{TellsDiffering, TellsMissing}
use Rattle.kmipa_explain.specs.LeftOut.{TellsLeft}
use Rattle.kmipa_explain.specs.Listed.{TellsListed}
pub use Rattle.kmipa_explain.specs.Meant.{act_asked, bytes_held, dates_held, dates_told, object_held}
use Rattle.kmipa_explain.specs.Unfounded.{IsJudgedBy, TellsReason}
use Rattle.kmipa_explain.specs.declared.explanation.Cause.{Cause}
use Rattle.kmipa_explain.specs.declared.explanation.Cause.TheVariants as told
use Rattle.kmipa_explain.specs.declared.held.BytesHeld.{BytesHeld}
use Rattle.kmipa_explain.specs.declared.held.StateHeld.{StateHeld}

-- ---- NoSuchObject

-- there is no object of the identifier that is meant, and this is the identifier
pub record IsAbsent (held : DeclarationOf) (meant : Option (List ℕ)) (id : Option (List ℕ)) : Type 0 where
  pub identifier : id ≡ meant
  pub absent : object_held held meant ≡ None

-- ---- WrongState

-- the object as the operation on it is judged, and the server's rules exclude it
pub record IsExcludedBy (held : DeclarationOf) (meant : Option (List ℕ)) (t : ℤ) (asked : AskedOf) (s : StateHeld) : Type 0 where
  pub judged : IsJudgedBy held meant t asked s
  pub excluded : s.allow ≡ Not

-- ---- BytesDiffer

-- the first place where two lists differ: before it the same stands in both, and at it not; behind an end stands nothing
pub record DiffersFirst (xs ys : List ℕ) (place : ℕ) : Type 0 where
  pub before : (earlier : ℕ) → earlier < place → slice_get xs earlier ≡ slice_get ys earlier
  pub here : slice_get xs place ≢ slice_get ys place

-- of the object other bytes are known than the answer shows
pub record AreOtherBytes (held : DeclarationOf) (meant : Option (List ℕ)) (payload : Option PayloadOf) (b : BytesHeld) : Type 0 where
  pub known : List ℕ
  pub are_known : bytes_held held meant ≡ Some known
  pub shown : List ℕ
  pub are_shown : shows payload ≡ Some shown
  pub known_length : b.known ≡ length known
  pub shown_length : b.shown ≡ length shown
  pub first : DiffersFirst known shown b.differ_at

-- ---- the causes

abbrev pub TellsAbsent : DeclarationOf → Option (List ℕ) → Cause → Type 0
TellsAbsent held meant (told.NoObject id) = IsAbsent held meant (option_map string_bytes id)
TellsAbsent held meant other = ⊥

abbrev pub TellsState : DeclarationOf → Option (List ℕ) → ℤ → AskedOf → Cause → Type 0
TellsState held meant t asked (told.State s) = IsExcludedBy held meant t asked s
TellsState held meant t asked other = ⊥

abbrev pub TellsBytes : DeclarationOf → Option (List ℕ) → Option PayloadOf → Cause → Type 0
TellsBytes held meant payload (told.Bytes b) = AreOtherBytes held meant payload b
TellsBytes held meant payload other = ⊥

-- what a reason rests on, where this was held and this identifier is meant, at the moment; of the reasons that aren't listed no more is told
abbrev pub TellsHeld : Why → DeclarationOf → Option (List ℕ) → ℤ → AskOf → AnswerOf → Cause → Type 0
TellsHeld NoSuchObject held meant t ask answer cause = TellsAbsent held meant cause
TellsHeld WrongState held meant t ask answer cause = TellsState held meant t ask.asked cause
TellsHeld IdentifierTaken held meant t ask answer cause = TellsIdentifier held meant ask.asked cause
TellsHeld NameTaken held meant t ask answer cause = TellsName held ask.asked cause
TellsHeld BytesDiffer held meant t ask answer cause = TellsBytes held meant answer.payload cause
TellsHeld LengthImpossible held meant t ask answer cause = TellsLength (object_held held meant) ask.asked answer.payload cause
TellsHeld EchoDiffers held meant t ask answer cause = TellsEcho meant ask answer cause
TellsHeld AttributeDiffers held meant t ask answer cause = TellsDiffering (object_held held meant) t answer.payload cause
TellsHeld AttributeMissing held meant t ask answer cause = TellsMissing (object_held held meant) t ask.asked answer.payload cause
TellsHeld ListedWrongly held meant t ask answer cause = TellsListed held t ask answer cause
TellsHeld ListedTooFew held meant t ask answer cause = TellsLeft held t ask answer cause
TellsHeld ReasonUnfounded held meant t ask answer cause = TellsReason held meant t ask.asked answer cause
TellsHeld why held meant t ask answer cause = cause ≡ told.Object

-- the same of an item with its answer, by what the ID Placeholder holds
abbrev pub TellsItem : Why → ℤ → Cause → DeclarationOf → Option (List ℕ) → AskOf → AnswerOf → Type 0
TellsItem why t cause held placeholder ask answer = TellsHeld why held (about placeholder ask.asked answer.payload) t ask answer cause
