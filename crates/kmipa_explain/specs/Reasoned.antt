-- What a reason that speaks against an item says of what was held. Not promised: `Holding` says what is told.
use Rattle.std.specs.Prelude.{◌≡◌, ◌≢◌, ℕ, ℤ, List, Option, Some, None}
use Rattle.kmipa_object.specs.Life.{Dates, state}
use Rattle.kmipa_object.specs.Allowances.{allows}
use Rattle.kmipa_object.specs.declared.allow.Act.{Act}
use Rattle.kmipa_object.specs.declared.allow.Allow.TheVariants.{Not}
use Rattle.kmipa_attrs.specs.Sets.{NameOf}
use Rattle.kmipa_msgs.specs.Messages.{AskedOf, AskOf, PayloadOf, AnswerOf}
use Rattle.kmipa_record.specs.Declarations.{DeclarationOf}
use Rattle.kmipa_ops.specs.Explains.{shows}
use Rattle.kmipa_ops.specs.declared.why.Why.{Why}
use Rattle.kmipa_ops.specs.declared.why.Why.TheVariants.{NoSuchObject, WrongState, IdentifierTaken, NameTaken, BytesDiffer, LengthImpossible, AttributeDiffers, AttributeMissing, ListedWrongly, ListedTooFew, ReasonUnfounded, EchoDiffers}
use Rattle.kmipa_batch.specs.Calls.{pairs_of}
use Rattle.kmipa_check.specs.Runs.{rules_declared}
use Rattle.kmipa_check.specs.Steps.{StepOf}
use Rattle.kmipa_explain.specs.Echoes.{DiffersSomehow}
use Rattle.kmipa_explain.specs.Holding.{act_asked, bytes_held, dates_held, object_held}
use Rattle.kmipa_explain.specs.Items.{about}
use Rattle.kmipa_explain.specs.Lengths.{IsImpossible}
use Rattle.kmipa_explain.specs.Places.{at_item}
use Rattle.kmipa_explain.specs.Taken.{IsBorne, IsTaken}
use Rattle.kmipa_explain.specs.declared.held.LengthHeld.{LengthHeld}
use Rattle.kmipa_explain.specs.ValueReasons.{LacksRequired, ShowsForeign}
use Rattle.kmipa_explain.specs.LeftOut.{LeavesSomeOut}
use Rattle.kmipa_explain.specs.Listed.{IsListedWrongly}
use Rattle.kmipa_explain.specs.Unfounded.{FailsFor}

-- the server's rules exclude the operation in the object's state
pub record IsExcludedThere (held : DeclarationOf) (meant : Option (List ℕ)) (t : ℤ) (asked : AskedOf) : Type 0 where
  pub dates : Dates
  pub had : dates_held held meant ≡ Some dates
  pub act : Act
  pub judged : act_asked asked ≡ Some act
  pub excluded : allows (rules_declared held).allow_lines act (state dates t) ≡ Not

-- other bytes of it are known than are shown
pub record KnowsOtherBytes (held : DeclarationOf) (meant : Option (List ℕ)) (payload : Option PayloadOf) : Type 0 where
  pub known : List ℕ
  pub are_known : bytes_held held meant ≡ Some known
  pub shown : List ℕ
  pub are_shown : shows payload ≡ Some shown
  pub apart : known ≢ shown

abbrev pub HeldReason : Why → DeclarationOf → Option (List ℕ) → ℤ → AskOf → AnswerOf → Type 0
HeldReason NoSuchObject held meant t ask answer = object_held held meant ≡ None
HeldReason WrongState held meant t ask answer = IsExcludedThere held meant t ask.asked
HeldReason IdentifierTaken held meant t ask answer = (id : List ℕ) × IsTaken held meant ask.asked id
HeldReason NameTaken held meant t ask answer = (name : NameOf) × (bearer : List ℕ) × IsBorne held ask.asked name bearer
HeldReason BytesDiffer held meant t ask answer = KnowsOtherBytes held meant answer.payload
HeldReason LengthImpossible held meant t ask answer = (l : LengthHeld) × IsImpossible (object_held held meant) ask.asked answer.payload l
HeldReason EchoDiffers held meant t ask answer = DiffersSomehow meant ask answer
HeldReason AttributeDiffers held meant t ask answer = ShowsForeign (object_held held meant) t answer.payload
HeldReason AttributeMissing held meant t ask answer = LacksRequired (object_held held meant) ask.asked answer.payload
HeldReason ListedWrongly held meant t ask answer = IsListedWrongly held t ask answer
HeldReason ListedTooFew held meant t ask answer = LeavesSomeOut held t ask answer
HeldReason ReasonUnfounded held meant t ask answer = (reason : ℕ) × FailsFor answer reason
HeldReason why held meant t ask answer = Unit {0}

-- against the item of a call, by what the ID Placeholder holds
pub record IsReasoned (held : DeclarationOf) (placeholder : Option (List ℕ)) (c : StepOf) (item : ℕ) (why : Why) : Type 0 where
  pub ask : AskOf
  pub answer : AnswerOf
  pub there : at_item (pairs_of c.request c.response) item ≡ Some (ask, answer)
  pub reason : HeldReason why held (about placeholder ask.asked answer.payload) c.response.stamp ask answer
