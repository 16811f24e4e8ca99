-- The response that a call has by a turn (profile).
use Rattle.std.specs.Prelude.{◌≡◌, ℕ, true, List, Option, Some, None}
use Rattle.kmipa_ttlv.specs.Tree.{Tree}
use Rattle.kmipa_record.specs.Witnesses.{TurnOf}
use Rattle.kmipa_places.specs.Fits.{IsFitAnswer}
use Rattle.kmipa_places.specs.Unread.{is_among}
use Rattle.kmipa_turns.specs.Recorded.{RecordedOf, IsItem}
use Rattle.kmipa_check.specs.declared.fault.WitnessKind.{WitnessKind}
use Rattle.kmipa_check.specs.declared.fault.WitnessKind.TheVariants.{AnswerNotWanted, AnswerMissing, AnswerForm}

-- the turn sets the call aside as a whole
abbrev pub SetsAside : TurnOf → Type 0
SetsAside t = is_among t.asides 0 ≡ true

-- The item of its response, none where its bytes spell none: of a call that has ended the recorded one, and the turn gives none; of an open call
-- the answer that the turn gives, which fits the request. An open call that the turn sets aside has none, and its answer isn't looked at.
pub data IsAnswered (c : RecordedOf) (t : TurnOf) (request response : Option Tree) : Type 0 where
  recorded : (bytes : List ℕ) → c.response ≡ Some bytes → t.answer ≡ None → IsItem bytes response → IsAnswered c t request response
  given : (bytes : List ℕ) → c.response ≡ None → (SetsAside t → ⊥) → t.answer ≡ Some bytes → IsItem bytes response → IsFitAnswer request response
      → IsAnswered c t request response
  left : c.response ≡ None → SetsAside t → response ≡ None → IsAnswered c t request response

-- the fault of a turn's answer: one to a call that has ended; none to an open call; or one that doesn't fit its request
pub data AnswerFault (c : RecordedOf) (t : TurnOf) (request : Option Tree) (kind : WitnessKind) : Type 0 where
  answered : (bytes : List ℕ) → c.response ≡ Some bytes → (t.answer ≡ None → ⊥) → kind ≡ AnswerNotWanted → AnswerFault c t request kind
  unanswered : c.response ≡ None → (SetsAside t → ⊥) → t.answer ≡ None → kind ≡ AnswerMissing → AnswerFault c t request kind
  formless : (bytes : List ℕ) (response : Option Tree) → c.response ≡ None → (SetsAside t → ⊥) → t.answer ≡ Some bytes → IsItem bytes response
      → (IsFitAnswer request response → ⊥) → kind ≡ AnswerForm → AnswerFault c t request kind
