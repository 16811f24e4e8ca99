-- How many items an audit judged, and how many it set aside.
use Rattle.std.specs.Prelude.{◌≡◌, ◌≢◌, ℕ, ◌+◌, Bool, not, List, [], ◌∷◌, length, Option, Some, None}
use Rattle.std.specs.List.{count_by}
use Rattle.kmipa_ttlv.specs.Stream.{capped}
use Rattle.kmipa_msgs.specs.Messages.{AskOf, AnswerOf, operation_asked}
use Rattle.kmipa_msgs.specs.Operations.{is_judged}
use Rattle.kmipa_msgs.specs.declared.rules.Unjudged.TheVariants.{Refused}
use Rattle.kmipa_record.specs.Declarations.{DeclarationOf, IsDeclaration}
use Rattle.kmipa_record.specs.Marks.{MarkOf}
use Rattle.kmipa_record.specs.Transcripts.{IsTranscript}
use Rattle.kmipa_record.specs.Witnesses.{TurnOf, IsWitness}
use Rattle.kmipa_batch.specs.Calls.{pairs_of}
use Rattle.kmipa_check.specs.Calls.{CallOf, AreCalls}
use Rattle.kmipa_check.specs.Grants.{grants_declared}
use Rattle.kmipa_check.specs.Orders.{IsOrder}
use Rattle.kmipa_check.specs.Steps.{StepOf}
use Rattle.kmipa_stream.specs.declared.tally.Tally.{Tally}

-- how many items of these steps have an answer: the places that have a Batch Item in the request and in the response
abbrev pub items_in : List StepOf → ℕ
items_in [] = 0
items_in (s ∷ steps) = length (pairs_of s.request s.response) + items_in steps

-- the turns make an order of the calls, and so many items of its steps have an answer, as far as 64 bits count
pub record AreCounted (marks : List MarkOf) (declared : DeclarationOf) (turns : List TurnOf) (items : ℕ) : Type 0 where
  pub calls : List CallOf
  pub are : AreCalls marks calls
  pub steps : List StepOf
  pub order : IsOrder (grants_declared declared) calls turns steps
  pub counted : items ≡ capped (items_in steps)

-- the bytes are a transcript, a declaration and a witness, whose order has so many items
pub record HaveItems (t d w : List ℕ) (items : ℕ) : Type 0 where
  pub marks : List MarkOf
  pub transcript : IsTranscript t marks
  pub declared : DeclarationOf
  pub declaration : IsDeclaration d declared
  pub turns : List TurnOf
  pub witness : IsWitness w turns
  pub counted : AreCounted marks declared turns items

-- ---- what becomes of them

-- the item asks for one of the operations that are judged; and for none of them
abbrev pub asks_judged : AskOf × AnswerOf → Bool
asks_judged pair = is_judged (operation_asked pair.0.asked)

abbrev pub asks_other : AskOf × AnswerOf → Bool
asks_other pair = not (asks_judged pair)

-- how many items of these steps that have an answer pass the test
abbrev pub count_in : (AskOf × AnswerOf → Bool) → List StepOf → ℕ
count_in test [] = 0
count_in test (s ∷ steps) = count_by test (pairs_of s.request s.response) + count_in test steps

-- The items of these steps that have an answer, as far as 64 bits count: one that asks for a judged operation is judged, and each other one
-- is set aside by its request.
abbrev pub tally_of : List StepOf → Tally
tally_of steps = record { judged = capped (count_in asks_judged steps); by_request = capped (count_in asks_other steps) }

-- the turns make an order of the calls, and this becomes of its items
pub record AreTallied (marks : List MarkOf) (declared : DeclarationOf) (turns : List TurnOf) (tally : Tally) : Type 0 where
  pub calls : List CallOf
  pub are : AreCalls marks calls
  pub steps : List StepOf
  pub order : IsOrder (grants_declared declared) calls turns steps
  pub tallied : tally ≡ tally_of steps

-- what is told of them: nothing by a declaration under which what isn't judged ends the audit
abbrev pub TalliesSo : List MarkOf → DeclarationOf → List TurnOf → Option Tally → Type 0
TalliesSo marks declared turns None = declared.settings.unjudged ≡ Refused
TalliesSo marks declared turns (Some tally) = (declared.settings.unjudged ≢ Refused) × AreTallied marks declared turns tally

-- the bytes are a transcript, a declaration and a witness, and this is told of the items of its order
pub record HaveTally (t d w : List ℕ) (tally : Option Tally) : Type 0 where
  pub marks : List MarkOf
  pub transcript : IsTranscript t marks
  pub declared : DeclarationOf
  pub declaration : IsDeclaration d declared
  pub turns : List TurnOf
  pub witness : IsWitness w turns
  pub tallied : TalliesSo marks declared turns tally
