-- What the tables of demands say together: a message is outside for a kind exactly where a demand of this kind fails.
use Rattle.std.specs.Prelude.{◌≡◌, ◌≢◌, ◌⊎◌, ℕ, true, List, [], ◌∷◌, ◌++◌}
use Rattle.kmipa_ttlv.specs.Tree.{Tree, Trees, tag_of}
use Rattle.kmipa_attrs.specs.Tags.{request_message, response_message}
use Rattle.kmipa_msgs.specs.declared.kind.OutsideKind.{OutsideKind}
use Rattle.kmipa_msgs.specs.declared.kind.OutsideKind.TheVariants.{Disagree, Unordered}
use Rattle.kmipa_msgs.specs.declared.operation.Operation.{Operation}
use Rattle.kmipa_msgs.specs.Asks.{AskedFault}
use Rattle.kmipa_msgs.specs.Payloads.{DoneFault}
use Rattle.kmipa_msgs.specs.Operations.{is_judged}
use Rattle.kmipa_msgs.specs.Messages.{RequestOf}
use Rattle.kmipa_msgs.specs.Requests.{RequestFault}
use Rattle.kmipa_msgs.specs.Responses.{ResponseFault}
use Rattle.kmipa_outside.specs.AgreementDemands.{agreement_demands}
use Rattle.kmipa_outside.specs.Demands.{Fails}
use Rattle.kmipa_outside.specs.Requests.{request_fields}
use Rattle.kmipa_outside.specs.Responses.{response_fields}
use Rattle.kmipa_outside.specs.Tables.{asked_demands, done_demands}
use Rattle.kmipa_outside.specs.declared.demand.Demand.{Demand}

-- some element
abbrev pub AnyOf : {A : Type 0} → (A → Type 0) → List A → Type 0
AnyOf P [] = ⊥
AnyOf P (x ∷ xs) = P x ⊎ AnyOf P xs

-- each element
abbrev pub Each : {A : Type 0} → (A → Type 0) → List A → Type 0
Each P [] = Unit {0}
Each P (x ∷ xs) = P x × Each P xs

-- the demand is of this kind, and fails
abbrev pub IsBroken : OutsideKind → Trees → Demand → Type 0
IsBroken k ts d = (d.kind ≡ k) × Fails d ts

-- where a demand on a Request Payload fails, the payload is outside for the demand's kind
abbrev pub AskedDemandsAreReasons : Type 0
AskedDemandsAreReasons = (operation : Operation) (ts : Trees) → Each (λ d. Fails d ts → AskedFault operation ts d.kind) (asked_demands operation)

-- and where it is outside for a kind, a demand of this kind fails, or two fields that are to say the same don't
abbrev pub AskedReasonsAreDemanded : Type 0
AskedReasonsAreDemanded = (operation : Operation) (ts : Trees) (k : OutsideKind) → AskedFault operation ts k → AnyOf (IsBroken k ts) (asked_demands operation ++ agreement_demands operation ts)

-- where two fields that are to say the same don't, and nothing else is at fault, the payload is outside for `Disagree`
abbrev pub AgreementsAreReasons : Type 0
AgreementsAreReasons = (operation : Operation) (ts : Trees) → ((k : OutsideKind) → AskedFault operation ts k → k ≡ Disagree)
    → AnyOf (λ d. Fails d ts) (agreement_demands operation ts) → AskedFault operation ts Disagree

-- the same of a Response Payload
abbrev pub DoneDemandsAreReasons : Type 0
DoneDemandsAreReasons = (operation : Operation) (ts : Trees) → Each (λ d. Fails d ts → DoneFault operation ts d.kind) (done_demands operation)

abbrev pub DoneReasonsAreDemanded : Type 0
DoneReasonsAreDemanded = (operation : Operation) (ts : Trees) (k : OutsideKind) → is_judged operation ≡ true → DoneFault operation ts k → AnyOf (IsBroken k ts) (done_demands operation)

-- Where fields of a request are told at an item for a kind, the request is outside there for this kind. Where an item is outside for `Unordered`, it
-- says what it asks for; and of `Disagree` it is so where the item has no other fault.
abbrev pub RequestFieldsAreReasons : Type 0
RequestFieldsAreReasons = (t : Tree) (item : ℕ) (k : OutsideKind) → k ≢ Unordered → (k ≡ Disagree → (j : OutsideKind) → RequestFault t item j → j ≡ Disagree)
    → request_fields t item k ≢ [] → RequestFault t item k

-- and where it is outside, fields are told
abbrev pub RequestReasonsHaveFields : Type 0
RequestReasonsHaveFields = (t : Tree) (item : ℕ) (k : OutsideKind) → tag_of t ≡ request_message → RequestFault t item k → request_fields t item k ≢ []

-- where fields of a response are told at an item for a kind, it is outside there for this kind
abbrev pub ResponseFieldsAreReasons : Type 0
ResponseFieldsAreReasons = (t : Tree) (request : RequestOf) (item : ℕ) (k : OutsideKind) → response_fields t request item k ≢ [] → ResponseFault t request item k

-- and where the response itself is outside, fields are told
abbrev pub ResponseReasonsHaveFields : Type 0
ResponseReasonsHaveFields = (t : Tree) (request : RequestOf) (k : OutsideKind) → tag_of t ≡ response_message → ResponseFault t request 0 k → response_fields t request 0 k ≢ []
