-- What a call does to some of the objects, one or several: the part of the call on them. It is a call again, of as many items, answered with the
-- same statuses, over an inventory that has these objects or fewer. [profile]
use Rattle.std.specs.Prelude.{◌≡◌, ◌≢◌, ℕ, pos, Bool, true, false, cond, bytes_eq, List, [], ◌∷◌, length, Option, Some, None, option_map, option_and_then, Contains}
use Rattle.std.specs.List.{filter, filter_map, list_any, AllZip}
use Rattle.kmipa_attrs.specs.Filters.{FilterOf}
use Rattle.kmipa_object.specs.Inventory.{Thing}
use Rattle.kmipa_msgs.specs.declared.response.Status.{Status}
use Rattle.kmipa_msgs.specs.declared.response.Status.TheVariants.{Success, Failed, Undone}
use Rattle.kmipa_msgs.specs.Messages.{AskedOf, creates, registers, locates, gets, gets_attributes, activates, revokes, destroys, idles, AskOf, PayloadOf, located, AnswerOf, RegisteredOf, RequestOf}
use Rattle.kmipa_ops.specs.Create.{seen_created}
use Rattle.kmipa_ops.specs.Register.{seen_registered}
use Rattle.kmipa_ops.specs.Locate.{is_full}
use Rattle.kmipa_ops.specs.Objects.{meant}
use Rattle.kmipa_ops.specs.After.{placeholder_done}
use Rattle.kmipa_check.specs.Steps.{StepOf}

-- these are some of the objects: those of the identifiers that pass a test, as to be among some, or to be one
abbrev pub OwnOf : Type 0
OwnOf = List ℕ → Bool

-- an identifier is among these
abbrev pub is_among : List (List ℕ) → OwnOf
is_among ids id = list_any (λ (x : List ℕ). bytes_eq x id) ids

-- the inventory cut to some objects: those alone, in their order
abbrev pub cut : OwnOf → List Thing → List Thing
cut own V = filter (λ (o : Thing). own o.card.id) V

-- ITEMS

-- what the ID Placeholder holds after an item; one that failed leaves it
abbrev pub held_after : Option (List ℕ) → AskedOf → Status → Option PayloadOf → Option (List ℕ)
held_after before asked Success payload = placeholder_done before asked payload
held_after before asked Undone payload = placeholder_done before asked payload
held_after before asked Failed payload = before

-- the identifier of the object that was made, where it was
abbrev pub made : Status → Option RegisteredOf → Option (List ℕ)
made Success shown = option_map (λ (x : RegisteredOf). x.id) shown
made Undone shown = option_map (λ (x : RegisteredOf). x.id) shown
made Failed shown = None

-- the identifier of the object that an item is about: the one that it made, or the one that is meant; a Locate is about none
abbrev pub about : Option (List ℕ) → AskedOf → Status → Option PayloadOf → Option (List ℕ)
about before (creates a) status payload = made status (option_and_then seen_created payload)
about before (registers r) status payload = made status (option_and_then seen_registered payload)
about before (gets id) status payload = meant id before
about before (gets_attributes g) status payload = meant g.id before
about before (activates id) status payload = meant id before
about before (revokes r) status payload = meant r.id before
about before (destroys id) status payload = meant id before
about before asked status payload = None

-- the same ask, with the identifier of an object written out
abbrev pub written : List ℕ → AskedOf → AskedOf
written id (gets shown) = gets (Some id)
written id (gets_attributes g) = gets_attributes (record g { id = Some id })
written id (activates shown) = activates (Some id)
written id (revokes r) = revokes (record r { id = Some id })
written id (destroys shown) = destroys (Some id)
written id asked = asked

-- operations that add an object or change one
abbrev pub is_change : AskedOf → Bool
is_change (creates a) = true
is_change (registers r) = true
is_change (activates id) = true
is_change (revokes r) = true
is_change (destroys id) = true
is_change asked = false

-- this is one of them
abbrev pub is_own : OwnOf → Option (List ℕ) → Bool
is_own own None = false
is_own own (Some id) = own id

-- an item leaves these objects as they are: it failed, it only looks, or it is about another object
pub data LeavesBe (own : OwnOf) (before : Option (List ℕ)) (ask : AskOf) (answer : AnswerOf) : Type 0 where
  failed : answer.status ≡ Failed → LeavesBe own before ask answer
  looks : is_change ask.asked ≡ false → LeavesBe own before ask answer
  elsewhere : is_own own (about before ask.asked answer.status answer.payload) ≡ false → LeavesBe own before ask answer

-- an item without effect, of this status
pub record IsIdle (status : Status) (ask : AskOf) (answer : AnswerOf) : Type 0 where
  pub number : ℕ
  pub asks : ask.asked ≡ idles number
  pub unnamed : answer.operation ≡ None
  pub batch_id : answer.batch_id ≡ None
  pub same : answer.status ≡ status
  pub unsaid : answer.reason ≡ None
  pub bare : answer.payload ≡ None

-- of a list of identifiers, those of these objects, as often as they stand there
abbrev pub only_own : OwnOf → List (List ℕ) → List (List ℕ)
only_own own listed = filter own listed

-- The filter of a Locate's part, of how many are listed, and how many of these objects: where as many are listed as the maximum, so that others may
-- be left out, as many as are listed of these are its maximum.
abbrev pub filter_own : FilterOf → ℕ → ℕ → FilterOf
filter_own q listed own = record q { maximum = cond (is_full q.maximum listed) (Some (pos own)) q.maximum }

-- The part of an item on some objects. What is about one of them stays, with its identifier written out. A Locate lists those of them that it
-- listed, and where it may have left some out for its maximum, so may its part. And in the place of what leaves them as they are may stand an item without effect.
pub data IsPart (own : OwnOf) (before : Option (List ℕ)) (ask : AskOf) (answer : AnswerOf) (part : AskOf) (shown : AnswerOf) : Type 0 where
  stays : (id : List ℕ) → about before ask.asked answer.status answer.payload ≡ Some id → own id ≡ true → part ≡ record ask { asked = written id ask.asked }
      → shown ≡ answer → IsPart own before ask answer part shown
  lists : (q : FilterOf) (listed : List (List ℕ)) → ask.asked ≡ locates q → answer.payload ≡ Some (located listed) → answer.status ≢ Failed
      → part ≡ record ask { asked = locates (filter_own q (length listed) (length (only_own own listed))) } → shown ≡ record answer { payload = Some (located (only_own own listed)) }
      → IsPart own before ask answer part shown
  idle : LeavesBe own before ask answer → IsIdle answer.status part shown → IsPart own before ask answer part shown

-- TOUCH

-- one of these objects is named, or no identifier is
abbrev pub may_mean : OwnOf → Option (List ℕ) → Bool
may_mean own None = true
may_mean own (Some named) = own named

-- An item may touch some objects, whatever it is answered: it names one of them, or no identifier (the ID Placeholder may hold one); or it makes
-- an object, which may be one of them; or it lists. [profile]
abbrev pub may_touch : OwnOf → AskedOf → Bool
may_touch own (creates a) = true
may_touch own (registers r) = true
may_touch own (locates q) = true
may_touch own (gets named) = may_mean own named
may_touch own (gets_attributes g) = may_mean own g.id
may_touch own (activates named) = may_mean own named
may_touch own (revokes r) = may_mean own r.id
may_touch own (destroys named) = may_mean own named
may_touch own asked = false

-- one of these items may touch some of the objects
abbrev pub SomeMayTouch : OwnOf → List AskOf → Type 0
SomeMayTouch own asks = (ask : AskOf) × Contains asks ask × (may_touch own ask.asked ≡ true)

-- a call may touch them: one of its items may
abbrev pub MayTouch : OwnOf → RequestOf → Type 0
MayTouch own request = SomeMayTouch own request.items

-- CALLS

-- the parts of the items of a call, one after the other; there are as many items without an answer, and as many answers without an item
abbrev pub ArePartItems : OwnOf → Option (List ℕ) → List AskOf → List AnswerOf → List AskOf → List AnswerOf → Type 0
ArePartItems own before asks [] parts shown = (length parts ≡ length asks) × (shown ≡ [])
ArePartItems own before [] (answer ∷ answers) parts shown = (parts ≡ []) × (shown ≡ answer ∷ answers)
ArePartItems own before (ask ∷ asks) (answer ∷ answers) (part ∷ parts) (seen ∷ shown) =
    IsPart own before ask answer part seen × ArePartItems own (held_after before ask.asked answer.status answer.payload) asks answers parts shown
ArePartItems own before (ask ∷ asks) (answer ∷ answers) parts shown = ⊥

-- each item leaves these objects as they are
abbrev pub AllLeaveBe : OwnOf → Option (List ℕ) → List AskOf → List AnswerOf → Type 0
AllLeaveBe own before (ask ∷ asks) (answer ∷ answers) =
    LeavesBe own before ask answer × AllLeaveBe own (held_after before ask.asked answer.status answer.payload) asks answers
AllLeaveBe own before asks answers = Unit {0}

-- the part of a call by place on some objects: a call of the same number, at the same time, with the same marks and the same option
pub record IsPartOf (own : OwnOf) (call part : StepOf) : Type 0 where
  pub number : part.number ≡ call.number
  pub begin : part.begin ≡ call.begin
  pub end : part.end ≡ call.end
  pub by_place : call.places ≡ None
  pub placed : part.places ≡ None
  pub stamp : part.response.stamp ≡ call.response.stamp
  pub option : part.request.option ≡ call.request.option
  pub items : ArePartItems own None call.request.items call.response.items part.request.items part.response.items

-- A call that leaves these objects as they are: it is taken by place, and each of its items does; or no item of it may touch one of them, in
-- whatever order they are taken.
pub data IsElsewhere (own : OwnOf) (call : StepOf) : Type 0 where
  left_be : call.places ≡ None → AllLeaveBe own None call.request.items call.response.items → IsElsewhere own call
  untouched : (MayTouch own call.request → ⊥) → IsElsewhere own call

-- a call's part on these objects; or none, where the call leaves them as they are
abbrev pub IsPartOrNone : OwnOf → StepOf → Option StepOf → Type 0
IsPartOrNone own call None = IsElsewhere own call
IsPartOrNone own call (Some part) = IsPartOf own call part

-- the parts of calls, one after the other, those left out that have none
pub record AreParts (own : OwnOf) (calls parts : List StepOf) : Type 0 where
  pub each : List (Option StepOf)
  pub of_calls : AllZip (IsPartOrNone own) calls each
  pub are : parts ≡ filter_map (λ (part : Option StepOf). part) each
