-- What is told in JSON of an explanation: each claim under a name of its own. A claim that is not made has no member.
use Rattle.std.specs.Prelude.{◌≡◌, ℕ, ℤ, List, [], ◌∷◌, codes, Option, Some, None}
use Rattle.std.specs.String.{string_bytes}
use Rattle.serde_json.specs.Data.{Members, Items, no_items, item, no_members, object, array, string, boolean, put}
use Rattle.kmipa_json.specs.Told.{count, integer}
use Rattle.kmipa_msgs.specs.declared.response.Status.{Status as ItemStatus}
use Rattle.kmipa_explain.specs.declared.explanation.Cause.{Cause}
use Rattle.kmipa_explain.specs.declared.explanation.Cause.TheVariants as cause
use Rattle.kmipa_explain.specs.declared.explanation.Event.{Event}
use Rattle.kmipa_explain.specs.declared.explanation.Explanation.{Explanation}
use Rattle.kmipa_explain.specs.declared.explanation.Operations.{Operations}
use Rattle.kmipa_explain.specs.declared.explanation.Shape.{Shape}
use Rattle.kmipa_explain.specs.declared.explanation.Story.{Story}
use Rattle.kmipa_explain.specs.declared.explanation.TurnBefore.{TurnBefore}
use Rattle.kmipa_explain.specs.Meant.{text_of}
use Rattle.kmipa_explain.specs.declared.held.BytesHeld.{BytesHeld}
use Rattle.kmipa_telling.specs.AttributeClaims.{TellsAttributes}
use Rattle.kmipa_telling.specs.Causes.{option_text, status_text}
use Rattle.kmipa_telling.specs.EchoClaims.{echo_members}
use Rattle.kmipa_telling.specs.EventClaims.{TellsEvent, operation_members, operation_told}
use Rattle.kmipa_telling.specs.FailingClaims.{TellsReason}
use Rattle.kmipa_telling.specs.ListingClaims.{TellsLeftOut, listed_members}
use Rattle.kmipa_telling.specs.Lists.{AreObjects}
use Rattle.kmipa_telling.specs.MakingClaims.{length_members, taken_members}
use Rattle.kmipa_telling.specs.SourceClaims.{TellsWhence}
use Rattle.kmipa_telling.specs.StateClaims.{TellsState}
use Rattle.kmipa_telling.specs.Telling.{TellsDate}

-- ---- the call

-- calls by their numbers
abbrev pub call_items : List ℤ → Items
call_items [] = no_items
call_items (number ∷ numbers) = item (integer number) (call_items numbers)

-- the client, the operation and the calls that overlap
abbrev pub call_members : Explanation → Members
call_members e = put (codes "overlapping") (array (call_items e.overlapping.items)) (operation_told (codes "operation") e.operation
    (put (codes "client") (string (string_bytes e.client)) no_members))

-- ---- what the reason rests on

-- the turn before, with the moment of its stamp
abbrev pub TellsBefore : TurnBefore → Members → Type 0
TellsBefore before told = TellsDate (Some before.stamp) (put (codes "call") (integer before.call) (put (codes "turn") (count before.turn) no_members)) told

abbrev pub failed_told : Option ℕ → Members → Members
failed_told None told = told
failed_told (Some place) told = put (codes "first_failed") (count place) told

abbrev pub answered_told : Option ItemStatus → Members → Members
answered_told None told = told
answered_told (Some status) told = put (codes "answered") (string (status_text status)) told

-- what a shape is judged by
abbrev pub shape_members : Shape → Members
shape_members s = answered_told s.status (put (codes "asked") (boolean s.asked) (failed_told s.failed (put (codes "option") (string (option_text s.option)) no_members)))

-- two operations that differ
abbrev pub operations_members : Operations → Members
operations_members o = operation_told (codes "answered") o.answered (put (codes "asked") (object (operation_members o.asked)) no_members)

-- the identifier of which there is no object; none is meant where the ID Placeholder is, and holds none
abbrev pub missing_members : Option (List ℕ) → Members
missing_members None = no_members
missing_members (Some id) = put (codes "identifier") (string id) no_members

-- how many bytes are known and shown, and the first place where they differ
abbrev pub bytes_members : BytesHeld → Members
bytes_members b = put (codes "differ_at") (count b.differ_at) (put (codes "shown") (count b.shown) (put (codes "known") (count b.known) no_members))

-- what is told of what the reason rests on
abbrev pub TellsCause : Cause → Members → Members → Type 0
TellsCause (cause.EarlierCalls numbers) before after = after ≡ put (codes "ended_before") (array (call_items numbers.items)) before
TellsCause (cause.StampBefore turn) before after = (told : Members) × TellsBefore turn told × (after ≡ put (codes "turn_before") (object told) before)
TellsCause (cause.BatchShape shape) before after = after ≡ put (codes "shape") (object (shape_members shape)) before
TellsCause (cause.Operations both) before after = after ≡ put (codes "operations") (object (operations_members both)) before
TellsCause (cause.NoObject meant) before after = after ≡ put (codes "missing") (object (missing_members (text_of meant))) before
TellsCause (cause.State held) before after = (told : Members) × TellsState held told × (after ≡ put (codes "state") (object told) before)
TellsCause (cause.Bytes held) before after = after ≡ put (codes "bytes") (object (bytes_members held)) before
TellsCause (cause.Identifier id) before after = after ≡ put (codes "identifier") (string (string_bytes id)) before
TellsCause (cause.Name held) before after = after ≡ put (codes "name") (object (taken_members held)) before
TellsCause (cause.Length held) before after = after ≡ put (codes "length") (object (length_members held)) before
TellsCause (cause.Differing held) before after = (told : Members) × TellsAttributes held told × (after ≡ put (codes "differing") (object told) before)
TellsCause (cause.Missing held) before after = (told : Members) × TellsAttributes held told × (after ≡ put (codes "missing_attributes") (object told) before)
TellsCause (cause.Listed held) before after = after ≡ put (codes "listed") (object (listed_members held)) before
TellsCause (cause.LeftOut left) before after = (told : Items) × AreObjects TellsLeftOut left.items told × (after ≡ put (codes "left_out") (array told) before)
TellsCause (cause.Reason held) before after = (told : Members) × TellsReason held told × (after ≡ put (codes "reason") (object told) before)
TellsCause (cause.Echo held) before after = after ≡ put (codes "echo") (object (echo_members held)) before
TellsCause cause.Object before after = after ≡ before

-- ---- the story of the object

-- the item that made the object later, where there is one
abbrev pub TellsLater : Option Event → Members → Members → Type 0
TellsLater None before after = after ≡ before
TellsLater (Some e) before after = (told : Members) × TellsEvent e told × (after ≡ put (codes "made_later") (object told) before)

-- the identifier, and whether it is declared
abbrev pub object_members : Story → Members
object_members s = put (codes "declared") (boolean s.declared) (put (codes "identifier") (string (string_bytes s.identifier)) no_members)

abbrev pub TellsStory : Story → Members → Type 0
TellsStory s told = (events : Items) × AreObjects TellsEvent s.events.items events × TellsLater s.born_later (put (codes "events") (array events) (object_members s)) told

abbrev pub TellsStoryOf : Option Story → Members → Members → Type 0
TellsStoryOf None before after = after ≡ before
TellsStoryOf (Some s) before after = (told : Members) × TellsStory s told × (after ≡ put (codes "object") (object told) before)

-- ---- all of it

-- the call, then what the reason rests on and whence that is, then the object
abbrev pub TellsClaims : Explanation → Members → Type 0
TellsClaims e told = (rests since : Members) × TellsCause e.cause (call_members e) rests × TellsWhence e.whence rests since × TellsStoryOf e.story since told

-- the claims of an explanation under one name, where there is one
abbrev pub TellsMeaning : Option Explanation → Members → Members → Type 0
TellsMeaning None before after = after ≡ before
TellsMeaning (Some e) before after = (told : Members) × TellsClaims e told × (after ≡ put (codes "explanation") (object told) before)
