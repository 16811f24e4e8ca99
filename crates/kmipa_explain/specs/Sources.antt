-- Whence a server has what it holds of an object where an item is refused: from the declaration, or from an item that was done ahead.
--
-- What the run leaves of an object follows from few items: an identifier is used once, an object is activated, deactivated, destroyed and
-- compromised at most once each, and no date is set again to the second that it has. So of the items that may have set a date to its second the
-- first did set it, unless the object was declared with that date; a later one with this second found it set.
use Rattle.std.specs.Prelude.{ℕ, ℤ, Bool, true, false, ◌&&◌, ◌||◌, ◌==◌, not, nat_lt, if◌then◌else◌, int_lt, List, find, Option, Some, None, is_some, option_map}
use Rattle.std.specs.List.{before_first}
use Rattle.std.specs.Ordering.{int_eq}
use Rattle.kmipa_object.specs.Life.{Dates}
use Rattle.kmipa_object.specs.declared.state.State.{State as ObjectState}
use Rattle.kmipa_object.specs.declared.state.State.TheVariants as state
use Rattle.kmipa_msgs.specs.declared.response.Status.{Status}
use Rattle.kmipa_msgs.specs.declared.response.Status.TheVariants.{Success, Failed, Undone}
use Rattle.kmipa_record.specs.Declarations.{DeclarationOf}
use Rattle.kmipa_record.specs.Entries.{EntryOf}
use Rattle.kmipa_ops.specs.declared.judged.Judged.{Judged}
use Rattle.kmipa_ops.specs.declared.judged.Judged.TheVariants.{Name, ObjectType, CryptographicAlgorithm, CryptographicLength, CryptographicUsageMask, State, InitialDate, ActivationDate, DeactivationDate, DestroyDate, CompromiseDate}
use Rattle.kmipa_check.specs.Described.{dates_in}
use Rattle.kmipa_check.specs.declared.verdict.Refused.{Refused}
use Rattle.kmipa_explain.specs.Effects.{no_dates}
use Rattle.kmipa_explain.specs.Items.{ItemOf}
use Rattle.kmipa_explain.specs.Meant.{object_held}
use Rattle.kmipa_explain.specs.Stories.{event_of, happens_to, is_about}
use Rattle.kmipa_explain.specs.declared.explanation.Event.{Event}
use Rattle.kmipa_explain.specs.declared.source.Source.{Source}
use Rattle.kmipa_explain.specs.declared.source.Source.TheVariants.{Declared, Done}
use Rattle.kmipa_explain.specs.declared.source.Whence.{Whence}

-- ---- dates

-- one of the five dates; the other attributes are none
abbrev pub date_among : Dates → Judged → Option ℤ
date_among d InitialDate = d.initial
date_among d ActivationDate = d.activation
date_among d DeactivationDate = d.deactivation
date_among d DestroyDate = d.destroy
date_among d CompromiseDate = d.compromise
date_among d attribute = None

-- both dates are there, and are the same
abbrev pub same_date : Option ℤ → Option ℤ → Bool
same_date (Some a) (Some b) = int_eq a b
same_date a b = false

-- ---- the items that count

abbrev pub is_at : Refused → ItemOf → Bool
is_at r i = (i.turn == r.turn) && (i.item == r.item)

-- the items ahead of the refused one
abbrev pub ahead_of : Refused → List ItemOf → List ItemOf
ahead_of r items = before_first (is_at r) items

-- An item was done, and what it did is there at this turn: it was not undone, or it is of this very call, in which it stands until the end.
abbrev pub stays : ℕ → ℕ → Status → Bool
stays now turn Success = true
stays now turn Undone = turn == now
stays now turn Failed = false

-- what it did to the object of this identifier is there
abbrev pub counts : ℕ → List ℕ → ItemOf → Bool
counts now id i = stays now i.turn i.status && is_about id i.about

-- it made the object
abbrev pub made : ℕ → List ℕ → ItemOf → Bool
made now id i = counts now id i && i.makes

-- it is one that may have set this date to this second
abbrev pub set_date : ℕ → List ℕ → Judged → Option ℤ → ItemOf → Bool
set_date now id date second i = counts now id i && same_date (date_among i.sets date) second

-- It told the bytes of the object of this identifier, which is there from this turn on. An undone item told them, too: the bytes of an object are
-- the same ones before and after.
abbrev pub taught : ℕ → List ℕ → ItemOf → Bool
taught first id i = happens_to id i && i.teaches && not (nat_lt i.turn first)

-- it is this one, or that one
abbrev pub is_event : Event → ItemOf → Bool
is_event e i = (i.turn == e.turn) && (i.item == e.item)

abbrev pub is_either : Event → Event → ItemOf → Bool
is_either e f i = is_event e i || is_event f i

-- the first of the items that passes
abbrev pub first_event : (ItemOf → Bool) → List ItemOf → Option Event
first_event test ahead = option_map event_of (find test ahead)

abbrev pub done_by : Option Event → Option Source
done_by e = option_map (λ (x : Event). Done x) e

-- ---- the object at the start

-- whether an object is declared, with which dates, and whether with its bytes
pub record StartOf : Type 0 where
  pub declared : Bool
  pub dates : Dates
  pub bytes : Bool

abbrev pub start_in : Option EntryOf → StartOf
start_in None = record { declared = false; dates = no_dates; bytes = false }
start_in (Some e) = record { declared = true; dates = dates_in e.attributes; bytes = is_some e.bytes }

-- what the declaration says of the object of this identifier
abbrev pub start_of : DeclarationOf → List ℕ → StartOf
start_of declared id = start_in (object_held declared (Some id))

-- ---- the sources

-- The object is declared, or an item made it. Its type, its names, its algorithm, its length and its mask are from there, too.
abbrev pub object_source : StartOf → ℕ → List ItemOf → List ℕ → Option Source
object_source start now ahead id = if start.declared then Some Declared else done_by (first_event (made now id) ahead)

-- a date that it has: it is declared with it, or the first item set it that may have
abbrev pub date_source : StartOf → ℕ → List ItemOf → List ℕ → Judged → Option ℤ → Option Source
date_source start now ahead id date second =
    if same_date (date_among start.dates date) second then Some Declared else done_by (first_event (set_date now id date second) ahead)

-- the turn from which on it is there
abbrev pub first_turn : Option Source → ℕ
first_turn None = 0
first_turn (Some Declared) = 0
first_turn (Some (Done e)) = e.turn

-- bytes that are known of it: they are declared, or the first item told them that did, as its Register or as a Get
abbrev pub bytes_source : StartOf → ℕ → List ItemOf → List ℕ → Option Source
bytes_source start now ahead id =
    if start.bytes then Some Declared else done_by (first_event (taught (first_turn (object_source start now ahead id)) id) ahead)

-- ---- what put it into its state

-- of two items the one that stands behind the other
abbrev pub other_than : Option Event → Event → Event → Event
other_than None e f = f
other_than (Some first) e f = if (first.turn == e.turn) && (first.item == e.item) then f else e

-- of two sources the later one; the declaration is ahead of all items
abbrev pub later : List ItemOf → Option Source → Option Source → Option Source
later ahead None b = b
later ahead (Some a) None = Some a
later ahead (Some Declared) (Some b) = Some b
later ahead (Some (Done e)) (Some Declared) = Some (Done e)
later ahead (Some (Done e)) (Some (Done f)) = Some (Done (other_than (first_event (is_either e f) ahead) e f))

-- one date is less than the other
abbrev pub comes_before : Option ℤ → Option ℤ → Bool
comes_before (Some a) (Some b) = int_lt a b
comes_before a b = false

-- The source of the state that an object is in, by these of its dates. A Pre-Active one is so since it is there. A Deactivated one is so by the
-- later of its Activation Date and its Deactivation Date; where they are the same second by the later source. One that is destroyed and
-- compromised is so by the later source, since these two dates count at once, whatever the moment.
abbrev pub state_source : List ItemOf → ObjectState → Dates → Whence → Option Source
state_source ahead state.PreActive d w = w.object
state_source ahead state.Active d w = w.activation
state_source ahead state.Deactivated d w = if comes_before d.activation d.deactivation then w.deactivation else later ahead w.activation w.deactivation
state_source ahead state.Compromised d w = w.compromise
state_source ahead state.Destroyed d w = w.destroy
state_source ahead state.DestroyedCompromised d w = later ahead w.destroy w.compromise

-- ---- all of an object

-- the object that is spoken of: its identifier, its dates, its state at the moment, and whether its bytes are known
pub record SubjectOf : Type 0 where
  pub id : List ℕ
  pub dates : Dates
  pub state : ObjectState
  pub bytes : Bool

-- that of its bytes, where they are known
abbrev pub bytes_known_source : StartOf → ℕ → List ItemOf → SubjectOf → Option Source
bytes_known_source start now ahead s = if s.bytes then bytes_source start now ahead s.id else None

-- the sources of all but its state
abbrev pub sources_in : StartOf → ℕ → List ItemOf → SubjectOf → Whence
sources_in start now ahead s = record {
  object = object_source start now ahead s.id;
  state = None;
  initial = date_source start now ahead s.id InitialDate s.dates.initial;
  activation = date_source start now ahead s.id ActivationDate s.dates.activation;
  deactivation = date_source start now ahead s.id DeactivationDate s.dates.deactivation;
  destroy = date_source start now ahead s.id DestroyDate s.dates.destroy;
  compromise = date_source start now ahead s.id CompromiseDate s.dates.compromise;
  bytes = bytes_known_source start now ahead s;
}

abbrev pub with_state : List ItemOf → SubjectOf → Whence → Whence
with_state ahead s w = record w { state = state_source ahead s.state s.dates w }

-- whence the object is that is spoken of, and what it has, at this turn, where these items are ahead
abbrev pub whence_among : DeclarationOf → ℕ → List ItemOf → SubjectOf → Whence
whence_among declared now ahead s = with_state ahead s (sources_in (start_of declared s.id) now ahead s)

-- the same where the items of the order are these and this one is refused
abbrev pub whence_of : DeclarationOf → List ItemOf → Refused → SubjectOf → Whence
whence_of declared items r s = whence_among declared r.turn (ahead_of r items) s

-- whence an attribute is that the object has
abbrev pub since : Whence → Judged → Option Source
since w ActivationDate = w.activation
since w CompromiseDate = w.compromise
since w CryptographicAlgorithm = w.object
since w CryptographicLength = w.object
since w CryptographicUsageMask = w.object
since w DeactivationDate = w.deactivation
since w DestroyDate = w.destroy
since w InitialDate = w.initial
since w Name = w.object
since w ObjectType = w.object
since w State = w.state
