-- The objects that a Locate has to list, and doesn't.
use Rattle.std.specs.Prelude.{◌≡◌, ◌≢◌, ◌&&◌, not, ℕ, ℤ, Bool, List, [], map, Option, Some, None, option_and_then}
use Rattle.std.specs.List.{Contains}
use Rattle.std.specs.String.{string_bytes}
use Rattle.kmipa_attrs.specs.Filters.{FilterOf}
use Rattle.kmipa_object.specs.Life.{state}
use Rattle.kmipa_msgs.specs.Messages.{AskedOf, AskOf, AnswerOf}
use Rattle.kmipa_record.specs.Declarations.{DeclarationOf}
use Rattle.kmipa_record.specs.Entries.{EntryOf}
use Rattle.kmipa_ops.specs.Effects.{EffectOf}
use Rattle.kmipa_ops.specs.Effects as op
use Rattle.kmipa_ops.specs.Rows.{effect_asked}
use Rattle.kmipa_ops.specs.Locate.{Must, must_fit, seen_located, LeavesOut}
use Rattle.kmipa_check.specs.Described.{card_declared, dates_in}
use Rattle.kmipa_explain.specs.Ids.{has_id}
use Rattle.kmipa_explain.specs.Told.{AreTold}
use Rattle.kmipa_explain.specs.declared.explanation.Cause.{Cause}
use Rattle.kmipa_explain.specs.declared.explanation.Cause.TheVariants as told
use Rattle.kmipa_explain.specs.declared.held.LeftOutHeld.{LeftOutHeld}
use Rattle.kmipa_explain.specs.declared.id_set.IdSet.{IdSet}

-- the filter that is asked for
abbrev pub filter_by : EffectOf → Option FilterOf
filter_by (op.lists filter) = Some filter
filter_by effect = None

abbrev pub filter_in : AskedOf → Option FilterOf
filter_in asked = filter_by (effect_asked asked)

-- the item is a Locate with this filter, and its answer lists these identifiers
pub record IsLocate (ask : AskOf) (answer : AnswerOf) (q : FilterOf) (ids : List (List ℕ)) : Type 0 where
  pub asks : filter_in ask.asked ≡ Some q
  pub lists : option_and_then seen_located answer.payload ≡ Some ids

-- the object of an entry must be listed at the moment, and isn't
pub record IsLeftOut (t : ℤ) (q : FilterOf) (listed : List (List ℕ)) (e : EntryOf) : Type 0 where
  pub must : Must q (state (dates_in e.attributes) t) (card_declared e)
  pub unlisted : Contains listed e.id → ⊥

-- it is, and its identifier and its Initial Date are told
pub record TellsLeftOut (t : ℤ) (q : FilterOf) (listed : List (List ℕ)) (e : EntryOf) (l : LeftOutHeld) : Type 0 where
  pub left_out : IsLeftOut t q listed e
  pub identifier : string_bytes l.identifier ≡ e.id
  pub initial : l.initial ≡ e.attributes.initial

-- exactly those that are left out are told, in the order of their arrival
abbrev pub TellsLeftOuts : ℤ → FilterOf → List (List ℕ) → List EntryOf → List LeftOutHeld → Type 0
TellsLeftOuts t q listed entries told = AreTold (λ place e l. TellsLeftOut t q listed e l) (λ place e. IsLeftOut t q listed e → ⊥) 0 entries told

-- the same of a Locate; there is one
pub record AreLeftOut (held : DeclarationOf) (t : ℤ) (ask : AskOf) (answer : AnswerOf) (told : List LeftOutHeld) : Type 0 where
  pub filter : FilterOf
  pub listed : List (List ℕ)
  pub locate : IsLocate ask answer filter listed
  pub exactly : TellsLeftOuts t filter listed held.entries told
  pub some : told ≢ []

abbrev pub TellsLeft : DeclarationOf → ℤ → AskOf → AnswerOf → Cause → Type 0
TellsLeft held t ask answer (told.LeftOut objects) = AreLeftOut held t ask answer objects.items
TellsLeft held t ask answer other = ⊥

-- ---- what the reason says. Not promised.

-- the item is a Locate that leaves out an object
pub record LeavesSomeOut (held : DeclarationOf) (t : ℤ) (ask : AskOf) (answer : AnswerOf) : Type 0 where
  pub filter : FilterOf
  pub listed : List (List ℕ)
  pub locate : IsLocate ask answer filter listed
  pub leaves : LeavesOut (map card_declared held.entries) t filter listed

-- whether the object of an entry must be listed, and isn't in the set
abbrev pub is_left_out : ℤ → FilterOf → IdSet → EntryOf → Bool
is_left_out t q set e = must_fit q (state (dates_in e.attributes) t) (card_declared e) && not (has_id set e.id)
