-- AN EXPLANATION WHOSE TURNS ARE COUNTED IN ANOTHER WITNESS (profile): all else of it is the same.
use Rattle.std.specs.Prelude.{◌≡◌, ℕ, ℤ, map, Option, Some, None, option_map}
use Rattle.kmipa_explain.specs.declared.explanation.Cause.{Cause}
use Rattle.kmipa_explain.specs.declared.explanation.Cause.TheVariants.{StampBefore}
use Rattle.kmipa_explain.specs.declared.explanation.Event.{Event}
use Rattle.kmipa_explain.specs.declared.explanation.Explanation.{Explanation}
use Rattle.kmipa_explain.specs.declared.explanation.Story.{Story}
use Rattle.kmipa_explain.specs.declared.explanation.TurnBefore.{TurnBefore}
use Rattle.kmipa_explain.specs.declared.source.Source.{Source}
use Rattle.kmipa_explain.specs.declared.source.Source.TheVariants.{Declared, Done}
use Rattle.kmipa_explain.specs.declared.source.Whence.{Whence}

-- the turn of a call, for the one that is told of it
abbrev pub Turns : Type 0
Turns = ℤ → ℕ → ℕ

abbrev pub event_by : Turns → Event → Event
event_by turn e = record e { turn = turn e.call e.turn }

abbrev pub before_by : Turns → TurnBefore → TurnBefore
before_by turn b = record b { turn = turn b.call b.turn }

abbrev pub source_by : Turns → Source → Source
source_by turn Declared = Declared
source_by turn (Done e) = Done (event_by turn e)

abbrev pub whence_by : Turns → Whence → Whence
whence_by turn w = record {
  object = option_map (source_by turn) w.object;
  state = option_map (source_by turn) w.state;
  initial = option_map (source_by turn) w.initial;
  activation = option_map (source_by turn) w.activation;
  deactivation = option_map (source_by turn) w.deactivation;
  destroy = option_map (source_by turn) w.destroy;
  compromise = option_map (source_by turn) w.compromise;
  bytes = option_map (source_by turn) w.bytes;
}

-- of the reasons the turn before alone tells a turn
abbrev pub cause_by : Turns → Cause → Cause
cause_by turn (StampBefore b) = StampBefore (before_by turn b)
cause_by turn cause = cause

pub record IsStoryBy (turn : Turns) (s told : Story) : Type 0 where
  pub identifier : told.identifier ≡ s.identifier
  pub at_start : told.declared ≡ s.declared
  pub events : told.events.items ≡ map (event_by turn) s.events.items
  pub born_later : told.born_later ≡ option_map (event_by turn) s.born_later

abbrev pub MayBeStoryBy : Turns → Option Story → Option Story → Type 0
MayBeStoryBy turn None told = told ≡ None
MayBeStoryBy turn (Some s) told = (t : Story) × (told ≡ Some t) × IsStoryBy turn s t

pub record IsRenumbered (turn : Turns) (e told : Explanation) : Type 0 where
  pub client : told.client ≡ e.client
  pub stamp : told.stamp ≡ e.stamp
  pub operation : told.operation ≡ e.operation
  pub overlapping : told.overlapping ≡ e.overlapping
  pub cause : told.cause ≡ cause_by turn e.cause
  pub whence : told.whence ≡ option_map (whence_by turn) e.whence
  pub story : MayBeStoryBy turn e.story told.story
