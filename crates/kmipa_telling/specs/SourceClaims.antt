-- What is told in JSON of whence something is that is held.
use Rattle.std.specs.Prelude.{◌≡◌, ℕ, true, List, codes, Option, Some, None}
use Rattle.serde_json.specs.Data.{Members, no_members, object, boolean, put}
use Rattle.kmipa_explain.specs.declared.source.Source.{Source}
use Rattle.kmipa_explain.specs.declared.source.Source.TheVariants.{Declared, Done}
use Rattle.kmipa_explain.specs.declared.source.Whence.{Whence}
use Rattle.kmipa_telling.specs.EventClaims.{TellsEvent}

-- a source: an item that was done, or that it is declared
abbrev pub TellsSource : Source → Members → Type 0
TellsSource Declared told = told ≡ put (codes "declared") (boolean true) no_members
TellsSource (Done e) told = TellsEvent e told

-- the same under this name, where there is one
abbrev pub TellsSourceAs : List ℕ → Option Source → Members → Members → Type 0
TellsSourceAs key None before after = after ≡ before
TellsSourceAs key (Some source) before after = (told : Members) × TellsSource source told × (after ≡ put key (object told) before)

-- whence an object is, its state, its dates and its bytes, each where it is known
pub record TellsSources (w : Whence) (told : Members) : Type 0 where
  pub object : Members
  pub tells_object : TellsSourceAs (codes "object") w.object no_members object
  pub state : Members
  pub tells_state : TellsSourceAs (codes "state") w.state object state
  pub initial : Members
  pub tells_initial : TellsSourceAs (codes "initial_date") w.initial state initial
  pub activation : Members
  pub tells_activation : TellsSourceAs (codes "activation_date") w.activation initial activation
  pub deactivation : Members
  pub tells_deactivation : TellsSourceAs (codes "deactivation_date") w.deactivation activation deactivation
  pub destroy : Members
  pub tells_destroy : TellsSourceAs (codes "destroy_date") w.destroy deactivation destroy
  pub compromise : Members
  pub tells_compromise : TellsSourceAs (codes "compromise_date") w.compromise destroy compromise
  pub tells_bytes : TellsSourceAs (codes "bytes") w.bytes compromise told

-- the same under one name, where an object is spoken of
abbrev pub TellsWhence : Option Whence → Members → Members → Type 0
TellsWhence None before after = after ≡ before
TellsWhence (Some w) before after = (told : Members) × TellsSources w told × (after ≡ put (codes "since") (object told) before)
