-- What is printed of an object's state, of the operation that it bears on, and of the dates that it follows from.
use Rattle.std.specs.Prelude.{◌≡◌, ℕ, ℤ, Bool, true, false, List, [], ◌∷◌, ◌++◌, codes, Option, Some, None}
use Rattle.kmipa_runs.specs.Dates.{TellsSecond}
use Rattle.kmipa_runs.specs.Lines.{line}
use Rattle.kmipa_object.specs.Life.{state_name}
use Rattle.kmipa_object.specs.declared.allow.Act.{Act}
use Rattle.kmipa_object.specs.declared.allow.Act.TheVariants as act
use Rattle.kmipa_explain.specs.declared.held.DatesHeld.{DatesHeld}
use Rattle.kmipa_explain.specs.declared.held.StateHeld.{StateHeld}
use Rattle.kmipa_explain.specs.declared.source.Source.{Source}
use Rattle.kmipa_explain.specs.declared.source.Whence.{Whence}
use Rattle.kmipa_ops.specs.declared.judged.Judged.TheVariants as judged
use Rattle.kmipa_telling.specs.Sources.{PrintsBehind, PrintsSource, attribute_source}

-- the rows of the table of states
abbrev pub act_text : Act → List ℕ
act_text act.Get = codes "Get"
act_text act.GetAttributes = codes "Get Attributes"
act_text act.Activate = codes "Activate"
act_text act.RevokeCompromised = codes "Revoke for a compromise"
act_text act.RevokeOther = codes "Revoke"
act_text act.Destroy = codes "Destroy"

-- that a line of the declaration says so, and not the table
abbrev pub line_text : Bool → List ℕ
line_text true = codes " by a line of the declaration"
line_text false = []

-- the line of a state, and of the operation that it excludes
abbrev pub state_line : StateHeld → List ℕ
state_line s = line (codes "state: " ∷ state_name s.state ∷ codes ", which excludes " ∷ act_text s.act ∷ line_text s.by_line ∷ [])

-- the line of a moment behind its name: its date, or that there is none
abbrev pub PrintsMoment : List ℕ → Option ℤ → List ℕ → Type 0
PrintsMoment name None lines = lines ≡ line (name ∷ codes ": none" ∷ [])
PrintsMoment name (Some second) lines =
    (date : List ℕ) × TellsSecond second date × (lines ≡ line (name ∷ codes ": " ∷ date ∷ []))

-- the same with whence it is
abbrev pub PrintsDate : List ℕ → Option ℤ → Option Source → List ℕ → Type 0
PrintsDate name moment source lines = (told : List ℕ) × PrintsMoment name moment told × PrintsBehind told (codes "held since") source lines

-- the lines of an object's dates, with whence they are
pub record PrintsDates (w : Option Whence) (d : DatesHeld) (lines : List ℕ) : Type 0 where
  pub initial : List ℕ
  pub tells_initial : PrintsDate (codes "initial date") d.initial (attribute_source w judged.InitialDate) initial
  pub activation : List ℕ
  pub tells_activation : PrintsDate (codes "activation date") d.activation (attribute_source w judged.ActivationDate) activation
  pub deactivation : List ℕ
  pub tells_deactivation : PrintsDate (codes "deactivation date") d.deactivation (attribute_source w judged.DeactivationDate) deactivation
  pub destroy : List ℕ
  pub tells_destroy : PrintsDate (codes "destroy date") d.destroy (attribute_source w judged.DestroyDate) destroy
  pub compromise : List ℕ
  pub tells_compromise : PrintsDate (codes "compromise date") d.compromise (attribute_source w judged.CompromiseDate) compromise
  pub are : lines ≡ initial ++ (activation ++ (deactivation ++ (destroy ++ compromise)))

-- the lines of whence a state is, and of the dates that it follows from
abbrev pub PrintsSince : Option Whence → DatesHeld → List ℕ → Type 0
PrintsSince w d lines = (state dates : List ℕ) × PrintsSource (codes "held since") (attribute_source w judged.State) state × PrintsDates w d dates × (lines ≡ state ++ dates)

-- the lines of a state that excludes an operation, of whence it is, and of the dates that it follows from
abbrev pub PrintsState : StateHeld → Option Whence → List ℕ → Type 0
PrintsState s w lines = (since : List ℕ) × PrintsSince w s.dates since × (lines ≡ state_line s ++ since)
