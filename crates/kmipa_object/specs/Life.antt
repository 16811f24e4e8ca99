-- The dates of an object, its state at a moment, and what each transition leaves of the dates.
use Rattle.std.specs.Prelude.{ℕ, ℤ, Bool, true, false, ◌&&◌, ◌==◌, ◌||◌, not, if◌then◌else◌, int_le, is_some, List, Option, Some, None, codes}
use Rattle.kmipa_object.specs.declared.life.Life.{Life}
use Rattle.kmipa_object.specs.declared.state.State.{State}
use Rattle.kmipa_object.specs.declared.state.State.TheVariants.{PreActive, Active, Deactivated, Compromised, Destroyed, DestroyedCompromised}

-- five dates, in seconds since 1970-01-01T00:00:00Z (KMIP 2.1, section 4)
pub record Dates : Type 0 where
  pub initial : Option ℤ
  pub activation : Option ℤ
  pub deactivation : Option ℤ
  pub destroy : Option ℤ
  pub compromise : Option ℤ

abbrev pub dates_of : Life → Dates
dates_of l = record {
  initial = l.initial;
  activation = l.activation;
  deactivation = l.deactivation;
  destroy = l.destroy;
  compromise = l.compromise;
}

-- a date is set, and at most the moment (profile: at the very second it counts)
abbrev pub has_come : Option ℤ → ℤ → Bool
has_come None t = false
has_come (Some date) t = int_le date t

-- the state where neither a Destroy Date nor a Compromise Date is set
abbrev pub state_by_activation : Dates → ℤ → State
state_by_activation d t =
    if not (has_come d.activation t) then PreActive else
    if has_come d.deactivation t then Deactivated else
    Active

-- State (KMIP 2.1, section 4) at a moment
abbrev pub state : Dates → ℤ → State
state d t =
    if is_some d.destroy && is_some d.compromise then DestroyedCompromised else
    if is_some d.destroy then Destroyed else
    if is_some d.compromise then Compromised else
    state_by_activation d t

abbrev pub is_active : State → Bool
is_active Active = true
is_active _ = false

-- Revocation Reason Code (KMIP 2.1, section 11): Key Compromise or CA Compromise
abbrev pub compromises : ℕ → Bool
compromises code = (code == 2) || (code == 3)

-- Activate: the Activation Date is the moment, also over a later one
abbrev pub activated_dates : Dates → ℤ → Dates
activated_dates d t = record d { activation = Some t }

-- the Deactivation Date is the moment where the object is active, also over a later one
abbrev pub deactivated_dates : Dates → ℤ → Dates
deactivated_dates d t = if is_active (state d t) then record d { deactivation = Some t } else d

-- the date, or the moment where none is set
abbrev pub or_now : Option ℤ → ℤ → ℤ
or_now None t = t
or_now (Some date) t = date

-- Revoke: a compromise sets the Compromise Date unless it is set, another reason deactivates an active object
abbrev pub revoked_dates : Dates → ℕ → ℤ → Dates
revoked_dates d code t =
    if compromises code then record d { compromise = Some (or_now d.compromise t) } else deactivated_dates d t

-- Destroy: the Destroy Date is the moment, and an active object is deactivated
abbrev pub destroyed_dates : Dates → ℤ → Dates
destroyed_dates d t = record (deactivated_dates d t) { destroy = Some t }

-- State: its number and its name (KMIP 2.1, section 11)
abbrev pub state_number : State → ℕ
state_number PreActive = 1
state_number Active = 2
state_number Deactivated = 3
state_number Compromised = 4
state_number Destroyed = 5
state_number DestroyedCompromised = 6

abbrev pub state_name : State → List ℕ
state_name PreActive = codes "Pre-Active"
state_name Active = codes "Active"
state_name Deactivated = codes "Deactivated"
state_name Compromised = codes "Compromised"
state_name Destroyed = codes "Destroyed"
state_name DestroyedCompromised = codes "Destroyed Compromised"
