-- What a state says of an operation (profile).
use Rattle.std.specs.Prelude.{ℕ, if◌then◌else◌}
use Rattle.kmipa_object.specs.Life.{compromises}
use Rattle.kmipa_object.specs.declared.allow.Act.{Act}
use Rattle.kmipa_object.specs.declared.allow.Act.TheVariants.{Get, GetAttributes, Activate, RevokeCompromised, RevokeOther, Destroy}
use Rattle.kmipa_object.specs.declared.allow.Allow.{Allow}
use Rattle.kmipa_object.specs.declared.allow.Allow.TheVariants.{Must, May, Not}
use Rattle.kmipa_object.specs.declared.state.State.{State}
use Rattle.kmipa_object.specs.declared.state.State.TheVariants.{PreActive, Active, Deactivated, Compromised, Destroyed, DestroyedCompromised}

-- one row: Pre-Active, Active, Deactivated, Compromised, Destroyed, Destroyed Compromised
abbrev pub row : Allow → Allow → Allow → Allow → Allow → Allow → State → Allow
row a b c d e f PreActive = a
row a b c d e f Active = b
row a b c d e f Deactivated = c
row a b c d e f Compromised = d
row a b c d e f Destroyed = e
row a b c d e f DestroyedCompromised = f

-- the table: Must where success is possible and a refusal unfounded, May where both are possible, Not where success is impossible
abbrev pub allowed : Act → State → Allow
allowed Get = row Must Must Must Must Not Not
allowed GetAttributes = row Must Must Must Must May May
allowed Activate = row Must Not Not Not Not Not
allowed RevokeCompromised = row Must Must Must May May May
allowed RevokeOther = row Not Must May Not Not Not
allowed Destroy = row Must May Must Must Not Not

-- the row of a Revoke with this code
abbrev pub revoke_act : ℕ → Act
revoke_act code = if compromises code then RevokeCompromised else RevokeOther
