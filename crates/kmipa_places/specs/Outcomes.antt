-- How items were answered: Result Status (KMIP 2.1, section 11).
use Rattle.std.specs.Prelude.{ℕ, Bool, true, false, ◌==◌, if◌then◌else◌, List, [], ◌∷◌, Option, Some, None, is_none}
use Rattle.std.specs.List.{list_any}
use Rattle.kmipa_ttlv.specs.Tree.{Tree}
use Rattle.kmipa_attrs.specs.Fields.{at, as_enumeration}
use Rattle.kmipa_attrs.specs.Tags.{operation_tag, result_status}
use Rattle.kmipa_attrs.specs.declared.fields.Field.{Field}
use Rattle.kmipa_attrs.specs.declared.fields.Field.TheVariants.{Absent, Wrong, There}
use Rattle.kmipa_msgs.specs.Tables.{children}
use Rattle.kmipa_passed.specs.declared.passed.Outcome.{Outcome}
use Rattle.kmipa_passed.specs.declared.passed.Outcome.TheVariants.{Done, Undone, Pending, Failed}

abbrev pub outcome_of : ℕ → Option Outcome
outcome_of n =
    if n == 0 then Some Done
    else if n == 1 then Some Failed
    else if n == 2 then Some Pending
    else if n == 3 then Some Undone
    else None

abbrev pub outcome_in : Field ℕ → Option Outcome
outcome_in Absent = None
outcome_in Wrong = None
outcome_in (There n) = outcome_of n

-- how an item of a response answers; none where its status can't be read
abbrev pub outcome_at : Tree → Option Outcome
outcome_at u = outcome_in (at as_enumeration result_status (children u))

-- the status of some can't be read
abbrev pub some_unread : List Tree → Bool
some_unread us = list_any (λ (u : Tree). is_none (outcome_at u)) us

abbrev pub has_failed : Option Outcome → Bool
has_failed (Some Failed) = true
has_failed outcome = false

abbrev pub is_pending : Option Outcome → Bool
is_pending (Some Pending) = true
is_pending outcome = false

-- the field is absent
abbrev pub is_absent : {A : Type 0} → Field A → Bool
is_absent Absent = true
is_absent Wrong = false
is_absent (There x) = false

-- an answer, where it is the only one, refuses the whole message: it failed, and names no operation
abbrev pub refuses_alone : Tree → Bool
refuses_alone u = if has_failed (outcome_at u) then is_absent (at as_enumeration operation_tag (children u)) else false

abbrev pub refuses : List Tree → Bool
refuses [] = false
refuses (u ∷ []) = refuses_alone u
refuses (u ∷ v ∷ us) = false
