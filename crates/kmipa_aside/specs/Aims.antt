-- Whom a judged item is about, where nobody may be able to tell what the ID Placeholder holds (profile).
use Rattle.std.specs.Prelude.{ℕ, List, Option, Some, None, option_and_then}
use Rattle.kmipa_msgs.specs.Messages.{AskOf, AnswerOf, PayloadOf, created, registered, located, got, got_attributes, changed}
use Rattle.kmipa_msgs.specs.declared.response.Status.{Status}
use Rattle.kmipa_msgs.specs.declared.response.Status.TheVariants.{Success, Failed, Undone}
use Rattle.kmipa_passed.specs.Leaving.{HeldOf, empty, holds, unknown}
use Rattle.kmipa_ops.specs.Row.{SubjectOf, on_object, on_names, on_nothing}
use Rattle.kmipa_ops.specs.Rows.{subject_asked}

-- the identifier that an answer shows of the object that its item is about
abbrev pub id_in : PayloadOf → Option (List ℕ)
id_in (created x) = None
id_in (registered x) = None
id_in (located ids) = None
id_in (got g) = g.id
id_in (got_attributes g) = g.id
id_in (changed id) = id

-- where it says that the item was done
abbrev pub id_shown : Status → Option PayloadOf → Option (List ℕ)
id_shown Success payload = option_and_then id_in payload
id_shown Undone payload = option_and_then id_in payload
id_shown Failed payload = None

-- where nobody can tell what the placeholder holds, the object that the answer shows is meant
abbrev pub or_shown : HeldOf → Option (List ℕ) → HeldOf
or_shown empty shown = empty
or_shown (holds id) shown = holds id
or_shown unknown None = unknown
or_shown unknown (Some id) = holds id

abbrev pub aim_by : SubjectOf → HeldOf → Option (List ℕ) → HeldOf
aim_by (on_object (Some id) act unjudged) before shown = holds id
aim_by (on_object None act unjudged) before shown = or_shown before shown
aim_by (on_names names) before shown = empty
aim_by on_nothing before shown = empty

-- the object that an item is about: none, this one, or nobody can tell
abbrev pub aim : HeldOf → AskOf → AnswerOf → HeldOf
aim before ask answer = aim_by (subject_asked ask.asked) before (id_shown answer.status answer.payload)
