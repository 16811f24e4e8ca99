-- The list of the operations: the row of each, and what the auditor keeps of it beside that.
use Rattle.std.specs.Prelude.{List, None, Option, ℕ}
use Rattle.kmipa_msgs.specs.Messages.{AskedOf, PayloadOf, activates, creates, destroys, does_other, gets, gets_attributes, idles, locates, registers, revokes}
use Rattle.kmipa_ops.specs.Activate.{activate_deed}
use Rattle.kmipa_ops.specs.Changes.{change_judging}
use Rattle.kmipa_ops.specs.Create.{create_deed, create_judging}
use Rattle.kmipa_ops.specs.Destroy.{destroy_deed}
use Rattle.kmipa_ops.specs.Effects.{EffectOf}
use Rattle.kmipa_ops.specs.Get.{get_deed, get_judging}
use Rattle.kmipa_ops.specs.GetAttributes.{get_attributes_deed, get_attributes_judging}
use Rattle.kmipa_ops.specs.Judging.{RowJudging, about_by, row_effect, row_holds}
use Rattle.kmipa_ops.specs.Locate.{locate_deed, locate_judging}
use Rattle.kmipa_ops.specs.Register.{register_deed, register_judging}
use Rattle.kmipa_ops.specs.Revoke.{revoke_deed}
use Rattle.kmipa_ops.specs.Row.{Row, SubjectOf, deed, idle, row_subject, unknown}
use Rattle.kmipa_ops.specs.declared.change.Change.TheVariants.{Activate, Destroy, Revoke}

abbrev pub asked_row : AskedOf → Row
asked_row (creates a) = deed (create_deed a)
asked_row (registers r) = deed (register_deed r)
asked_row (locates q) = deed (locate_deed q)
asked_row (gets id) = deed (get_deed id)
asked_row (gets_attributes g) = deed (get_attributes_deed g)
asked_row (activates id) = deed (activate_deed id)
asked_row (revokes r) = deed (revoke_deed r)
asked_row (destroys id) = deed (destroy_deed id)
asked_row (idles number) = idle
asked_row (does_other number) = unknown

abbrev pub asked_judging : (asked : AskedOf) → RowJudging (asked_row asked)
asked_judging (creates a) = create_judging a
asked_judging (registers r) = register_judging r
asked_judging (locates q) = locate_judging q
asked_judging (gets id) = get_judging id
asked_judging (gets_attributes g) = get_attributes_judging g
asked_judging (activates id) = change_judging id Activate
asked_judging (revokes r) = change_judging r.id (Revoke r.code)
asked_judging (destroys id) = change_judging id Destroy
asked_judging (idles number) = tt
asked_judging (does_other number) = tt

-- whom the operation that is asked for is about, and what it does
abbrev pub subject_asked : AskedOf → SubjectOf
subject_asked asked = row_subject (asked_row asked)

abbrev pub effect_asked : AskedOf → EffectOf
effect_asked asked = row_effect (asked_row asked) (asked_judging asked)

-- the identifier of the object that an item is about, where the ID Placeholder holds `before`: a new object's is the one that the placeholder
-- holds then
abbrev pub about_asked : Option (List ℕ) → AskedOf → Option PayloadOf → Option (List ℕ)
about_asked before asked payload = about_by (subject_asked asked) (row_holds (asked_row asked) (asked_judging asked) None payload) before
