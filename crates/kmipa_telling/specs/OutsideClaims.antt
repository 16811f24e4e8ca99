-- What is told in JSON of what makes a message outside.
use Rattle.std.specs.Prelude.{codes}
use Rattle.std.specs.String.{string_bytes}
use Rattle.serde_json.specs.Data.{Members, array, no_members, string, put}
use Rattle.kmipa_check.specs.declared.fault.Side.{Side}
use Rattle.kmipa_outside.specs.declared.explaining.OutsideExplanation.{OutsideExplanation}
use Rattle.kmipa_outside.specs.declared.told.FieldTold.{FieldTold}
use Rattle.kmipa_outside.specs.declared.told.MessageTold.{MessageTold}
use Rattle.kmipa_outside.specs.declared.told.MessageTold.TheVariants.{Fields}
use Rattle.kmipa_telling.specs.EventClaims.{operation_told}
use Rattle.kmipa_telling.specs.Lists.{objects}
use Rattle.kmipa_telling.specs.OutsideLines.{message_text, whole_text}
use Rattle.kmipa_telling.specs.OutsidePhrases.{field_text, stands_text, wanted_text}

-- a field that isn't as wanted
abbrev pub field_members : FieldTold → Members
field_members f = put (codes "wanted") (string (wanted_text f.demand.field f.demand.wanted)) (put (codes "stands") (string (stands_text f.demand.field f.stands))
    (put (codes "field") (string (field_text f)) no_members))

-- the message, or each of its fields
abbrev pub message_told : Side → MessageTold → Members → Members
message_told side (Fields told) before = put (codes "fields") (array (objects field_members told.items)) before
message_told side told before = put (codes "wanted") (string (message_text side)) (put (codes "stands") (string (whole_text told)) before)

-- the client, the operation, and what isn't as wanted
abbrev pub outside_members : OutsideExplanation → Members
outside_members e = message_told e.side e.told (operation_told (codes "operation") e.operation (put (codes "client") (string (string_bytes e.client)) no_members))
