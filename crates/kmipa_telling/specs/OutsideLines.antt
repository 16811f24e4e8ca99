-- The lines of what makes a message outside.
use Rattle.std.specs.Prelude.{ℕ, List, [], ◌∷◌, ◌++◌, codes, flat_map}
use Rattle.std.specs.Fmt.{decimal}
use Rattle.std.specs.String.{string_bytes}
use Rattle.kmipa_ttlv.specs.Flaw.{fault_name}
use Rattle.kmipa_check.specs.declared.fault.Side.{Side}
use Rattle.kmipa_check.specs.declared.fault.Side.TheVariants.{Client, Server}
use Rattle.kmipa_outside.specs.declared.explaining.OutsideExplanation.{OutsideExplanation}
use Rattle.kmipa_outside.specs.declared.told.FieldTold.{FieldTold}
use Rattle.kmipa_outside.specs.declared.told.MessageTold.{MessageTold}
use Rattle.kmipa_outside.specs.declared.told.MessageTold.TheVariants.{Flaw, Longer, Tagged, Fields}
use Rattle.kmipa_runs.specs.Lines.{line}
use Rattle.kmipa_runs.specs.Shown.{quoted}
use Rattle.kmipa_telling.specs.Explained.{operation_line}
use Rattle.kmipa_telling.specs.OutsidePhrases.{field_text, stands_text, tag_text, wanted_text}

-- the message that is wanted
abbrev pub message_text : Side → List ℕ
message_text Client = codes "a Request Message"
message_text Server = codes "a Response Message"

-- what stands in place of it
abbrev pub whole_text : MessageTold → List ℕ
whole_text (Flaw fault) = codes "no item, " ++ (fault_name fault.kind ++ (codes " at offset " ++ decimal fault.offset))
whole_text (Longer size) = codes "an item of " ++ (decimal size ++ codes " bytes, and more")
whole_text (Tagged tag) = tag_text tag
whole_text (Fields told) = []

-- what stands and what is wanted
abbrev pub pair_lines : List ℕ → List ℕ → List ℕ
pair_lines stands wanted = line (codes "stands: " ∷ stands ∷ codes "\nwanted: " ∷ wanted ∷ [])

-- a field that isn't as wanted
abbrev pub field_lines : FieldTold → List ℕ
field_lines f = line (codes "field: " ∷ field_text f ∷ codes "\nstands: " ∷ stands_text f.demand.field f.stands ∷ codes "\nwanted: " ∷ wanted_text f.demand.field f.demand.wanted ∷ [])

-- the message, or each of its fields
abbrev pub told_lines : Side → MessageTold → List ℕ
told_lines side (Fields told) = flat_map field_lines told.items
told_lines side told = pair_lines (whole_text told) (message_text side)

-- the client, the operation, and what isn't as wanted
abbrev pub outside_lines : OutsideExplanation → List ℕ
outside_lines e = codes "client: " ++ (quoted (string_bytes e.client) ++ 10 ∷ (operation_line e.operation ++ told_lines e.side e.told))
