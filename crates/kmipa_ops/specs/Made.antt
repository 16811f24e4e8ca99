-- The payload that shows a new object: that of a Register where the object is brought with a Key Block, and else that of a Create (KMIP 2.1,
-- section 6.1).
use Rattle.std.specs.Prelude.{Option, Some, None}
use Rattle.kmipa_msgs.specs.Messages.{BlockOf, PayloadOf, RegisteredOf, created, registered}
use Rattle.kmipa_ops.specs.Create.{seen_created}
use Rattle.kmipa_ops.specs.Register.{seen_registered}

abbrev pub shown_with : Option BlockOf → RegisteredOf → PayloadOf
shown_with None x = created x
shown_with (Some block) x = registered x

-- what such a payload shows
abbrev pub seen_with : Option BlockOf → PayloadOf → Option RegisteredOf
seen_with None payload = seen_created payload
seen_with (Some block) payload = seen_registered payload
