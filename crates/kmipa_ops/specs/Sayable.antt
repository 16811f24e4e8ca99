-- What a message can carry, of a payload that is put in.
use Rattle.std.specs.Prelude.{◌↔◌, Some}
use Rattle.kmipa_msgs.specs.Messages.{AskOf, PayloadOf, got_attributes}
use Rattle.kmipa_msgs.specs.Sayable.{AreSayable, SomeItemSays}
use Rattle.kmipa_ops.specs.Completes.{FillsAbsent}

-- the attributes that a Get Attributes shows can be said; of the other payloads each operation says what can be
abbrev pub ShowsSayable : PayloadOf → Type 0
ShowsSayable (got_attributes a) = AreSayable a.attributes
ShowsSayable _ = Unit {0}

-- What may stand in the place of an absent payload is what some item says as a Response Payload of the kind that is asked for; of the
-- attributes that a Get Attributes shows, where they can be said.
abbrev pub FillsAreSaid : Type 0
FillsAreSaid = (ask : AskOf) (p : PayloadOf) → (FillsAbsent ask.asked (Some p) × ShowsSayable p) ↔ SomeItemSays ask p
