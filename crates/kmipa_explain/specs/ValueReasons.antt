-- What the two reasons that speak of attributes say of the object that was held. Not promised: `Values` says what is told.
use Rattle.std.specs.Prelude.{◌≡◌, ℤ, Option, Some, option_and_then}
use Rattle.kmipa_msgs.specs.Messages.{AskedOf, GetAttributesOf, GotAttributesOf, PayloadOf, got, got_attributes}
use Rattle.kmipa_record.specs.Entries.{EntryOf}
use Rattle.kmipa_ops.specs.GetAttributes.{HasRequired, IsOwnAt, seen_attributes}
use Rattle.kmipa_ops.specs.Get.{IsOther}
use Rattle.kmipa_check.specs.Described.{card_declared}
use Rattle.kmipa_explain.specs.Values.{attributes_asked}

-- the object is there, and something that is required isn't shown of it
pub record LacksRequired (object : Option EntryOf) (asked : AskedOf) (payload : Option PayloadOf) : Type 0 where
  pub entry : EntryOf
  pub there : object ≡ Some entry
  pub request : GetAttributesOf
  pub is_asked : attributes_asked asked ≡ Some request
  pub answer : GotAttributesOf
  pub is_shown : option_and_then seen_attributes payload ≡ Some answer
  pub lacks : HasRequired request (card_declared entry) answer.attributes → ⊥

-- what a payload shows of the object isn't its own
abbrev pub IsForeign : EntryOf → ℤ → PayloadOf → Type 0
IsForeign entry t (got a) = IsOther a (card_declared entry)
IsForeign entry t (got_attributes a) = IsOwnAt (card_declared entry) t a.attributes → ⊥
IsForeign entry t payload = ⊥

-- the object is there, and what is shown of it isn't its own
pub record ShowsForeign (object : Option EntryOf) (t : ℤ) (payload : Option PayloadOf) : Type 0 where
  pub entry : EntryOf
  pub there : object ≡ Some entry
  pub shown : PayloadOf
  pub is_shown : payload ≡ Some shown
  pub foreign : IsForeign entry t shown
