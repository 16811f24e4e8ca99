-- An item of a request, from its parts.
use Rattle.std.specs.Prelude.{ℕ, List, Option}
use Rattle.kmipa_msgs.specs.Messages.{AskedOf, AskOf}

abbrev pub ask_with : Option (List ℕ) → AskedOf → AskOf
ask_with batch_id asked = record { batch_id = batch_id; asked = asked }
