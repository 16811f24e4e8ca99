-- What is reported of a transcript: whether it is forced under a tolerance, or the first message that is outside.
use Rattle.std.specs.Prelude.{ℤ, List, Bool, Result, Ok, Err}
use Rattle.kmipa_record.specs.Marks.{MarkOf}
use Rattle.kmipa_check.specs.Calls.{CallOf, AreCalls, IsFirstOutside}
use Rattle.kmipa_check.specs.Deciding.{Decided}
use Rattle.kmipa_check.specs.declared.fault.CheckFault.{CheckFault}
use Rattle.kmipa_check.specs.declared.fault.CheckFault.TheVariants.{Outside, Witness, Memory}
use Rattle.kmipa_orders.specs.Plain.{IsForced}

abbrev pub TellsForced : List MarkOf → ℤ → Result Bool CheckFault → Type 0
TellsForced marks tolerance (Ok forced) = (calls : List CallOf) × AreCalls marks calls × Decided forced (IsForced tolerance calls)
TellsForced marks tolerance (Err (Outside number side o)) = IsFirstOutside marks number side o.item o.kind
TellsForced marks tolerance (Err (Witness f)) = ⊥
TellsForced marks tolerance (Err Memory) = Unit {0}
