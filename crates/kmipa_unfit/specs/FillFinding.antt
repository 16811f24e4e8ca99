-- How what is wrong with fills is found. Not promised: `UnfitFills` says what is told.
use Rattle.std.specs.Prelude.{ℕ, Option, Some, None}
use Rattle.kmipa_msgs.specs.declared.kind.OutsideKind.{OutsideKind}
use Rattle.kmipa_msgs.specs.Messages.{AskOf}
use Rattle.kmipa_msgs.specs.Outside.{OutsideAt}
use Rattle.kmipa_msgs.specs.Payloads.{PayloadFault}
use Rattle.kmipa_record.specs.Witnesses.{FillOf}
use Rattle.kmipa_check.specs.Fills.{IsFormless}

-- whether a fill is of the form of the payload that answers what was asked, or why it isn't
abbrev pub FillSays : FillOf → AskOf → Option OutsideKind → Type 0
FillSays fill ask None = IsFormless fill ask → ⊥
FillSays fill ask (Some kind) = (item : ℕ) × OutsideAt (PayloadFault fill.payload ask) item kind
