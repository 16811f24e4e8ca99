-- From what a printer of dates wrote to the second that it tells.
use Rattle.std.proofs.Common.{◌≡◌, ℕ, ℤ, pos, ◌*ℤ◌, List, Ok, None, false, ◌∙◌, ap, refl}
use Rattle.jiff.specs.Words.{parse_timestamp}
use Rattle.jiff.proofs.Family.{parse_timestamp-printed}
use Rattle.jiff_core.specs.declared.timestamp.Timestamp.{Timestamp}
use Rattle.jiff_fmt.specs.Printer.{options, IsTimestampText}
use Rattle.jiff_fmt.specs.declared.temporal.printer.DateTimePrinter.{DateTimePrinter}

-- what is printed of an instant reads as its nanosecond
pub reads_back : (p : DateTimePrinter) (t : Timestamp) (nanosecond : ℤ) (text : List ℕ) → options p ≡ (false, 84, None)
    → IsTimestampText p t text → t.nanosecond ≡ nanosecond → parse_timestamp text ≡ Ok nanosecond
reads_back p t nanosecond text plain printed same = parse_timestamp-printed p t text plain printed ∙ ap (λ (z : ℤ). Ok z) same
