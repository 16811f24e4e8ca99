use Rattle.std.proofs.Common.{arith}
use Rattle.kmipa_store.proofs.copies.CopiesLedger.ahead.Goals as goal

pub returns : goal.returns
returns c = (omega arith, λ p h low below at. absurd (omega (arith, low, below)))
