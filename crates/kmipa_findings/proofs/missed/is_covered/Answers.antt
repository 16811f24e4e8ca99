use Rattle.kmipa_findings.specs.Exhausting.{is_taken, waits, late, back}
use Rattle.kmipa_findings.proofs.missed.is_covered.Goals as goal

pub returns-then-has : goal.returns-then-has
returns-then-has c = λ yes count taken board. is_taken (c.has.ensures.taken count taken board c.if-has.true)

pub returns-then-waits : goal.returns-then-waits
returns-then-waits c = λ yes count taken board. waits (c.waits.ensures c.if-waits.true)

pub returns-then-is_behind : goal.returns-then-is_behind
returns-then-is_behind c = λ yes count taken board. late (c.is_behind.ensures c.if-is_behind.true count taken board)

pub returns : goal.returns
returns c = λ yes count taken board. back (c.is_above.ensures yes count taken board)
