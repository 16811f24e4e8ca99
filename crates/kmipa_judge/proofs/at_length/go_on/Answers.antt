use Rattle.std.proofs.Common.{arith}
use Rattle.kmipa_judge.proofs.at_length.go_on.Goals as goal

pub returns-then-is_bare : goal.returns-then-is_bare
returns-then-is_bare g c = λ within recorded given. (omega (arith, given.0, within), λ below. given.1 (omega (arith, c.if-is_ended.true)))

pub returns-then-is_ended-2 : goal.returns-then-is_ended-2
returns-then-is_ended-2 g c = λ within recorded given. (omega (arith, given.0, within), λ below. given.1 (omega (arith, c.if-is_ended-2.true)))
