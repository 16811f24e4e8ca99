use Rattle.std.proofs.Common.{arith}
use Rattle.kmipa_judge.proofs.IndentLemmas.{indented_all, indented_none, indented_on}
use Rattle.kmipa_judge.proofs.indenting.bytes_indented.Goals as goal

pub returns : goal.returns
returns c = indented_all c.args.text.now c.bytes.place c.bytes.begins c.bytes.more.items (omega (arith, c.bytes-test.false)) c.bytes.invariant
