use Rattle.std.proofs.Common.{arith}
use Rattle.kmipa_explain.proofs.HoldingLemmas.{ends_differ}
use Rattle.kmipa_explain.proofs.holding.first_difference.Goals as goal

pub returns : goal.returns
returns c = record {
  before = c.bytes.invariant.agree;
  here = ends_differ c.args.known.now c.args.shown.now c.bytes.place (omega (arith, c.bytes-test.false)) c.bytes.invariant.within c.requires c.bytes.invariant.agree;
}
