use Rattle.std.proofs.Common.{rules, ◌∙◌, ◌-◌, FitsSigned, w32, w64, arith}
use Rattle.std.proofs.lemmas.Int.{to_z-of_z}
use Rattle.kmipa_check.specs.Steps.{step_of}
use Rattle.kmipa_check.proofs.PlaceLemmas.{mapped_at}
use Rattle.kmipa_explain.proofs.cause.turn_before.Goals as goal

pub returns : goal.returns
returns c =
    let number : FitsSigned w32 c.index-steps-turn.result.number = search rules in
    let stamp : FitsSigned w64 c.moment.result = search rules in
    record {
      earlier = c.args.turn - 1;
      next = omega (arith, c.requires.behind);
      before = step_of c.index-steps-turn.result;
      there = mapped_at step_of c.args.steps.now (c.args.turn - 1) c.index-steps-turn.result (omega (arith, c.requires.within)) c.index-steps-turn.is;
      reported = omega (arith, c.requires.behind);
      call = to_z-of_z w32 c.index-steps-turn.result.number number;
      stamp = to_z-of_z w64 c.moment.result stamp ∙ c.moment.ensures;
    }
