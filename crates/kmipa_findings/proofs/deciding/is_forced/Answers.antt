use Rattle.std.proofs.Common.{map, refl, arith}
use Rattle.std.proofs.lemmas.List.{length-map}
use Rattle.kmipa_record.specs.Witnesses.{turn_of}
use Rattle.kmipa_turns.specs.Recorded.{recorded_of}
use Rattle.kmipa_turns.specs.Steps.{step_of}
use Rattle.kmipa_findings.proofs.ScanLemmas.{scanned_more, scanned_none}
use Rattle.kmipa_findings.proofs.deciding.is_forced.Goals as goal

pub calls-init : goal.calls-init
calls-init c = record {
  within = omega arith;
  scanned = scanned_none (map recorded_of c.args.calls.now) (map turn_of c.args.turns.now) (map step_of c.args.steps.now) c.args.count _ _ (omega (arith, length-map c.args.calls.now recorded_of)) (omega (arith, c.if-count-calls.false));
}

pub calls-preserved : goal.calls-preserved
calls-preserved c = record {
  within = omega (arith, c.calls.invariant.within);
  scanned = scanned_more c.args.calls.now (map turn_of c.args.turns.now) (map step_of c.args.steps.now) c.args.count c.calls.place c.in-Some.call.now c.calls.least c.lesser-least.result c.calls-test.true
      c.calls.invariant.within c.in-Some.ensures.lookup.1 c.lesser-least.ensures.one c.lesser-least.ensures.other (c.if-not-may_stand.ensures refl) c.calls.invariant.scanned;
}
