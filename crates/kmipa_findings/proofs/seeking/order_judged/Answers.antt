use Rattle.std.proofs.Common.{List, map, refl, subst, arith}
use Rattle.kmipa_record.specs.Witnesses.{turn_of}
use Rattle.kmipa_record.specs.declared.turn.Turn.{Turn}
use Rattle.kmipa_findings.specs.Findings.{SetsNothingAside}
use Rattle.kmipa_findings.proofs.seeking.order_judged.Goals as goal

pub returns : goal.returns
returns c = λ marks declared accepted.
    let A : List Turn → Type 0 = λ ts. SetsNothingAside (map turn_of ts) in
    c.unexcepted.ensures c.args.budget marks declared (omega (arith, c.if-steps-budget.false)) accepted (subst A c.deref.ensures.value (c.if-not-set_nothing_aside.ensures refl))
