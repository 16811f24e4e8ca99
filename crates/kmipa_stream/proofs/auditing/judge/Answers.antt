use Rattle.std.proofs.Common.{List, map, subst}
use Rattle.std.specs.Prelude.{IfOk}
use Rattle.kmipa_record.specs.Witnesses.{turn_of}
use Rattle.kmipa_record.specs.declared.turn.Turn.{Turn}
use Rattle.kmipa_stream.specs.Standing.{IsJudged}
use Rattle.kmipa_stream.proofs.auditing.judge.Goals as goal
use Rattle.kmipa_stream.proofs.auditing.judge.Goals.{in-Ok-pass, in-Err}

pub judge_by-answer-requires-clause-first : goal.judge_by-answer-requires-clause-first
judge_by-answer-requires-clause-first g c =
    let d = c.requires.declared in
    (c.deref.result.now, d.0, c.in-Ok.ensures d.0 d.1 d.2)

pub returns-clause-judged : goal.returns-clause-judged
returns-clause-judged g c = λ declared named opens.
    let P : List Turn → Type 0 = λ l. IfOk c.judge_by-answer.result (IsJudged c.judge_by-answer.new.transcript declared (map turn_of l)) in
    subst P c.deref.ensures.value (c.judge_by-answer.ensures.judged c.deref.result.now declared (c.in-Ok.ensures declared named opens))

pub returns-in_default-clause-fault : goal.returns-in_default-clause-fault
returns-in_default-clause-fault g c = λ file is. elim c.match-pass.branch [
  | in-Ok-pass w ↦ rw w.result-is tt
  | in-Err w ↦ rw w.result-is (rw w.in-Err.is at (c.pass.ensures.fault file is))
]
