use Rattle.kmipa_findings.proofs.TriedLemmas.{ended_more}
use Rattle.kmipa_findings.proofs.calls.ended_calls.Goals as goal

pub calls-preserved : goal.calls-preserved
calls-preserved c = λ ended.
    ended_more c.args.calls.now c.calls.ended.items c.push_ended.new.ended.items c.calls.place c.calls-test.true ended (λ call there has. c.in_ok-push_ended.ensures call there has) (c.calls.invariant ended)
