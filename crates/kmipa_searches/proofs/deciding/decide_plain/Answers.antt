use Rattle.std.proofs.Common.{Ok, Bool, pos, arith, map, subst}
use Rattle.kmipa_record.specs.Transcripts.{transcript_of}
use Rattle.kmipa_check.specs.Calls.{call_of}
use Rattle.kmipa_check.specs.Grants.{grants_of}
use Rattle.kmipa_orders.specs.Forced.{TellsForced}
use Rattle.kmipa_searches.proofs.DecidingLemmas.{early_decides, unforced_undecided}
use Rattle.kmipa_searches.proofs.deciding.decide_plain.Goals as goal

pub returns-then-count-budget : goal.returns-then-count-budget
returns-then-count-budget c = λ recorded are plain.
    early_decides (transcript_of c.args.transcript.now) (grants_of c.args.grants) (map call_of c.args.calls.now) c.args.budget c.args.count are plain c.decided_under.result c.decided_under.ensures (omega (arith, c.if-count-budget.true))

pub returns-else-branch : goal.returns-else-branch
returns-else-branch c = λ recorded are plain.
    let marks = transcript_of c.args.transcript.now in
    let P : Bool → Type 0 = λ b. TellsForced marks (pos 0) (Ok b) in
    unforced_undecided marks (grants_of c.args.grants) (map call_of c.args.calls.now) c.args.budget c.args.count are plain recorded (omega (arith, c.if-count-budget.false))
    (subst P c.if-branch.false (c.in_ok-is_forced.ensures recorded))
