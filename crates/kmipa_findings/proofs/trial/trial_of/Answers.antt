use Rattle.kmipa_check.specs.Grants.{grants_of}
use Rattle.kmipa_record.specs.Witnesses.{turn_of}
use Rattle.kmipa_turns.specs.Recorded.{recorded_of}
use Rattle.kmipa_findings.proofs.TriedLemmas.{none_bare, waits_tried}
use Rattle.kmipa_findings.proofs.trial.trial_of.Goals as goal

pub returns-in_ok-waiting-in-None-clause-tried : goal.returns-in_ok-waiting-in-None-clause-tried
returns-in_ok-waiting-in-None-clause-tried c =
    waits_tried (grants_of c.args.grants.now) (recorded_of c.args.call.now) c.in_ok-waiting-in-None.field-0
    (none_bare (grants_of c.args.grants.now) (recorded_of c.args.call.now) (turn_of c.args.turn.now) c.requires (λ s i. c.in_ok-step.ensures.none c.in-None.is s i))
    c.in_ok-waiting-in-None.ensures.waits

pub returns-in_ok-waiting-in-None-clause-none : goal.returns-in_ok-waiting-in-None-clause-none
returns-in_ok-waiting-in-None-clause-none c = λ none.
    none_bare (grants_of c.args.grants.now) (recorded_of c.args.call.now) (turn_of c.args.turn.now) c.requires (λ s i. c.in_ok-step.ensures.none c.in-None.is s i)
