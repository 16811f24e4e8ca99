use Rattle.std.proofs.Common.{map, ap, subst}
use Rattle.kmipa_store.specs.Ledger.{LedgerState}
use Rattle.kmipa_msgs.specs.Messages.{rules_of}
use Rattle.kmipa_passed.specs.Leaving.{empty}
use Rattle.kmipa_aside.specs.Explains.{Explains}
use Rattle.kmipa_aside.specs.Sights.{owned_of}
use Rattle.kmipa_bundle.specs.Composing.{DoesDeed, TellsDeed}
use Rattle.kmipa_turns.specs.Steps.{step_of}
use Rattle.kmipa_trail.specs.Leading.{deed_in}
use Rattle.kmipa_trail.specs.Owners.{step_seen}
use Rattle.kmipa_findings.proofs.trying.try_over.Goals as goal

pub returns-in-Ok-take_step-clause-tries : goal.returns-in-Ok-take_step-clause-tries
returns-in-Ok-take_step-clause-tries g c =
    let taken = (step_seen (map owned_of c.args.basis.owners.now) (step_of c.args.step.now)).taken in
    let rules = rules_of c.args.basis.rules.now in
    let E : LedgerState → Type 0 = λ s. Explains (DoesDeed rules (deed_in taken)) (TellsDeed (deed_in taken)) s.now empty (g.L.Ledger.state c.take_step.new.ledger).now empty in
    subst E c.in-Ok.ensures.meaning.1 c.in-Ok-take_step.ensures.taken.0.explains

pub returns-in-Err-clause-tries : goal.returns-in-Err-clause-tries
returns-in-Err-clause-tries g c =
    c.not_taken.ensures.tries (rules_of c.args.basis.rules.now) (step_seen (map owned_of c.args.basis.owners.now) (step_of c.args.step.now)).taken (g.L.Ledger.state c.args.ledger.now)
    (g.L.Ledger.state c.mark.new.self) (g.L.Ledger.state c.back.new.self) (g.L.Ledger.state c.take_step.new.ledger) (ap (λ (s : LedgerState). s.now) c.in-Ok.ensures.meaning.1) c.in-Err.ensures.taken
