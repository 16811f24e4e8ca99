use Rattle.std.proofs.Common.{◌∙◌, length, arith}
use Rattle.kmipa_findings.specs.Exhausting.{taken_in}
use Rattle.kmipa_findings.proofs.StandLemmas.{if_ok, none_left}
use Rattle.kmipa_findings.proofs.descending.descend.Goals as goal

pub returns-then-is_full-clause-ends : goal.returns-then-is_full-clause-ends
returns-then-is_full-clause-ends g c = if_ok c.whole.result (λ d ends marks declared rules known. ends marks declared) c.whole.ensures.ends

pub returns-then-not-branch-clause-ends : goal.returns-then-not-branch-clause-ends
returns-then-not-branch-clause-ends g c = λ marks declared rules known h.
    let trials = c.args.search.trials.now in
    let d = c.tries.descent in
    let stands = c.tries.invariant.stands marks declared h rules known in
    none_left marks declared trials d (g.L.Ledger.state c.tries.ledger) h stands
    (record { left = c.is_full.ensures (length trials) (taken_in d) stands.board c.if-is_full.false; covered = c.next_pick.ensures c.in_default.is stands.board })
    (c.in_ok-step_back.ensures.none c.if-not-branch.true)

pub tries-preserved-in_default : goal.tries-preserved-in_default
tries-preserved-in_default g c = record {
  descended = c.in_ok-step_back.ensures.descended;
  within = c.tries.invariant.within;
  paced = c.tries.invariant.paced;
  stands = λ marks declared h rules known.
      let trials = c.args.search.trials.now in
      let d = c.tries.descent in
      let stands = c.tries.invariant.stands marks declared h rules known in
      c.in_ok-step_back.ensures.stands marks declared trials h
      (record { left = c.is_full.ensures (length trials) (taken_in d) stands.board c.if-is_full.false; covered = c.next_pick.ensures c.in_default.is stands.board }) stands;
}

pub tries-preserved : goal.tries-preserved
tries-preserved g c = record {
  descended = c.in_ok-try_pick.ensures.descended;
  within = omega (arith, c.if-steps-search.false);
  paced = c.step.ensures ∙ c.tries.invariant.paced;
  stands = λ marks declared h rules known. c.in_ok-try_pick.ensures.stands marks declared h rules (c.tries.invariant.stands marks declared h rules known);
}
