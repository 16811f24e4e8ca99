use Rattle.std.proofs.Common.{◌≡◌, ◌∙◌, [], Option, Some, Ok, length, sym, ap, subst}
use Rattle.std.proofs.lemmas.Option.{slice_get_within}
use Rattle.kmipa_store.specs.Ledger.{LedgerState}
use Rattle.kmipa_msgs.specs.Messages.{RulesOf, rules_of}
use Rattle.kmipa_trail.specs.Owners.{step_seen}
use Rattle.kmipa_trail.specs.declared.fault.Fault.{Fault}
use Rattle.kmipa_findings.specs.Descending.{IsTakenAfter}
use Rattle.kmipa_findings.specs.Exhausting.{StandsAt, TriesTrial, taken_in, visits_of}
use Rattle.kmipa_findings.specs.declared.descending.Taken.{Taken}
use Rattle.kmipa_findings.proofs.StandLemmas.{dead_here, known_more_here, on_ok, stands_refuted, step_tried}
use Rattle.kmipa_findings.proofs.descending.try_pick.Goals as goal

pub returns-in_default-2-clause-stands : goal.returns-in_default-2-clause-stands
returns-in_default-2-clause-stands g c = λ marks declared h rules stands.
    let d = c.args.descent.now in
    let trials = c.args.search.trials.now in
    let place = c.args.pick.place in
    let s = g.L.Ledger.state c.args.ledger.now in
    let u = g.L.Ledger.state c.try_here.new.ledger in
    let there = c.in-Some.ensures in
    let own = step_tried marks declared trials h (rules_of c.args.search.rules.now) rules place c.in-Some.trial.now there in
    let everyone = ap (λ (r : RulesOf). r.visibility) rules ∙ h.sure.seen in
    let T : Option Taken → Type 0 = λ o. TriesTrial (rules_of c.args.search.rules.now) (step_seen [] own.0).taken s o u in
    let A : Option Taken → Type 0 = λ o. IsTakenAfter {E = Fault} s (Ok o) u in
    let after : u ≡ s = subst A c.in_default-2.is c.in_ok-taken.ensures.after in
    let dead = dead_here marks declared trials h (rules_of c.args.search.rules.now) rules (taken_in d) place own.0 s u own.1 stands.known (subst T c.in_default-2.is (c.in_ok-taken.ensures.tries own.0 own.2 everyone)) in
    let P : LedgerState → Type 0 = λ x. StandsAt marks declared trials (visits_of d) c.push.new.self.items d.board x in
    subst P (sym after) (stands_refuted marks declared trials (visits_of d) d.refuted.items d.board s place c.push.new.self.items stands dead c.in_ok-push.ensures.items)

pub returns-clause-stands : goal.returns-clause-stands
returns-clause-stands g c =
    let d = c.args.descent.now in
    let trials = c.args.search.trials.now in
    let place = c.args.pick.place in
    let s = g.L.Ledger.state c.args.ledger.now in
    let u = g.L.Ledger.state c.try_here.new.ledger in
    on_ok c.go_down.result (λ down marks declared h rules stands. (
    let there = c.in-Some.ensures in
    let own = step_tried marks declared trials h (rules_of c.args.search.rules.now) rules place c.in-Some.trial.now there in
    let everyone = ap (λ (r : RulesOf). r.visibility) rules ∙ h.sure.seen in
    let T : Option Taken → Type 0 = λ o. TriesTrial (rules_of c.args.search.rules.now) (step_seen [] own.0).taken s o u in
    let A : Option Taken → Type 0 = λ o. IsTakenAfter {E = Fault} s (Ok o) u in
    let after : IsTakenAfter {E = Fault} s (Ok (Some c.in-Some-2.taken)) u = subst A c.in-Some-2.is c.in_ok-taken.ensures.after in
    let known = known_more_here marks declared trials h (rules_of c.args.search.rules.now) rules (taken_in d) place own.0 s u c.in-Some-2.taken own.1 stands.known
    (subst T c.in-Some-2.is (c.in_ok-taken.ensures.tries own.0 own.2 everyone)) in
    down marks declared trials s u stands (slice_get_within trials place c.in-Some.trial.now there) (c.has.ensures.left (length trials) (taken_in d) stands.board c.if-has.false) known after.1)) c.go_down.ensures.stands
