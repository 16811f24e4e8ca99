use Rattle.std.proofs.Common.{map, Vec, sym, subst}
use Rattle.std.specs.declared.alloc.Global.{Global}
use Rattle.kmipa_check.specs.Calls.{call_of}
use Rattle.kmipa_orders.specs.Candidates.{AreOfCalls, own_call}
use Rattle.kmipa_orders.specs.declared.candidate.Candidate.{Candidate}
use Rattle.kmipa_check.proofs.PlaceLemmas.{mapped_at, contains_at}
use Rattle.kmipa_orders.proofs.GuessLemmas.{none_of_calls, more_of_calls}
use Rattle.kmipa_orders.proofs.plain.every_candidate.Goals as goal
use Rattle.kmipa_orders.proofs.plain.every_candidate.Goals.{in-Some+in_ok-push, in_default}

pub calls-init : goal.calls-init
calls-init c = none_of_calls (map call_of c.args.calls.now) c.new-own.result.items c.new-own.ensures.items

pub calls-preserved : goal.calls-preserved
calls-preserved c =
    let calls = map call_of c.args.calls.now in
    let there = contains_at calls c.calls.call-index (call_of c.call-item.result) (mapped_at call_of c.args.calls.now c.calls.call-index c.call-item.result c.calls-test.true c.call-item.is) in
    elim c.match-of.branch [
      | in-Some+in_ok-push w ↦
          let P : Vec Candidate Global → Type 0 = λ v. AreOfCalls calls (map own_call v.items) in
          subst P (sym w.own-is)
          (more_of_calls calls c.calls.own.items w.push.new.self.items w.in-Some.candidate (call_of c.call-item.result) w.in_ok-push.ensures.items w.in-Some.ensures.0 there c.calls.invariant)
      | in_default w ↦
          let P : Vec Candidate Global → Type 0 = λ v. AreOfCalls calls (map own_call v.items) in
          subst P (sym w.own-is) c.calls.invariant
    ]
