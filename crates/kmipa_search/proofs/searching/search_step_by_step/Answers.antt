use Rattle.std.proofs.Common.{◌≡◌, ℕ, List, map, Option, Some, Vec, subst, option_map}
use Rattle.std.specs.declared.alloc.Global.{Global}
use Rattle.kmipa_store.specs.States.{state_of_journal}
use Rattle.kmipa_record.specs.Declarations.{declaration_of}
use Rattle.kmipa_record.specs.Witnesses.{witness_of}
use Rattle.kmipa_msgs.specs.Messages.{rules_of}
use Rattle.kmipa_check.specs.Calls.{call_of}
use Rattle.kmipa_orders.specs.Candidates.{candidate_step}
use Rattle.kmipa_orders.specs.Outcomes.{InTime}
use Rattle.kmipa_orders.specs.Progress.{ComesTo}
use Rattle.kmipa_orders.specs.Confirming.{turns_at}
use Rattle.kmipa_orders.proofs.AnswerLemmas.{opens, gave_up, found, in_time, over_in_time}
use Rattle.kmipa_search.proofs.searching.search_step_by_step.Goals as goal

pub returns-in-Some-order : goal.returns-in-Some-order
returns-in-Some-order g c = λ marks r are plain.
    let all = map call_of c.args.calls.now in
    let declared = declaration_of c.args.declaration.now in
    let calls = map candidate_step c.args.own.now in
    let o = opens marks declared all calls c.check_laws.ensures r are plain (rules_of c.in_ok-rules.rules) (state_of_journal c.in_ok-ledger.ledger).now c.in_ok-rules.ensures c.in_ok-ledger.ensures.opened in
    let T : Option ℕ → Type 0 = λ over. InTime over (ComesTo declared calls c.args.budget (option_map (λ (x : Vec ℕ Global). x.items) c.in-Ok.outcome.order) c.in-Ok.outcome.steps) in
    let tells = subst T c.in_default-over.is (c.in-Ok.ensures.tells declared o) in
    let P : Option (Vec ℕ Global) → Type 0 = λ v. ComesTo declared calls c.args.budget (option_map (λ (x : Vec ℕ Global). x.items) v) c.in-Ok.outcome.steps in
    let l : ComesTo declared calls c.args.budget (Some c.in-Some-order.order.items) c.in-Ok.outcome.steps = subst P c.in-Some-order.is tells in
    let W : List ℕ → Type 0 = λ ps. witness_of c.in_ok-witness-in-Some-order.witness ≡ turns_at calls ps in
    in_time (g.W.Watch.seconds c.args.watch.now) marks declared c.args.budget c.confirm.result
    (found marks declared all calls c.check_laws.ensures r are plain c.in-Some-order.order.items l.2 c.args.budget c.in-Ok.outcome.steps c.in_ok-witness-in-Some-order.witness c.confirm.result l.0 l.1
    (subst W c.deref.ensures.value c.in_ok-witness-in-Some-order.ensures) (λ a. c.confirm.ensures marks r are a))

pub returns : goal.returns
returns g c = λ marks r are plain.
    let all = map call_of c.args.calls.now in
    let declared = declaration_of c.args.declaration.now in
    let calls = map candidate_step c.args.own.now in
    let o = opens marks declared all calls c.check_laws.ensures r are plain (rules_of c.in_ok-rules.rules) (state_of_journal c.in_ok-ledger.ledger).now c.in_ok-rules.ensures c.in_ok-ledger.ensures.opened in
    let T : Option ℕ → Type 0 = λ over. InTime over (ComesTo declared calls c.args.budget (option_map (λ (x : Vec ℕ Global). x.items) c.in-Ok.outcome.order) c.in-Ok.outcome.steps) in
    let tells = subst T c.in_default-over.is (c.in-Ok.ensures.tells declared o) in
    let P : Option (Vec ℕ Global) → Type 0 = λ v. ComesTo declared calls c.args.budget (option_map (λ (x : Vec ℕ Global). x.items) v) c.in-Ok.outcome.steps in
    gave_up marks declared all calls c.check_laws.ensures r are plain c.args.budget c.in-Ok.outcome.steps (subst P c.in-None.is tells)

pub returns-in-Some : goal.returns-in-Some
returns-in-Some g c = λ marks r are plain.
    over_in_time (g.W.Watch.seconds c.args.watch.now) marks (declaration_of c.args.declaration.now) (map call_of c.args.calls.now) c.args.budget c.in-Ok.outcome.steps c.in-Some.after c.in-Ok.outcome.over
    are c.in-Ok.ensures.bounded.0 c.in-Ok.ensures.over c.in-Some.is
