use Rattle.std.proofs.Common.{ℕ, List, Option, sym, ap, subst, refl, Bool, Ok, Err}
use Rattle.kmipa_msgs.specs.Messages.{RulesOf, maybe_lent, rules_of, request_of, response_of, RequestOf, ResponseOf}
use Rattle.kmipa_batch.specs.Orders.{order_given}
use Rattle.kmipa_batch.specs.Refusals.{CallTakenAlong}
use Rattle.kmipa_batch.specs.declared.refusal.CallRefusal.TheVariants as refusal
use Rattle.kmipa_check.specs.Steps.{order_of, step_of}
use Rattle.kmipa_check.specs.Deciding.{Decided}
use Rattle.kmipa_check.specs.Verdicts.{IsLate, RunsBack}
use Rattle.kmipa_check.specs.declared.verdict.Refused.{Refused}
use Rattle.kmipa_check.proofs.ReplayLemmas.{replayed_more, refused_back, refused_call}
use Rattle.kmipa_stream.proofs.taking.take_step.Goals as goal

pub returns-then-back-clause-taken : goal.returns-then-back-clause-taken
returns-then-back-clause-taken g c = λ order there late back declared is r.
    let s = step_of c.args.step.now in
    let v = c.refused_at-then-back.result in
    let e = c.refused_at-then-back.ensures in
    let P : Bool → Type 0 = λ b. Decided b (IsLate order c.args.turn s) in
    let Q : Bool → Type 0 = λ b. Decided b (RunsBack order c.args.turn s) in
    refused_back declared order c.args.turn (g.L.Ledger.state c.args.ledger.now).now r s there v (ap (λ (x : Refused). x.turn) e) (sym (ap (λ (x : Refused). x.call) e)) (ap (λ (x : Refused). x.item) e)
    (ap (λ (x : Refused). x.why) e) (subst P c.if-late.false late) (subst Q c.if-back.true back)

pub returns-in-Ok-clause-taken : goal.returns-in-Ok-clause-taken
returns-in-Ok-clause-taken g c = λ order there late back declared is r.
    let s = step_of c.args.step.now in
    let P : Bool → Type 0 = λ b. Decided b (IsLate order c.args.turn s) in
    let Q : Bool → Type 0 = λ b. Decided b (RunsBack order c.args.turn s) in
    let T : ResponseOf → Type 0 = λ x. CallTakenAlong (rules_of c.args.rules.now) (g.L.Ledger.state c.args.ledger.now) s.request x (order_of s) (Ok tt) (g.L.Ledger.state c.take_call.new.ledger) in
    let O : Option (List ℕ) → Type 0 = λ o.
    CallTakenAlong (rules_of c.args.rules.now) (g.L.Ledger.state c.args.ledger.now) s.request (response_of c.response.result.now) (order_given o) (Ok tt) (g.L.Ledger.state c.take_call.new.ledger) in
    let W : RequestOf → Type 0 = λ q.
    CallTakenAlong (rules_of c.args.rules.now) (g.L.Ledger.state c.args.ledger.now) q (response_of c.response.result.now) (order_given (maybe_lent c.places.result)) (Ok tt) (g.L.Ledger.state c.take_call.new.ledger) in
    let R : RulesOf → Type 0 = λ x. CallTakenAlong x (g.L.Ledger.state c.args.ledger.now) s.request s.response (order_of s) (Ok tt) (g.L.Ledger.state c.take_call.new.ledger) in
    replayed_more declared order c.args.turn s (g.L.Ledger.state c.args.ledger.now).now r (record { there = there; kept = subst P c.if-late.false late; stamped = subst Q c.if-back.false back })
    (g.L.Ledger.state c.args.ledger.now) (g.L.Ledger.state c.take_call.new.ledger) refl (subst R is (subst T c.response.ensures (subst O c.places.ensures (subst W c.request.ensures c.in-Ok.ensures))))

pub returns-in-Err-Impossible-clause-taken : goal.returns-in-Err-Impossible-clause-taken
returns-in-Err-Impossible-clause-taken g c = λ order there late back declared is r.
    let s = step_of c.args.step.now in
    let item = c.in-Err-Impossible.item in
    let why = c.in-Err-Impossible.why in
    let v = c.refused_at-in-Err-Impossible.result in
    let e = c.refused_at-in-Err-Impossible.ensures in
    let P : Bool → Type 0 = λ b. Decided b (IsLate order c.args.turn s) in
    let Q : Bool → Type 0 = λ b. Decided b (RunsBack order c.args.turn s) in
    let W : RequestOf → Type 0 = λ q.
    CallTakenAlong (rules_of c.args.rules.now) (g.L.Ledger.state c.args.ledger.now) q (response_of c.response.result.now) (order_given (maybe_lent c.places.result)) (Err (refusal.Impossible item why)) (g.L.Ledger.state c.take_call.new.ledger) in
    let F : _ → Type 0 = λ f.
    CallTakenAlong (rules_of c.args.rules.now) (g.L.Ledger.state c.args.ledger.now) (request_of c.request.result.now) (response_of c.response.result.now) (order_given (maybe_lent c.places.result)) (Err f)
    (g.L.Ledger.state c.take_call.new.ledger) in
    let T : ResponseOf → Type 0 = λ x. CallTakenAlong (rules_of c.args.rules.now) (g.L.Ledger.state c.args.ledger.now) s.request x (order_of s) (Err (refusal.Impossible item why)) (g.L.Ledger.state c.take_call.new.ledger) in
    let O : Option (List ℕ) → Type 0 = λ o.
    CallTakenAlong (rules_of c.args.rules.now) (g.L.Ledger.state c.args.ledger.now) s.request (response_of c.response.result.now) (order_given o) (Err (refusal.Impossible item why)) (g.L.Ledger.state c.take_call.new.ledger) in
    let R : RulesOf → Type 0 = λ x. CallTakenAlong x (g.L.Ledger.state c.args.ledger.now) s.request s.response (order_of s) (Err (refusal.Impossible item why)) (g.L.Ledger.state c.take_call.new.ledger) in
    refused_call declared order c.args.turn (g.L.Ledger.state c.args.ledger.now).now r s there v item why (g.L.Ledger.state c.args.ledger.now) (g.L.Ledger.state c.take_call.new.ledger) refl
    (ap (λ (x : Refused). x.turn) e) (sym (ap (λ (x : Refused). x.call) e)) (ap (λ (x : Refused). x.item) e) (ap (λ (x : Refused). x.why) e) (subst P c.if-late.false late) (subst Q c.if-back.false back)
    (subst R is (subst T c.response.ensures (subst O c.places.ensures (subst W c.request.ensures (subst F c.in-Err-Impossible.field-0-is c.in-Err-Impossible.ensures)))))
