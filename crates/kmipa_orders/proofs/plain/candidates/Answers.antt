use Rattle.std.proofs.Common.{◌≡◌, ◌∙◌, ◌+◌, List, [], ◌∷◌, ◌++◌, map, take, drop, suc, sym, ap, subst}
use Rattle.std.proofs.lemmas.List.{take_more, map-append}
use Rattle.kmipa_check.specs.Calls.{CallOf, call_of}
use Rattle.kmipa_check.specs.Steps.{StepOf}
use Rattle.kmipa_record.specs.declared.call.Call.{Call}
use Rattle.kmipa_orders.specs.Candidates.{candidate_step}
use Rattle.kmipa_orders.specs.Plain.{ArePlain}
use Rattle.kmipa_orders.specs.declared.candidate.Candidate.{Candidate}
use Rattle.kmipa_check.proofs.PlaceLemmas.{mapped_at}
use Rattle.kmipa_orders.proofs.CutLemmas.{cut}
use Rattle.kmipa_orders.proofs.PlainLemmas.{not_plain, plain_pushed}
use Rattle.kmipa_orders.proofs.plain.candidates.Goals as goal

pub returns-in_default : goal.returns-in_default
returns-in_default c = λ steps plain.
    let calls = map call_of c.args.calls.now in
    let at = mapped_at call_of c.args.calls.now c.calls.call-index c.call-item.result c.calls-test.true c.call-item.is in
    let P : List CallOf → Type 0 = λ cs. ArePlain cs steps in
    not_plain (take c.calls.call-index calls) (drop (suc c.calls.call-index) calls) (call_of c.call-item.result) c.in_default.ensures steps
    (subst P (cut calls c.calls.call-index (call_of c.call-item.result) at) plain)

pub calls-preserved : goal.calls-preserved
calls-preserved c =
    let i = c.calls.call-index in
    let before = take i c.args.calls.now in
    let P : List Call → Type 0 = λ cs. ArePlain (map call_of cs) (map candidate_step c.push.new.self.items) in
    let Q : List Candidate → Type 0 = λ own. ArePlain (map call_of (before ++ c.call-item.result ∷ [])) (map candidate_step own) in
    let R : List CallOf → Type 0 = λ cs. ArePlain cs (map candidate_step (c.calls.own.items ++ c.in-Some.candidate ∷ [])) in
    let S : List StepOf → Type 0 = λ ss. ArePlain (map call_of before ++ call_of c.call-item.result ∷ []) ss in
    let more : take (i + 1) c.args.calls.now ≡ before ++ c.call-item.result ∷ [] =
    take_more c.args.calls.now i c.call-item.result c.calls-test.true ∙ ap (λ (x : Call). before ++ x ∷ []) (sym c.call-item.is) in
    subst P (sym more)
    (subst Q (sym c.in_ok-push.ensures.items)
    (subst R (sym (map-append call_of before (c.call-item.result ∷ [])))
    (subst S (sym (map-append candidate_step c.calls.own.items (c.in-Some.candidate ∷ [])))
    (plain_pushed (map call_of before) (map candidate_step c.calls.own.items) (call_of c.call-item.result) (candidate_step c.in-Some.candidate) c.calls.invariant c.in-Some.ensures))))
