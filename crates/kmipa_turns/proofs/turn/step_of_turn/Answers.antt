use Rattle.std.proofs.Common.{ℤ, List, Option, option_map, subst}
use Rattle.kmipa_ttlv.specs.Tree.{Tree}
use Rattle.kmipa_ttlv.specs.ViewTree.{view_tree}
use Rattle.kmipa_record.specs.Witnesses.{turn_of}
use Rattle.kmipa_passed.specs.Leaving.{aside_of}
use Rattle.kmipa_places.specs.Calls.{IsCall, call_of, message_of, read, read_of, unread}
use Rattle.kmipa_places.specs.declared.call.Call.{Call}
use Rattle.kmipa_check.specs.Grants.{grants_of}
use Rattle.kmipa_turns.specs.declared.step.Step.{Step}
use Rattle.kmipa_turns.specs.Answered.{IsAnswered}
use Rattle.kmipa_turns.specs.Faults.{Refuses}
use Rattle.kmipa_turns.specs.Recorded.{recorded_of}
use Rattle.kmipa_turns.specs.Steps.{IsStep, step_of}
use Rattle.kmipa_turns.specs.Turning.{AnswerRefused, ReadRefused, ReadStep, UnreadRefused, UnreadStep}
use Rattle.kmipa_turns.proofs.AnswerLemmas.{also, lent_message}
use Rattle.kmipa_turns.proofs.TurnLemmas.{answer_refuses, read_makes, read_refuses, unread_makes, unread_refuses}
use Rattle.kmipa_turns.proofs.turn.step_of_turn.Goals as goal

pub returns-in-Err : goal.returns-in-Err
returns-in-Err c = λ named.
    let d = recorded_of c.args.call.now in
    let t = turn_of c.args.turn.now in
    let request = option_map view_tree c.whole_item-request.result in
    let P : Option Tree → Type 0 = λ q. AnswerRefused d t q c.in-Err.fault in
    answer_refuses (grants_of c.args.grants.now) d t request c.whole_item-request.ensures c.in-Err.fault
    (subst P (lent_message c.as_ref.result c.whole_item-request.result c.as_ref.ensures.value) c.in-Err.ensures)

pub returns-in-Unread : goal.returns-in-Unread
returns-in-Unread c = λ named.
    let g = grants_of c.args.grants.now in
    let d = recorded_of c.args.call.now in
    let t = turn_of c.args.turn.now in
    let request = option_map view_tree c.whole_item-request.result in
    let response = option_map view_tree c.in-Ok.response in
    let left = aside_of c.in-Unread.left in
    let A : Option Tree → Type 0 = λ q. IsAnswered d t q response in
    let answers = subst A (lent_message c.as_ref.result c.whole_item-request.result c.as_ref.ensures.value) c.in-Ok.ensures in
    let W : Call → Type 0 = λ k. IsCall (message_of c.as_ref-2.result) (message_of c.as_ref-3.result) c.deref.result.now (call_of k) in
    let Q : Option Tree → Type 0 = λ q. IsCall q (message_of c.as_ref-3.result) c.deref.result.now (unread left) in
    let R : Option Tree → Type 0 = λ r. IsCall request r c.deref.result.now (unread left) in
    let Z : List ℤ → Type 0 = λ zs. IsCall request response zs (unread left) in
    let said = subst Z c.deref.ensures.value (subst R (lent_message c.as_ref-3.result c.in-Ok.response c.as_ref-3.ensures.value)
    (subst Q (lent_message c.as_ref-2.result c.whole_item-request.result c.as_ref-2.ensures.value) (subst W c.in-Unread.is c.in_ok-said.ensures))) in
    let U : Option Tree → Option Tree → Step → Type 0 = λ q r s. UnreadStep d t q r left (step_of s) in
    also (U (message_of c.as_ref-in-Unread.result) (message_of c.as_ref-in-Unread-2.result)) (λ s. IsStep g d t (step_of s)) (UnreadRefused t left) (Refuses g d t) c.unread_step.result
    (λ s u.
    unread_makes g d t request c.whole_item-request.ensures response answers left said named (step_of s)
    (subst (λ (r : Option Tree). U request r s) (lent_message c.as_ref-in-Unread-2.result c.in-Ok.response c.as_ref-in-Unread-2.ensures.value)
    (subst (λ (q : Option Tree). U q (message_of c.as_ref-in-Unread-2.result) s) (lent_message c.as_ref-in-Unread.result c.whole_item-request.result c.as_ref-in-Unread.ensures.value) u)))
    (unread_refuses g d t request c.whole_item-request.ensures response answers left said) c.unread_step.ensures

pub returns-in-Read : goal.returns-in-Read
returns-in-Read c = λ named.
    let g = grants_of c.args.grants.now in
    let d = recorded_of c.args.call.now in
    let t = turn_of c.args.turn.now in
    let request = option_map view_tree c.whole_item-request.result in
    let response = option_map view_tree c.in-Ok.response in
    let x = read_of c.in-Read.readable in
    let A : Option Tree → Type 0 = λ q. IsAnswered d t q response in
    let answers = subst A (lent_message c.as_ref.result c.whole_item-request.result c.as_ref.ensures.value) c.in-Ok.ensures in
    let W : Call → Type 0 = λ k. IsCall (message_of c.as_ref-2.result) (message_of c.as_ref-3.result) c.deref.result.now (call_of k) in
    let Q : Option Tree → Type 0 = λ q. IsCall q (message_of c.as_ref-3.result) c.deref.result.now (read x) in
    let R : Option Tree → Type 0 = λ r. IsCall request r c.deref.result.now (read x) in
    let Z : List ℤ → Type 0 = λ zs. IsCall request response zs (read x) in
    let said = subst Z c.deref.ensures.value (subst R (lent_message c.as_ref-3.result c.in-Ok.response c.as_ref-3.ensures.value)
    (subst Q (lent_message c.as_ref-2.result c.whole_item-request.result c.as_ref-2.ensures.value) (subst W c.in-Read.is c.in_ok-said.ensures))) in
    also (λ s. ReadStep g d t x (step_of s)) (λ s. IsStep g d t (step_of s)) (ReadRefused g t x) (Refuses g d t) c.read_step.result
    (λ s r. read_makes g d t request c.whole_item-request.ensures response answers x said named (step_of s) r)
    (read_refuses g d t request c.whole_item-request.ensures response answers x said) c.read_step.ensures
