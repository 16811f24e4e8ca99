-- Candidates and their steps.
use Rattle.std.proofs.Common.{◌≡◌, ℕ, false, List, map, Option, Some, Vec, MatchOption, sym, ap, ◌∙◌, subst, refl}
use Rattle.std.proofs.lemmas.Option.{slice_get-get_or}
use Rattle.std.specs.declared.alloc.Global.{Global}
use Rattle.kmipa_msgs.specs.Messages.{ResponseOf, request_of, response_of}
use Rattle.kmipa_batch.specs.Orders.{is_unordered}
use Rattle.kmipa_check.specs.Calls.{CallOf, call_of}
use Rattle.kmipa_check.specs.Steps.{StepOf, NeedsFill}
use Rattle.kmipa_record.specs.declared.call.Call.{Call}
use Rattle.kmipa_orders.specs.Candidates.{AreNotPlain, IsNotPlain, IsOpen, candidate_call, candidate_step}
use Rattle.kmipa_orders.specs.Plain.{ArePlain, IsPlainStep}
use Rattle.kmipa_orders.specs.Taken.{no_step, step_at}
use Rattle.kmipa_orders.specs.Ranks.{end_or, AreEnded}
use Rattle.kmipa_orders.specs.declared.candidate.Candidate.{Candidate}
use Rattle.kmipa_check.proofs.PlaceLemmas.{mapped_from}

-- each has ended
pub candidates_ended : (calls : List Candidate) → AreEnded (map candidate_step calls)
candidates_ended calls p below =
    let m = mapped_from candidate_step calls p (step_at (map candidate_step calls) p) (slice_get-get_or (map candidate_step calls) p no_step below) in
    let e : (step_at (map candidate_step calls) p).end ≡ Some m.0.end = sym (ap (λ (s : StepOf). s.end) m.2) in
    e ∙ ap (λ (o : Option ℕ). Some (end_or o)) (sym e)

-- the candidates of plain calls
pub plain_own : (calls given : List Call) (reported : Option (Vec Candidate Global)) (own : Vec Candidate Global) (items : List Candidate) → given ≡ calls → reported ≡ Some own → items ≡ own.items
    → MatchOption reported (AreNotPlain (map call_of given)) (λ v. ArePlain (map call_of given) (map candidate_step v.items)) → ArePlain (map call_of calls) (map candidate_step items)
plain_own calls given reported own items same is are h =
    let T : Option (Vec Candidate Global) → Type 0 = λ o. MatchOption o (AreNotPlain (map call_of given)) (λ v. ArePlain (map call_of given) (map candidate_step v.items)) in
    let P : List Call → Type 0 = λ cs. ArePlain (map call_of cs) (map candidate_step items) in
    let Q : List Candidate → Type 0 = λ cs. ArePlain (map call_of given) (map candidate_step cs) in
    subst P same (subst Q (sym are) (subst T is h))

-- a call with no place that waits is plain
pub plain_of : (c : CallOf) (own : Candidate) → candidate_call own ≡ c → is_unordered c.request ≡ false → (NeedsFill (request_of own.request.now) (response_of own.response.now) → ⊥)
    → IsPlainStep c (candidate_step own)
plain_of c own same ordered never =
    let P : CallOf → Type 0 = λ x. IsPlainStep x (candidate_step own) in
    let Q : CallOf → Type 0 = λ x. is_unordered x.request ≡ false in
    subst P same (record {
      response = response_of own.response.now;
      plain = record { end = own.end; ended = refl; given = refl; ordered = subst Q (sym same) ordered; complete = never };
      is = refl;
    })

pub waits : (c : CallOf) (own : Candidate) → candidate_call own ≡ c → NeedsFill (request_of own.request.now) (response_of own.response.now) → IsNotPlain c
waits c own same needed s p =
    let P : CallOf → Type 0 = λ x. IsPlainStep x s in
    let q = subst P (sym same) p in
    let given = q.plain.given in
    let e : response_of own.response.now ≡ q.response = cc in
    q.plain.complete (subst (λ (r : ResponseOf). NeedsFill (request_of own.request.now) r) e needed)

pub open_is_not_plain : (c : CallOf) → IsOpen c → IsNotPlain c
open_is_not_plain c never s p = never p.plain.end p.response p.plain.ended p.plain.given
