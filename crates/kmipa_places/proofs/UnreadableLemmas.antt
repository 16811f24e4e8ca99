-- Which calls can't be read.
use Rattle.std.proofs.Common.{◌≡◌, ◌↔◌, Bool, true, false, Option, Some, None, Result, Ok, IsTrue, refl, sym, ap, ◌∙◌, subst, ℤ, []}
use Rattle.kmipa_ttlv.specs.Tree.{Tree}
use Rattle.kmipa_ttlv.specs.ViewTree.{view_trees}
use Rattle.kmipa_attrs.specs.Fields.{every}
use Rattle.kmipa_attrs.specs.Readings.{Reads}
use Rattle.kmipa_attrs.specs.Tags.{batch_item}
use Rattle.kmipa_msgs.specs.declared.kind.OutsideKind.{OutsideKind}
use Rattle.kmipa_msgs.specs.Kinds.{kind_number}
use Rattle.kmipa_msgs.specs.Headers.{batch}
use Rattle.kmipa_msgs.specs.Requests.{HeaderOf, SaysHeader, HeaderFault, header_in}
use Rattle.kmipa_msgs.specs.Responses.{SaysStamp, StampFault, stamp_in}
use Rattle.kmipa_msgs.proofs.RequestLemmas.{reads_header}
use Rattle.kmipa_msgs.proofs.ResponseLemmas.{reads_stamp}
use Rattle.kmipa_places.specs.Openings.{IsResponseUnread, Opened}
use Rattle.kmipa_places.specs.Openings.IsResponseUnread.{no_message, in_header, in_answers}
use Rattle.kmipa_places.specs.Outcomes.{some_unread}
use Rattle.kmipa_places.specs.Readings.{HasAnswered, HasFault, OpensResponse}
use Rattle.kmipa_places.specs.Unread.{IsUnread}
use Rattle.kmipa_places.specs.Unread.IsUnread.{by_witness, no_request, in_request, no_response, in_response, in_status}
use Rattle.kmipa_places.specs.declared.opened.Answered.{Answered}

-- ---- headers

pub request_fault : (t : Tree) → (f : HasFault (header_in t)) → HeaderFault t f.kind
request_fault t f =
    let P : Result HeaderOf OutsideKind → Type 0 = λ r. Reads kind_number (SaysHeader t) (HeaderFault t) r in
    (subst P f.is (reads_header t)).here

pub no_request_fault : (t : Tree) (h : HeaderOf) → header_in t ≡ Ok h → (k : OutsideKind) → HeaderFault t k → ⊥
no_request_fault t h e =
    let P : Result HeaderOf OutsideKind → Type 0 = λ r. Reads kind_number (SaysHeader t) (HeaderFault t) r in
    (subst P e (reads_header t)).right

response_fault : (u : Tree) → (f : HasFault (stamp_in u)) → StampFault u f.kind
response_fault u f =
    let P : Result ℤ OutsideKind → Type 0 = λ r. Reads kind_number (SaysStamp u) (StampFault u) r in
    (subst P f.is (reads_stamp u)).here

no_response_fault : (u : Tree) (z : ℤ) → stamp_in u ≡ Ok z → (k : OutsideKind) → StampFault u k → ⊥
no_response_fault u z e =
    let P : Result ℤ OutsideKind → Type 0 = λ r. Reads kind_number (SaysStamp u) (StampFault u) r in
    (subst P e (reads_stamp u)).right

-- ---- responses

pub without_response : (response : Option Tree) → response ≡ None → IsTrue true ↔ IsResponseUnread response
without_response response e = (λ h. no_message e, λ w. refl)

pub unopened_response : (u : Tree) → OpensResponse u None → IsTrue true ↔ IsResponseUnread (Some u)
unopened_response u f = (λ h. in_header u refl f.kind (response_fault u f), λ w. refl)

pub opened_response_reported : (u : Tree) (o : Answered) (reported : Bool) → HasAnswered u o → reported ≡ some_unread (every batch_item (view_trees o.children)) → IsTrue reported ↔ IsResponseUnread (Some u)
opened_response_reported u o reported a e = (to, from)
  where
    same : reported ≡ some_unread (batch u)
    same = e ∙ ap some_unread a.items

    to : IsTrue reported → IsResponseUnread (Some u)
    to h = in_answers u refl (sym same ∙ h)

    from : IsResponseUnread (Some u) → IsTrue reported
    from w = elim w [
      | no_message f ↦ cc
      | in_header v f k x ↦ (let one : u ≡ v = cc in let F : Tree → Type 0 = λ y. StampFault y k in absurd (no_response_fault u o.stamp a.stamp k (subst F (sym one) x)))
      | in_answers v f x ↦ (let one : u ≡ v = cc in same ∙ ap (λ (y : Tree). some_unread (batch y)) one ∙ x)
    ]

-- ---- calls

pub without_request : (request response : Option Tree) (unordered : Option Bool) → Opened request unordered → unordered ≡ None → IsTrue true ↔ IsUnread request response []
without_request None response None o e = (λ h. no_request refl, λ w. refl)
without_request (Some t) response None o e = (λ h. in_request t refl o.kind (request_fault t o), λ w. refl)
without_request None response (Some b) o e = absurd o
without_request (Some t) response (Some b) o e = cc

unread_response : (request response : Option Tree) → IsResponseUnread response → IsUnread request response []
unread_response request response w = elim w [ no_message e ↦ no_response e | in_header u e k f ↦ in_response u e k f | in_answers u e f ↦ in_status u e f ]

only_response : (t : Tree) (h : HeaderOf) (response : Option Tree) → header_in t ≡ Ok h → IsUnread (Some t) response [] → IsResponseUnread response
only_response t h response e w = elim w [
  | by_witness f ↦ (let bad : false ≡ true = f in cc)
  | no_request f ↦ cc
  | in_request v f k x ↦ (let one : t ≡ v = cc in let F : Tree → Type 0 = λ y. HeaderFault y k in absurd (no_request_fault t h e k (subst F (sym one) x)))
  | no_response f ↦ no_message f
  | in_response u f k x ↦ in_header u f k x
  | in_status u f x ↦ in_answers u f x
]

pub unread_reported : (request response : Option Tree) (unordered : Option Bool) (reported : Bool) → Opened request unordered → (unordered ≡ None → ⊥) → IsTrue reported ↔ IsResponseUnread response
    → IsTrue reported ↔ IsUnread request response []
unread_reported None response None reported o n r = absurd (n refl)
unread_reported (Some t) response None reported o n r = absurd (n refl)
unread_reported None response (Some b) reported o n r = absurd o
unread_reported (Some t) response (Some b) reported o n r = (λ h. unread_response (Some t) response (r.0 h), λ w. r.1 (only_response t o.header response o.is w))
