-- How the items of a call count that can't be read.
use Rattle.std.proofs.Common.{◌≡◌, ◌↔◌, ◌⊎◌, inl, inr, ℕ, ◌+◌, Bool, true, false, List, ◌∷◌, Option, Some, None, Result, Ok, Err, IfOk, IsTrue, refl, sym, ap, ◌∙◌, subst, arith, []}
use Rattle.std.specs.declared.alloc.AllocError.{AllocError}
use Rattle.kmipa_ttlv.specs.Tree.{Tree}
use Rattle.kmipa_msgs.specs.Requests.{HeaderFault}
use Rattle.kmipa_places.specs.Counting.{AreCounted, AreUnreadCounts, CountsBy, CountsByAnswer, CountsByRequest, UnreadCountsOf, asks_judged, none_unread, unread_counts_of, unread_with}
use Rattle.kmipa_places.specs.Counting.CountsByRequest.{no_request, in_request, in_item, in_operation}
use Rattle.kmipa_places.specs.Counting.CountsByAnswer.{no_response, in_response, in_status, in_answer}
use Rattle.kmipa_places.specs.Counting.CountsBy.{by_request, by_answer, by_witness}
use Rattle.kmipa_places.specs.Openings.{IsOpen, IsResponseUnread, Opened, counted_by, total_unread}
use Rattle.kmipa_places.specs.Openings.IsResponseUnread.{no_message, in_header, in_answers}
use Rattle.kmipa_places.specs.Places.{AnswersPassed, AsksPassed, operation_at}
use Rattle.kmipa_places.specs.Places.IsPassed.{by_request as passed_by_request, by_answer as passed_by_answer, by_witness as passed_by_witness}
use Rattle.kmipa_places.specs.Readings.{WayOf, judges, passes, way_in}
use Rattle.kmipa_places.specs.Unread.{answered, asked, or_nothing}
use Rattle.kmipa_places.specs.declared.counting.UnreadCounts.{UnreadCounts}
use Rattle.kmipa_places.specs.declared.place.By.{By}
use Rattle.kmipa_places.specs.declared.place.By.TheVariants.{Request, Answer, Witness}
use Rattle.kmipa_places.proofs.PlaceLemmas.{IsWay, is_way}
use Rattle.kmipa_places.proofs.UnreadableLemmas.{no_request_fault, request_fault}

-- ---- one item

pub unopened : (request : Option Tree) (unordered : Option Bool) (t : Tree) → Opened request unordered → unordered ≡ None → CountsByRequest request t
unopened None None t o e = no_request refl
unopened (Some r) None t o e = in_request r refl o.kind (request_fault r o)
unopened None (Some b) t o e = absurd o
unopened (Some r) (Some b) t o e = cc

module _ (r : Tree) (response : Option Tree) (t u : Tree) (unordered unread : Bool) (o : IsOpen r unordered) (judged : asks_judged (operation_at t) ≡ true) (reads : IsTrue unread ↔ IsResponseUnread response) where
  -- its request isn't judged
  passed_request : AsksPassed unordered t → CountsByRequest (Some r) t
  passed_request a = let P : Bool → Type 0 = λ b. AsksPassed b t in in_item (subst P o.order a)

  only_passed : (AsksPassed unordered t → ⊥) → CountsByRequest (Some r) t → ⊥
  only_passed n w = elim w [
    | no_request e ↦ cc
    | in_request v e k f ↦ (let one : r ≡ v = cc in let F : Tree → Type 0 = λ y. HeaderFault y k in no_request_fault r o.header o.is k (subst F (sym one) f))
    | in_item a ↦ (let P : Bool → Type 0 = λ b. AsksPassed b t in n (subst P (sym o.order) a))
    | in_operation e ↦ (let bad : true ≡ false = sym judged ∙ e in cc)
  ]

  -- its answer isn't
  unread_answer : IsResponseUnread response → CountsByAnswer response t u
  unread_answer w = elim w [ no_message e ↦ no_response e | in_header v e k f ↦ in_response v e k f | in_answers v e f ↦ in_status v e f ]

  only_answer : (IsResponseUnread response → ⊥) → (AnswersPassed t u → ⊥) → CountsByAnswer response t u → ⊥
  only_answer n m w = elim w [ no_response e ↦ n (no_message e) | in_response v e k f ↦ n (in_header v e k f) | in_status v e f ↦ n (in_answers v e f) | in_answer a ↦ m a ]

  -- neither
  set_answer : unread ≡ true → (AsksPassed unordered t → ⊥) → CountsBy (Some r) response t u Answer
  set_answer e n = by_answer refl (only_passed n) (unread_answer (reads.0 e))

  unset : unread ≡ false → IsResponseUnread response → ⊥
  unset e w = let bad : false ≡ true = sym e ∙ reads.1 w in cc

  -- by the way in which it would be read if the witness set it aside
  by_way : (b : Bool) (w : WayOf) → unread ≡ b → IsWay unordered true t u w → CountsBy (Some r) response t u (counted_by b w)
  by_way b (judges ask answer) e w = let bad : true ≡ false = w.witness in cc
  by_way true (passes Request) e w = elim w [ passed_by_request f a ↦ by_request refl (passed_request a) | passed_by_answer f n a ↦ cc | passed_by_witness f n m a ↦ cc ]
  by_way false (passes Request) e w = elim w [ passed_by_request f a ↦ by_request refl (passed_request a) | passed_by_answer f n a ↦ cc | passed_by_witness f n m a ↦ cc ]
  by_way true (passes Answer) e w = elim w [ passed_by_request f a ↦ cc | passed_by_answer f n a ↦ set_answer e n | passed_by_witness f n m a ↦ cc ]
  by_way false (passes Answer) e w = elim w [ passed_by_request f a ↦ cc | passed_by_answer f n a ↦ by_answer refl (only_passed n) (in_answer a) | passed_by_witness f n m a ↦ cc ]
  by_way true (passes Witness) e w = elim w [ passed_by_request f a ↦ cc | passed_by_answer f n a ↦ cc | passed_by_witness f n m a ↦ set_answer e n ]
  by_way false (passes Witness) e w = elim w [ passed_by_request f a ↦ cc | passed_by_answer f n a ↦ cc | passed_by_witness f n m a ↦ by_witness refl (only_passed n) (only_answer (unset e) m) ]

-- an item, where its request can be read
pub counts_so : (request response : Option Tree) (t u : Tree) (unordered unread : Bool) (way : WayOf) (by : By) → Opened request (Some unordered) → asks_judged (operation_at t) ≡ true
    → IsTrue unread ↔ IsResponseUnread response → way ≡ way_in unordered true t u → by ≡ counted_by unread way → CountsBy request response t u by
counts_so None response t u unordered unread way by o judged reads is e = absurd o
counts_so (Some r) response t u unordered unread way by o judged reads is e =
    let P : WayOf → Type 0 = λ w. IsWay unordered true t u w in
    let Q : By → Type 0 = λ b. CountsBy (Some r) response t u b in
    subst Q (sym e) (by_way r response t u unordered unread o judged reads unread way refl (subst P (sym is) (is_way unordered true t u)))

-- ---- items, one after the other

-- so many, and so many more
abbrev pub added : UnreadCountsOf → UnreadCountsOf → UnreadCountsOf
added n rest = record { request = n.request + rest.request; answer = n.answer + rest.answer; witness = n.witness + rest.witness }

-- what is counted so far of these items leaves what is counted of those
abbrev pub CountsOn : Option Bool → Bool → List Tree → List Tree → UnreadCountsOf → List Tree → List Tree → Type 0
CountsOn unordered unread ts us n asks answers =
    (request response : Option Tree) → Opened request unordered → IsTrue unread ↔ IsResponseUnread response
    → (rest : UnreadCountsOf) → AreCounted request response asks answers rest → AreCounted request response ts us (added n rest)

pub counts_first : (unordered : Option Bool) (unread : Bool) (ts us : List Tree) → CountsOn unordered unread ts us none_unread ts us
counts_first unordered unread ts us request response o r rest c =
    let R : UnreadCountsOf → Type 0 = λ k. AreCounted request response ts us k in
    subst R (λ i. record { request = from rest.request i; answer = from rest.answer i; witness = from rest.witness i }) c
  where
    from : (n : ℕ) → n ≡ 0 + n
    from n = omega arith

added_next : (by : By) (n rest : UnreadCountsOf) → added n (unread_with by rest) ≡ added (unread_with by n) rest
added_next Request n rest = let e : n.request + (rest.request + 1) ≡ n.request + 1 + rest.request = omega arith in (λ i. record { request = e i; answer = n.answer + rest.answer; witness = n.witness + rest.witness })
added_next Answer n rest = let e : n.answer + (rest.answer + 1) ≡ n.answer + 1 + rest.answer = omega arith in (λ i. record { request = n.request + rest.request; answer = e i; witness = n.witness + rest.witness })
added_next Witness n rest = let e : n.witness + (rest.witness + 1) ≡ n.witness + 1 + rest.witness = omega arith in (λ i. record { request = n.request + rest.request; answer = n.answer + rest.answer; witness = e i })

pub counts_next : (unordered : Option Bool) (unread : Bool) (ts us : List Tree) (n m : UnreadCountsOf) (asks answers xs ys : List Tree) (t u : Tree) (by : By)
    → CountsOn unordered unread ts us n asks answers → asks ≡ t ∷ xs → answers ≡ u ∷ ys → m ≡ unread_with by n
    → ((request response : Option Tree) → Opened request unordered → IsTrue unread ↔ IsResponseUnread response → CountsBy request response t u by)
    → CountsOn unordered unread ts us m xs ys
counts_next unordered unread ts us n m asks answers xs ys t u by c te ue me h request response o r rest d =
    let more : AreCounted request response (t ∷ xs) (u ∷ ys) (unread_with by rest) = (by, rest, h request response o r, d, refl) in
    let P : List Tree → Type 0 = λ zs. AreCounted request response zs (u ∷ ys) (unread_with by rest) in
    let Q : List Tree → Type 0 = λ zs. AreCounted request response asks zs (unread_with by rest) in
    let R : UnreadCountsOf → Type 0 = λ k. AreCounted request response ts us k in
    subst R (added_next by n rest ∙ ap (λ (k : UnreadCountsOf). added k rest) (sym me)) (c request response o r (unread_with by rest) (subst Q (sym ue) (subst P (sym te) more)))

added_none : (n : UnreadCountsOf) → added n none_unread ≡ n
added_none n =
    let a : n.request + 0 ≡ n.request = omega arith in
    let b : n.answer + 0 ≡ n.answer = omega arith in
    let c : n.witness + 0 ≡ n.witness = omega arith in
    (λ i. record { request = a i; answer = b i; witness = c i })

ends : (request response : Option Tree) (asks answers : List Tree) → (asks ≡ []) ⊎ (answers ≡ []) → AreCounted request response asks answers none_unread
ends request response [] answers e = refl
ends request response (t ∷ ts) [] e = refl
ends request response (t ∷ ts) (u ∷ us) e = elim e [ inl x ↦ cc | inr x ↦ cc ]

pub counts_end : (unordered : Option Bool) (unread : Bool) (ts us : List Tree) (n : UnreadCountsOf) (asks answers : List Tree) → CountsOn unordered unread ts us n asks answers → (asks ≡ []) ⊎ (answers ≡ [])
    → (request response : Option Tree) → Opened request unordered → IsTrue unread ↔ IsResponseUnread response → AreCounted request response ts us n
counts_end unordered unread ts us n asks answers c e request response o r =
    let R : UnreadCountsOf → Type 0 = λ k. AreCounted request response ts us k in
    subst R (added_none n) (c request response o r none_unread (ends request response asks answers e))

-- each counts once
pub total_next : (by : By) (n : UnreadCountsOf) → total_unread (unread_with by n) ≡ total_unread n + 1
total_next Request n = omega arith
total_next Answer n = omega arith
total_next Witness n = omega arith

-- ---- the call

pub counted_call : (request response : Option Tree) (unordered : Option Bool) (unread : Bool) (asks answers : List Tree) (r : Result UnreadCounts AllocError)
    → IfOk r (λ counts. (q p : Option Tree) → Opened q unordered → IsTrue unread ↔ IsResponseUnread p → AreCounted q p asks answers (unread_counts_of counts))
    → Opened request unordered → IsTrue unread ↔ IsResponseUnread response → asks ≡ or_nothing (asked request) → answers ≡ or_nothing (answered response)
    → IfOk r (λ counts. AreUnreadCounts request response (unread_counts_of counts))
counted_call request response unordered unread asks answers (Err e) h o u ae be = tt
counted_call request response unordered unread asks answers (Ok counts) h o u ae be =
    let P : List Tree → Type 0 = λ xs. AreCounted request response xs answers (unread_counts_of counts) in
    let Q : List Tree → Type 0 = λ ys. AreCounted request response (or_nothing (asked request)) ys (unread_counts_of counts) in
    subst Q be (subst P ae (h request response o u))
