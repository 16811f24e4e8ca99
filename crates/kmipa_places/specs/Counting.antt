-- HOW THE ITEMS OF A CALL COUNT THAT CAN'T BE READ (profile): by what each of them isn't judged.
use Rattle.std.specs.Prelude.{◌≡◌, ℕ, Bool, true, false, ◌+◌, List, [], ◌∷◌, Option, Some, None}
use Rattle.kmipa_ttlv.specs.Tree.{Tree}
use Rattle.kmipa_attrs.specs.declared.fields.Field.{Field}
use Rattle.kmipa_attrs.specs.declared.fields.Field.TheVariants.{Absent, Wrong, There}
use Rattle.kmipa_msgs.specs.declared.kind.OutsideKind.{OutsideKind}
use Rattle.kmipa_msgs.specs.declared.operation.Operation.{Operation}
use Rattle.kmipa_msgs.specs.declared.operation.Operation.TheVariants.{Idle, Other}
use Rattle.kmipa_msgs.specs.Headers.{batch}
use Rattle.kmipa_msgs.specs.Operations.{operation_of}
use Rattle.kmipa_msgs.specs.Requests.{HeaderFault, is_without_order}
use Rattle.kmipa_msgs.specs.Responses.{StampFault}
use Rattle.kmipa_places.specs.Outcomes.{some_unread}
use Rattle.kmipa_places.specs.Places.{AsksPassed, AnswersPassed, operation_at}
use Rattle.kmipa_places.specs.Unread.{asked, answered, or_nothing}
use Rattle.kmipa_places.specs.declared.counting.UnreadCounts.{UnreadCounts}
use Rattle.kmipa_places.specs.declared.place.By.{By}
use Rattle.kmipa_places.specs.declared.place.By.TheVariants.{Request, Answer, Witness}

-- the operation is one of the eight that are judged
abbrev pub is_judged_operation : Operation → Bool
is_judged_operation (Idle n) = false
is_judged_operation (Other n) = false
is_judged_operation operation = true

abbrev pub asks_judged : Field ℕ → Bool
asks_judged Absent = false
asks_judged Wrong = false
asks_judged (There n) = is_judged_operation (operation_of n)

abbrev pub is_without_order_in : Option Tree → Bool
is_without_order_in None = false
is_without_order_in (Some t) = is_without_order t

-- the request of an item can't be read; or the item isn't judged; or it asks for no operation that is
pub data CountsByRequest (request : Option Tree) (t : Tree) : Type 0 where
  no_request : request ≡ None → CountsByRequest request t
  in_request : (r : Tree) → request ≡ Some r → (k : OutsideKind) → HeaderFault r k → CountsByRequest request t
  in_item : AsksPassed (is_without_order_in request) t → CountsByRequest request t
  in_operation : asks_judged (operation_at t) ≡ false → CountsByRequest request t

-- the response of an answer can't be read; or the answer isn't judged
pub data CountsByAnswer (response : Option Tree) (t u : Tree) : Type 0 where
  no_response : response ≡ None → CountsByAnswer response t u
  in_response : (r : Tree) → response ≡ Some r → (k : OutsideKind) → StampFault r k → CountsByAnswer response t u
  in_status : (r : Tree) → response ≡ Some r → some_unread (batch r) ≡ true → CountsByAnswer response t u
  in_answer : AnswersPassed t u → CountsByAnswer response t u

-- the first of these by which an item with its answer counts; and else the witness has set the whole call aside
pub data CountsBy (request response : Option Tree) (t u : Tree) (by : By) : Type 0 where
  by_request : by ≡ Request → CountsByRequest request t → CountsBy request response t u by
  by_answer : by ≡ Answer → (CountsByRequest request t → ⊥) → CountsByAnswer response t u → CountsBy request response t u by
  by_witness : by ≡ Witness → (CountsByRequest request t → ⊥) → (CountsByAnswer response t u → ⊥) → CountsBy request response t u by

-- how many items count by each
pub record UnreadCountsOf : Type 0 where
  pub request : ℕ
  pub answer : ℕ
  pub witness : ℕ

abbrev pub unread_counts_of : UnreadCounts → UnreadCountsOf
unread_counts_of n = record { request = n.by_request; answer = n.by_answer; witness = n.by_witness }

abbrev pub none_unread : UnreadCountsOf
none_unread = record { request = 0; answer = 0; witness = 0 }

-- one more
abbrev pub unread_with : By → UnreadCountsOf → UnreadCountsOf
unread_with Request n = record n { request = n.request + 1 }
unread_with Answer n = record n { answer = n.answer + 1 }
unread_with Witness n = record n { witness = n.witness + 1 }

-- the items of a request, each with the answer at its place
abbrev pub AreCounted : Option Tree → Option Tree → List Tree → List Tree → UnreadCountsOf → Type 0
AreCounted request response (t ∷ ts) (u ∷ us) n =
    (by : By) × (rest : UnreadCountsOf) × CountsBy request response t u by × AreCounted request response ts us rest × (n ≡ unread_with by rest)
AreCounted request response [] us n = n ≡ none_unread
AreCounted request response (t ∷ ts) [] n = n ≡ none_unread

-- THE DEFINITION: of the items that can be told, in whatever version
abbrev pub AreUnreadCounts : Option Tree → Option Tree → UnreadCountsOf → Type 0
AreUnreadCounts request response n = AreCounted request response (or_nothing (asked request)) (or_nothing (answered response)) n
