-- How calls are read. Not promised: only the readers' own proofs speak of it.
use Rattle.std.specs.Prelude.{◌≡◌, ℕ, suc, ℤ, Bool, not, ◌&&◌, if◌then◌else◌, List, [], ◌∷◌, length, Option, Some, None, Result, Ok, Err}
use Rattle.std.specs.Option.{option_map}
use Rattle.kmipa_ttlv.specs.Tree.{Tree, Trees}
use Rattle.kmipa_ttlv.specs.ViewTree.{view_trees}
use Rattle.kmipa_attrs.specs.Fields.{at, every, first, inside, as_structure}
use Rattle.kmipa_attrs.specs.Readings.{map_ok, passing}
use Rattle.kmipa_attrs.specs.Tags.{batch_item, request_payload, response_payload, unique_identifier}
use Rattle.kmipa_attrs.specs.declared.fields.Field.{Field}
use Rattle.kmipa_attrs.specs.declared.fields.Field.TheVariants.{Absent, Wrong, There}
use Rattle.kmipa_msgs.specs.declared.kind.OutsideKind.{OutsideKind}
use Rattle.kmipa_msgs.specs.declared.kind.OutsideKind.TheVariants.{Unordered}
use Rattle.kmipa_msgs.specs.declared.operation.Operation.{Operation}
use Rattle.kmipa_msgs.specs.Operations.{is_on_object, operation_of}
use Rattle.kmipa_msgs.specs.Messages.{AskOf, ask_of, AnswerOf, answer_of}
use Rattle.kmipa_msgs.specs.Tables.{children}
use Rattle.kmipa_msgs.specs.Headers.{batch}
use Rattle.kmipa_msgs.specs.Asks.{ask_at, item_in}
use Rattle.kmipa_msgs.specs.Beside.{asked_beside}
use Rattle.kmipa_msgs.specs.Replies.{answer_in}
use Rattle.kmipa_msgs.specs.Requests.{HeaderOf, header_in, is_without_order}
use Rattle.kmipa_msgs.specs.Responses.{stamp_in}
use Rattle.kmipa_passed.specs.Leaving.{AsideOf}
use Rattle.kmipa_passed.specs.Passed.{request_says, answer_says}
use Rattle.kmipa_passed.specs.declared.passed.Outcome.{Outcome}
use Rattle.kmipa_aside.specs.Passed.{PassedOf}
use Rattle.kmipa_places.specs.Told.{is_some_placeholder, told}
use Rattle.kmipa_places.specs.Outcomes.{outcome_at, refuses}
use Rattle.kmipa_places.specs.Unordered.{asks_in}
use Rattle.kmipa_places.specs.Places.{PlaceOf, judged, passed, is_poll, names_to, number_in, operation_at}
use Rattle.kmipa_places.specs.Unread.{is_among, allows_pending, left}
use Rattle.kmipa_places.specs.Calls.{ReadOf, CallOf, unread, read}
use Rattle.kmipa_places.specs.declared.opened.Answered.{Answered}
use Rattle.kmipa_places.specs.declared.opened.Asked.{Asked}
use Rattle.kmipa_places.specs.declared.place.By.{By}
use Rattle.kmipa_places.specs.declared.place.By.TheVariants.{Request, Answer, Witness}
use Rattle.kmipa_places.specs.declared.place.Way.{Way}
use Rattle.kmipa_places.specs.declared.place.Way

-- ---- an item that means the ID Placeholder by an Enumeration

-- its operation, where that is on an object
abbrev pub if_on_object : Operation → Trees → Option Operation
if_on_object operation payload = if is_on_object operation && is_some_placeholder (first unique_identifier payload) then Some operation else None

abbrev pub told_by : Field ℕ → Trees → Option Operation
told_by Absent payload = None
told_by Wrong payload = None
told_by (There n) payload = if_on_object (operation_of n) payload

abbrev pub told_operation : Tree → Option Operation
told_operation t = told_by (operation_at t) (inside request_payload (children t))

abbrev pub item_beside : Bool → Operation → Tree → Result AskOf OutsideKind
item_beside unordered operation t = passing (λ ask. not unordered) Unordered (map_ok (ask_at (children t)) (asked_beside operation (inside request_payload (children t))))

-- ---- a place

abbrev pub passed_as : Bool → Outcome → Tree → Tree → PassedOf
passed_as unordered outcome t u = record {
  asks = number_in (operation_at t);
  names = names_to (operation_at t) (operation_at u);
  ask = asks_in unordered (request_says (number_in (operation_at t)) (inside request_payload (children t)));
  answer = answer_says outcome (at as_structure response_payload (children u));
}

pub data WayOf : Type 0 where
  judges : AskOf → AnswerOf → WayOf
  passes : By → WayOf

abbrev pub way_of : Way → WayOf
way_of (Way.TheVariants.Judged ask answer) = judges (ask_of ask) (answer_of answer)
way_of (Way.TheVariants.Passed by) = passes by

abbrev pub way_answered : Bool → AskOf → Result AnswerOf OutsideKind → WayOf
way_answered aside ask (Err k) = passes Answer
way_answered aside ask (Ok answer) = if aside then passes Witness else judges ask answer

abbrev pub way_asked : Bool → Tree → Result AskOf OutsideKind → WayOf
way_asked aside u (Err k) = passes Request
way_asked aside u (Ok ask) = way_answered aside ask (answer_in (Some ask) u)

abbrev pub way_in : Bool → Bool → Tree → Tree → WayOf
way_in unordered aside t u = if is_poll (operation_at t) then passes Request else way_asked aside u (item_in unordered (told t))

abbrev pub place_by : Bool → Tree → Tree → WayOf → Outcome → PlaceOf
place_by unordered t u (judges ask answer) outcome = judged ask answer
place_by unordered t u (passes by) outcome = passed by (passed_as unordered outcome t u)

abbrev pub place_in : Bool → Bool → Tree → Tree → Option PlaceOf
place_in unordered aside t u = option_map (place_by unordered t u (way_in unordered aside t u)) (outcome_at u)

-- ---- lists

abbrev pub ahead : {A : Type 0} → Option A → Option (List A) → Option (List A)
ahead None rest = None
ahead (Some x) None = None
ahead (Some x) (Some xs) = Some (x ∷ xs)

abbrev pub outcomes_in : List Tree → Option (List Outcome)
outcomes_in [] = Some []
outcomes_in (u ∷ us) = ahead (outcome_at u) (outcomes_in us)

-- the places from this one on
abbrev pub places_in : Bool → List ℤ → ℕ → List Tree → List Tree → Option (List PlaceOf)
places_in unordered asides n [] us = Some []
places_in unordered asides n (t ∷ ts) [] = Some []
places_in unordered asides n (t ∷ ts) (u ∷ us) = ahead (place_in unordered (is_among asides n) t u) (places_in unordered asides (suc n) ts us)

-- ---- messages

abbrev pub header_of : Asked → HeaderOf
header_of o = record { option = o.option; ordered = o.ordered }

-- what is read of a request ahead of its items
pub record HasOpened (t : Tree) (o : Asked) : Type 0 where
  pub header : header_in t ≡ Ok (header_of o)
  pub unordered : o.unordered ≡ is_without_order t
  pub pending : o.pending ≡ allows_pending t
  pub count : o.count ≡ length (batch t)
  pub items : every batch_item (view_trees o.children) ≡ batch t

pub record HasFault {A : Type 0} (r : Result A OutsideKind) : Type 0 where
  pub kind : OutsideKind
  pub is : r ≡ Err kind

abbrev pub OpensRequest : Tree → Option Asked → Type 0
OpensRequest t None = HasFault (header_in t)
OpensRequest t (Some o) = HasOpened t o

-- and of a response
pub record HasAnswered (u : Tree) (o : Answered) : Type 0 where
  pub stamp : stamp_in u ≡ Ok o.stamp
  pub count : o.count ≡ length (batch u)
  pub items : every batch_item (view_trees o.children) ≡ batch u

abbrev pub OpensResponse : Tree → Option Answered → Type 0
OpensResponse u None = HasFault (stamp_in u)
OpensResponse u (Some o) = HasAnswered u o

-- ---- a call

abbrev pub read_as : Tree → Tree → HeaderOf → ℤ → List Outcome → List PlaceOf → ReadOf
read_as t u h z outcomes places = record {
  option = h.option;
  ordered = h.ordered;
  pending = allows_pending t;
  stamp = z;
  asks = length (batch t);
  outcomes = outcomes;
  refused = refuses (batch u);
  places = places;
  hidden = [];
}

abbrev pub read_by : Tree → Tree → Result HeaderOf OutsideKind → Result ℤ OutsideKind → Option (List Outcome) → Option (List PlaceOf) → Option ReadOf
read_by t u (Ok h) (Ok z) (Some outcomes) (Some places) = Some (read_as t u h z outcomes places)
read_by t u h z outcomes places = None

abbrev pub read_in : Tree → Tree → List ℤ → Option ReadOf
read_in t u asides = read_by t u (header_in t) (stamp_in u) (outcomes_in (batch u)) (places_in (is_without_order t) asides 1 (batch t) (batch u))

abbrev pub both_read_in : Option Tree → Option Tree → List ℤ → Option ReadOf
both_read_in None response asides = None
both_read_in (Some t) None asides = None
both_read_in (Some t) (Some u) asides = read_in t u asides

abbrev pub readable_in : Option Tree → Option Tree → List ℤ → Option ReadOf
readable_in request response asides = if is_among asides 0 then None else both_read_in request response asides

abbrev pub call_by : Option ReadOf → AsideOf → CallOf
call_by None aside = unread aside
call_by (Some c) aside = read c

abbrev pub call_in : Option Tree → Option Tree → List ℤ → CallOf
call_in request response asides = call_by (readable_in request response asides) (left request response)
