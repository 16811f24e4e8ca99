-- What is told of a response that is outside: the demands on its header, or on an item of it.
use Rattle.std.specs.Prelude.{ℕ, zero, suc, Bool, true, false, not, cond, is_some, List, [], ◌∷◌, ◌++◌, length, slice_get, Option, Some, None, option_and_then}
use Rattle.kmipa_ttlv.specs.Tree.{Tree, Trees}
use Rattle.kmipa_attrs.specs.Fields.{at, first, value_in, as_enumeration, as_structure}
use Rattle.kmipa_attrs.specs.Tags.{operation_tag, response_header_tag, response_payload, result_status}
use Rattle.kmipa_attrs.specs.declared.fields.Field.{Field}
use Rattle.kmipa_attrs.specs.declared.fields.Field.TheVariants.{Absent, Wrong, There}
use Rattle.kmipa_msgs.specs.declared.kind.OutsideKind.{OutsideKind}
use Rattle.kmipa_msgs.specs.declared.kind.OutsideKind.TheVariants as kind
use Rattle.kmipa_msgs.specs.declared.operation.Operation.{Operation}
use Rattle.kmipa_msgs.specs.declared.operation.Operation.TheVariants.{Idle, Other}
use Rattle.kmipa_msgs.specs.declared.response.Status.{Status}
use Rattle.kmipa_msgs.specs.declared.response.Status.TheVariants.{Success, Failed, Undone}
use Rattle.kmipa_msgs.specs.Headers.{batch}
use Rattle.kmipa_msgs.specs.Messages.{AskOf, RequestOf}
use Rattle.kmipa_msgs.specs.Numbers.{status_of}
use Rattle.kmipa_msgs.specs.Replies.{own, may_be_bare, filled}
use Rattle.kmipa_msgs.specs.Tables.{children}
use Rattle.kmipa_outside.specs.Demands.{wants}
use Rattle.kmipa_outside.specs.DoneDemands.{answer_demands}
use Rattle.kmipa_outside.specs.HeaderDemands.{response_header_demands}
use Rattle.kmipa_outside.specs.Requests.{header_told, of_item}
use Rattle.kmipa_outside.specs.Tables.{done_demands}
use Rattle.kmipa_outside.specs.Told.{fields_told}
use Rattle.kmipa_outside.specs.declared.demand.Demand.{Demand}
use Rattle.kmipa_outside.specs.declared.demand.Inside.TheVariants as inside
use Rattle.kmipa_outside.specs.declared.demand.Numbers.TheVariants as numbers
use Rattle.kmipa_outside.specs.declared.demand.Step.TheVariants.{Tag}
use Rattle.kmipa_outside.specs.declared.demand.Wanted.{Wanted}
use Rattle.kmipa_outside.specs.declared.demand.Wanted.TheVariants as wanted
use Rattle.kmipa_outside.specs.declared.shown.Shown.{Shown}
use Rattle.kmipa_outside.specs.declared.shown.Shown.TheVariants.{Unread, Unjudged, Judged}
use Rattle.kmipa_outside.specs.declared.told.FieldTold.{FieldTold}
use Rattle.kmipa_outside.specs.declared.types.ItemType.TheVariants as type

-- how the Response Payload of what was done is read: it has to be there, unless it may be absent
abbrev pub judged_as : Operation → Status → Option Tree → Shown
judged_as operation Success t = Judged operation (not (may_be_bare operation))
judged_as operation Failed t = Unread
judged_as operation Undone t = cond (is_some (filled t)) (Judged operation false) Unread

-- the same of any answer, by the operation that is the place's own, the status and the payload
abbrev pub shown_as : Option Operation → Option Status → Option Tree → Shown
shown_as None status t = Unread
shown_as (Some operation) None t = Unread
shown_as (Some (Idle n)) (Some status) t = Unread
shown_as (Some (Other n)) (Some status) t = Unjudged
shown_as (Some operation) (Some status) t = judged_as operation status t

-- a payload that is read is a structure
abbrev pub shape_wanted : Bool → Wanted
shape_wanted required = cond required (wanted.Typed type.Structure) (wanted.MaybeTyped type.Structure)

-- an answer itself; an operation that isn't judged may only fail
abbrev pub outcome_demands : Shown → List Demand
outcome_demands Unread = []
outcome_demands Unjudged = wants inside.Here (Tag result_status) (wanted.OneOf numbers.Failure) kind.Operation ∷ []
outcome_demands (Judged operation required) = wants inside.Here (Tag response_payload) (shape_wanted required) kind.Missing ∷ []

-- its Response Payload, where there is one
abbrev pub shown_demands : Shown → Field Trees → List Demand
shown_demands (Judged operation required) (There ts) = done_demands operation
shown_demands shown field = []

abbrev pub status_in : Trees → Option Status
status_in ts = option_and_then status_of (value_in (at as_enumeration result_status ts))

abbrev pub shown_in : Option AskOf → Trees → Shown
shown_in a ts = shown_as (own a (at as_enumeration operation_tag ts)) (status_in ts) (first response_payload ts)

abbrev pub answer_told : Option AskOf → OutsideKind → Tree → List FieldTold
answer_told a k t =
    let shown = shown_in a (children t) in
    fields_told k None (children t) (answer_demands ++ outcome_demands shown) ++ fields_told k (Some response_payload) (children t) (shown_demands shown (at as_structure response_payload (children t)))

-- the fields of the response to this request, or of an item of it, that aren't as wanted
abbrev pub response_fields : Tree → RequestOf → ℕ → OutsideKind → List FieldTold
response_fields t request zero k = header_told response_header_tag k t (response_header_demands (length (batch t)))
response_fields t request (suc place) k = of_item (answer_told (slice_get request.items place) k) (slice_get (batch t) place)
