-- What is told of a request that is outside: the demands on its header, or on an item of it.
use Rattle.std.specs.Prelude.{ℕ, zero, suc, Bool, true, false, ◌&&◌, cond, List, [], ◌∷◌, ◌++◌, length, slice_get, Option, Some, None}
use Rattle.kmipa_ttlv.specs.Tree.{Tree, Trees}
use Rattle.kmipa_attrs.specs.Fields.{at, inside, as_enumeration}
use Rattle.kmipa_attrs.specs.Tags.{operation_tag, request_header_tag, request_payload, unique_identifier}
use Rattle.kmipa_attrs.specs.declared.fields.Field.{Field}
use Rattle.kmipa_attrs.specs.declared.fields.Field.TheVariants.{Absent, Wrong, There}
use Rattle.kmipa_msgs.specs.declared.kind.OutsideKind.{OutsideKind}
use Rattle.kmipa_msgs.specs.declared.kind.OutsideKind.TheVariants as kind
use Rattle.kmipa_msgs.specs.declared.operation.Operation.{Operation}
use Rattle.kmipa_msgs.specs.declared.operation.Operation.TheVariants.{Get, GetAttributes, Activate, Revoke, Destroy}
use Rattle.kmipa_msgs.specs.Headers.{batch}
use Rattle.kmipa_msgs.specs.Operations.{operation_of, is_judged}
use Rattle.kmipa_msgs.specs.Requests.{is_without_order}
use Rattle.kmipa_msgs.specs.Tables.{children}
use Rattle.kmipa_outside.specs.AgreementDemands.{agreement_demands}
use Rattle.kmipa_outside.specs.Demands.{wants}
use Rattle.kmipa_outside.specs.HeaderDemands.{request_header_demands}
use Rattle.kmipa_outside.specs.Tables.{asked_demands}
use Rattle.kmipa_outside.specs.Told.{fields_told}
use Rattle.kmipa_outside.specs.declared.demand.Demand.{Demand}
use Rattle.kmipa_outside.specs.declared.demand.Inside.TheVariants as inner
use Rattle.kmipa_outside.specs.declared.demand.Step.TheVariants.{Tag}
use Rattle.kmipa_outside.specs.declared.demand.Wanted.TheVariants as wanted
use Rattle.kmipa_outside.specs.declared.told.FieldTold.{FieldTold}
use Rattle.kmipa_outside.specs.declared.types.ItemType.TheVariants as type

-- the header of a message, with this tag
abbrev pub header_demand : ℕ → Demand
header_demand tag = wants inner.Here (Tag tag) (wanted.Typed type.Structure) kind.NotAMessage

-- the header of a message itself, and the demands on its fields
abbrev pub header_told : ℕ → OutsideKind → Tree → List Demand → List FieldTold
header_told tag k t ds = fields_told k None (children t) (header_demand tag ∷ []) ++ fields_told k (Some tag) (children t) ds

-- a Request Payload is a structure, where it is read
abbrev pub form_demands : Operation → List Demand
form_demands operation = cond (is_judged operation) (wants inner.Here (Tag request_payload) (wanted.MaybeTyped type.Structure) kind.Missing ∷ []) []

-- an item itself
abbrev pub ask_demands : Field ℕ → List Demand
ask_demands Absent = wants inner.Here (Tag operation_tag) (wanted.Typed type.Enumeration) kind.Missing ∷ []
ask_demands Wrong = wants inner.Here (Tag operation_tag) (wanted.Typed type.Enumeration) kind.Missing ∷ []
ask_demands (There n) = form_demands (operation_of n)

-- an operation on an object, which means the ID Placeholder where it names none
abbrev pub is_on_object : Operation → Bool
is_on_object Get = true
is_on_object GetAttributes = true
is_on_object Activate = true
is_on_object Revoke = true
is_on_object Destroy = true
is_on_object operation = false

-- in a request without order an operation on an object names it
abbrev pub naming_demands : Bool → Operation → List Demand
naming_demands unordered operation = cond (unordered && is_on_object operation) (wants inner.Here (Tag unique_identifier) wanted.There kind.Unordered ∷ []) []

-- its Request Payload, with these children
abbrev pub payload_demands : Bool → Field ℕ → Trees → List Demand
payload_demands unordered Absent ts = []
payload_demands unordered Wrong ts = []
payload_demands unordered (There n) ts = asked_demands (operation_of n) ++ (naming_demands unordered (operation_of n) ++ agreement_demands (operation_of n) ts)

abbrev pub item_told : Bool → OutsideKind → Tree → List FieldTold
item_told unordered k t =
    let operation = at as_enumeration operation_tag (children t) in
    fields_told k None (children t) (ask_demands operation) ++ fields_told k (Some request_payload) (children t) (payload_demands unordered operation (inside request_payload (children t)))

-- of a message without the item nothing is told
abbrev pub of_item : (Tree → List FieldTold) → Option Tree → List FieldTold
of_item what None = []
of_item what (Some t) = what t

-- the fields of the request, or of an item of it, that aren't as wanted
abbrev pub request_fields : Tree → ℕ → OutsideKind → List FieldTold
request_fields t zero k = header_told request_header_tag k t (request_header_demands (length (batch t)))
request_fields t (suc place) k = of_item (item_told (is_without_order t) k) (slice_get (batch t) place)
