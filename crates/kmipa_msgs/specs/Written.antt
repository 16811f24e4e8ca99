-- Messages as they are written: each field in its place, an optional one only where it is there (KMIP 2.1, sections 6, 8 and 9).
use Rattle.std.specs.Prelude.{ℕ, pos, Bool, true, false, List, [], ◌∷◌, length, Option, Some, None}
use Rattle.std.specs.Option.{option_map}
use Rattle.kmipa_ttlv.specs.Tree.{Tree, structure, more, forest}
use Rattle.kmipa_ttlv.specs.Tree
use Rattle.kmipa_attrs.specs.Tags.{batch_count, batch_error_continuation_option, batch_item, batch_order_option, operation_tag, protocol_version, protocol_version_major, protocol_version_minor, request_header_tag, request_message, request_payload, response_header_tag, response_message, response_payload, result_reason, result_status, time_stamp, unique_batch_item_id}
use Rattle.kmipa_msgs.specs.declared.request.BatchOption.{BatchOption}
use Rattle.kmipa_msgs.specs.declared.request.BatchOption.TheVariants.{Continue, Stop, Undo}
use Rattle.kmipa_msgs.specs.Numbers.{option_number, status_number}
use Rattle.kmipa_msgs.specs.Operations.{operation_number}
use Rattle.kmipa_msgs.specs.Messages.{AskedOf, AskOf, operation_asked, RequestOf, PayloadOf, AnswerOf, ResponseOf}
use Rattle.kmipa_msgs.specs.Rows.{asked_fields, payload_fields}
use Rattle.kmipa_msgs.specs.WrittenFields.{in_order, field}

-- PAYLOADS

abbrev pub written_payload : PayloadOf → Tree
written_payload p = structure response_payload (in_order (payload_fields p))

-- RESPONSES

abbrev pub answer_fields : AnswerOf → List (Option Tree)
answer_fields x =
    field Tree.enumeration operation_tag x.operation ∷
    field Tree.byte_string unique_batch_item_id x.batch_id ∷
    field Tree.enumeration result_status (Some (status_number x.status)) ∷
    field Tree.enumeration result_reason x.reason ∷
    option_map written_payload x.payload ∷
    []

abbrev pub written_answer : AnswerOf → Tree
written_answer x = structure batch_item (in_order (answer_fields x))

abbrev pub version_fields : List (Option Tree)
version_fields = field Tree.integer protocol_version_major (Some (pos 2)) ∷ field Tree.integer protocol_version_minor (Some (pos 1)) ∷ []

abbrev pub written_version : Tree
written_version = structure protocol_version (in_order version_fields)

abbrev pub response_header_fields : ResponseOf → List (Option Tree)
response_header_fields r =
    Some written_version ∷
    field Tree.date_time time_stamp (Some r.stamp) ∷
    field Tree.integer batch_count (Some (pos (length r.items))) ∷
    []

abbrev pub written_response_header : ResponseOf → Tree
written_response_header r = structure response_header_tag (in_order (response_header_fields r))

abbrev pub written_response : ResponseOf → Tree
written_response r = structure response_message (more (written_response_header r) (forest written_answer r.items))

-- REQUESTS

-- Stop is what an absent option means
abbrev pub stated_option : BatchOption → Option ℕ
stated_option Continue = Some (option_number Continue)
stated_option Stop = None
stated_option Undo = Some (option_number Undo)

-- true is what an absent order means
abbrev pub stated_order : Bool → Option Bool
stated_order true = None
stated_order false = Some false

abbrev pub request_header_fields : RequestOf → List (Option Tree)
request_header_fields r =
    Some written_version ∷
    field Tree.enumeration batch_error_continuation_option (stated_option r.option) ∷
    field Tree.boolean batch_order_option (stated_order r.ordered) ∷
    field Tree.integer batch_count (Some (pos (length r.items))) ∷
    []

abbrev pub written_request_header : RequestOf → Tree
written_request_header r = structure request_header_tag (in_order (request_header_fields r))

abbrev pub written_asked : AskedOf → Tree
written_asked asked = structure request_payload (in_order (asked_fields asked))

abbrev pub ask_fields : AskOf → List (Option Tree)
ask_fields a =
    field Tree.enumeration operation_tag (Some (operation_number (operation_asked a.asked))) ∷
    field Tree.byte_string unique_batch_item_id a.batch_id ∷
    Some (written_asked a.asked) ∷
    []

abbrev pub written_ask : AskOf → Tree
written_ask a = structure batch_item (in_order (ask_fields a))

abbrev pub written_request : RequestOf → Tree
written_request r = structure request_message (more (written_request_header r) (forest written_ask r.items))
