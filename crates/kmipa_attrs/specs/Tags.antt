-- Tags: a name for each that the profile speaks of, and how the standard writes it (KMIP 2.1, the Tag enumeration).
-- A tag whose words name elsewhere what it holds ends in `_tag`; the others are the standard's words.
use Rattle.std.specs.Prelude.{ℕ, ◌==◌, cond, List, [], ◌∷◌, codes}

abbrev pub activation_date : ℕ
activation_date = 0x42_0001

abbrev pub batch_count : ℕ
batch_count = 0x42_000D

abbrev pub batch_error_continuation_option : ℕ
batch_error_continuation_option = 0x42_000E

abbrev pub batch_item : ℕ
batch_item = 0x42_000F

abbrev pub batch_order_option : ℕ
batch_order_option = 0x42_0010

abbrev pub compromise_date : ℕ
compromise_date = 0x42_0020

abbrev pub cryptographic_algorithm : ℕ
cryptographic_algorithm = 0x42_0028

abbrev pub cryptographic_length : ℕ
cryptographic_length = 0x42_002A

abbrev pub cryptographic_usage_mask : ℕ
cryptographic_usage_mask = 0x42_002C

abbrev pub deactivation_date : ℕ
deactivation_date = 0x42_002F

abbrev pub destroy_date : ℕ
destroy_date = 0x42_0033

abbrev pub initial_date : ℕ
initial_date = 0x42_0039

abbrev pub key_block : ℕ
key_block = 0x42_0040

abbrev pub key_format_type : ℕ
key_format_type = 0x42_0042

abbrev pub key_material : ℕ
key_material = 0x42_0043

abbrev pub key_value : ℕ
key_value = 0x42_0045

abbrev pub key_wrapping_data : ℕ
key_wrapping_data = 0x42_0046

abbrev pub key_wrapping_specification : ℕ
key_wrapping_specification = 0x42_0047

abbrev pub maximum_items : ℕ
maximum_items = 0x42_004F

abbrev pub name_tag : ℕ
name_tag = 0x42_0053

abbrev pub name_type : ℕ
name_type = 0x42_0054

abbrev pub name_value : ℕ
name_value = 0x42_0055

abbrev pub object_type_tag : ℕ
object_type_tag = 0x42_0057

abbrev pub operation_tag : ℕ
operation_tag = 0x42_005C

abbrev pub protocol_version : ℕ
protocol_version = 0x42_0069

abbrev pub protocol_version_major : ℕ
protocol_version_major = 0x42_006A

abbrev pub protocol_version_minor : ℕ
protocol_version_minor = 0x42_006B

abbrev pub request_header_tag : ℕ
request_header_tag = 0x42_0077

abbrev pub request_message : ℕ
request_message = 0x42_0078

abbrev pub request_payload : ℕ
request_payload = 0x42_0079

abbrev pub response_header_tag : ℕ
response_header_tag = 0x42_007A

abbrev pub response_message : ℕ
response_message = 0x42_007B

abbrev pub response_payload : ℕ
response_payload = 0x42_007C

abbrev pub result_message : ℕ
result_message = 0x42_007D

abbrev pub result_reason : ℕ
result_reason = 0x42_007E

abbrev pub result_status : ℕ
result_status = 0x42_007F

abbrev pub revocation_reason : ℕ
revocation_reason = 0x42_0081

abbrev pub revocation_reason_code : ℕ
revocation_reason_code = 0x42_0082

abbrev pub secret_data : ℕ
secret_data = 0x42_0085

abbrev pub secret_data_type : ℕ
secret_data_type = 0x42_0086

abbrev pub state_tag : ℕ
state_tag = 0x42_008D

abbrev pub symmetric_key : ℕ
symmetric_key = 0x42_008F

abbrev pub time_stamp : ℕ
time_stamp = 0x42_0092

abbrev pub unique_batch_item_id : ℕ
unique_batch_item_id = 0x42_0093

abbrev pub unique_identifier : ℕ
unique_identifier = 0x42_0094

abbrev pub attributes_tag : ℕ
attributes_tag = 0x42_0125

abbrev pub attribute_reference : ℕ
attribute_reference = 0x42_013B

abbrev pub tag_names : List (ℕ × List ℕ)
tag_names =
    (activation_date, codes "Activation Date") ∷
    (batch_count, codes "Batch Count") ∷
    (batch_error_continuation_option, codes "Batch Error Continuation Option") ∷
    (batch_item, codes "Batch Item") ∷
    (batch_order_option, codes "Batch Order Option") ∷
    (compromise_date, codes "Compromise Date") ∷
    (cryptographic_algorithm, codes "Cryptographic Algorithm") ∷
    (cryptographic_length, codes "Cryptographic Length") ∷
    (cryptographic_usage_mask, codes "Cryptographic Usage Mask") ∷
    (deactivation_date, codes "Deactivation Date") ∷
    (destroy_date, codes "Destroy Date") ∷
    (initial_date, codes "Initial Date") ∷
    (key_block, codes "Key Block") ∷
    (key_format_type, codes "Key Format Type") ∷
    (key_material, codes "Key Material") ∷
    (key_value, codes "Key Value") ∷
    (key_wrapping_data, codes "Key Wrapping Data") ∷
    (key_wrapping_specification, codes "Key Wrapping Specification") ∷
    (maximum_items, codes "Maximum Items") ∷
    (name_tag, codes "Name") ∷
    (name_type, codes "Name Type") ∷
    (name_value, codes "Name Value") ∷
    (object_type_tag, codes "Object Type") ∷
    (operation_tag, codes "Operation") ∷
    (protocol_version, codes "Protocol Version") ∷
    (protocol_version_major, codes "Protocol Version Major") ∷
    (protocol_version_minor, codes "Protocol Version Minor") ∷
    (request_header_tag, codes "Request Header") ∷
    (request_message, codes "Request Message") ∷
    (request_payload, codes "Request Payload") ∷
    (response_header_tag, codes "Response Header") ∷
    (response_message, codes "Response Message") ∷
    (response_payload, codes "Response Payload") ∷
    (result_message, codes "Result Message") ∷
    (result_reason, codes "Result Reason") ∷
    (result_status, codes "Result Status") ∷
    (revocation_reason, codes "Revocation Reason") ∷
    (revocation_reason_code, codes "Revocation Reason Code") ∷
    (secret_data, codes "Secret Data") ∷
    (secret_data_type, codes "Secret Data Type") ∷
    (state_tag, codes "State") ∷
    (symmetric_key, codes "Symmetric Key") ∷
    (time_stamp, codes "Time Stamp") ∷
    (unique_batch_item_id, codes "Unique Batch Item ID") ∷
    (unique_identifier, codes "Unique Identifier") ∷
    (attributes_tag, codes "Attributes") ∷
    (attribute_reference, codes "Attribute Reference") ∷
    []

-- the name in the table, else a dash
abbrev pub name_in : List (ℕ × List ℕ) → ℕ → List ℕ
name_in [] n = codes "-"
name_in (row ∷ rows) n = cond (row.0 == n) row.1 (name_in rows n)

abbrev pub tag_name_of : ℕ → List ℕ
tag_name_of n = name_in tag_names n
