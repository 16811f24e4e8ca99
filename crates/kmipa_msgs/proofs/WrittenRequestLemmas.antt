-- A request that was written is said by its item.
use Rattle.std.proofs.Common.{◌≡◌, ℕ, pos, Bool, true, false, List, [], ◌∷◌, map, length, Some, refl, sym, ap, ◌∙◌, subst}
use Rattle.std.proofs.lemmas.List.{length-map}
use Rattle.kmipa_ttlv.specs.Tree.{Tree, Trees, scalar}
use Rattle.kmipa_ttlv.specs.Tree
use Rattle.kmipa_attrs.specs.Fields.{first, every, as_structure, as_integer, as_enumeration, as_boolean, as_bytes, at, inside}
use Rattle.kmipa_attrs.specs.Readings.{Optional}
use Rattle.kmipa_attrs.specs.Tags.{batch_count, batch_error_continuation_option, batch_item, batch_order_option, operation_tag, request_header_tag, request_message, request_payload, unique_batch_item_id}
use Rattle.kmipa_attrs.specs.declared.fields.Field.{Field}
use Rattle.kmipa_attrs.specs.declared.fields.Field.TheVariants.{There}
use Rattle.kmipa_msgs.specs.declared.request.BatchOption.{BatchOption}
use Rattle.kmipa_msgs.specs.declared.request.BatchOption.TheVariants.{Continue, Stop, Undo}
use Rattle.kmipa_msgs.specs.declared.operation.Operation.{Operation}
use Rattle.kmipa_msgs.specs.Operations.{operation_number, operation_of}
use Rattle.kmipa_msgs.specs.Messages.{AskedOf, idles, does_other, AskOf, operation_asked, RequestOf}
use Rattle.kmipa_msgs.specs.Tables.{children}
use Rattle.kmipa_msgs.specs.Headers.{is_message, is_version, batch}
use Rattle.kmipa_msgs.specs.Outside.{SaysEach}
use Rattle.kmipa_msgs.specs.Asks.{TellsOperation, SaysAsked, SaysAsk}
use Rattle.kmipa_msgs.specs.Requests.{SaysOption, SaysOrder, SaysHeader, header_of, request_header, SaysRequest}
use Rattle.kmipa_msgs.specs.WrittenFields.{in_order, field}
use Rattle.kmipa_msgs.specs.Written.{stated_option, stated_order, written_asked, ask_fields, written_ask, request_header_fields, written_request}
use Rattle.kmipa_msgs.specs.Rows.{asked_fields}
use Rattle.kmipa_msgs.specs.Writable.{IsWritableAsked, IsWritable}
use Rattle.kmipa_msgs.proofs.WrittenFieldLemmas.{skipped, optional_written, required_written, inside_written, value_written}
use Rattle.kmipa_msgs.proofs.RowLemmas.{is_row}
use Rattle.kmipa_msgs.proofs.WrittenMessageLemmas.{each_length, each_written, every_written, version_written, count_written}

-- ITEMS

-- an operation that is written has a number by which it is read
pub operation_again : (a : AskedOf) → IsWritableAsked a → operation_asked a ≡ operation_of (operation_number (operation_asked a))
operation_again (idles n) w = absurd w
operation_again (does_other n) w = absurd w
operation_again _ w = refl

asked_again : (operation : Operation) (ts : Trees) (a : AskedOf) → IsWritableAsked a → SaysAsked operation ts a → SaysAsked (operation_asked a) (in_order (asked_fields a)) a
asked_again operation ts a w s =
    let law = is_row operation in
    subst (λ (o : Operation). SaysAsked o (in_order (asked_fields a)) a) (sym (law.own ts a s)) (law.asked_written ts a w s)

payload_inside : (a : AskOf) → inside request_payload (in_order (ask_fields a)) ≡ in_order (asked_fields a.asked)
payload_inside a =
    inside_written request_payload request_payload (ask_fields a) (in_order (asked_fields a.asked)) (skipped Tree.byte_string unique_batch_item_id request_payload a.batch_id (Some (written_asked a.asked) ∷ []) refl)

ask_written : (t : Tree) (a : AskOf) → IsWritableAsked a.asked → SaysAsk t a → SaysAsk (written_ask a) a
unfolding as_structure as_enumeration as_bytes
ask_written t a w h =
    let number = operation_number (operation_asked a.asked) in
    record {
      operation = operation_asked a.asked;
      is = subst (λ (f : Field ℕ). TellsOperation f (operation_asked a.asked))
          (sym (required_written as_enumeration operation_tag (ask_fields a) (scalar operation_tag (Tree.enumeration number)) number refl refl)) (operation_again a.asked w);
      asked = subst (λ (ts : Trees). SaysAsked (operation_asked a.asked) ts a.asked) (sym (payload_inside a)) (asked_again h.operation (inside request_payload (children t)) a.asked w h.asked);
      batch_id = value_written (at as_bytes unique_batch_item_id (in_order (ask_fields a))) a.batch_id
          (optional_written as_bytes Tree.byte_string unique_batch_item_id a.batch_id (ask_fields a) (Some (written_asked a.asked) ∷ []) refl refl (λ x. refl) refl);
    }

-- THE HEADER

option_said : (f : Field ℕ) (o : BatchOption) → Optional f (stated_option o) → SaysOption f o
option_said f Continue e = subst (λ (g : Field ℕ). SaysOption g Continue) (sym e) refl
option_said f Stop e = subst (λ (g : Field ℕ). SaysOption g Stop) (sym e) refl
option_said f Undo e = subst (λ (g : Field ℕ). SaysOption g Undo) (sym e) refl

order_said : (f : Field Bool) (b : Bool) → Optional f (stated_order b) → SaysOrder f b
order_said f true e = subst (λ (g : Field Bool). SaysOrder g true) (sym e) refl
order_said f false e = subst (λ (g : Field Bool). SaysOrder g false) (sym e) refl

header_inside : (r : RequestOf) → request_header (written_request r) ≡ in_order (request_header_fields r)
unfolding first as_structure
header_inside r = refl

is_request : (r : RequestOf) → is_message request_message request_header_tag (written_request r) ≡ true
unfolding first as_structure
is_request r = refl

batch_written : (r : RequestOf) → batch (written_request r) ≡ map written_ask r.items
unfolding every as_structure
batch_written r = every_written written_ask batch_item (λ a. refl) r.items

counted : (r : RequestOf) → at as_integer batch_count (in_order (request_header_fields r)) ≡ There (pos (length r.items))
unfolding as_integer
counted r =
    let count = field Tree.integer batch_count (Some (pos (length r.items))) ∷ [] in
    required_written as_integer batch_count (request_header_fields r) (scalar batch_count (Tree.integer (pos (length r.items)))) (pos (length r.items))
    (skipped Tree.enumeration batch_error_continuation_option batch_count (stated_option r.option) (field Tree.boolean batch_order_option (stated_order r.ordered) ∷ count) refl
    ∙ skipped Tree.boolean batch_order_option batch_count (stated_order r.ordered) count refl)
    refl

option_written : (r : RequestOf) → Optional (at as_enumeration batch_error_continuation_option (in_order (request_header_fields r))) (stated_option r.option)
unfolding as_enumeration
option_written r =
    let count = field Tree.integer batch_count (Some (pos (length r.items))) ∷ [] in
    optional_written as_enumeration Tree.enumeration batch_error_continuation_option (stated_option r.option) (request_header_fields r) (field Tree.boolean batch_order_option (stated_order r.ordered) ∷ count)
    refl (skipped Tree.boolean batch_order_option batch_error_continuation_option (stated_order r.ordered) count refl) (λ x. refl) refl

order_written : (r : RequestOf) → Optional (at as_boolean batch_order_option (in_order (request_header_fields r))) (stated_order r.ordered)
unfolding as_boolean
order_written r =
    let count = field Tree.integer batch_count (Some (pos (length r.items))) ∷ [] in
    optional_written as_boolean Tree.boolean batch_order_option (stated_order r.ordered) (request_header_fields r) count
    (skipped Tree.enumeration batch_error_continuation_option batch_order_option (stated_option r.option) (field Tree.boolean batch_order_option (stated_order r.ordered) ∷ count) refl) refl (λ x. refl) refl

header_written : (t : Tree) (r : RequestOf) → SaysRequest t r → SaysHeader (written_request r) (header_of r)
header_written t r h = record {
  message = is_request r;
  version = ap is_version (header_inside r) ∙ version_written (request_header_fields r) refl;
  count = count_written (request_header (written_request r)) (request_header t) (batch (written_request r)) (batch t) r.items h.header.count
      (each_length (λ place. SaysAsk) (batch t) r.items h.items) (ap length (batch_written r) ∙ length-map r.items written_ask)
      (ap (at as_integer batch_count) (header_inside r) ∙ counted r);
  option = option_said (at as_enumeration batch_error_continuation_option (request_header (written_request r))) r.option
      (subst (λ (hs : Trees). Optional (at as_enumeration batch_error_continuation_option hs) (stated_option r.option)) (sym (header_inside r)) (option_written r));
  ordered = order_said (at as_boolean batch_order_option (request_header (written_request r))) r.ordered
      (subst (λ (hs : Trees). Optional (at as_boolean batch_order_option hs) (stated_order r.ordered)) (sym (header_inside r)) (order_written r));
}

-- THE MESSAGE

pub request_written : (t : Tree) (r : RequestOf) → SaysRequest t r → IsWritable r → SaysRequest (written_request r) r
request_written t r h w = record {
  header = header_written t r h;
  items =
      subst (λ (ts : List Tree). SaysEach (λ place. SaysAsk) ts r.items) (sym (batch_written r))
      (each_written (λ a. IsWritableAsked a.asked) (λ place. SaysAsk) written_ask (λ place. ask_written) (batch t) r.items w h.items);
}
