-- A response that was written is said by its item, beside each request beside which some item says it.
use Rattle.std.proofs.Common.{◌≡◌, ◌==◌, ℕ, pos, Bool, true, false, cond, List, [], ◌∷◌, map, length, Option, Some, None, refl, sym, ap, ◌∙◌, subst}
use Rattle.std.specs.List.{slice_get}
use Rattle.std.specs.Option.{option_map}
use Rattle.std.proofs.lemmas.List.{length-map}
use Rattle.kmipa_ttlv.specs.Tree.{Tree, structure, scalar}
use Rattle.kmipa_ttlv.specs.Tree
use Rattle.kmipa_attrs.specs.Fields.{first, every, as_structure, as_integer, as_enumeration, as_bytes, as_date, at}
use Rattle.kmipa_attrs.specs.Readings.{Optional}
use Rattle.kmipa_attrs.specs.Tags.{batch_count, batch_item, operation_tag, response_header_tag, response_message, response_payload, result_reason, result_status, time_stamp, unique_batch_item_id}
use Rattle.kmipa_attrs.specs.declared.fields.Field.{Field}
use Rattle.kmipa_attrs.specs.declared.fields.Field.TheVariants.{There}
use Rattle.kmipa_msgs.specs.declared.operation.Operation.{Operation}
use Rattle.kmipa_msgs.specs.declared.operation.Operation.TheVariants.{Idle, Other}
use Rattle.kmipa_msgs.specs.declared.response.Status.{Status}
use Rattle.kmipa_msgs.specs.declared.response.Status.TheVariants.{Success, Failed, Undone}
use Rattle.kmipa_msgs.specs.Numbers.{status_number, status_of}
use Rattle.kmipa_msgs.specs.Messages.{AskOf, RequestOf, PayloadOf, AnswerOf, ResponseOf}
use Rattle.kmipa_msgs.specs.Tables.{children}
use Rattle.kmipa_msgs.specs.Headers.{is_message, is_version, batch}
use Rattle.kmipa_msgs.specs.Outside.{SaysEach}
use Rattle.kmipa_msgs.specs.Payloads.{SaysPayloadOf}
use Rattle.kmipa_msgs.specs.Replies.{own, or_empty, filled, SaysRequired, SaysMaybe, SaysJudged, SaysShown, SaysAnswer}
use Rattle.kmipa_msgs.specs.Responses.{response_header, SaysResponse}
use Rattle.kmipa_msgs.specs.WrittenFields.{in_order, field}
use Rattle.kmipa_msgs.specs.Written.{written_payload, answer_fields, written_answer, response_header_fields, written_response}
use Rattle.kmipa_msgs.specs.Writable.{SaysNothing, IsWritableAnswer, IsWritableResponse}
use Rattle.kmipa_msgs.proofs.WrittenFieldLemmas.{find, found, skipped, optional_written, required_written, value_written}
use Rattle.kmipa_msgs.proofs.RowLemmas.{is_row}
use Rattle.kmipa_msgs.proofs.WrittenMessageLemmas.{each_length, each_written, every_written, version_written, count_written}

-- PAYLOADS

payload_said : (operation : Operation) (t : Tree) (p : PayloadOf) → SaysPayloadOf operation t p → SaysPayloadOf operation (written_payload p) p
payload_said operation (structure n ts) p s = (is_row operation).done_written ts p s
payload_said operation (scalar n k) p s = absurd s

-- a payload that is written has children, but for one that says nothing
payload_kept : (operation : Operation) (t : Tree) (p : PayloadOf) → (SaysNothing p → ⊥) → SaysPayloadOf operation t p → filled (Some (written_payload p)) ≡ Some (written_payload p)
payload_kept operation (structure n ts) p bare s = (is_row operation).done_filled ts p bare s
payload_kept operation (scalar n k) p bare s = absurd s

required_said : (operation : Operation) (t : Option Tree) (p : Option PayloadOf) → SaysRequired operation t p → SaysRequired operation (or_empty operation (option_map written_payload p)) p
required_said operation (Some t) (Some p) s = payload_said operation t p s
required_said operation (Some t) None s = absurd s
required_said operation None (Some p) s = absurd s
required_said operation None None s = absurd s

maybe_said : (operation : Operation) (t : Option Tree) (p : Option PayloadOf) → ((q : PayloadOf) → p ≡ Some q → SaysNothing q → ⊥) → SaysMaybe operation t p → SaysMaybe operation (filled (option_map written_payload p)) p
maybe_said operation (Some t) (Some p) bare s =
    subst (λ (u : Option Tree). SaysMaybe operation u (Some p)) (sym (payload_kept operation t p (bare p refl) s)) (payload_said operation t p s)
maybe_said operation (Some t) None bare s = tt
maybe_said operation None (Some p) bare s = absurd s
maybe_said operation None None bare s = tt

judged_said : (operation : Operation) (status : Status) (t : Option Tree) (p : Option PayloadOf) → (status ≡ Undone → (q : PayloadOf) → p ≡ Some q → SaysNothing q → ⊥) → SaysJudged operation status t p
    → SaysJudged operation status (option_map written_payload p) p
judged_said operation Success t p bare s = required_said operation (or_empty operation t) p s
judged_said operation Failed t p bare s = s
judged_said operation Undone t p bare s = maybe_said operation (filled t) p (bare refl) s

shown_said : (o : Option Operation) (status : Status) (t : Option Tree) (p : Option PayloadOf) → (status ≡ Undone → (q : PayloadOf) → p ≡ Some q → SaysNothing q → ⊥) → SaysShown o status t p
    → SaysShown o status (option_map written_payload p) p
shown_said None status t p bare s = s
shown_said (Some (Idle n)) status t p bare s = s
shown_said (Some (Other n)) status t p bare s = s
shown_said (Some operation) status t p bare s = judged_said operation status t p bare s

-- ITEMS

status_listed : (s : Status) → status_of (status_number s) ≡ Some s
status_listed Success = refl
status_listed Failed = refl
status_listed Undone = refl

same_field : (f g : Field ℕ) (o : Option ℕ) → Optional f o → Optional g o → f ≡ g
same_field f g None e h = e ∙ sym h
same_field f g (Some x) e h = e ∙ sym h

answer_payload : (p : Option PayloadOf) → find response_payload (option_map written_payload p ∷ []) ≡ option_map written_payload p
answer_payload None = refl
answer_payload (Some p) = refl

no_payload : (n : ℕ) (p : Option PayloadOf) → (response_payload == n) ≡ false → find n (option_map written_payload p ∷ []) ≡ None
no_payload n None e = refl
no_payload n (Some p) e = ap (λ (b : Bool). cond b (Some (written_payload p)) None) e

payload_behind : (x : AnswerOf) → first response_payload (children (written_answer x)) ≡ option_map written_payload x.payload
unfolding as_structure
payload_behind x =
    let payload = option_map written_payload x.payload ∷ [] in
    let reason = field Tree.enumeration result_reason x.reason ∷ payload in
    let status = field Tree.enumeration result_status (Some (status_number x.status)) ∷ reason in
    found response_payload (answer_fields x)
    ∙ skipped Tree.enumeration operation_tag response_payload x.operation (field Tree.byte_string unique_batch_item_id x.batch_id ∷ status) refl
    ∙ skipped Tree.byte_string unique_batch_item_id response_payload x.batch_id status refl
    ∙ skipped Tree.enumeration result_reason response_payload x.reason payload refl
    ∙ answer_payload x.payload

answer_written : (a : Option AskOf) (t : Tree) (x : AnswerOf) → IsWritableAnswer x → SaysAnswer a t x → SaysAnswer a (written_answer x) x
unfolding as_structure as_enumeration as_bytes
answer_written a t x w h =
    let payload = option_map written_payload x.payload ∷ [] in
    let reason = field Tree.enumeration result_reason x.reason ∷ payload in
    let status = field Tree.enumeration result_status (Some (status_number x.status)) ∷ reason in
    let behind = field Tree.byte_string unique_batch_item_id x.batch_id ∷ status in
    let operation : Optional (at as_enumeration operation_tag (children (written_answer x))) x.operation =
    optional_written as_enumeration Tree.enumeration operation_tag x.operation (answer_fields x) behind refl
    (skipped Tree.byte_string unique_batch_item_id operation_tag x.batch_id status refl ∙ skipped Tree.enumeration result_reason operation_tag x.reason payload refl ∙ no_payload operation_tag x.payload refl)
    (λ y. refl) refl in
    record {
      operation = operation;
      batch_id = value_written (at as_bytes unique_batch_item_id (in_order (answer_fields x))) x.batch_id
          (optional_written as_bytes Tree.byte_string unique_batch_item_id x.batch_id (answer_fields x) status
          (skipped Tree.enumeration operation_tag unique_batch_item_id x.operation behind refl)
          (skipped Tree.enumeration result_reason unique_batch_item_id x.reason payload refl ∙ no_payload unique_batch_item_id x.payload refl) (λ y. refl) refl);
      status = record {
        number = status_number x.status;
        is = required_written as_enumeration result_status (answer_fields x) (scalar result_status (Tree.enumeration (status_number x.status))) (status_number x.status)
            (skipped Tree.enumeration operation_tag result_status x.operation behind refl ∙ skipped Tree.byte_string unique_batch_item_id result_status x.batch_id status refl) refl;
        listed = status_listed x.status;
      };
      reason = optional_written as_enumeration Tree.enumeration result_reason x.reason (answer_fields x) payload
          (skipped Tree.enumeration operation_tag result_reason x.operation behind refl ∙ skipped Tree.byte_string unique_batch_item_id result_reason x.batch_id status refl)
          (no_payload result_reason x.payload refl) (λ y. refl) refl;
      payload =
          let same : at as_enumeration operation_tag (children t) ≡ at as_enumeration operation_tag (children (written_answer x)) =
          same_field (at as_enumeration operation_tag (children t)) (at as_enumeration operation_tag (children (written_answer x))) x.operation h.operation operation in
          subst (λ (f : Field ℕ). SaysShown (own a f) x.status (first response_payload (children (written_answer x))) x.payload) same
          (subst (λ (u : Option Tree). SaysShown (own a (at as_enumeration operation_tag (children t))) x.status u x.payload) (sym (payload_behind x))
          (shown_said (own a (at as_enumeration operation_tag (children t))) x.status (first response_payload (children t)) x.payload w h.payload));
    }

-- THE HEADER

header_inside : (r : ResponseOf) → response_header (written_response r) ≡ in_order (response_header_fields r)
unfolding first as_structure
header_inside r = refl

is_response : (r : ResponseOf) → is_message response_message response_header_tag (written_response r) ≡ true
unfolding first as_structure
is_response r = refl

batch_written : (r : ResponseOf) → batch (written_response r) ≡ map written_answer r.items
unfolding every as_structure
batch_written r = every_written written_answer batch_item (λ x. refl) r.items

counted : (r : ResponseOf) → at as_integer batch_count (in_order (response_header_fields r)) ≡ There (pos (length r.items))
unfolding as_integer
counted r = required_written as_integer batch_count (response_header_fields r) (scalar batch_count (Tree.integer (pos (length r.items)))) (pos (length r.items)) refl refl

stamped : (r : ResponseOf) → at as_date time_stamp (in_order (response_header_fields r)) ≡ There r.stamp
unfolding as_date
stamped r = required_written as_date time_stamp (response_header_fields r) (scalar time_stamp (Tree.date_time r.stamp)) r.stamp refl refl

-- THE MESSAGE

pub response_written : (t : Tree) (request : RequestOf) (r : ResponseOf) → SaysResponse t request r → IsWritableResponse r → SaysResponse (written_response r) request r
response_written t request r h w = record {
  header = record {
    message = is_response r;
    version = ap is_version (header_inside r) ∙ version_written (response_header_fields r) refl;
    count = count_written (response_header (written_response r)) (response_header t) (batch (written_response r)) (batch t) r.items h.header.count
        (each_length (λ place. SaysAnswer (slice_get request.items place)) (batch t) r.items h.items) (ap length (batch_written r) ∙ length-map r.items written_answer)
        (ap (at as_integer batch_count) (header_inside r) ∙ counted r);
    stamp = ap (at as_date time_stamp) (header_inside r) ∙ stamped r;
  };
  items =
      subst (λ (ts : List Tree). SaysEach (λ place. SaysAnswer (slice_get request.items place)) ts r.items) (sym (batch_written r))
      (each_written IsWritableAnswer (λ place. SaysAnswer (slice_get request.items place)) written_answer (λ place. answer_written (slice_get request.items place)) (batch t) r.items w h.items);
}
