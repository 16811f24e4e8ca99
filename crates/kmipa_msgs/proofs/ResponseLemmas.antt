-- Responses are read.
use Rattle.std.proofs.Common.{◌≡◌, ℕ, ℤ, Bool, true, false, List, length, Result, Ok, Err, refl, sym, ap, ◌∙◌, inl, inr, ◌⊎◌}
use Rattle.std.specs.List.{slice_get}
use Rattle.kmipa_ttlv.specs.Tree.{Tree, Trees}
use Rattle.kmipa_attrs.specs.Fields.{every, at, inside, as_date}
use Rattle.kmipa_attrs.specs.Readings.{Reads, NeededFault, needed, both, map_ok}
use Rattle.kmipa_attrs.specs.Tags.{batch_item, response_header_tag, response_message, time_stamp}
use Rattle.kmipa_attrs.proofs.ReadingLemmas.{reads_both, reads_as, reads_needed}
use Rattle.kmipa_attrs.specs.declared.fields.Field.TheVariants.{There}
use Rattle.kmipa_msgs.specs.declared.kind.OutsideKind.{OutsideKind}
use Rattle.kmipa_msgs.specs.declared.kind.OutsideKind.TheVariants.{NotAMessage, Version, Count, Missing}
use Rattle.kmipa_msgs.specs.Kinds.{kind_number}
use Rattle.kmipa_msgs.specs.Messages.{RequestOf, AnswerOf}
use Rattle.kmipa_msgs.specs.Tables.{children}
use Rattle.kmipa_msgs.specs.Headers.{is_message, is_version, is_count, batch, gated, plain_rows}
use Rattle.kmipa_msgs.specs.Outside.{SaysEach, EachFault, ReadsAt, each_in, from_one, headed}
use Rattle.kmipa_msgs.specs.Replies.{SaysAnswer, AnswerFault, answer_in}
use Rattle.kmipa_msgs.specs.Responses.{response_header, SaysStamp, StampFault, SaysResponse, ResponseFault, stamp_said, stamp_in, response_at, response_in}
use Rattle.kmipa_msgs.specs.Responses.StampFault.{in_message, in_version, in_count, in_stamp}
use Rattle.kmipa_msgs.proofs.TableLemmas.{reads_test}
use Rattle.kmipa_msgs.proofs.OutsideLemmas.{reads_each, reads_headed}
use Rattle.kmipa_msgs.proofs.HeaderLemmas.{reads_gated}
use Rattle.kmipa_msgs.proofs.ReplyLemmas.{reads_answer}

abbrev RowFault : Trees → ℕ → OutsideKind → Type 0
RowFault hs n k = (((k ≡ Version) × (is_version hs ≡ false)) ⊎ ((k ≡ Count) × (is_count hs n ≡ false))) ⊎ NeededFault (at as_date time_stamp hs) Missing Missing k

abbrev RowSaid : Trees → ℕ → ℤ → Type 0
RowSaid hs n z = ((is_version hs ≡ true) × (is_count hs n ≡ true)) × (at as_date time_stamp hs ≡ There z)

reads_said : (hs : Trees) (n : ℕ) → Reads kind_number (RowSaid hs n) (RowFault hs n) (stamp_said hs n)
unfolding stamp_said
reads_said hs n =
    reads_as kind_number _ _ (RowSaid hs n) (RowFault hs n) (λ p. p.1) (both kind_number (plain_rows hs n) (needed (at as_date time_stamp hs) Missing Missing))
    (λ p s. s) (λ y s. (((tt, tt), y), s, refl)) (λ k w. w) (λ k w. w)
    (reads_both kind_number _ _ _ _ _ _ (reads_both kind_number _ _ _ _ _ _ (reads_test (is_version hs) Version) (reads_test (is_count hs n) Count)) (reads_needed kind_number Missing Missing (at as_date time_stamp hs)))

pub reads_stamp : (t : Tree) → Reads kind_number (SaysStamp t) (StampFault t) (stamp_in t)
unfolding stamp_in
reads_stamp t =
    let hs = response_header t in
    let n = length (batch t) in
    renamed_value (stamp_said hs n) (reads_gated (is_message response_message response_header_tag t) (RowSaid hs n) (RowFault hs n) (SaysStamp t) (StampFault t) (λ z. z) (stamp_said hs n)
    (λ e z s. record { message = e; version = s.0.0; count = s.0.1; stamp = s.1 })
    (λ z s. (z, s.message, ((s.version, s.count), s.stamp), refl))
    (λ k w. elim w [
      | inl c ↦ in_message c.0 c.1
      | inr a ↦ elim a [ inl b ↦ elim b [ inl c ↦ in_version c.0 c.1 | inr c ↦ in_count c.0 c.1 ] | inr c ↦ in_stamp c ]
    ])
    (λ k w. elim w [ in_message e b ↦ inl (e, b) | in_version e b ↦ inr (inl (inl (e, b))) | in_count e b ↦ inr (inl (inr (e, b))) | in_stamp b ↦ inr (inr b) ])
    (reads_said hs n))
  where
    renamed_value : (r : Result ℤ OutsideKind) → Reads kind_number (SaysStamp t) (StampFault t) (gated (is_message response_message response_header_tag t) (map_ok (λ z. z) r)) → Reads kind_number (SaysStamp t) (StampFault t) (gated (is_message response_message response_header_tag t) r)
    renamed_value (Ok x) h = h
    renamed_value (Err k) h = h

-- THE THEOREM: one response is said, or the message is outside there
pub reads_response : (t : Tree) (request : RequestOf) → ReadsAt (SaysResponse t request) (ResponseFault t request) (response_in t request)
unfolding response_in
reads_response t request =
    reads_headed response_at (SaysStamp t) (StampFault t) (SaysEach (λ place. SaysAnswer (slice_get request.items place)) (batch t)) (EachFault (λ place. AnswerFault (slice_get request.items place)) (batch t)) (SaysResponse t request)
    (stamp_in t) (each_in (λ place. answer_in (slice_get request.items place)) (batch t))
    (λ z xs a b. record { header = a; items = b })
    (λ r s. (r.stamp, r.items, s.header, s.items, refl))
    (reads_stamp t)
    (reads_each (λ place. SaysAnswer (slice_get request.items place)) (λ place. AnswerFault (slice_get request.items place)) (λ place. answer_in (slice_get request.items place))
    (λ place u. reads_answer (slice_get request.items place) u) (batch t))

-- no message, a header at fault, items at fault, and a response
answers_in : RequestOf → Trees → Result (List AnswerOf) (ℕ × OutsideKind)
answers_in request ts = each_in (λ place. answer_in (slice_get request.items place)) (every batch_item ts)

pub no_response : (t : Tree) (request : RequestOf) → is_message response_message response_header_tag t ≡ false → response_in t request ≡ Err (0, NotAMessage)
unfolding response_in stamp_in
no_response t request e = ap (λ (b : Bool). headed response_at (gated b (stamp_said (response_header t) (length (batch t)))) (each_in (λ place. answer_in (slice_get request.items place)) (batch t))) e

opened : (t : Tree) (request : RequestOf) (ts hs : Trees) (n : ℕ) (said : Result ℤ OutsideKind) → (is_message response_message response_header_tag t ≡ true) × (ts ≡ children t) × (hs ≡ inside response_header_tag (children t))
    → n ≡ length (every batch_item ts) → said ≡ stamp_said hs n → response_in t request ≡ headed response_at said (answers_in request ts)
unfolding response_in stamp_in answers_in
opened t request ts hs n said p ne se =
    ap (λ (b : Bool). headed response_at (gated b (stamp_said (response_header t) (length (batch t)))) (each_in (λ place. answer_in (slice_get request.items place)) (batch t))) p.0
    ∙ sym (λ i. headed response_at ((se ∙ (λ j. stamp_said (p.2 j) ((ne ∙ ap (λ (us : Trees). length (every batch_item us)) p.1) j))) i) (each_in (λ place. answer_in (slice_get request.items place)) (every batch_item (p.1 i))))

pub no_stamp : (t : Tree) (request : RequestOf) (ts hs : Trees) (n : ℕ) (k : OutsideKind) → (is_message response_message response_header_tag t ≡ true) × (ts ≡ children t) × (hs ≡ inside response_header_tag (children t))
    → n ≡ length (every batch_item ts) → Err k ≡ stamp_said hs n → response_in t request ≡ Err (0, k)
no_stamp t request ts hs n k p ne se = opened t request ts hs n (Err k) p ne se

pub whole_response : (t : Tree) (request : RequestOf) (ts hs : Trees) (n : ℕ) (z : ℤ) → (is_message response_message response_header_tag t ≡ true) × (ts ≡ children t) × (hs ≡ inside response_header_tag (children t))
    → n ≡ length (every batch_item ts) → Ok z ≡ stamp_said hs n
    → response_in t request ≡ map_ok (response_at z) (from_one (each_in (λ place. answer_in (slice_get request.items place)) (every batch_item ts)))
unfolding answers_in
whole_response t request ts hs n z p ne se = opened t request ts hs n (Ok z) p ne se
