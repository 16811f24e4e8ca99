-- Messages ahead of their items.
use Rattle.std.proofs.Common.{◌≡◌, ℕ, ℤ, Bool, true, false, length, Result, Ok, Err, sym, ap, ◌∙◌}
use Rattle.kmipa_ttlv.specs.Tree.{Tree, Trees}
use Rattle.kmipa_ttlv.specs.ViewTree.{view_trees}
use Rattle.kmipa_attrs.specs.Fields.{at, every, first, inside, as_boolean}
use Rattle.kmipa_attrs.specs.Readings.{map_ok}
use Rattle.kmipa_attrs.specs.Tags.{batch_item, batch_order_option, request_header_tag, request_message, response_header_tag, response_message}
use Rattle.kmipa_attrs.specs.declared.fields.Field.TheVariants.{There}
use Rattle.kmipa_msgs.specs.declared.kind.OutsideKind.{OutsideKind}
use Rattle.kmipa_msgs.specs.declared.kind.OutsideKind.TheVariants.{NotAMessage}
use Rattle.kmipa_msgs.specs.declared.request.BatchOption.{BatchOption}
use Rattle.kmipa_msgs.specs.Tables.{children}
use Rattle.kmipa_msgs.specs.Headers.{is_message, batch, gated}
use Rattle.kmipa_msgs.specs.Requests.{header_at, header_in, lacks_order, order_said, request_header}
use Rattle.kmipa_msgs.specs.Responses.{response_header, stamp_in, stamp_said}
use Rattle.kmipa_msgs.proofs.RequestLemmas.{loose_as_said}
use Rattle.kmipa_places.specs.Readings.{HasAnswered, HasFault, HasOpened}
use Rattle.kmipa_places.specs.Unread.{asynchronous_indicator, is_allowing}
use Rattle.kmipa_places.specs.declared.opened.Answered.{Answered}
use Rattle.kmipa_places.specs.declared.opened.Asked.{Asked}

-- ---- requests

pub no_request : (t : Tree) → is_message request_message request_header_tag t ≡ false → HasFault (header_in t)
unfolding header_in
no_request t e = record { kind = NotAMessage; is = ap (λ (b : Bool). gated b (map_ok header_at (order_said (request_header t) (length (batch t))))) e }

-- the children of a request, those of its header, and how many items there are
abbrev pub Parts : Tree → Trees → Trees → ℕ → Type 0
Parts t ts hs n = ((is_message request_message request_header_tag t ≡ true) × (ts ≡ children t) × (hs ≡ inside request_header_tag (children t))) × (n ≡ length (every batch_item ts))

counted : (t : Tree) (ts : Trees) (n : ℕ) → ts ≡ children t → n ≡ length (every batch_item ts) → n ≡ length (batch t)
counted t ts n e ne = ne ∙ ap (λ (us : Trees). length (every batch_item us)) e

header_said : (t : Tree) (ts hs : Trees) (n : ℕ) (r : Result (BatchOption × Bool) OutsideKind) → Parts t ts hs n → r ≡ order_said hs n → header_in t ≡ map_ok header_at r
unfolding header_in
header_said t ts hs n r p e =
    ap (λ (b : Bool). gated b (map_ok header_at (order_said (request_header t) (length (batch t))))) p.0.0
    ∙ sym (λ i. map_ok header_at ((e ∙ (λ j. order_said (p.0.2 j) (counted t ts n p.0.1 p.1 j))) i))

pub fault_in_request : (t : Tree) (ts hs : Trees) (n : ℕ) (k : OutsideKind) → Parts t ts hs n → Err k ≡ order_said hs n → HasFault (header_in t)
fault_in_request t ts hs n k p e = record { kind = k; is = header_said t ts hs n (Err k) p e }

pub opened_request : (t : Tree) (hs : Trees) (o : Asked) → Parts t (view_trees o.children) hs o.count → Ok (o.option, o.ordered) ≡ order_said hs o.count
    → o.unordered ≡ lacks_order (There o.ordered) o.count → o.pending ≡ is_allowing (first asynchronous_indicator hs) → HasOpened t o
opened_request t hs o p e u f = record {
  header = header_said t (view_trees o.children) hs o.count (Ok (o.option, o.ordered)) p e;
  unordered = u ∙ loose_as_said hs o.count (o.option, o.ordered) e ∙ (λ i. lacks_order (at as_boolean batch_order_option (p.0.2 i)) (counted t (view_trees o.children) o.count p.0.1 p.1 i));
  pending = f ∙ ap (λ (us : Trees). is_allowing (first asynchronous_indicator us)) p.0.2;
  count = counted t (view_trees o.children) o.count p.0.1 p.1;
  items = ap (every batch_item) p.0.1;
}

-- ---- responses

pub no_response : (u : Tree) → is_message response_message response_header_tag u ≡ false → HasFault (stamp_in u)
unfolding stamp_in
no_response u e = record { kind = NotAMessage; is = ap (λ (b : Bool). gated b (stamp_said (response_header u) (length (batch u)))) e }

abbrev pub AnsweredParts : Tree → Trees → Trees → ℕ → Type 0
AnsweredParts u us hs n = ((is_message response_message response_header_tag u ≡ true) × (us ≡ children u) × (hs ≡ inside response_header_tag (children u))) × (n ≡ length (every batch_item us))

stamp_at : (u : Tree) (us hs : Trees) (n : ℕ) (r : Result ℤ OutsideKind) → AnsweredParts u us hs n → r ≡ stamp_said hs n → stamp_in u ≡ r
unfolding stamp_in
stamp_at u us hs n r p e =
    ap (λ (b : Bool). gated b (stamp_said (response_header u) (length (batch u)))) p.0.0
    ∙ sym (e ∙ (λ j. stamp_said (p.0.2 j) (counted u us n p.0.1 p.1 j)))

pub fault_in_response : (u : Tree) (us hs : Trees) (n : ℕ) (k : OutsideKind) → AnsweredParts u us hs n → Err k ≡ stamp_said hs n → HasFault (stamp_in u)
fault_in_response u us hs n k p e = record { kind = k; is = stamp_at u us hs n (Err k) p e }

pub opened_response : (u : Tree) (hs : Trees) (o : Answered) → AnsweredParts u (view_trees o.children) hs o.count → Ok o.stamp ≡ stamp_said hs o.count → HasAnswered u o
opened_response u hs o p e = record {
  stamp = stamp_at u (view_trees o.children) hs o.count (Ok o.stamp) p e;
  count = counted u (view_trees o.children) o.count p.0.1 p.1;
  items = ap (every batch_item) p.0.1;
}
