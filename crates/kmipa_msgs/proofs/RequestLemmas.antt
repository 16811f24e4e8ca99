-- Requests are read.
use Rattle.std.proofs.Common.{◌≡◌, ℕ, Bool, true, false, List, length, Option, Some, None, Result, Ok, Err, refl, sym, ap, ◌∙◌, inl, inr, ◌⊎◌}
use Rattle.kmipa_ttlv.specs.Tree.{Tree, Trees}
use Rattle.kmipa_attrs.specs.Fields.{every, at, inside, as_enumeration, as_boolean}
use Rattle.kmipa_attrs.specs.Readings.{Reads, IsWrong, both, map_ok}
use Rattle.kmipa_attrs.specs.Tags.{batch_error_continuation_option, batch_item, batch_order_option, request_header_tag, request_message}
use Rattle.kmipa_attrs.specs.declared.fields.Field.{Field}
use Rattle.kmipa_attrs.specs.declared.fields.Field.TheVariants.{Absent, Wrong, There}
use Rattle.kmipa_attrs.proofs.ReadingLemmas.{reads_both, reads_as}
use Rattle.kmipa_msgs.specs.declared.kind.OutsideKind.{OutsideKind}
use Rattle.kmipa_msgs.specs.declared.kind.OutsideKind.TheVariants.{NotAMessage, Version, Count, Missing}
use Rattle.kmipa_msgs.specs.declared.request.BatchOption.{BatchOption}
use Rattle.kmipa_msgs.specs.Kinds.{kind_number}
use Rattle.kmipa_msgs.specs.Numbers.{option_of}
use Rattle.kmipa_msgs.specs.Messages.{AskOf, RequestOf}
use Rattle.kmipa_msgs.specs.Tables.{children, of_table}
use Rattle.kmipa_msgs.specs.Headers.{is_message, is_version, is_count, batch, gated, plain_rows}
use Rattle.kmipa_msgs.specs.Outside.{SaysEach, EachFault, ReadsAt, each_in, from_one, headed}
use Rattle.kmipa_msgs.specs.Asks.{SaysAsk, ItemFault, item_in}
use Rattle.kmipa_msgs.specs.Requests.{request_header, SaysOption, OptionFault, SaysOrder, SaysHeader, HeaderFault, header_of, SaysRequest, RequestFault, option_in, order_in, lacks_order, is_without_order, said_rows, order_said, header_at, header_in, request_at, request_in}
use Rattle.kmipa_msgs.specs.Requests.HeaderFault.{in_message, in_version, in_count, in_option, in_ordered}
use Rattle.kmipa_msgs.proofs.TableLemmas.{same_kind, reads_test}
use Rattle.kmipa_msgs.proofs.OutsideLemmas.{reads_each, reads_headed}
use Rattle.kmipa_msgs.proofs.HeaderLemmas.{reads_gated}
use Rattle.kmipa_msgs.proofs.AskLemmas.{reads_item}

option_at : (n : ℕ) (o : Option BatchOption) → option_of n ≡ o → Reads kind_number (SaysOption (There n)) (OptionFault (There n)) (of_table o Missing)
option_at n None e = record { here = (refl, e); least = λ j lt w. same_kind j Missing lt w.0 }
option_at n (Some x) e = record {
  said = e;
  only = λ y s. let h : Some y ≡ Some x = sym s ∙ e in cc;
  right = λ k w. let h : None ≡ Some x = sym w.1 ∙ e in cc;
}

reads_option : (f : Field ℕ) → Reads kind_number (SaysOption f) (OptionFault f) (option_in f)
reads_option Absent = record { said = refl; only = λ y e. e; right = λ k w. w }
reads_option Wrong = record { here = refl; least = λ j lt w. same_kind j Missing lt w }
reads_option (There n) = option_at n (option_of n) refl

reads_order : (f : Field Bool) → Reads kind_number (SaysOrder f) (λ k. (k ≡ Missing) × IsWrong f) (order_in f)
reads_order Absent = record { said = refl; only = λ y e. e; right = λ k h. h.1 }
reads_order Wrong = record { here = (refl, tt); least = λ j lt h. same_kind j Missing lt h.0 }
reads_order (There b) = record { said = refl; only = λ y e. e; right = λ k h. h.1 }

abbrev RowFault : Trees → ℕ → OutsideKind → Type 0
RowFault hs n k = (((k ≡ Version) × (is_version hs ≡ false)) ⊎ ((k ≡ Count) × (is_count hs n ≡ false)))
    ⊎ (OptionFault (at as_enumeration batch_error_continuation_option hs) k ⊎ ((k ≡ Missing) × IsWrong (at as_boolean batch_order_option hs)))

abbrev RowSaid : Trees → ℕ → BatchOption × Bool → Type 0
RowSaid hs n p = ((is_version hs ≡ true) × (is_count hs n ≡ true)) × (SaysOption (at as_enumeration batch_error_continuation_option hs) p.0 × SaysOrder (at as_boolean batch_order_option hs) p.1)

reads_said : (hs : Trees) (n : ℕ) → Reads kind_number (RowSaid hs n) (RowFault hs n) (order_said hs n)
unfolding order_said
reads_said hs n =
    let order = at as_boolean batch_order_option hs in
    reads_as kind_number _ _ (RowSaid hs n) (RowFault hs n) (λ p. p.1) (both kind_number (plain_rows hs n) (said_rows hs))
    (λ p s. s) (λ y s. (((tt, tt), y), s, refl)) (λ k w. w) (λ k w. w)
    (reads_both kind_number _ _ _ _ _ _
    (reads_both kind_number _ _ _ _ _ _ (reads_test (is_version hs) Version) (reads_test (is_count hs n) Count))
    (reads_both kind_number _ _ _ _ _ _ (reads_option (at as_enumeration batch_error_continuation_option hs)) (reads_order order)))

pub reads_header : (t : Tree) → Reads kind_number (SaysHeader t) (HeaderFault t) (header_in t)
unfolding header_in
reads_header t =
    let hs = request_header t in
    let n = length (batch t) in
    reads_gated (is_message request_message request_header_tag t) (RowSaid hs n) (RowFault hs n) (SaysHeader t) (HeaderFault t) header_at (order_said hs n)
    (λ e p s. record { message = e; version = s.0.0; count = s.0.1; option = s.1.0; ordered = s.1.1 })
    (λ h s. ((h.option, h.ordered), s.message, ((s.version, s.count), (s.option, s.ordered)), refl))
    (λ k w. elim w [
      | inl c ↦ in_message c.0 c.1
      | inr a ↦ elim a [
        | inl b ↦ elim b [ inl c ↦ in_version c.0 c.1 | inr c ↦ in_count c.0 c.1 ]
        | inr b ↦ elim b [ inl c ↦ in_option c | inr c ↦ in_ordered c.0 c.1 ]
      ]
    ])
    (λ k w. elim w [
      | in_message e b ↦ inl (e, b)
      | in_version e b ↦ inr (inl (inl (e, b)))
      | in_count e b ↦ inr (inl (inr (e, b)))
      | in_option b ↦ inr (inr (inl b))
      | in_ordered e b ↦ inr (inr (inr (e, b)))
    ])
    (reads_said hs n)

-- THE THEOREM: one request is said, or the message is outside there
pub reads_request : (t : Tree) → ReadsAt (SaysRequest t) (RequestFault t) (request_in t)
unfolding request_in
reads_request t =
    reads_headed request_at (SaysHeader t) (HeaderFault t) (SaysEach (λ place. SaysAsk) (batch t)) (EachFault (λ place. ItemFault (is_without_order t)) (batch t)) (SaysRequest t) (header_in t)
    (each_in (λ place. item_in (is_without_order t)) (batch t))
    (λ h xs a b. record { header = a; items = b })
    (λ r s. (header_of r, r.items, s.header, s.items, refl))
    (reads_header t)
    (reads_each (λ place. SaysAsk) (λ place. ItemFault (is_without_order t)) (λ place. item_in (is_without_order t)) (λ place u. reads_item (is_without_order t) u) (batch t))

-- a header as the program has it
abbrev pub said_part : (Unit {0} × Unit {0}) × (BatchOption × Bool) → BatchOption × Bool
said_part p = p.1

pub seen_order : (hs : Trees) (n : ℕ) (rows : Result ((Unit {0} × Unit {0}) × (BatchOption × Bool)) OutsideKind)
    → rows ≡ both kind_number (plain_rows hs n) (said_rows hs) → map_ok said_part rows ≡ order_said hs n
unfolding order_said
seen_order hs n rows e = ap (map_ok (λ p. p.1)) e

-- no message, a header at fault, items at fault, and a request
pub no_request : (t : Tree) → is_message request_message request_header_tag t ≡ false → request_in t ≡ Err (0, NotAMessage)
unfolding request_in header_in
no_request t e =
    ap (λ (b : Bool). headed request_at (gated b (map_ok header_at (order_said (request_header t) (length (batch t))))) (each_in (λ place. item_in (is_without_order t)) (batch t))) e

items_in : Bool → Trees → Result (List AskOf) (ℕ × OutsideKind)
items_in loose ts = each_in (λ place. item_in loose) (every batch_item ts)

request_of_parts : Bool → Trees → Result (BatchOption × Bool) OutsideKind → Result RequestOf (ℕ × OutsideKind)
request_of_parts loose ts said = headed request_at (map_ok header_at said) (items_in loose ts)

-- the children of a message, and of its header
abbrev Parts : Tree → Trees → Trees → Type 0
Parts t ts hs = (is_message request_message request_header_tag t ≡ true) × (ts ≡ children t) × (hs ≡ inside request_header_tag (children t))

opened : (t : Tree) (ts hs : Trees) (n : ℕ) (loose : Bool) (said : Result (BatchOption × Bool) OutsideKind) → Parts t ts hs
    → n ≡ length (every batch_item ts) → loose ≡ lacks_order (at as_boolean batch_order_option hs) n → said ≡ order_said hs n → request_in t ≡ request_of_parts loose ts said
unfolding request_in header_in request_of_parts items_in
opened t ts hs n loose said p ne le se =
    ap (λ (b : Bool). headed request_at (gated b (map_ok header_at (order_said (request_header t) (length (batch t))))) (each_in (λ place. item_in (is_without_order t)) (batch t))) p.0
    ∙ sym (λ i. headed request_at (map_ok header_at ((se ∙ (λ j. order_said (p.2 j) ((ne ∙ ap (λ (us : Trees). length (every batch_item us)) p.1) j))) i))
    (each_in (λ place. item_in ((le ∙ (λ j. lacks_order (at as_boolean batch_order_option (p.2 j)) ((ne ∙ ap (λ (us : Trees). length (every batch_item us)) p.1) j))) i)) (every batch_item (p.1 i))))

pub no_header : (t : Tree) (ts hs : Trees) (n : ℕ) (k : OutsideKind) → Parts t ts hs → n ≡ length (every batch_item ts) → Err k ≡ order_said hs n → request_in t ≡ Err (0, k)
unfolding request_of_parts
no_header t ts hs n k p ne se = opened t ts hs n (lacks_order (at as_boolean batch_order_option hs) n) (Err k) p ne refl se

pub whole_request : (t : Tree) (ts hs : Trees) (n : ℕ) (loose : Bool) (q : BatchOption × Bool) → Parts t ts hs → n ≡ length (every batch_item ts)
    → loose ≡ lacks_order (at as_boolean batch_order_option hs) n → Ok q ≡ order_said hs n
    → request_in t ≡ map_ok (request_at (header_at q)) (from_one (each_in (λ place. item_in loose) (every batch_item ts)))
unfolding request_of_parts items_in
whole_request t ts hs n loose q p ne le se = opened t ts hs n loose (Ok q) p ne le se

-- whether there is an order follows from what the header says
order_of : Result (BatchOption × Bool) OutsideKind → Bool
order_of (Ok q) = q.1
order_of (Err k) = true

loose_rows : {A : Type 0} (plain : Result A OutsideKind) (option : Result BatchOption OutsideKind) (order : Field Bool) (n : ℕ) (q : BatchOption × Bool)
    → Ok q ≡ map_ok (λ p. p.1) (both kind_number plain (both kind_number option (order_in order))) → lacks_order (There q.1) n ≡ lacks_order order n
unfolding order_of
loose_rows (Err k) option order n q e = absurd cc
loose_rows (Ok x) (Err k) order n q e = absurd cc
loose_rows (Ok x) (Ok y) Absent n q e = ap (λ (r : Result (BatchOption × Bool) OutsideKind). lacks_order (There (order_of r)) n) e
loose_rows (Ok x) (Ok y) Wrong n q e = absurd cc
loose_rows (Ok x) (Ok y) (There b) n q e = ap (λ (r : Result (BatchOption × Bool) OutsideKind). lacks_order (There (order_of r)) n) e

pub loose_as_said : (hs : Trees) (n : ℕ) (q : BatchOption × Bool) → Ok q ≡ order_said hs n → lacks_order (There q.1) n ≡ lacks_order (at as_boolean batch_order_option hs) n
unfolding order_said
loose_as_said hs n q e = loose_rows (plain_rows hs n) (option_in (at as_enumeration batch_error_continuation_option hs)) (at as_boolean batch_order_option hs) n q e
