-- Two messages are exactly one call.
use Rattle.std.proofs.Common.{◌≡◌, ℤ, Bool, true, false, List, Option, Some, None, Result, Ok, Err, refl, sym, ap, ◌∙◌, subst, if◌then◌else◌}
use Rattle.kmipa_ttlv.specs.Tree.{Tree}
use Rattle.kmipa_attrs.specs.Readings.{Reads, Says}
use Rattle.kmipa_msgs.specs.declared.kind.OutsideKind.{OutsideKind}
use Rattle.kmipa_msgs.specs.Kinds.{kind_number}
use Rattle.kmipa_msgs.specs.Headers.{batch}
use Rattle.kmipa_msgs.specs.Requests.{HeaderOf, SaysHeader, HeaderFault, header_in, is_without_order}
use Rattle.kmipa_msgs.specs.Responses.{SaysStamp, StampFault, stamp_in}
use Rattle.kmipa_msgs.proofs.RequestLemmas.{reads_header}
use Rattle.kmipa_msgs.proofs.ResponseLemmas.{reads_stamp}
use Rattle.kmipa_passed.specs.declared.passed.Outcome.{Outcome}
use Rattle.kmipa_places.specs.Outcomes.{some_unread}
use Rattle.kmipa_places.specs.Places.{PlaceOf}
use Rattle.kmipa_places.specs.Readings.{outcomes_in, places_in, read_by, both_read_in, call_by, call_in}
use Rattle.kmipa_places.specs.Calls.{ReadOf, CallOf, unread, read, IsRead, IsCall}
use Rattle.kmipa_places.specs.Unread.{IsUnread, is_among, left}
use Rattle.kmipa_places.specs.Unread.IsUnread.{by_witness, no_request, in_request, no_response, in_response, in_status}
use Rattle.kmipa_places.proofs.ListLemmas.{all_outcomes, some_outcome_unread, no_outcome_unread, one_list, are_places, one_places, some_place_unread}

-- ---- what is read is the call

-- no condition holds
can_be_read : (t u : Tree) (asides : List ℤ) (h : HeaderOf) (z : ℤ) (os : List Outcome) → is_among asides 0 ≡ false → Says (SaysHeader t) (HeaderFault t) h → Says (SaysStamp u) (StampFault u) z
    → outcomes_in (batch u) ≡ Some os → IsUnread (Some t) (Some u) asides → ⊥
can_be_read t u asides h z os b hs zs oe w = elim w [
  | by_witness e ↦ (let bad : false ≡ true = sym b ∙ e in cc)
  | no_request e ↦ cc
  | in_request v e k f ↦ (let same : t ≡ v = cc in let F : Tree → Type 0 = λ x. HeaderFault x k in hs.right k (subst F (sym same) f))
  | no_response e ↦ cc
  | in_response v e k f ↦ (let same : u ≡ v = cc in let F : Tree → Type 0 = λ x. StampFault x k in zs.right k (subst F (sym same) f))
  | in_status v e f ↦ (let same : u ≡ v = cc in let bad : false ≡ true = sym (no_outcome_unread (batch u) os oe) ∙ ap (λ (x : Tree). some_unread (batch x)) same ∙ f in cc)
]

-- the call of two messages, by what is read of each
abbrev CallBy : Tree → Tree → List ℤ → Result HeaderOf OutsideKind → Result ℤ OutsideKind → Option (List Outcome) → Option (List PlaceOf) → CallOf
CallBy t u asides h z os ps = call_by (read_by t u h z os ps) (left (Some t) (Some u))

by_readings : (t u : Tree) (asides : List ℤ) (h : Result HeaderOf OutsideKind) (z : Result ℤ OutsideKind) (os : Option (List Outcome)) (ps : Option (List PlaceOf)) → is_among asides 0 ≡ false
    → Reads kind_number (SaysHeader t) (HeaderFault t) h → Reads kind_number (SaysStamp u) (StampFault u) z → outcomes_in (batch u) ≡ os
    → places_in (is_without_order t) asides 1 (batch t) (batch u) ≡ ps → IsCall (Some t) (Some u) asides (CallBy t u asides h z os ps)
by_readings t u asides (Err k) z os ps b hs zs oe pe = (in_request t refl k hs.here, refl)
by_readings t u asides (Ok h) (Err k) os ps b hs zs oe pe = (in_response u refl k zs.here, refl)
by_readings t u asides (Ok h) (Ok z) None ps b hs zs oe pe = (in_status u refl (some_outcome_unread (batch u) oe), refl)
by_readings t u asides (Ok h) (Ok z) (Some os) None b hs zs oe pe = (in_status u refl (some_place_unread (is_without_order t) asides 1 (batch t) (batch u) pe), refl)
by_readings t u asides (Ok h) (Ok z) (Some os) (Some ps) b hs zs oe pe = record {
  readable = can_be_read t u asides h z os b hs zs oe;
  header = hs.said;
  pending = refl;
  stamp = zs.said;
  asks = refl;
  outcomes = all_outcomes (batch u) os oe;
  refused = refl;
  places = are_places (is_without_order t) asides 1 (batch t) (batch u) ps pe;
  hidden = refl;
}

by_messages : (request response : Option Tree) (asides : List ℤ) → is_among asides 0 ≡ false → IsCall request response asides (call_by (both_read_in request response asides) (left request response))
by_messages None response asides b = (no_request refl, refl)
by_messages (Some t) None asides b = (no_response refl, refl)
by_messages (Some t) (Some u) asides b =
    by_readings t u asides (header_in t) (stamp_in u) (outcomes_in (batch u)) (places_in (is_without_order t) asides 1 (batch t) (batch u)) b (reads_header t) (reads_stamp u) refl refl

pub is_call : (request response : Option Tree) (asides : List ℤ) → IsCall request response asides (call_in request response asides)
is_call request response asides = by (is_among asides 0) refl
  where
    by : (b : Bool) → is_among asides 0 ≡ b → IsCall request response asides (call_by (if b then None else both_read_in request response asides) (left request response))
    by true e = (by_witness e, refl)
    by false e = by_messages request response asides e

-- ---- and nothing else is

one_header : (t u : Tree) (asides : List ℤ) (g h : HeaderOf) (r : Result HeaderOf OutsideKind) → (IsUnread (Some t) (Some u) asides → ⊥) → Reads kind_number (SaysHeader t) (HeaderFault t) r
    → SaysHeader t g → SaysHeader t h → g ≡ h
one_header t u asides g h (Err k) n rs a b = absurd (n (in_request t refl k rs.here))
one_header t u asides g h (Ok x) n rs a b = rs.only g a ∙ sym (rs.only h b)

one_stamp : (t u : Tree) (asides : List ℤ) (y z : ℤ) (r : Result ℤ OutsideKind) → (IsUnread (Some t) (Some u) asides → ⊥) → Reads kind_number (SaysStamp u) (StampFault u) r
    → SaysStamp u y → SaysStamp u z → y ≡ z
one_stamp t u asides y z (Err k) n rs a b = absurd (n (in_response u refl k rs.here))
one_stamp t u asides y z (Ok x) n rs a b = rs.only y a ∙ sym (rs.only z b)

one_read : (t u : Tree) (asides : List ℤ) (c d : ReadOf) → IsRead t u asides c → IsRead t u asides d → c ≡ d
one_read t u asides c d a b =
    let header = one_header t u asides (record { option = c.option; ordered = c.ordered }) (record { option = d.option; ordered = d.ordered }) (header_in t) a.readable (reads_header t) a.header b.header in
    let stamp = one_stamp t u asides c.stamp d.stamp (stamp_in u) a.readable (reads_stamp u) a.stamp b.stamp in
    let pending = a.pending ∙ sym b.pending in
    let asks = a.asks ∙ sym b.asks in
    let outcomes = one_list c.outcomes d.outcomes (sym a.outcomes ∙ b.outcomes) in
    let refused = a.refused ∙ sym b.refused in
    let places = one_places (is_without_order t) asides 1 (batch t) (batch u) c.places d.places a.places b.places in
    let hidden = a.hidden ∙ sym b.hidden in
    (λ i. record {
      option = (header i).option;
      ordered = (header i).ordered;
      pending = pending i;
      stamp = stamp i;
      asks = asks i;
      outcomes = outcomes i;
      refused = refused i;
      places = places i;
      hidden = hidden i;
    })

pub one_call : (request response : Option Tree) (asides : List ℤ) (c d : CallOf) → IsCall request response asides c → IsCall request response asides d → c ≡ d
one_call request response asides (unread x) (unread y) a b = ap unread (a.1 ∙ sym b.1)
one_call (Some t) (Some u) asides (unread x) (read d) a b = absurd (b.readable a.0)
one_call (Some t) None asides (unread x) (read d) a b = absurd b
one_call None response asides (unread x) (read d) a b = absurd b
one_call (Some t) (Some u) asides (read c) (unread y) a b = absurd (a.readable b.0)
one_call (Some t) None asides (read c) (unread y) a b = absurd a
one_call None response asides (read c) (unread y) a b = absurd a
one_call (Some t) (Some u) asides (read c) (read d) a b = ap read (one_read t u asides c d a b)
one_call (Some t) None asides (read c) (read d) a b = absurd a
one_call None response asides (read c) (read d) a b = absurd a
