-- A CALL THAT CAN'T BE READ, and what it leaves (profile).
use Rattle.std.specs.Prelude.{◌≡◌, ℕ, ℤ, pos, negsuc, Bool, true, false, ◌==◌, ◌&&◌, ◌||◌, if◌then◌else◌, List, [], ◌∷◌, ◌++◌, length, Option, Some, None, is_none}
use Rattle.std.specs.List.{list_all, list_any}
use Rattle.kmipa_ttlv.specs.Tree.{Tree, scalar}
use Rattle.kmipa_ttlv.specs.Tree
use Rattle.kmipa_attrs.specs.Fields.{first, inside}
use Rattle.kmipa_attrs.specs.Tags.{request_header_tag, request_message, request_payload, response_header_tag, response_message, response_payload}
use Rattle.kmipa_msgs.specs.declared.kind.OutsideKind.{OutsideKind}
use Rattle.kmipa_msgs.specs.Tables.{children}
use Rattle.kmipa_msgs.specs.Headers.{batch, is_count, is_message}
use Rattle.kmipa_msgs.specs.Requests.{HeaderFault, request_header}
use Rattle.kmipa_msgs.specs.Responses.{StampFault}
use Rattle.kmipa_passed.specs.Identifiers.{AskedOf, placeholder, named, unnamed, identifier_asked}
use Rattle.kmipa_passed.specs.Leaving.{AsideOf, these, all, over}
use Rattle.kmipa_passed.specs.Passed.{AskOf, request_says}
use Rattle.kmipa_passed.specs.declared.sorts.Sort.{Sort}
use Rattle.kmipa_passed.specs.declared.sorts.Sort.TheVariants.{Looks, Changes, Makes, MayMake, EndsJudging}
use Rattle.kmipa_places.specs.Outcomes.{has_failed, is_pending, outcome_at, some_unread}
use Rattle.kmipa_places.specs.Places.{number_in, operation_at}

-- ---- what a witness sets aside: the places, counted from 1, and 0 is the whole call

abbrev pub is_place : ℤ → ℕ → Bool
is_place (pos m) n = m == n
is_place (negsuc m) n = false

abbrev pub is_among : List ℤ → ℕ → Bool
is_among asides n = list_any (λ (z : ℤ). is_place z n) asides

-- ---- which calls can't be read

-- Its messages, none where the bytes aren't exactly one item; and what its turn sets aside. A condition holds at item 0 of its request or its
-- response, or the status of an answer can't be read, or the witness sets the whole call aside.
pub data IsUnread (request response : Option Tree) (asides : List ℤ) : Type 0 where
  by_witness : is_among asides 0 ≡ true → IsUnread request response asides
  no_request : request ≡ None → IsUnread request response asides
  in_request : (t : Tree) → request ≡ Some t → (k : OutsideKind) → HeaderFault t k → IsUnread request response asides
  no_response : response ≡ None → IsUnread request response asides
  in_response : (u : Tree) → response ≡ Some u → (k : OutsideKind) → StampFault u k → IsUnread request response asides
  in_status : (u : Tree) → response ≡ Some u → some_unread (batch u) ≡ true → IsUnread request response asides

-- ---- what it leaves

-- the items of a message, in whatever version: none can be told where it is no message, or its Batch Count isn't theirs
abbrev pub counted : ℕ → ℕ → Tree → Option (List Tree)
counted message header t = if is_message message header t && is_count (inside header (children t)) (length (batch t)) then Some (batch t) else None

abbrev pub asked : Option Tree → Option (List Tree)
asked None = None
asked (Some t) = counted request_message request_header_tag t

abbrev pub answered : Option Tree → Option (List Tree)
answered None = None
answered (Some u) = counted response_message response_header_tag u

-- the header of a request allows an answer that is still to come: Asynchronous Indicator is True, or the Enumeration 1 or 2
abbrev pub asynchronous_indicator : ℕ
asynchronous_indicator = 0x42_0007

abbrev pub is_allowing : Option Tree → Bool
is_allowing (Some (scalar n (Tree.boolean b))) = b
is_allowing (Some (scalar n (Tree.enumeration x))) = (x == 1) || (x == 2)
is_allowing t = false

abbrev pub allows_pending : Tree → Bool
allows_pending t = is_allowing (first asynchronous_indicator (request_header t))

abbrev pub may_be_pending : Option Tree → Bool
may_be_pending None = false
may_be_pending (Some t) = allows_pending t

-- each answer failed
abbrev pub all_failed : Option (List Tree) → Bool
all_failed None = false
all_failed (Some us) = list_all (λ (u : Tree). has_failed (outcome_at u)) us

-- some answer is still to come
abbrev pub some_pending : Option (List Tree) → Bool
some_pending None = false
some_pending (Some us) = list_any (λ (u : Tree). is_pending (outcome_at u)) us

-- what an item asks for, and the object that its answer shows first
abbrev pub item_says : Tree → AskOf
item_says t = request_says (number_in (operation_at t)) (inside request_payload (children t))

abbrev pub shows : Tree → AskedOf
shows u = identifier_asked (inside response_payload (children u))

abbrev pub is_end : Sort → Bool
is_end EndsJudging = true
is_end sort = false

-- some item ends judging
abbrev pub some_end : List Tree → Bool
some_end ts = list_any (λ (t : Tree). is_end (item_says t).sort) ts

-- the object, where it is told
abbrev pub only_named : AskedOf → Option (List (List ℕ))
only_named (named id) = Some (id ∷ [])
only_named placeholder = None
only_named unnamed = None

-- these names, where the object is among them
abbrev pub names_with : AskedOf → List (List ℕ) → Option (List (List ℕ))
names_with (named id) names = Some names
names_with placeholder names = None
names_with unnamed names = None

-- which objects an item may have changed or made: none where nobody can tell
abbrev pub touched_by : Sort → AskOf → AskedOf → Option (List (List ℕ))
touched_by Looks ask shown = Some []
touched_by Changes ask shown = names_with ask.asked ask.names
touched_by Makes ask shown = only_named shown
touched_by MayMake ask shown = None
touched_by EndsJudging ask shown = Some []

abbrev pub touched : Tree → AskedOf → Option (List (List ℕ))
touched t shown = touched_by (item_says t).sort (item_says t) shown

abbrev pub together : Option (List (List ℕ)) → Option (List (List ℕ)) → Option (List (List ℕ))
together (Some ids) (Some others) = Some (ids ++ others)
together ids others = None

abbrev pub shown_first : Option Tree → AskedOf
shown_first None = placeholder
shown_first (Some u) = shows u

-- the items of a request, each with the answer at its place
abbrev pub touched_in : List Tree → List Tree → Option (List (List ℕ))
touched_in [] us = Some []
touched_in (t ∷ ts) [] = together (touched t placeholder) (touched_in ts [])
touched_in (t ∷ ts) (u ∷ us) = together (touched t (shows u)) (touched_in ts us)

abbrev pub aside_by : Option (List (List ℕ)) → AsideOf
aside_by None = all
aside_by (Some ids) = these ids

abbrev pub or_nothing : Option (List Tree) → List Tree
or_nothing None = []
or_nothing (Some us) = us

-- by the items of its request, whether that allows an answer to come, and the answers
abbrev pub left_by : Option (List Tree) → Bool → Option (List Tree) → AsideOf
left_by None pending us = all
left_by (Some ts) pending us =
    if some_end ts || some_pending us || (is_none us && pending) then over else aside_by (touched_in ts (or_nothing us))

-- WHAT IT LEAVES: nothing where each answer failed
abbrev pub left : Option Tree → Option Tree → AsideOf
left request response =
    if all_failed (answered response) then these [] else left_by (asked request) (may_be_pending request) (answered response)
