-- Response Message { Response Header, Batch Items } (KMIP 2.1, section 8), read against its request.
use Rattle.std.specs.Prelude.{◌≡◌, ℕ, ℤ, true, false, List, length, Result}
use Rattle.std.specs.List.{slice_get}
use Rattle.kmipa_ttlv.specs.Tree.{Tree, Trees}
use Rattle.kmipa_attrs.specs.Fields.{at, inside, as_date}
use Rattle.kmipa_attrs.specs.Readings.{NeededFault, needed, both, map_ok}
use Rattle.kmipa_attrs.specs.Tags.{response_header_tag, response_message, time_stamp}
use Rattle.kmipa_attrs.specs.declared.fields.Field.TheVariants.{There}
use Rattle.kmipa_msgs.specs.declared.fault.ReadFault.{ReadFault}
use Rattle.kmipa_msgs.specs.declared.kind.OutsideKind.{OutsideKind}
use Rattle.kmipa_msgs.specs.declared.kind.OutsideKind.TheVariants.{NotAMessage, Version, Count, Missing}
use Rattle.kmipa_msgs.specs.declared.response.Response.{Response}
use Rattle.kmipa_msgs.specs.Kinds.{kind_number}
use Rattle.kmipa_msgs.specs.Messages.{RequestOf, AnswerOf, ResponseOf, response_of}
use Rattle.kmipa_msgs.specs.Tables.{children}
use Rattle.kmipa_msgs.specs.Headers.{is_message, is_version, is_count, batch, gated, plain_rows}
use Rattle.kmipa_msgs.specs.Outside.{SaysEach, EachFault, ByItem, TellsSaid, each_in, headed}
use Rattle.kmipa_msgs.specs.Replies.{SaysAnswer, AnswerFault, answer_in}

abbrev pub response_header : Tree → Trees
response_header t = inside response_header_tag (children t)

pub record SaysStamp (t : Tree) (z : ℤ) : Type 0 where
  pub message : is_message response_message response_header_tag t ≡ true
  pub version : is_version (response_header t) ≡ true
  pub count : is_count (response_header t) (length (batch t)) ≡ true
  pub stamp : at as_date time_stamp (response_header t) ≡ There z

pub data StampFault (t : Tree) (k : OutsideKind) : Type 0 where
  in_message : k ≡ NotAMessage → is_message response_message response_header_tag t ≡ false → StampFault t k
  in_version : k ≡ Version → is_version (response_header t) ≡ false → StampFault t k
  in_count : k ≡ Count → is_count (response_header t) (length (batch t)) ≡ false → StampFault t k
  in_stamp : NeededFault (at as_date time_stamp (response_header t)) Missing Missing k → StampFault t k

-- THE DEFINITIONS

-- the item says this response to this request: each answer stands at the place of the request's item
pub record SaysResponse (t : Tree) (request : RequestOf) (r : ResponseOf) : Type 0 where
  pub header : SaysStamp t r.stamp
  pub items : SaysEach (λ place. SaysAnswer (slice_get request.items place)) (batch t) r.items

-- a condition of this kind holds at this item, 0 being the message itself
abbrev pub ResponseFault : Tree → RequestOf → ℕ → OutsideKind → Type 0
ResponseFault t request = ByItem (StampFault t) (EachFault (λ place. AnswerFault (slice_get request.items place)) (batch t))

-- what the reader of responses tells
abbrev pub TellsResponse : Tree → RequestOf → Result Response ReadFault → Type 0
TellsResponse t request result = TellsSaid response_of (SaysResponse t request) (ResponseFault t request) result

-- THE READINGS

-- of a header before so many items
unfoldable pub stamp_said : Trees → ℕ → Result ℤ OutsideKind
stamp_said hs n = map_ok (λ p. p.1) (both kind_number (plain_rows hs n) (needed (at as_date time_stamp hs) Missing Missing))

unfoldable pub stamp_in : Tree → Result ℤ OutsideKind
stamp_in t = gated (is_message response_message response_header_tag t) (stamp_said (response_header t) (length (batch t)))

abbrev pub response_at : ℤ → List AnswerOf → ResponseOf
response_at stamp items = record { stamp = stamp; items = items }

unfoldable pub response_in : Tree → RequestOf → Result ResponseOf (ℕ × OutsideKind)
response_in t request = headed response_at (stamp_in t) (each_in (λ place. answer_in (slice_get request.items place)) (batch t))
