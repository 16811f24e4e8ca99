-- Request Message { Request Header, Batch Items } (KMIP 2.1, section 8).
use Rattle.std.specs.Prelude.{◌≡◌, ℕ, Bool, true, false, nat_lt, List, length, Some, None, Result, Ok, Err}
use Rattle.kmipa_ttlv.specs.Tree.{Tree, Trees}
use Rattle.kmipa_attrs.specs.Fields.{at, inside, as_enumeration, as_boolean}
use Rattle.kmipa_attrs.specs.Readings.{IsWrong, both, map_ok}
use Rattle.kmipa_attrs.specs.Tags.{batch_error_continuation_option, batch_order_option, request_header_tag, request_message}
use Rattle.kmipa_attrs.specs.declared.fields.Field.{Field}
use Rattle.kmipa_attrs.specs.declared.fields.Field.TheVariants.{Absent, Wrong, There}
use Rattle.kmipa_msgs.specs.declared.fault.ReadFault.{ReadFault}
use Rattle.kmipa_msgs.specs.declared.kind.OutsideKind.{OutsideKind}
use Rattle.kmipa_msgs.specs.declared.kind.OutsideKind.TheVariants.{NotAMessage, Version, Count, Missing}
use Rattle.kmipa_msgs.specs.declared.request.BatchOption.{BatchOption}
use Rattle.kmipa_msgs.specs.declared.request.BatchOption.TheVariants.{Stop}
use Rattle.kmipa_msgs.specs.declared.request.Request.{Request}
use Rattle.kmipa_msgs.specs.Kinds.{kind_number}
use Rattle.kmipa_msgs.specs.Numbers.{option_of}
use Rattle.kmipa_msgs.specs.Messages.{AskOf, RequestOf, request_of}
use Rattle.kmipa_msgs.specs.Tables.{children, of_table}
use Rattle.kmipa_msgs.specs.Headers.{is_message, is_version, is_count, batch, gated, plain_rows}
use Rattle.kmipa_msgs.specs.Outside.{SaysEach, EachFault, ByItem, TellsSaid, each_in, headed}
use Rattle.kmipa_msgs.specs.Asks.{SaysAsk, ItemFault, item_in}

abbrev pub request_header : Tree → Trees
request_header t = inside request_header_tag (children t)

-- an absent Batch Error Continuation Option means Stop
abbrev pub SaysOption : Field ℕ → BatchOption → Type 0
SaysOption Absent option = option ≡ Stop
SaysOption Wrong option = ⊥
SaysOption (There n) option = option_of n ≡ Some option

abbrev pub OptionFault : Field ℕ → OutsideKind → Type 0
OptionFault Absent k = ⊥
OptionFault Wrong k = k ≡ Missing
OptionFault (There n) k = (k ≡ Missing) × (option_of n ≡ None)

-- an absent Batch Order Option is read as true
abbrev pub SaysOrder : Field Bool → Bool → Type 0
SaysOrder Absent ordered = ordered ≡ true
SaysOrder Wrong ordered = ⊥
SaysOrder (There b) ordered = ordered ≡ b

-- what a request's header says
pub record HeaderOf : Type 0 where
  pub option : BatchOption
  pub ordered : Bool

pub record SaysHeader (t : Tree) (h : HeaderOf) : Type 0 where
  pub message : is_message request_message request_header_tag t ≡ true
  pub version : is_version (request_header t) ≡ true
  pub count : is_count (request_header t) (length (batch t)) ≡ true
  pub option : SaysOption (at as_enumeration batch_error_continuation_option (request_header t)) h.option
  pub ordered : SaysOrder (at as_boolean batch_order_option (request_header t)) h.ordered

pub data HeaderFault (t : Tree) (k : OutsideKind) : Type 0 where
  in_message : k ≡ NotAMessage → is_message request_message request_header_tag t ≡ false → HeaderFault t k
  in_version : k ≡ Version → is_version (request_header t) ≡ false → HeaderFault t k
  in_count : k ≡ Count → is_count (request_header t) (length (batch t)) ≡ false → HeaderFault t k
  in_option : OptionFault (at as_enumeration batch_error_continuation_option (request_header t)) k → HeaderFault t k
  in_ordered : k ≡ Missing → IsWrong (at as_boolean batch_order_option (request_header t)) → HeaderFault t k

abbrev pub header_of : RequestOf → HeaderOf
header_of r = record { option = r.option; ordered = r.ordered }

-- a request without order: its Batch Order Option is False, and it has more than one item
abbrev pub lacks_order : Field Bool → ℕ → Bool
lacks_order Absent n = false
lacks_order Wrong n = false
lacks_order (There true) n = false
lacks_order (There false) n = nat_lt 1 n

abbrev pub is_without_order : Tree → Bool
is_without_order t = lacks_order (at as_boolean batch_order_option (request_header t)) (length (batch t))

-- THE DEFINITIONS

-- the item says this request
pub record SaysRequest (t : Tree) (r : RequestOf) : Type 0 where
  pub header : SaysHeader t (header_of r)
  pub items : SaysEach (λ place. SaysAsk) (batch t) r.items

-- a condition of this kind holds at this item, 0 being the message itself
abbrev pub RequestFault : Tree → ℕ → OutsideKind → Type 0
RequestFault t = ByItem (HeaderFault t) (EachFault (λ place. ItemFault (is_without_order t)) (batch t))

-- what the reader of requests tells
abbrev pub TellsRequest : Tree → Result Request ReadFault → Type 0
TellsRequest t result = TellsSaid request_of (SaysRequest t) (RequestFault t) result

-- THE READINGS

abbrev pub option_in : Field ℕ → Result BatchOption OutsideKind
option_in Absent = Ok Stop
option_in Wrong = Err Missing
option_in (There n) = of_table (option_of n) Missing

abbrev pub order_in : Field Bool → Result Bool OutsideKind
order_in Absent = Ok true
order_in Wrong = Err Missing
order_in (There b) = Ok b

abbrev pub said_rows : Trees → Result (BatchOption × Bool) OutsideKind
said_rows hs = both kind_number (option_in (at as_enumeration batch_error_continuation_option hs)) (order_in (at as_boolean batch_order_option hs))

-- of a header before so many items
unfoldable pub order_said : Trees → ℕ → Result (BatchOption × Bool) OutsideKind
order_said hs n = map_ok (λ p. p.1) (both kind_number (plain_rows hs n) (said_rows hs))

abbrev pub header_at : BatchOption × Bool → HeaderOf
header_at p = record { option = p.0; ordered = p.1 }

unfoldable pub header_in : Tree → Result HeaderOf OutsideKind
header_in t = gated (is_message request_message request_header_tag t) (map_ok header_at (order_said (request_header t) (length (batch t))))

abbrev pub request_at : HeaderOf → List AskOf → RequestOf
request_at h items = record { option = h.option; ordered = h.ordered; items = items }

unfoldable pub request_in : Tree → Result RequestOf (ℕ × OutsideKind)
request_in t = headed request_at (header_in t) (each_in (λ place. item_in (is_without_order t)) (batch t))
