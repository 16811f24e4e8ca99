-- What `show` and `write` tell of an input, and of the digits that are to be written.
use Rattle.std.specs.Prelude.{◌≡◌, ◌⊎◌, ◌-◌, ◌==◌, ◌&&◌, ℕ, Bool, false, not, List, [], ◌∷◌, ◌++◌, Contains, length, filter, codes, IsTrue, Result, Ok, Err}
use Rattle.hex.specs.Hex.{decode_of, is_hex_digit}
use Rattle.hex.specs.declared.error.FromHexError.{FromHexError}
use Rattle.kmipa_ttlv.specs.Tree.{Tree, forest}
use Rattle.kmipa_ttlv.specs.Stream.{Begins}
use Rattle.kmipa_ttlv.specs.Items.{AreItems}
use Rattle.kmipa_ttlv.specs.Reading.{TellsKnown}
use Rattle.kmipa_ttlv.specs.Written.{spelling}
use Rattle.kmipa_ttlv.specs.declared.fault.FaultKind.{FaultKind}
use Rattle.kmipa_ttlv.specs.declared.fault.FaultKind.TheVariants.{Truncated, UnknownType, BadLength, BadBoolean, BadText, Overrun, TooDeep, TooLong, Device, Memory}
use Rattle.kmipa_ttlv.specs.declared.fault.TtlvFault.{TtlvFault}
use Rattle.kmipa_record.specs.declared.fault.RecordKind.{RecordKind}
use Rattle.kmipa_record.specs.declared.fault.RecordKind.TheVariants as record_kind
use Rattle.kmipa_runs.specs.Lines.{line, device_line, record_status, record_text}
use Rattle.kmipa_runs.specs.Shown.{ShowsItems}
use Rattle.kmipa_jobs.specs.Statuses.{IsSilent}
use Rattle.kmipa_jobs.specs.declared.options.ShowOptions.{ShowOptions}
use Rattle.kmipa_jobs.specs.declared.status.Status.{Status}
use Rattle.kmipa_jobs.specs.declared.status.Status.TheVariants as status

-- a fault of items as a fault of a file of them
abbrev pub as_record : FaultKind → RecordKind
as_record Device = record_kind.Device
as_record Memory = record_kind.Memory
as_record Truncated = record_kind.Ttlv Truncated
as_record UnknownType = record_kind.Ttlv UnknownType
as_record BadLength = record_kind.Ttlv BadLength
as_record BadBoolean = record_kind.Ttlv BadBoolean
as_record BadText = record_kind.Ttlv BadText
as_record Overrun = record_kind.Ttlv Overrun
as_record TooDeep = record_kind.Ttlv TooDeep
as_record TooLong = record_kind.Ttlv TooLong

-- the line of a fault of the input; nothing is said where memory ran out
abbrev pub flaw_text : TtlvFault → List ℕ
flaw_text f = record_text (codes "input") f.offset (as_record f.kind)

abbrev pub flaw_status : TtlvFault → Status
flaw_status f = record_status (as_record f.kind)

-- The fault is that of the first bytes that are no item, after all items before them; or the input is failed, or memory ran out, after items.
pub record TellsFirst (bytes : List ℕ) (failed : Bool) (f : TtlvFault) : Type 0 where
  pub given : List Tree
  pub rest : List ℕ
  pub begins : Begins given bytes rest
  pub tells : TellsKnown (length bytes - length rest) rest failed f

-- the bytes are items one after the other, and these are their lines, with what the options ask for
pub record AreShown (options : ShowOptions) (bytes lines : List ℕ) : Type 0 where
  pub items : List Tree
  pub are : AreItems items bytes
  pub shown : ShowsItems options 0 (forest (λ t. t) items) lines

-- What `show` prints of a file at a status: the lines of its items, or the line of its first fault alone.
abbrev pub PrintsShown : ShowOptions → List ℕ → Bool → Status → List ℕ → Type 0
PrintsShown options file failed said lines = ((said ≡ status.Done) × AreShown options file lines)
    ⊎ ((f : TtlvFault) × TellsFirst file failed f × (said ≡ flaw_status f) × (lines ≡ flaw_text f))

-- the spellings of items, one after the other, with zeros for padding
abbrev pub joined : List Tree → List ℕ
joined [] = []
joined (t ∷ ts) = spelling t ++ joined ts

-- not a space, a tab, a CR or an LF
abbrev pub is_kept : ℕ → Bool
is_kept b = not (b == 32) && not (b == 9) && not (b == 13) && not (b == 10)

-- a byte of the text is neither white space nor a digit, so that it spells no bytes, whatever follows
abbrev pub HasOther : List ℕ → Type 0
HasOther text = (b : ℕ) × Contains text b × IsTrue (is_kept b) × (is_hex_digit b ≡ false)

-- the bytes that the digits of a text spell, white space left out
abbrev pub bytes_of : List ℕ → Result (List ℕ) FromHexError
bytes_of text = decode_of (filter is_kept text)

-- the bytes are items one after the other, and this is their joined spelling
pub record AreWritten (bytes made : List ℕ) : Type 0 where
  pub items : List Tree
  pub are : AreItems items bytes
  pub joins : made ≡ joined items

abbrev pub refused_line : List ℕ
refused_line = line (codes "hex: refused" ∷ [])

-- What is made and printed of these bytes at a status: their items' joined spellings; or nothing, and the line of their first fault, or no line
-- where memory ran out.
abbrev pub MakesOrTells : List ℕ → Status → List ℕ → List ℕ → Type 0
MakesOrTells bytes said lines made = ((said ≡ status.Done) × (lines ≡ []) × AreWritten bytes made)
    ⊎ ((made ≡ []) × (((f : TtlvFault) × TellsFirst bytes false f × (said ≡ flaw_status f) × (lines ≡ flaw_text f)) ⊎ IsSilent said lines))

-- What `write` makes and prints of a text at a status: what is made and printed of the bytes that its digits spell; or nothing is made, and it is reported
-- that they are no digits, or that the input is failed, or nothing, where memory ran out.
pub data Writes (text : List ℕ) (failed : Bool) (said : Status) (lines made : List ℕ) : Type 0 where
  digits : (bytes : List ℕ) → bytes_of text ≡ Ok bytes → MakesOrTells bytes said lines made → Writes text failed said lines made
  no_digits : (e : FromHexError) → bytes_of text ≡ Err e → said ≡ status.Refused → lines ≡ refused_line → made ≡ [] → Writes text failed said lines made
  no_device : IsTrue failed → said ≡ status.Failed → lines ≡ device_line → made ≡ [] → Writes text failed said lines made
  no_memory : IsSilent said lines → made ≡ [] → Writes text failed said lines made
