-- What `show` prints of items: each on a line of its own, and below it the lines of its children, one level deeper. With the notes the name of an
-- Enumeration's number stands after it, and with the messages the items of a message stand below the Byte String that is one.
use Rattle.std.specs.Prelude.{◌≡◌, ◌⊎◌, ℕ, ◌+◌, ◌*◌, ◌==◌, ◌||◌, nat_lt, ℤ, Bool, true, false, if◌then◌else◌, List, [], ◌∷◌, ◌++◌, replicate, codes, Option, Some, None}
use Rattle.std.specs.List.{flat_map}
use Rattle.std.specs.Fmt.{decimal, signed_decimal}
use Rattle.byteorder.specs.Endian.{big_bytes}
use Rattle.hex.specs.Hex.{encode_lower, encode_upper}
use Rattle.kmipa_ttlv.specs.Tree.{Tree, Trees, Scalar, structure, scalar, none, more, integer, long_integer, big_integer, enumeration, boolean, text, byte_string, date_time, interval, date_time_extended}
use Rattle.kmipa_ttlv.specs.Spelling.{Spells}
use Rattle.kmipa_ttlv.specs.declared.view.ViewValue.{ViewValue}
use Rattle.kmipa_ttlv.specs.declared.view.ViewValue.TheVariants.{Structure, Integer, LongInteger, BigInteger, Enumeration, Boolean, Text, Bytes, DateTime, Interval, DateTimeExtended}
use Rattle.kmipa_attrs.specs.Tags.{request_message, response_message, tag_name_of}
use Rattle.kmipa_runs.specs.Dates.{HasDate, ReadsAsSecond}
use Rattle.kmipa_runs.specs.Notes.{number_name_of}
use Rattle.kmipa_jobs.specs.declared.options.ShowOptions.{ShowOptions}

-- a byte of a text: as it is where it is printable ASCII but a quote or a backslash, else in hexadecimal
abbrev pub escaped : ℕ → List ℕ
escaped b = if nat_lt b 32 || (nat_lt 126 b || (b == 34 || b == 92)) then codes "\\x" ++ encode_lower (b ∷ []) else b ∷ []

-- a text between double quotes
abbrev pub quoted : List ℕ → List ℕ
quoted bytes = 34 ∷ flat_map escaped bytes ++ 34 ∷ []

abbrev pub truth_name : Bool → List ℕ
truth_name true = codes "true"
truth_name false = codes "false"

-- the number of a moment's second, and after it its date, where the calendar has one
pub record ShowsMoment (second : ℤ) (value : List ℕ) : Type 0 where
  pub dated : HasDate second → (date : List ℕ) × ReadsAsSecond date second × (value ≡ signed_decimal second ++ 32 ∷ date)
  pub undated : ¬ (HasDate second) → value ≡ signed_decimal second

-- the text of a value
abbrev pub ShowsScalar : Scalar → List ℕ → Type 0
ShowsScalar (integer z) value = value ≡ signed_decimal z
ShowsScalar (long_integer z) value = value ≡ signed_decimal z
ShowsScalar (big_integer bs) value = value ≡ encode_lower bs
ShowsScalar (enumeration n) value = value ≡ encode_upper (big_bytes 4 n)
ShowsScalar (boolean b) value = value ≡ truth_name b
ShowsScalar (text bs) value = value ≡ quoted bs
ShowsScalar (byte_string bs) value = value ≡ encode_lower bs
ShowsScalar (date_time z) value = ShowsMoment z value
ShowsScalar (interval n) value = value ≡ decimal n
ShowsScalar (date_time_extended z) value = value ≡ signed_decimal z

-- the text of an item's value; a structure has none
abbrev pub ShowsValue : Tree → List ℕ → Type 0
ShowsValue (structure tag ts) value = value ≡ []
ShowsValue (scalar tag s) value = ShowsScalar s value

-- a value that has no children
abbrev pub IsPlain : ViewValue → Type 0
IsPlain (Structure children) = ⊥
IsPlain (Integer z) = Unit {0}
IsPlain (LongInteger z) = Unit {0}
IsPlain (BigInteger bs) = Unit {0}
IsPlain (Enumeration x) = Unit {0}
IsPlain (Boolean b) = Unit {0}
IsPlain (Text s) = Unit {0}
IsPlain (Bytes bs) = Unit {0}
IsPlain (DateTime z) = Unit {0}
IsPlain (Interval x) = Unit {0}
IsPlain (DateTimeExtended z) = Unit {0}

-- the name of an item's type
abbrev pub kind_name : Tree → List ℕ
kind_name (structure tag ts) = codes "Structure"
kind_name (scalar tag (integer z)) = codes "Integer"
kind_name (scalar tag (long_integer z)) = codes "LongInteger"
kind_name (scalar tag (big_integer bs)) = codes "BigInteger"
kind_name (scalar tag (enumeration n)) = codes "Enumeration"
kind_name (scalar tag (boolean b)) = codes "Boolean"
kind_name (scalar tag (text bs)) = codes "Text"
kind_name (scalar tag (byte_string bs)) = codes "Bytes"
kind_name (scalar tag (date_time z)) = codes "DateTime"
kind_name (scalar tag (interval n)) = codes "Interval"
kind_name (scalar tag (date_time_extended z)) = codes "DateTimeExtended"

-- a line up to the value: two spaces a level, the tag as six digits, its name, and the type
abbrev pub head : ℕ → ℕ → List ℕ → List ℕ
head level tag kind = replicate (2 * level) 32 ++ encode_upper (big_bytes 3 tag) ++ 32 ∷ tag_name_of tag ++ 32 ∷ kind

-- a name after a space, in parentheses
abbrev pub noted : Option (List ℕ) → List ℕ
noted None = []
noted (Some name) = codes " (" ++ name ++ codes ")"

-- what stands after the value of an item: with the notes the name of an Enumeration's number, where the standard names it
abbrev pub note : Bool → Tree → List ℕ
note true (scalar tag (enumeration n)) = noted (number_name_of tag n)
note notes t = []

-- the line of an item without children
abbrev pub ShowsLine : Bool → ℕ → Tree → List ℕ → Type 0
ShowsLine notes level (structure tag ts) line = ⊥
ShowsLine notes level (scalar tag s) line = (value : List ℕ) × ShowsScalar s value
    × (line ≡ head level tag (kind_name (scalar tag s)) ++ codes " " ++ value ++ note notes (scalar tag s) ++ codes "\n")

abbrev mutual
  -- The lines of an item at this level. What stands below the line of an item without children, at its level, is said by `Below`.
  pub ShowsItemOver : (ℕ → Scalar → List ℕ → Type 0) → Bool → ℕ → Tree → List ℕ → Type 0
  ShowsItemOver Below notes level (structure tag ts) lines =
      (below : List ℕ) × ShowsItemsOver Below notes (level + 1) ts below × (lines ≡ head level tag (codes "Structure") ++ codes "\n" ++ below)
  ShowsItemOver Below notes level (scalar tag s) lines =
      (line : List ℕ) × (below : List ℕ) × ShowsLine notes level (scalar tag s) line × Below level s below × (lines ≡ line ++ below)

  -- the lines of items that stand one after the other
  pub ShowsItemsOver : (ℕ → Scalar → List ℕ → Type 0) → Bool → ℕ → Trees → List ℕ → Type 0
  ShowsItemsOver Below notes level none lines = lines ≡ []
  ShowsItemsOver Below notes level (more t ts) lines =
      (first : List ℕ) × (others : List ℕ) × ShowsItemOver Below notes level t first × ShowsItemsOver Below notes level ts others × (lines ≡ first ++ others)

-- it is a Request Message or a Response Message
abbrev pub IsMessage : Tree → Type 0
IsMessage (structure tag ts) = (tag ≡ request_message) ⊎ (tag ≡ response_message)
IsMessage (scalar tag s) = ⊥

-- the bytes are a whole message
pub record AreMessage (m : Tree) (bytes : List ℕ) : Type 0 where
  pub spelled : Spells m bytes
  pub message : IsMessage m

-- nothing stands below the line of an item without children
abbrev pub NothingBelow : ℕ → Scalar → List ℕ → Type 0
NothingBelow level s below = below ≡ []

-- Below a Byte String that is a whole message stand that message's lines, one level deeper; below all else, as below the message's own Byte Strings,
-- stands nothing.
abbrev pub MessageBelow : Bool → ℕ → Scalar → List ℕ → Type 0
MessageBelow notes level (byte_string bs) below =
    ((m : Tree) × AreMessage m bs × ShowsItemOver NothingBelow notes (level + 1) m below) ⊎ (((m : Tree) → AreMessage m bs → ⊥) × (below ≡ []))
MessageBelow notes level s below = below ≡ []

abbrev pub ShowsBelow : Bool → Bool → ℕ → Scalar → List ℕ → Type 0
ShowsBelow true notes level s below = MessageBelow notes level s below
ShowsBelow false notes level s below = below ≡ []

-- the lines of an item at this level, with what these options ask for
abbrev pub ShowsItem : ShowOptions → ℕ → Tree → List ℕ → Type 0
ShowsItem options level t lines = ShowsItemOver (ShowsBelow options.messages options.notes) options.notes level t lines

-- the lines of items that stand one after the other
abbrev pub ShowsItems : ShowOptions → ℕ → Trees → List ℕ → Type 0
ShowsItems options level ts lines = ShowsItemsOver (ShowsBelow options.messages options.notes) options.notes level ts lines
