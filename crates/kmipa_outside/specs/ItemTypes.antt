-- The types of items (KMIP 2.1, TTLV Encoding).
use Rattle.std.specs.Prelude.{ℕ, Bool, ◌==◌, List, codes}
use Rattle.kmipa_ttlv.specs.Tree.{Tree, structure, scalar}
use Rattle.kmipa_ttlv.specs.Tree
use Rattle.kmipa_outside.specs.declared.types.ItemType.{ItemType}
use Rattle.kmipa_outside.specs.declared.types.ItemType.TheVariants.{Structure, Integer, LongInteger, BigInteger, Enumeration, Boolean, Text, Bytes, DateTime, Interval, DateTimeExtended}

abbrev pub type_number : ItemType → ℕ
type_number Structure = 1
type_number Integer = 2
type_number LongInteger = 3
type_number BigInteger = 4
type_number Enumeration = 5
type_number Boolean = 6
type_number Text = 7
type_number Bytes = 8
type_number DateTime = 9
type_number Interval = 10
type_number DateTimeExtended = 11

abbrev pub type_name : ItemType → List ℕ
type_name Structure = codes "Structure"
type_name Integer = codes "Integer"
type_name LongInteger = codes "Long Integer"
type_name BigInteger = codes "Big Integer"
type_name Enumeration = codes "Enumeration"
type_name Boolean = codes "Boolean"
type_name Text = codes "Text String"
type_name Bytes = codes "Byte String"
type_name DateTime = codes "Date-Time"
type_name Interval = codes "Interval"
type_name DateTimeExtended = codes "Date-Time Extended"

-- the type of an item
abbrev pub item_type : Tree → ItemType
item_type (structure n ts) = Structure
item_type (scalar n (Tree.integer z)) = Integer
item_type (scalar n (Tree.long_integer z)) = LongInteger
item_type (scalar n (Tree.big_integer bs)) = BigInteger
item_type (scalar n (Tree.enumeration x)) = Enumeration
item_type (scalar n (Tree.boolean b)) = Boolean
item_type (scalar n (Tree.text bs)) = Text
item_type (scalar n (Tree.byte_string bs)) = Bytes
item_type (scalar n (Tree.date_time z)) = DateTime
item_type (scalar n (Tree.interval x)) = Interval
item_type (scalar n (Tree.date_time_extended z)) = DateTimeExtended

-- an item is of a type
abbrev pub is_of : ItemType → Tree → Bool
is_of wanted t = type_number (item_type t) == type_number wanted
