-- The kinds of faults of a file. No kind has the number 6.
use Rattle.std.specs.Prelude.{ℕ, List, codes}
use Rattle.kmipa_record.specs.declared.fault.RecordKind.{RecordKind}
use Rattle.kmipa_record.specs.declared.fault.RecordKind.TheVariants.{Ttlv, Header, Number, EndWithoutBegin, SecondEnd, Identifier, Entry, Calls, Device, Memory, Seal, NoClose, Order}

abbrev pub kind_number : RecordKind → ℕ
kind_number (Ttlv flaw) = 1
kind_number Header = 2
kind_number Number = 3
kind_number EndWithoutBegin = 4
kind_number SecondEnd = 5
kind_number Identifier = 7
kind_number Entry = 8
kind_number Calls = 9
kind_number Device = 10
kind_number Memory = 11
kind_number Seal = 12
kind_number NoClose = 13
kind_number Order = 14

abbrev pub kind_name : RecordKind → List ℕ
kind_name (Ttlv flaw) = codes "Ttlv"
kind_name Header = codes "Header"
kind_name Number = codes "Number"
kind_name EndWithoutBegin = codes "EndWithoutBegin"
kind_name SecondEnd = codes "SecondEnd"
kind_name Identifier = codes "Identifier"
kind_name Entry = codes "Entry"
kind_name Calls = codes "Calls"
kind_name Device = codes "Device"
kind_name Memory = codes "Memory"
kind_name Seal = codes "Seal"
kind_name NoClose = codes "NoClose"
kind_name Order = codes "Order"

-- one fact where the device failed, one where memory ran out, and another at each other kind
abbrev pub ByCause : RecordKind → Type 0 → Type 0 → Type 0 → Type 0
ByCause Device D M P = D
ByCause Memory D M P = M
ByCause (Ttlv flaw) D M P = P
ByCause Header D M P = P
ByCause Number D M P = P
ByCause EndWithoutBegin D M P = P
ByCause SecondEnd D M P = P
ByCause Identifier D M P = P
ByCause Entry D M P = P
ByCause Calls D M P = P
ByCause Seal D M P = P
ByCause NoClose D M P = P
ByCause Order D M P = P
