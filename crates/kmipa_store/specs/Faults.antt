-- The numbers and the names of a ledger's faults.
use Rattle.std.specs.Prelude.{ℕ, List, codes}
use Rattle.kmipa_store.specs.declared.fault.StoreFault.{StoreFault}
use Rattle.kmipa_store.specs.declared.fault.StoreFault.TheVariants.{IdentifierTaken, BytesDiffer, LengthImpossible, Memory}

abbrev pub fault_number : StoreFault → ℕ
fault_number IdentifierTaken = 1
fault_number BytesDiffer = 2
fault_number LengthImpossible = 3
fault_number Memory = 4

abbrev pub fault_name : StoreFault → List ℕ
fault_name IdentifierTaken = codes "IdentifierTaken"
fault_name BytesDiffer = codes "BytesDiffer"
fault_name LengthImpossible = codes "LengthImpossible"
fault_name Memory = codes "Memory"
