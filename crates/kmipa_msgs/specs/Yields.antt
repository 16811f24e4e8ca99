-- What the readers of a part of a message tell of its reading. Not promised: only the readers' own proofs speak of it.
use Rattle.std.specs.Prelude.{◌≡◌, ℕ, Result, Ok, Err}
use Rattle.kmipa_attrs.specs.Readings.{both}
use Rattle.kmipa_attrs.specs.declared.fault.AttrFault.{AttrFault}
use Rattle.kmipa_attrs.specs.declared.fault.AttrFault
use Rattle.kmipa_msgs.specs.declared.fault.ReadFault.{ReadFault}
use Rattle.kmipa_msgs.specs.declared.fault.ReadFault
use Rattle.kmipa_msgs.specs.declared.kind.OutsideKind.{OutsideKind}
use Rattle.kmipa_msgs.specs.declared.kind.OutsideKind.TheVariants.{Attribute}
use Rattle.kmipa_msgs.specs.declared.reading.unread.Unread.{Unread}
use Rattle.kmipa_msgs.specs.declared.reading.unread.Unread.TheVariants.{Outside, Memory}
use Rattle.kmipa_msgs.specs.Kinds.{kind_number}

-- the part's meaning is read, or it is outside for this reason; want of memory tells nothing of it
abbrev pub Yields : {X M : Type 0} → (X → M) → Result X Unread → Result M OutsideKind → Type 0
Yields meaning (Ok x) r = Ok (meaning x) ≡ r
Yields meaning (Err (Outside k)) r = Err k ≡ r
Yields meaning (Err Memory) r = Unit {0}

-- the fault of a message in which a part of this item is not read
abbrev pub fault_at : ℕ → Unread → ReadFault
fault_at item (Outside k) = ReadFault.TheVariants.Outside (record { item = item; kind = k })
fault_at item Memory = ReadFault.TheVariants.Memory

-- why attributes that say no set are not read
abbrev pub attributes_unread : AttrFault → Unread
attributes_unread AttrFault.TheVariants.Memory = Memory
attributes_unread _ = Outside Attribute

-- a reading that wants no memory
abbrev pub carried : {X : Type 0} → Result X OutsideKind → Result X Unread
carried (Ok x) = Ok x
carried (Err k) = Err (Outside k)

-- both values, or the lower kind; want of memory stands before either
abbrev pub both_read : {A B : Type 0} → Result A OutsideKind → Result B Unread → Result (A × B) Unread
both_read a (Ok y) = carried (both kind_number a (Ok y))
both_read a (Err (Outside k)) = carried (both kind_number a (Err k))
both_read a (Err Memory) = Err Memory
