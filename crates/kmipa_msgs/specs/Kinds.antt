-- The kinds of what is outside the profile.
use Rattle.std.specs.Prelude.{ℕ, List, codes}
use Rattle.kmipa_msgs.specs.declared.kind.OutsideKind.{OutsideKind}
use Rattle.kmipa_msgs.specs.declared.kind.OutsideKind.TheVariants.{NotAMessage, Version, Count, Operation, ObjectType, IdentifierForm, Wrapped, Format, Missing, Attribute, Pending, Disagree, Unordered}

abbrev pub kind_number : OutsideKind → ℕ
kind_number NotAMessage = 1
kind_number Version = 2
kind_number Count = 3
kind_number Operation = 4
kind_number ObjectType = 5
kind_number IdentifierForm = 6
kind_number Wrapped = 7
kind_number Format = 8
kind_number Missing = 9
kind_number Attribute = 10
kind_number Pending = 11
kind_number Disagree = 12
kind_number Unordered = 13

abbrev pub kind_name : OutsideKind → List ℕ
kind_name NotAMessage = codes "NotAMessage"
kind_name Version = codes "Version"
kind_name Count = codes "Count"
kind_name Operation = codes "Operation"
kind_name ObjectType = codes "ObjectType"
kind_name IdentifierForm = codes "IdentifierForm"
kind_name Wrapped = codes "Wrapped"
kind_name Format = codes "Format"
kind_name Missing = codes "Missing"
kind_name Attribute = codes "Attribute"
kind_name Pending = codes "Pending"
kind_name Disagree = codes "Disagree"
kind_name Unordered = codes "Unordered"
