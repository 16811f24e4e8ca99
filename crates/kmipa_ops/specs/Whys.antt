-- The reasons why an answer is impossible: their order, their numbers and their names (profile).
use Rattle.std.specs.Prelude.{ℕ, List, [], ◌∷◌, codes}
use Rattle.kmipa_ops.specs.declared.why.Why.{Why}
use Rattle.kmipa_ops.specs.declared.why.Why.TheVariants.{EarlierCallLate, StampRunsBack, BatchShape, OperationDiffers, NoSuchObject, WrongState, IdentifierTaken, NameTaken, BytesDiffer, LengthImpossible, AttributeDiffers, AttributeMissing, ListedWrongly, ListedTooFew, ReasonUnfounded, EchoDiffers, NotVisible}

-- The lowest first; but NotVisible, the highest, stands ahead of all: no item has it by itself, since who sees which object is judged apart.
abbrev pub whys : List Why
whys =
    NotVisible ∷ EarlierCallLate ∷ StampRunsBack ∷ BatchShape ∷ OperationDiffers ∷ NoSuchObject ∷ WrongState ∷ IdentifierTaken ∷ NameTaken ∷ BytesDiffer
    ∷ LengthImpossible ∷ AttributeDiffers ∷ AttributeMissing ∷ ListedWrongly ∷ ListedTooFew ∷ ReasonUnfounded ∷ EchoDiffers ∷ []

abbrev pub why_number : Why → ℕ
why_number EarlierCallLate = 1
why_number StampRunsBack = 2
why_number BatchShape = 3
why_number OperationDiffers = 4
why_number NoSuchObject = 5
why_number WrongState = 6
why_number IdentifierTaken = 7
why_number NameTaken = 8
why_number BytesDiffer = 9
why_number LengthImpossible = 10
why_number AttributeDiffers = 11
why_number AttributeMissing = 12
why_number ListedWrongly = 13
why_number ListedTooFew = 14
why_number ReasonUnfounded = 15
why_number EchoDiffers = 16
why_number NotVisible = 17

abbrev pub why_name : Why → List ℕ
why_name EarlierCallLate = codes "EarlierCallLate"
why_name StampRunsBack = codes "StampRunsBack"
why_name BatchShape = codes "BatchShape"
why_name OperationDiffers = codes "OperationDiffers"
why_name NoSuchObject = codes "NoSuchObject"
why_name WrongState = codes "WrongState"
why_name IdentifierTaken = codes "IdentifierTaken"
why_name NameTaken = codes "NameTaken"
why_name BytesDiffer = codes "BytesDiffer"
why_name LengthImpossible = codes "LengthImpossible"
why_name AttributeDiffers = codes "AttributeDiffers"
why_name AttributeMissing = codes "AttributeMissing"
why_name ListedWrongly = codes "ListedWrongly"
why_name ListedTooFew = codes "ListedTooFew"
why_name ReasonUnfounded = codes "ReasonUnfounded"
why_name EchoDiffers = codes "EchoDiffers"
why_name NotVisible = codes "NotVisible"
