-- The messages that are said by what is written of them: those that hold nothing of what is read over.
use Rattle.std.specs.Prelude.{◌≡◌, false, All, [], Some, None}
use Rattle.kmipa_msgs.specs.declared.response.Status.TheVariants.{Undone}
use Rattle.kmipa_msgs.specs.Messages.{AskedOf, idles, does_other, locates, gets_attributes, RequestOf, PayloadOf, located, changed, AnswerOf, ResponseOf}

-- an operation whose payloads are read, no Locate of which something isn't judged, and no Get Attributes with other items
abbrev pub IsWritableAsked : AskedOf → Type 0
IsWritableAsked (locates q) = q.is_loose ≡ false
IsWritableAsked (gets_attributes g) = g.has_others ≡ false
IsWritableAsked (idles n) = ⊥
IsWritableAsked (does_other n) = ⊥
IsWritableAsked _ = Unit {0}

abbrev pub IsWritable : RequestOf → Type 0
IsWritable r = All (λ a. IsWritableAsked a.asked) r.items

-- a payload that is written without children
abbrev pub SaysNothing : PayloadOf → Type 0
SaysNothing (located []) = Unit {0}
SaysNothing (changed None) = Unit {0}
SaysNothing _ = ⊥

-- a payload without children is read as absent where it was undone
abbrev pub IsWritableAnswer : AnswerOf → Type 0
IsWritableAnswer x = x.status ≡ Undone → (p : PayloadOf) → x.payload ≡ Some p → SaysNothing p → ⊥

abbrev pub IsWritableResponse : ResponseOf → Type 0
IsWritableResponse r = All IsWritableAnswer r.items
