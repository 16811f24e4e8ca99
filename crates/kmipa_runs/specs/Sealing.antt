-- What is told of the head of a sealed transcript.
use Rattle.std.specs.Prelude.{◌≡◌, ℕ, List, [], ◌∷◌, codes, if◌then◌else◌, Option, Some, None, Ok}
use Rattle.std.specs.Fmt.{decimal, signed_decimal}
use Rattle.std.specs.List.{flat_map}
use Rattle.std.specs.String.{string_bytes}
use Rattle.hex.specs.Hex.{decode_sized, encode_lower}
use Rattle.kmipa_record.specs.declared.head.Head.{Head}
use Rattle.kmipa_record.specs.declared.torn.Torn.{Torn}
use Rattle.kmipa_runs.specs.Lines.{line}
use Rattle.kmipa_runs.specs.Shown.{escaped}

-- 64 digits spell this seal
abbrev pub SpellsSeal : List ℕ → List ℕ → Type 0
SpellsSeal digits seal = decode_sized digits 32 ≡ Ok seal

-- the transcript is known by this seal
abbrev pub HasSeal : Option Head → List ℕ → Type 0
HasSeal None seal = ⊥
HasSeal (Some head) seal = head.seal ≡ seal

-- the line of a head: the recording, each byte as it is or escaped, the segment, and the last seal
abbrev pub head_line : Head → List ℕ
head_line head = line (codes "sealed: " ∷ flat_map escaped (string_bytes head.label.recording) ∷ codes " segment " ∷ signed_decimal head.label.segment
    ∷ codes " head " ∷ encode_lower head.seal ∷ [])

-- how the line of a torn transcript ends; where part of a record is left out, it says behind how many bytes
abbrev pub torn_words : Torn → List (List ℕ)
torn_words torn = if torn.cut then codes " torn after " ∷ decimal torn.length ∷ codes " bytes" ∷ [] else codes " torn" ∷ []

-- the line of the head of a torn transcript
abbrev pub torn_line : Head → Torn → List ℕ
torn_line head torn = line (codes "sealed: " ∷ flat_map escaped (string_bytes head.label.recording) ∷ codes " segment " ∷ signed_decimal head.label.segment
    ∷ codes " head " ∷ encode_lower head.seal ∷ torn_words torn)

-- the line that stands in place of a verdict where another head is expected
abbrev pub other_head_line : Option Head → List ℕ → List ℕ
other_head_line None expected = line (codes "head: none, expected " ∷ encode_lower expected ∷ [])
other_head_line (Some head) expected = line (codes "head: " ∷ encode_lower head.seal ∷ codes ", expected " ∷ encode_lower expected ∷ [])

-- and the same as an object
abbrev pub other_head_object : Option Head → List ℕ → List ℕ
other_head_object None expected = line (codes "{\"auditor\":\"0.1.0\",\"expected\":\"" ∷ encode_lower expected ∷ codes "\",\"verdict\":\"head\"}" ∷ [])
other_head_object (Some head) expected = line (codes "{\"auditor\":\"0.1.0\",\"expected\":\"" ∷ encode_lower expected
    ∷ codes "\",\"head\":\"" ∷ encode_lower head.seal ∷ codes "\",\"verdict\":\"head\"}" ∷ [])
