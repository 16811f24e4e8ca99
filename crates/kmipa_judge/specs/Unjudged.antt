-- WHAT IS PRINTED OF WHAT ISN'T JUDGED, behind how many items are (profile): which operations were passed, and which identifiers are set aside.
use Rattle.std.specs.Prelude.{◌≡◌, ℕ, ◌-◌, if◌then◌else◌, nat_lt, List, [], ◌∷◌, ◌++◌, codes, flat_map, take, length, Option, Some, None}
use Rattle.std.specs.Fmt.{decimal, signed_decimal}
use Rattle.std.specs.Int.{w32, to_be_bytes}
use Rattle.hex.specs.Hex.{encode_upper}
use Rattle.kmipa_record.specs.Declarations.{DeclarationOf}
use Rattle.kmipa_record.specs.Marks.{MarkOf}
use Rattle.kmipa_record.specs.Witnesses.{TurnOf, witness_of}
use Rattle.kmipa_unjudged.specs.Told.{NamedOf}
use Rattle.kmipa_unjudged.specs.Unjudged.{IsUnjudged}
use Rattle.kmipa_unjudged.specs.declared.rank.Rank.{Rank}
use Rattle.kmipa_findings.specs.declared.finding.Outcome.{Outcome}
use Rattle.kmipa_findings.specs.declared.finding.Outcome.TheVariants as outcome
use Rattle.kmipa_runs.specs.Lines.{line}
use Rattle.kmipa_runs.specs.Notes.{name_among, operations}
use Rattle.kmipa_runs.specs.Shown.{quoted}

-- the name of an operation, or its number in hexadecimal digits
abbrev pub operation_named : Option (List ℕ) → ℕ → List ℕ
operation_named (Some name) number = name
operation_named None number = encode_upper (to_be_bytes w32 number)

abbrev pub operation_text : ℕ → List ℕ
operation_text number = operation_named (name_among operations number) number

-- the line of an operation, with how many items were passed that asked for it
abbrev pub passed_line : Rank → List ℕ
passed_line r = line (codes "passed: " ∷ operation_text r.operation ∷ codes " " ∷ decimal r.count ∷ codes " items" ∷ [])

-- the operation of an item; none of a call that can't be read
abbrev pub operation_part : Option ℕ → List ℕ
operation_part None = []
operation_part (Some number) = codes " " ++ operation_text number

-- the line of an identifier that is set aside, with the item since which it is: each byte as it is or escaped
abbrev pub aside_line : NamedOf → List ℕ
aside_line n = line (codes "aside: " ∷ quoted n.id ∷ codes " since call " ∷ signed_decimal n.origin.call
    ∷ codes " item " ∷ decimal n.origin.item ∷ operation_part n.origin.operation ∷ [])

-- the line that there are more than the twenty that are told
abbrev pub more_line : ℕ → List ℕ
more_line count = if nat_lt 20 count then line (codes ".. " ∷ decimal (count - 20) ∷ codes " more" ∷ []) else []

-- of both sorts at most twenty
abbrev pub passed_lines : List Rank → List ℕ
passed_lines ranks = flat_map passed_line (take 20 ranks) ++ more_line (length ranks)

abbrev pub aside_lines : List NamedOf → List ℕ
aside_lines told = flat_map aside_line (take 20 told) ++ more_line (length told)

abbrev pub unjudged_lines : List Rank → List NamedOf → List ℕ
unjudged_lines passed aside = passed_lines passed ++ aside_lines aside

-- what isn't judged along these turns
abbrev pub PrintsAlong : List MarkOf → DeclarationOf → List TurnOf → List ℕ → Type 0
PrintsAlong marks declared turns lines = (passed : List Rank) × (aside : List NamedOf) × IsUnjudged marks declared turns passed aside × (lines ≡ unjudged_lines passed aside)

-- of an outcome that along its witness; of what is undecided nothing
abbrev pub PrintsUnjudged : List MarkOf → DeclarationOf → Outcome → List ℕ → Type 0
PrintsUnjudged marks declared (outcome.Judged j) lines = PrintsAlong marks declared (witness_of j.witness) lines
PrintsUnjudged marks declared (outcome.Undecided u) lines = lines ≡ []
