-- The lines of why a witness doesn't fit its transcript.
use Rattle.std.specs.Prelude.{ℕ, ℤ, List, [], ◌∷◌, ◌++◌, codes, flat_map, length, take, Option, Some, None}
use Rattle.std.specs.Fmt.{decimal, signed_decimal}
use Rattle.kmipa_explain.specs.Meant.{text_of}
use Rattle.kmipa_runs.specs.Lines.{line}
use Rattle.kmipa_runs.specs.Shown.{quoted}
use Rattle.kmipa_telling.specs.Phrases.{more_line, operation_text}
use Rattle.kmipa_telling.specs.UnfitPhrases.{answer_line, disorder_lines, formless_lines, item_line, moment_lines, order_lines, part_line, unwanted_lines, wanted_text}
use Rattle.kmipa_unfit.specs.declared.explanation.Part.{Part}
use Rattle.kmipa_unfit.specs.declared.explanation.Part.TheVariants as part
use Rattle.kmipa_unfit.specs.declared.explanation.Unfit.{Unfit}
use Rattle.kmipa_unfit.specs.declared.explanation.Unfit.TheVariants as unfit
use Rattle.kmipa_unfit.specs.declared.explanation.UnwantedPart.{UnwantedPart}
use Rattle.kmipa_unfit.specs.declared.explanation.WitnessExplanation.{WitnessExplanation}

-- the line of a client, where there is one
abbrev pub client_line : Option (List ℕ) → List ℕ
client_line None = []
client_line (Some name) = line (codes "client: " ∷ quoted name ∷ [])

-- the line of a turn
abbrev pub turn_line : ℕ → List ℕ
turn_line turn = line (codes "turn: " ∷ decimal turn ∷ [])

-- that of the call that it names
abbrev pub named_line : ℤ → List ℕ
named_line call = line (codes "names: call " ∷ signed_decimal call ∷ [])

-- both; or the line of a call that is left out
abbrev pub place_lines : Option ℕ → ℤ → List ℕ
place_lines (Some turn) call = turn_line turn ++ named_line call
place_lines None call = line (codes "left out: call " ∷ signed_decimal call ∷ [])

-- the line of an operation that is asked for
abbrev pub asked_line : ℕ → List ℕ
asked_line operation = line (codes "operation: " ∷ operation_text operation ∷ [])

-- those of a call, at most twenty, and how many more there are
abbrev pub asked_lines : List ℕ → List ℕ
asked_lines operations = flat_map asked_line (take 20 operations) ++ more_line (codes "operation") (length operations)

-- the lines of a fill or a birth that isn't wanted
abbrev pub unwanted_part_lines : Part → UnwantedPart → List ℕ
unwanted_part_lines which u = part_line which u.number u.item ++ unwanted_lines which u.why

-- the lines of a birth, or of what is set aside
abbrev pub birth_lines : Unfit → List ℕ
birth_lines (unfit.BirthUnwanted u) = unwanted_part_lines part.Birth u
birth_lines (unfit.BirthFormless f) = part_line part.Birth f.birth f.item
birth_lines (unfit.Aside item) = line (codes "set aside: item " ∷ signed_decimal item ∷ [])
birth_lines other = []

-- the lines of a fill, or of an item without one
abbrev pub fill_lines : Unfit → List ℕ
fill_lines (unfit.FillUnwanted u) = unwanted_part_lines part.Fill u
fill_lines (unfit.FillMissing m) = item_line m.item ++ asked_line m.operation
fill_lines (unfit.FillFormless f) = formless_lines f
fill_lines other = birth_lines other

-- the lines of what a turn gives to its call
abbrev pub given_lines : Unfit → List ℕ
given_lines unfit.Ended = line (codes "answer: given" ∷ [])
given_lines unfit.Open = line (codes "answer: none" ∷ [])
given_lines (unfit.Answer o) = answer_line o
given_lines (unfit.Untimely m) = moment_lines m
given_lines (unfit.Ordered o) = order_lines o
given_lines (unfit.Disordered d) = disorder_lines d
given_lines other = fill_lines other

-- the lines of what stands there
abbrev pub stands_lines : Unfit → List ℕ
stands_lines (unfit.Unknown count) = line (codes "calls: " ∷ decimal count ∷ [])
stands_lines (unfit.Twice turn) = line (codes "named before: turn " ∷ decimal turn ∷ [])
stands_lines (unfit.LeftOut operations) = asked_lines operations.items
stands_lines other = given_lines other

-- the client, the turn and its call, what stands there, and what is wanted
abbrev pub unfit_lines : WitnessExplanation → List ℕ
unfit_lines e = client_line (text_of e.client) ++ (place_lines e.turn e.call ++ (stands_lines e.unfit ++ line (codes "wanted: " ∷ wanted_text e.unfit ∷ [])))
