-- The bytes of the files of an audit.
use Rattle.std.specs.Prelude.{◌≡◌, []}
use Rattle.kmipa_ttlv.specs.Input.{came_of}
use Rattle.kmipa_ttlv.specs.declared.input.Input.{Input}
use Rattle.kmipa_telling.specs.declared.held.Held.{Held}

-- no bytes are held
abbrev pub HoldsNothing : Held → Type 0
HoldsNothing h = (h.transcript.items ≡ []) × (h.declaration.items ≡ []) × (h.witness.items ≡ [])

-- what came of three inputs is held
abbrev pub HoldsAll : {R : Type 0} → Held → Input R → Input R → Input R → Type 0
HoldsAll h t d w = (h.transcript.items ≡ came_of t) × (h.declaration.items ≡ came_of d) × (h.witness.items ≡ came_of w)
