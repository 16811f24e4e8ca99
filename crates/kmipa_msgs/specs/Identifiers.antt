-- A payload that has at most an identifier: { Unique Identifier? }, asked by Activate and Destroy, answered by these and Revoke
-- (KMIP 2.1, section 6.1).
use Rattle.std.specs.Prelude.{◌≡◌, ℕ, List, Option, Result}
use Rattle.kmipa_ttlv.specs.Tree.{Trees}
use Rattle.kmipa_attrs.specs.Fields.{at, as_text}
use Rattle.kmipa_attrs.specs.Readings.{Optional, IsWrong, optional, map_ok}
use Rattle.kmipa_attrs.specs.Tags.{unique_identifier}
use Rattle.kmipa_msgs.specs.declared.kind.OutsideKind.{OutsideKind}
use Rattle.kmipa_msgs.specs.declared.kind.OutsideKind.TheVariants.{IdentifierForm}
use Rattle.kmipa_msgs.specs.Messages.{PayloadOf, changed}

abbrev pub SaysIdentifier : Trees → Option (List ℕ) → Type 0
SaysIdentifier ts id = Optional (at as_text unique_identifier ts) id

abbrev pub IdentifierFault : Trees → OutsideKind → Type 0
IdentifierFault ts k = (k ≡ IdentifierForm) × IsWrong (at as_text unique_identifier ts)

-- the reading
abbrev pub identifier_in : Trees → Result (Option (List ℕ)) OutsideKind
identifier_in ts = optional (at as_text unique_identifier ts) IdentifierForm

-- THE ANSWER of an operation that changes an object: an Activate, a Revoke or a Destroy

abbrev pub SaysChanged : Trees → PayloadOf → Type 0
SaysChanged ts (changed id) = SaysIdentifier ts id
SaysChanged ts _ = ⊥

abbrev pub changed_in : Trees → Result PayloadOf OutsideKind
changed_in ts = map_ok changed (identifier_in ts)
