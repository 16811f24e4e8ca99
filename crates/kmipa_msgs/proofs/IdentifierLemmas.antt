-- A payload that has at most an identifier is read.
use Rattle.kmipa_ttlv.specs.Tree.{Trees, Tree}
use Rattle.kmipa_attrs.specs.Fields.{at, as_text}
use Rattle.kmipa_attrs.specs.Readings.{Reads}
use Rattle.kmipa_attrs.specs.Tags.{unique_identifier}
use Rattle.kmipa_attrs.proofs.ReadingLemmas.{reads_optional, reads_as}
use Rattle.kmipa_msgs.specs.declared.kind.OutsideKind.TheVariants.{IdentifierForm}
use Rattle.kmipa_msgs.specs.Kinds.{kind_number}
use Rattle.kmipa_msgs.specs.Identifiers.{SaysIdentifier, IdentifierFault, identifier_in, SaysChanged, changed_in}
use Rattle.std.proofs.Common.{◌≡◌, ℕ, List, [], Option, Some, None, refl}
use Rattle.kmipa_ttlv.specs.Tree
use Rattle.kmipa_msgs.specs.Messages.{PayloadOf, changed}
use Rattle.kmipa_msgs.specs.Replies.{filled}
use Rattle.kmipa_msgs.specs.Written.{written_payload}
use Rattle.kmipa_msgs.specs.WrittenFields.{in_order, identifier_fields}
use Rattle.kmipa_msgs.specs.Writable.{SaysNothing}
use Rattle.kmipa_msgs.proofs.WrittenFieldLemmas.{optional_written}
use Rattle.kmipa_msgs.specs.Rows.{payload_fields}

pub reads_identifier : (ts : Trees) → Reads kind_number (SaysIdentifier ts) (IdentifierFault ts) (identifier_in ts)
reads_identifier ts = reads_optional kind_number IdentifierForm (at as_text unique_identifier ts)

pub identifier_written : (id : Option (List ℕ)) → SaysIdentifier (in_order (identifier_fields id)) id
unfolding as_text
identifier_written id = optional_written as_text Tree.text unique_identifier id (identifier_fields id) [] refl refl (λ x. refl) refl

-- THE ANSWER of an operation that changes an object

changed_from : (ts : Trees) (y : PayloadOf) → SaysChanged ts y → (x : Option (List ℕ)) × SaysIdentifier ts x × (y ≡ changed x)
changed_from ts (changed x) s = (x, s, refl)
changed_from ts _ s = absurd s

pub reads_changed : (ts : Trees) → Reads kind_number (SaysChanged ts) (IdentifierFault ts) (changed_in ts)
reads_changed ts = reads_as kind_number _ _ (SaysChanged ts) (IdentifierFault ts) changed (identifier_in ts) (λ x s. s) (changed_from ts) (λ k f. f) (λ k f. f) (reads_identifier ts)

pub changed_written : (ts : Trees) (p : PayloadOf) → SaysChanged ts p → SaysChanged (in_order (payload_fields p)) p
changed_written ts (changed id) s = identifier_written id
changed_written ts _ s = absurd s

pub changed_filled : (ts : Trees) (p : PayloadOf) → (SaysNothing p → ⊥) → SaysChanged ts p → filled (Some (written_payload p)) ≡ Some (written_payload p)
changed_filled ts (changed None) bare s = absurd (bare tt)
changed_filled ts (changed (Some x)) bare s = refl
changed_filled ts _ bare s = absurd s
