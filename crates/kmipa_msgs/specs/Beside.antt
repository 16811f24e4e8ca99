-- What an operation on an object asks for beside the identifier: of the object that the ID Placeholder holds (KMIP 2.1, section 6.1).
use Rattle.std.specs.Prelude.{Option, None, Result, Ok, Err}
use Rattle.kmipa_ttlv.specs.Tree.{Trees}
use Rattle.kmipa_attrs.specs.Fields.{at, first, inside, as_enumeration}
use Rattle.kmipa_attrs.specs.Readings.{map_ok, needed}
use Rattle.kmipa_attrs.specs.Tags.{key_wrapping_specification, revocation_reason, revocation_reason_code}
use Rattle.kmipa_msgs.specs.declared.kind.OutsideKind.{OutsideKind}
use Rattle.kmipa_msgs.specs.declared.kind.OutsideKind.TheVariants.{Wrapped, Missing}
use Rattle.kmipa_msgs.specs.declared.operation.Operation.{Operation}
use Rattle.kmipa_msgs.specs.declared.operation.Operation.TheVariants.{Get, GetAttributes, Activate, Revoke, Destroy}
use Rattle.kmipa_msgs.specs.GetsAttributes.{get_attributes_at}
use Rattle.kmipa_msgs.specs.Messages.{AskedOf, gets, gets_attributes, activates, revokes, destroys}
use Rattle.kmipa_msgs.specs.Tables.{unless_there}

-- the reading of the children of its Request Payload; no other operation is on an object
abbrev pub asked_beside : Operation → Trees → Result AskedOf OutsideKind
asked_beside Get ts = map_ok (λ u. gets None) (unless_there (first key_wrapping_specification ts) Wrapped)
asked_beside GetAttributes ts = Ok (gets_attributes (get_attributes_at ts None))
asked_beside Activate ts = Ok (activates None)
asked_beside Revoke ts = map_ok (λ n. revokes (record { id = None; code = n })) (needed (at as_enumeration revocation_reason_code (inside revocation_reason ts)) Missing Missing)
asked_beside Destroy ts = Ok (destroys None)
asked_beside operation ts = Err Missing
