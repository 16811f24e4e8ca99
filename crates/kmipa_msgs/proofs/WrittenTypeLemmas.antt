-- Object types that were written are in their table.
use Rattle.std.proofs.Common.{◌≡◌, ℕ, Option, Some, None, refl}
use Rattle.std.specs.Option.{option_map}
use Rattle.kmipa_attrs.specs.ObjectTypes.{type_number, type_of}
use Rattle.kmipa_attrs.specs.Readings.{Optional}
use Rattle.kmipa_attrs.specs.declared.fields.Field.{Field}
use Rattle.kmipa_attrs.specs.declared.object_type.ObjectType.{ObjectType}
use Rattle.kmipa_attrs.specs.declared.object_type.ObjectType.TheVariants.{SymmetricKey, SecretData}
use Rattle.kmipa_msgs.specs.Tables.{MaybeListed}

pub type_listed : (x : ObjectType) → type_of (type_number x) ≡ Some x
type_listed SymmetricKey = refl
type_listed SecretData = refl

pub maybe_type_listed : (f : Field ℕ) (o : Option ObjectType) → Optional f (option_map type_number o) → MaybeListed f type_of o
maybe_type_listed f None e = e
maybe_type_listed f (Some x) e = record { number = type_number x; is = e; listed = type_listed x }
