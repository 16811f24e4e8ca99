-- Whom a refusal is judged by, and what an operation does, as the program says them.
use Rattle.std.specs.Prelude.{map, option_map}
use Rattle.kmipa_attrs.specs.Filters.{filter_of}
use Rattle.kmipa_attrs.specs.Sets.{attributes_of, name_of}
use Rattle.kmipa_msgs.specs.Messages.{AskedOf, block_of, does_other, get_attributes_of, idles, maybe_lent}
use Rattle.kmipa_ops.specs.Effects.{NewOf, EffectOf, makes, changes, lists, shows_bytes, shows_attributes, does_nothing, is_unread}
use Rattle.kmipa_ops.specs.declared.idle.Unjudged.{Unjudged}
use Rattle.kmipa_ops.specs.declared.idle.Unjudged
use Rattle.kmipa_ops.specs.declared.operation_row.Effect.{Effect}
use Rattle.kmipa_ops.specs.declared.operation_row.Effect
use Rattle.kmipa_ops.specs.declared.operation_row.New.{New}
use Rattle.kmipa_ops.specs.declared.operation_row.Subject.{Subject}
use Rattle.kmipa_ops.specs.declared.operation_row.Subject
use Rattle.kmipa_ops.specs.Row.{SubjectOf, on_object, on_names, on_nothing}

abbrev pub subject_of : Subject → SubjectOf
subject_of (Subject.TheVariants.Object id act unjudged) = on_object (maybe_lent id) act unjudged
subject_of (Subject.TheVariants.Names names) = on_names (map name_of names.now)
subject_of Subject.TheVariants.Nothing = on_nothing

abbrev pub new_of : New → NewOf
new_of new = record { kind = new.kind; attributes = attributes_of new.attributes.now; block = option_map block_of new.block }

abbrev pub effect_of : Effect → EffectOf
effect_of (Effect.TheVariants.Makes new) = makes (new_of new)
effect_of (Effect.TheVariants.Changes change) = changes change
effect_of (Effect.TheVariants.Lists filter) = lists (filter_of filter.now)
effect_of Effect.TheVariants.ShowsBytes = shows_bytes
effect_of (Effect.TheVariants.ShowsAttributes asked) = shows_attributes (get_attributes_of asked.now)
effect_of Effect.TheVariants.Nothing = does_nothing
effect_of Effect.TheVariants.Unread = is_unread

abbrev pub unjudged_of : Unjudged → AskedOf
unjudged_of (Unjudged.TheVariants.Idle number) = idles number
unjudged_of (Unjudged.TheVariants.Unread number) = does_other number
