-- The Attributes of payloads are read.
use Rattle.std.proofs.Common.{Result, Ok, Err, refl}
use Rattle.kmipa_ttlv.specs.Tree.{Trees}
use Rattle.kmipa_attrs.specs.Attributes.{attr_number, SaysAttributes, AttributesFault, attributes_in}
use Rattle.kmipa_attrs.specs.Readings.{Reads}
use Rattle.kmipa_attrs.specs.Sets.{Attributes}
use Rattle.kmipa_attrs.specs.declared.fault.AttrFault.{AttrFault}
use Rattle.kmipa_attrs.specs.declared.fields.Field.{Field}
use Rattle.kmipa_attrs.specs.declared.fields.Field.TheVariants.{Absent, Wrong, There}
use Rattle.kmipa_attrs.specs.declared.side.Side.{Side}
use Rattle.kmipa_attrs.proofs.AttrLemmas.{reads_attributes}
use Rattle.kmipa_msgs.specs.declared.kind.OutsideKind.TheVariants.{Missing, Attribute}
use Rattle.kmipa_msgs.specs.Kinds.{kind_number}
use Rattle.kmipa_msgs.specs.AttributeFields.{SaysGiven, GivenFault, attribute_kind, given_in}
use Rattle.kmipa_msgs.proofs.TableLemmas.{same_kind}

reads_kind : (side : Side) (ts : Trees) (r : Result Attributes AttrFault) → Reads attr_number (SaysAttributes ts) (AttributesFault side ts) r
    → Reads kind_number (SaysAttributes ts) (GivenFault side (There ts)) (attribute_kind r)
reads_kind side ts (Ok a) h = record { said = h.said; only = h.only; right = λ k w. h.right w.1.0 w.1.1 }
reads_kind side ts (Err reported) h = record { here = (refl, (reported, h.here)); least = λ j lt w. same_kind j Attribute lt w.0 }

pub reads_given : (side : Side) (f : Field Trees) → Reads kind_number (SaysGiven f) (GivenFault side f) (given_in side f)
reads_given side Absent = record { said = refl; only = λ y e. e; right = λ k w. w }
reads_given side Wrong = record { here = refl; least = λ j lt w. same_kind j Missing lt w }
reads_given side (There ts) = reads_kind side ts (attributes_in side ts) (reads_attributes side ts)
