-- What is compared is compared last: no part of a Create or a Register is at fault by a kind above Disagree.
use Rattle.std.proofs.Common.{◌≡◌, ◌≤◌, sym, subst, arith}
use Rattle.kmipa_ttlv.specs.Tree.{Trees}
use Rattle.kmipa_attrs.specs.Readings.{NeededFault}
use Rattle.kmipa_attrs.specs.declared.fields.Field.{Field}
use Rattle.kmipa_attrs.specs.declared.fields.Field.TheVariants.{Absent, Wrong, There}
use Rattle.kmipa_attrs.specs.declared.side.Side.{Side}
use Rattle.kmipa_msgs.specs.declared.kind.OutsideKind.{OutsideKind}
use Rattle.kmipa_msgs.specs.declared.kind.OutsideKind.TheVariants.{Missing, Attribute}
use Rattle.kmipa_msgs.specs.Kinds.{kind_number}
use Rattle.kmipa_msgs.specs.AttributeFields.{GivenFault}

pub low : (k j : OutsideKind) → kind_number j ≤ 12 → k ≡ j → kind_number k ≤ 12
low k j h e = subst (λ (i : OutsideKind). kind_number i ≤ 12) (sym e) h

pub low_needed : {A : Type 0} (f : Field A) (absent wrong k : OutsideKind) → kind_number absent ≤ 12 → kind_number wrong ≤ 12 → NeededFault f absent wrong k → kind_number k ≤ 12
low_needed Absent absent wrong k a w h = low k absent a h
low_needed Wrong absent wrong k a w h = low k wrong w h
low_needed (There x) absent wrong k a w h = absurd h

pub low_given : (side : Side) (f : Field Trees) (k : OutsideKind) → GivenFault side f k → kind_number k ≤ 12
low_given side Absent k h = absurd h
low_given side Wrong k h = low k Missing (omega arith) h
low_given side (There ts) k h = low k Attribute (omega arith) h.0
