use Rattle.std.proofs.Common.{take}
use Rattle.kmipa_check.specs.Grants.{grants_of}
use Rattle.kmipa_check.proofs.BornLemmas.{NoneHas}
use Rattle.kmipa_check.proofs.completing.is_granted.Given as goal

abbrev pub invariant-loop-attribute : goal.invariant-loop-attribute
invariant-loop-attribute l = NoneHas (take l.attribute-index (grants_of l.grants).own) l.tag
