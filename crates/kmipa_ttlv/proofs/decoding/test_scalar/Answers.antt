use Rattle.std.proofs.Common.{◌≡◌, subst, sym, ap, arith}
use Rattle.kmipa_ttlv.specs.Head.{number_of_kind}
use Rattle.kmipa_ttlv.specs.declared.head.Kind.{Kind}
use Rattle.kmipa_ttlv.specs.Spelled.{IsScalarAt}
use Rattle.kmipa_ttlv.proofs.SpelledLemmas.{boolean_right, text_right, other_right}
use Rattle.kmipa_ttlv.proofs.decoding.test_scalar.Goals as goal

pub returns-else-read_u64-gt1 : goal.returns-else-read_u64-gt1
returns-else-read_u64-gt1 c = boolean_right c.args.kind c.args.value.now c.in-Boolean.is c.requires.allowed (omega (arith, c.read_u64.ensures, c.if-read_u64-gt1.false))

pub returns-in-Ok : goal.returns-in-Ok
returns-in-Ok c = text_right c.args.kind c.args.value.now c.in-Text.is c.in-Ok.ensures.cases.1

pub returns-in_default : goal.returns-in_default
returns-in_default c = other_right c.args.kind c.args.value.now c.requires.plain c.in_default.not-Boolean c.in_default.not-Text c.requires.allowed
