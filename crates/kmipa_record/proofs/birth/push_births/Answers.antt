use Rattle.std.proofs.Common.{◌++◌, List, map, ap, ◌∙◌}
use Rattle.std.proofs.lemmas.List.{take_all}
use Rattle.kmipa_ttlv.specs.ItemTree.{tree}
use Rattle.kmipa_ttlv.specs.Tree.{Tree}
use Rattle.kmipa_record.specs.Witnesses.{birth_of, birth_item}
use Rattle.kmipa_record.specs.declared.birth.Birth.{Birth}
use Rattle.kmipa_record.proofs.WritingLemmas.{mapped_twice}
use Rattle.kmipa_record.proofs.birth.push_births.Goals as goal

pub returns : goal.returns
returns c =
    c.loop-birth.invariant ∙ ap (λ (l : List Tree). map tree c.args.children.now.items ++ l)
    (ap (map (λ (birth : Birth). birth_item (birth_of birth))) (take_all c.loop-birth.birth-index c.args.births.now c.loop-birth-test.false) ∙ mapped_twice birth_of birth_item c.args.births.now)
