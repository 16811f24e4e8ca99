use Rattle.std.proofs.Common.{◌++◌, List, map, ap, ◌∙◌}
use Rattle.std.proofs.lemmas.List.{take_all}
use Rattle.kmipa_ttlv.specs.ItemTree.{tree}
use Rattle.kmipa_ttlv.specs.Tree.{Tree}
use Rattle.kmipa_record.specs.Witnesses.{fill_of, fill_item}
use Rattle.kmipa_record.specs.declared.fill.Fill.{Fill}
use Rattle.kmipa_record.proofs.WritingLemmas.{mapped_twice}
use Rattle.kmipa_record.proofs.fill.push_fills.Goals as goal

pub returns : goal.returns
returns c =
    c.loop-fill.invariant ∙ ap (λ (l : List Tree). map tree c.args.children.now.items ++ l)
    (ap (map (λ (fill : Fill). fill_item (fill_of fill))) (take_all c.loop-fill.fill-index c.args.fills.now c.loop-fill-test.false) ∙ mapped_twice fill_of fill_item c.args.fills.now)
