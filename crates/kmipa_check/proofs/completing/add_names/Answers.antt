use Rattle.std.proofs.Common.{◌∙◌, ap}
use Rattle.kmipa_attrs.specs.Names.{with_name}
use Rattle.kmipa_attrs.specs.Sets.{names_of}
use Rattle.kmipa_check.proofs.BornLemmas.{names_more}
use Rattle.kmipa_check.proofs.completing.add_names.Goals as goal

pub loop-name-preserved : goal.loop-name-preserved
loop-name-preserved c =
    names_more (names_of c.args.names.now) (names_of c.loop-name.names) (names_of c.add_name.new.names) c.args.added.now c.loop-name.name-index c.name-item.result c.loop-name-test.true c.name-item.is
    c.loop-name.invariant (c.in_ok-add_name.ensures ∙ ap (with_name (names_of c.loop-name.names)) c.in_ok-copy.ensures)
