use Rattle.std.proofs.Common.{◌∙◌, sym, ap, nat_abs, pos}
use Rattle.std.proofs.lemmas.Int.{to_z-of_z}
use Rattle.kmipa_msgs.proofs.HeaderLemmas.{counts_above, counts_none}
use lib.Signed.{lt_z}
use lib.Dec.{eqb}
use mir.Syntax.{w32}
use Rattle.kmipa_msgs.proofs.reading.header.counts.Goals as goal

pub returns-then-count-gt0 : goal.returns-then-count-gt0
returns-then-count-gt0 c =
    let same = to_z-of_z w32 c.args.count c.ranges.count in
    ap (λ m. eqb m c.args.items) (c.unsigned_abs.ensures.value ∙ ap nat_abs same) ∙ counts_above c.args.count c.args.items (ap (lt_z (pos 0)) (sym same) ∙ c.if-count-gt0.true)

pub returns-else-count-gt0 : goal.returns-else-count-gt0
returns-else-count-gt0 c =
    let same = to_z-of_z w32 c.args.count c.ranges.count in
    c.if-count-gt0.false ∙ sym (counts_none c.args.count c.args.items (ap (lt_z (pos 0)) (sym same) ∙ c.if-count-gt0.false))
