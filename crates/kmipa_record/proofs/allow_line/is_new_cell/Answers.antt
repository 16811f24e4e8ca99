use Rattle.std.proofs.Common.{◌≡◌, List, subst, refl}
use Rattle.std.proofs.lemmas.List.{take_all}
use Rattle.kmipa_object.specs.declared.allow.Act.TheVariants.{Get}
use Rattle.kmipa_object.specs.declared.allow.Allow.TheVariants.{Must}
use Rattle.kmipa_object.specs.declared.allow.AllowLine.{AllowLine}
use Rattle.kmipa_object.specs.declared.state.State.TheVariants.{PreActive}
use Rattle.kmipa_record.specs.Declarations.{IsNewCell}
use Rattle.kmipa_record.specs.Lines.{AreOfOneCell}
use Rattle.kmipa_record.proofs.WritingLemmas.{all_at}
use Rattle.kmipa_record.proofs.allow_line.is_new_cell.Goals as goal

pub loop-other-preserved : goal.loop-other-preserved
loop-other-preserved c =
    all_at (λ (other : AllowLine). ¬ (AreOfOneCell other c.args.line.now)) c.args.lines.now c.loop-other.other-index (record { act = Get; state = PreActive; allow = Must }) c.loop-other-test.true c.loop-other.invariant
    (λ same. absurd (let yes = c.are_of_one_cell.ensures.1 same in let no = c.if-are_of_one_cell.false in cc))

pub returns : goal.returns
returns c = (λ t. subst (λ (l : List AllowLine). IsNewCell l c.args.line.now) (take_all c.loop-other.other-index c.args.lines.now c.loop-other-test.false) c.loop-other.invariant, λ all. refl)
