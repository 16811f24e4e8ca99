use Rattle.std.proofs.Common.{◌≡◌, ◌∙◌, ◌++◌, ◌∷◌, [], List, take, get_or, refl, ap, sym, subst}
use Rattle.std.proofs.lemmas.List.{take_more}
use Rattle.kmipa_object.specs.declared.allow.Act.TheVariants.{Get}
use Rattle.kmipa_object.specs.declared.allow.Allow.TheVariants.{Must}
use Rattle.kmipa_object.specs.declared.allow.AllowLine.{AllowLine}
use Rattle.kmipa_object.specs.declared.state.State.TheVariants.{PreActive}
use Rattle.kmipa_record.specs.Declarations.{IsNewCell}
use Rattle.kmipa_record.specs.Lines.{AreOfOneCell, IsMovable}
use Rattle.kmipa_record.specs.Writing.{refused}
use Rattle.kmipa_record.proofs.PairLemmas.{pairs_ahead, pairs_at}
use Rattle.kmipa_record.proofs.WritingLemmas.{all_at}
use Rattle.kmipa_record.proofs.declaration_testing.test_lines.Goals as goal

abbrev first : AllowLine
first = record { act = Get; state = PreActive; allow = Must }

abbrev Apart : AllowLine → AllowLine → Type 0
Apart a b = ¬ (AreOfOneCell a b)

pub returns-then-not-is_new_cell-clause-refused : goal.returns-then-not-is_new_cell-clause-refused
returns-then-not-is_new_cell-clause-refused c =
    let lines = c.args.lines.now in let i = c.loop-line.line-index in let x = get_or lines i first in
    refused refl (λ are.
    let new : IsNewCell (take i lines) x = pairs_ahead Apart lines i first c.loop-line-test.true are.distinct in
    let seen = c.deref.ensures.value ∙ c.loop-line.invariant.0 in
    absurd (let yes = c.is_new_cell.ensures.1 (subst (λ (l : List AllowLine). IsNewCell l x) (sym seen) new) in let no = c.if-not-is_new_cell.true in cc))

pub loop-line-preserved : goal.loop-line-preserved
loop-line-preserved c =
    let lines = c.args.lines.now in let i = c.loop-line.line-index in let x = get_or lines i first in
    let inv = c.loop-line.invariant in
    let seen = c.deref.ensures.value ∙ inv.0 in
    let new = subst (λ (l : List AllowLine). IsNewCell l x) seen (c.is_new_cell.ensures.0 c.if-not-is_new_cell.false) in (
      c.in-Ok.ensures.items ∙ ap (λ (l : List AllowLine). l ++ x ∷ []) inv.0 ∙ sym (take_more lines i first c.loop-line-test.true),
      record {
        each = all_at IsMovable lines i first c.loop-line-test.true inv.1.each (c.is_movable.ensures.0 c.if-not-is_movable.false);
        distinct = pairs_at Apart lines i first c.loop-line-test.true inv.1.distinct new;
      },
    )
