use Rattle.std.proofs.Common.{ℕ, List, refl, sym, subst, ◌∙◌}
use Rattle.kmipa_judge.specs.Searches.{MakesOrder, tells}
use Rattle.kmipa_judge.specs.declared.beside.Beside.{Beside}
use Rattle.kmipa_judge.proofs.seeking.tell_beside.Goals as goal

pub returns : goal.returns
returns c =
    let b : Beside = record { forced = c.args.beside.forced; sought = c.in-Ok.sought } in
    let M : List ℕ → Type 0 = λ made. MakesOrder c.in-Ok.sought made in
    tells b refl c.in-Ok.ensures.same (record {
      ends = c.said.ensures.status ∙ c.in-Ok-beside_lines.ensures.0;
      prints = c.said.ensures.lines ∙ c.in-Ok-beside_lines.ensures.1;
      makes = subst M (sym c.said.ensures.witness) c.in-Ok.ensures.makes;
    })
