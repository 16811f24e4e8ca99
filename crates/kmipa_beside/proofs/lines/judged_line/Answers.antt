use Rattle.std.proofs.Common.{ℕ, subst, string_bytes}
use Rattle.std.specs.Prelude.{◌≡◌, IfOk}
use Rattle.kmipa_trail.specs.Told.{tally_of}
use Rattle.kmipa_beside.specs.Lines.{counts_line}
use Rattle.kmipa_beside.proofs.lines.judged_line.Goals as goal

pub returns : goal.returns
returns c =
    let P : ℕ → Type 0 = λ n. IfOk c.counts_line.result (λ text. string_bytes text ≡ counts_line (tally_of c.args.tally.now).counts n) in
    subst P c.in_ok-items.ensures c.counts_line.ensures
