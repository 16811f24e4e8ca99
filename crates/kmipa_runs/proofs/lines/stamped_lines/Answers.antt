use Rattle.std.proofs.Common.{string_bytes}
use Rattle.kmipa_runs.proofs.LineLemmas.{no_stamped}
use Rattle.kmipa_runs.proofs.lines.stamped_lines.Goals as goal

pub returns-in_ok-format-in-No : goal.returns-in_ok-format-in-No
returns-in_ok-format-in-No c =
    no_stamped c.args.verdict.now c.in-No.refused c.args.stamp c.args.tally (string_bytes c.in_ok-format-in-No.field-0) (string_bytes c.in_ok-line-in-No.line) (string_bytes c.in_ok-date-in-No.date)
    c.in-No.is c.in_ok-date-in-No.ensures c.in_ok-line-in-No.ensures c.in_ok-format-in-No.ensures.ok
