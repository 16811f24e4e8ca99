use Rattle.std.proofs.Common.{◌∙◌, ◌==◌, ◌&&◌, ap, map, not, sym}
use Rattle.std.specs.List.{list_any}
use Rattle.kmipa_msgs.specs.Messages.{RowOf, row_of}
use Rattle.kmipa_msgs.specs.declared.rules.Row.{Row}
use Rattle.kmipa_aside.specs.Cases.{is_taken_name}
use Rattle.kmipa_aside.specs.Permitted.{says_other}
use Rattle.kmipa_aside.proofs.ScanLemmas.{any_map}
use Rattle.kmipa_aside.proofs.permitted.says_other.Goals as goal

pub returns-in-Some : goal.returns-in-Some
returns-in-Some c =
    c.any_other.ensures ∙ ap (list_any (λ (row : Row). (row.reason == c.in-Some.reason) && not (is_taken_name row.cause))) c.as_slice.ensures.value
    ∙ sym (any_map (λ (row : RowOf). (row.reason == c.in-Some.reason) && not (is_taken_name row.cause)) row_of c.args.rules.now.rows.items)
    ∙ ap (says_other (map row_of c.args.rules.now.rows.items)) (sym c.in-Some.is)
