use Rattle.std.proofs.Common.{◌≡◌, ◌++◌, ◌∷◌, [], List, ℕ, ℤ, ap, ◌∙◌, rules}
use Rattle.std.specs.Fmt.{signed_decimal}
use Rattle.std.proofs.lemmas.Result.{on_ok_weaker}
use Rattle.std.proofs.lemmas.Int.{to_z-of_z}
use mir.Val.{SFits}
use mir.Syntax.{w64}
use Rattle.kmipa_runs.specs.Dates.{HasDate, ReadsAsSecond}
use Rattle.kmipa_runs.proofs.AppendLemmas.{since, starts, pushed_on}
use Rattle.kmipa_runs.proofs.values.push_moment.Goals as goal

pub returns-clause-shows : goal.returns-clause-shows
returns-clause-shows g c =
    let printed = g.P.Printer.printed in
    let old = printed c.args.out.now in
    let numbered = printed c.push_number.new.out in
    let spaced = printed c.print.new.self in
    let new = printed c.print-2.new.self in
    let date = c.as_str.result.now in
    let has : HasDate c.args.second = search (rules, c.calendar_date.ensures) in
    let reads : ReadsAsSecond date c.args.second = search (rules, c.calendar_date.ensures, c.as_str.ensures.value) in
    let number = signed_decimal c.args.second in
    let fits : SFits w64 c.args.second = search rules in
    let pushes : numbered ≡ old ++ number = c.in_ok-push_number.ensures.pushes ∙ ap (λ (z : ℤ). old ++ signed_decimal z) (to_z-of_z w64 c.args.second fits) in
    on_ok_weaker c.print-2.result
    (λ e.
    let dated : new ≡ spaced ++ date = e ∙ ap (λ (l : List ℕ). spaced ++ l) c.as_bytes.ensures.value in
    let all : new ≡ old ++ (number ++ 32 ∷ date)
    = pushed_on old numbered new number (32 ∷ date) pushes (pushed_on numbered spaced new (32 ∷ []) date c.in_ok-print.ensures.prints dated) in
    record { dated = λ _. (date, reads, since old (number ++ 32 ∷ date) new all); undated = λ no. absurd (no has) })
    c.print-2.ensures.prints

pub returns-clause-appends : goal.returns-clause-appends
returns-clause-appends g c =
    let printed = g.P.Printer.printed in
    let old = printed c.args.out.now in
    let numbered = printed c.push_number.new.out in
    let spaced = printed c.print.new.self in
    let new = printed c.print-2.new.self in
    on_ok_weaker c.print-2.result
    (λ e. starts old _ new (pushed_on old numbered new _ _ c.in_ok-push_number.ensures.pushes (pushed_on numbered spaced new (32 ∷ []) c.as_bytes.result.now c.in_ok-print.ensures.prints e)))
    c.print-2.ensures.prints
