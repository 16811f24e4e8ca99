use Rattle.std.proofs.Common.{rules, ◌≡◌, ℕ, ℤ, pos, ◌*ℤ◌, ◌∙◌, ap, arith}
use Rattle.std.proofs.lemmas.Int.{to_z-of_z}
use mir.Syntax.{w64, w128}
use Rattle.jiff_core.proofs.SignedLemmas.{signed_arith}
use Rattle.kmipa_runs.specs.Dates.{HasDate}
use Rattle.kmipa_runs.proofs.DateLemmas.{reads_back}
use Rattle.kmipa_runs.proofs.dates.calendar_date.Goals as goal

pub returns-in-Ok : goal.returns-in-Ok
returns-in-Ok c =
    let second = c.args.second in
    let same : c.in-Ok.moment.nanosecond ≡ second *ℤ pos 1_000_000_000
    = c.in-Ok.ensures.value ∙ to_z-of_z w128 c.nanosecond_at.result (search rules) ∙ c.nanosecond_at.ensures
    ∙ ap (λ (z : ℤ). z *ℤ pos 1_000_000_000) (to_z-of_z w64 second (search rules)) in (
      (omega (arith, signed_arith, same, c.in-Ok.moment.in_range.0), omega (arith, signed_arith, same, c.in-Ok.moment.in_range.1)),
      reads_back c.new.result c.in-Ok.moment _ c.timestamp_text.result.bytes c.new.ensures c.timestamp_text.ensures same,
    )
