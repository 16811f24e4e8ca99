use Rattle.kmipa_segments.proofs.MomentLemmas.{by_date}
use Rattle.kmipa_segments.proofs.moments.read_moment.Goals as goal

pub returns-in-Err : goal.returns-in-Err
returns-in-Err c = by_date c.args.text.now c.date_second.result (λ second is. c.in-Err.ensures.value.0 (is.numeral, is.fits)) c.date_second.ensures
