use Rattle.kmipa_places.specs.Calls.{read_of}
use Rattle.kmipa_bundle.proofs.FitLemmas.{shape_reported}
use Rattle.kmipa_bundle.proofs.shape.is_shaped_at.Goals as goal

pub returns : goal.returns
returns c =
    shape_reported (read_of c.args.call.now) c.args.place c.args.failed c.outcome_at-outcome.result c.fits_at.result c.requires c.outcome_at-outcome.ensures c.fits_at.ensures
