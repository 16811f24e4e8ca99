use Rattle.kmipa_stream.proofs.OpeningLemmas.{decides_none}
use Rattle.kmipa_stream.proofs.opening.Opening.is_without_objects.Goals as goal

pub returns : goal.returns
returns c = λ declared o. decides_none c.args.self.now declared o c.has_objects.result c.has_objects.ensures
