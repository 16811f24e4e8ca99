use Rattle.kmipa_places.specs.Readings.{call_in}
use Rattle.kmipa_places.proofs.CallLemmas.{is_call}
use Rattle.kmipa_places.proofs.laws.some_call.Goals as goal

pub returns : goal.returns
returns c = λ request response asides. (call_in request response asides, is_call request response asides)
