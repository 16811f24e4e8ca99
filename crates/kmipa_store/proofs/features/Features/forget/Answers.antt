-- proofs/features/Features/forget/Answers.antt
use Rattle.std.proofs.Common.{refl}
use Rattle.kmipa_store.proofs.FeatureLemmas.{forgotten}
use Rattle.kmipa_store.proofs.features.Features.forget.Goals as goal

pub returns-then-self : goal.returns-then-self
returns-then-self c = forgotten c.args.self.now _ c.code.result c.args.place refl c.remove.ensures.keys
