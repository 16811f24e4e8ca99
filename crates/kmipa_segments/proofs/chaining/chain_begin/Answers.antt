use Rattle.std.proofs.lemmas.Result.{IfOk-weaker}
use Rattle.kmipa_record.specs.Declarations.{declaration_of}
use Rattle.kmipa_segments.proofs.ChainingLemmas.{none_yet}
use Rattle.kmipa_segments.proofs.chaining.chain_begin.Goals as goal

pub returns-clause-begins : goal.returns-clause-begins
returns-clause-begins g c = IfOk-weaker c.read.result _ _ (λ chain h. (h.0, h.1, none_yet (declaration_of chain.held.declaration) chain h.2 h.3)) c.read.ensures.begins
