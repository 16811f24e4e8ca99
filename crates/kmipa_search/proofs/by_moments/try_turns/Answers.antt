use Rattle.std.proofs.Common.{arith}
use Rattle.kmipa_record.specs.Declarations.{declaration_of}
use Rattle.kmipa_record.specs.Transcripts.{transcript_of}
use Rattle.kmipa_orders.proofs.MomentLemmas.{gives_up}
use Rattle.kmipa_search.proofs.by_moments.try_turns.Goals as goal

pub returns-clause-finds : goal.returns-clause-finds
returns-clause-finds c = λ r finds.
    gives_up (transcript_of c.args.transcript.now) (declaration_of c.args.declaration.now) c.args.budget c.args.steps c.saturating_add-all.result c.requires.granted (omega (arith, c.if-all-budget.false)) finds
