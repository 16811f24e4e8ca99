use Rattle.kmipa_record.specs.Declarations.{declaration_of}
use Rattle.kmipa_record.specs.Transcripts.{transcript_of}
use Rattle.kmipa_orders.proofs.AnswerLemmas.{with_all_time}
use Rattle.kmipa_search.proofs.searching.search.Goals as goal

pub returns : goal.returns
returns c = λ r. with_all_time (transcript_of c.args.transcript.now) (declaration_of c.args.declaration.now) c.args.budget c.search_watched.result (c.search_watched.ensures r)
