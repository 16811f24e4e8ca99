use Rattle.std.proofs.Common.{List, ℕ, map, rules, subst}
use Rattle.kmipa_record.specs.Marks.{mark_of}
use Rattle.kmipa_record.specs.TranscriptReading.{IsKnownBy}
use Rattle.kmipa_record.proofs.transcript.read_transcript.Goals as goal

pub returns-in-Ok-clause-known : goal.returns-in-Ok-clause-known
returns-in-Ok-clause-known g c =
    let marks = map mark_of c.take_marks-taken.new.marks.items in
    subst (λ (bytes : List ℕ). IsKnownBy bytes marks c.take_head-head.result) (search rules) (c.take_head-head.ensures.known marks c.in-Ok.ensures.ended)
