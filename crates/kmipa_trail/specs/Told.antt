-- what a tally of the program means
use Rattle.kmipa_trail.specs.Tallies.{TallyOf}
use Rattle.kmipa_trail.specs.declared.tally.Tally.{Tally}

abbrev pub tally_of : Tally → TallyOf
tally_of k = record {
  counts = record { request = k.by_request; answer = k.by_answer; witness = k.by_witness; object = k.by_object; judged = k.judged };
  excepted = k.excepted;
}
