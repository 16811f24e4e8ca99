use Rattle.std.proofs.Common.{◌≡◌, ◌≤◌, ◌-◌, map, take}
use Rattle.std.specs.List.{count_by, zip}
use Rattle.kmipa_msgs.specs.Messages.{answer_of, ask_of}
use Rattle.kmipa_stream.specs.Counting.{asks_judged}
use Rattle.kmipa_stream.proofs.counting.count_judged.Given as goal

abbrev pub invariant-items : goal.invariant-items
invariant-items l = record {
  below : l.place ≤ l.answered;
  few : l.judged ≤ l.place;
  counted : l.judged ≡ count_by asks_judged (take l.place (zip (map ask_of l.asks) (map answer_of l.answers)));
}

abbrev pub decreases-items : goal.decreases-items
decreases-items l = l.answered - l.place
