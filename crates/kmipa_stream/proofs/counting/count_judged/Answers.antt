use Rattle.std.proofs.Common.{◌≡◌, ◌<◌, Some, slice_get, length, map, take, refl, ap, ◌∙◌, arith}
use Rattle.std.proofs.lemmas.List.{length-map, take_all}
use Rattle.std.proofs.lemmas.Option.{slice_get_read}
use Rattle.std.specs.List.{count_by, zip}
use Rattle.kmipa_msgs.specs.Messages.{answer_of, ask_of}
use Rattle.kmipa_check.proofs.PlaceLemmas.{get_at}
use Rattle.kmipa_stream.specs.Counting.{asks_judged}
use Rattle.kmipa_stream.proofs.CountingLemmas.{at_place, counted_more_by, length_of_zip}
use Rattle.kmipa_stream.proofs.counting.count_judged.Goals as goal

pub items-preserved : goal.items-preserved
items-preserved c =
    let asks = c.args.asks.now in
    let answers = c.args.answers.now in
    let place = c.items.place in
    let ask = c.index-asks-place.result in
    let asked : place < length asks = omega (arith, c.items-test.true, c.min-answered.ensures) in
    let given : place < length answers = omega (arith, c.items-test.true, c.min-answered.ensures) in
    let here : slice_get asks place ≡ Some ask = slice_get_read asks (length asks) place ask refl asked c.index-asks-place.is in
    let there = at_place answers place given in
    record {
      below = omega (arith, c.items-test.true);
      few = omega (arith, c.items.invariant.few, c.counted_once-judged.ensures.few);
      counted = counted_more_by (map ask_of asks) (map answer_of answers) place (ask_of ask) (answer_of there.0) (get_at ask_of asks place ask here) (get_at answer_of answers place there.0 there.1)
          c.items.judged c.items.invariant.counted c.counted_once-judged.result c.counted_once-judged.ensures.counts;
    }

pub returns : goal.returns
returns c =
    let asks = c.args.asks.now in
    let answers = c.args.answers.now in
    let pairs = zip (map ask_of asks) (map answer_of answers) in
    let long = length_of_zip (map ask_of asks) (map answer_of answers) in
    let all : take c.items.place pairs ≡ pairs =
    take_all c.items.place pairs
    (omega (arith, long, c.items-test.false, c.min-answered.ensures, length-map asks ask_of, length-map answers answer_of)) in
    c.items.invariant.counted ∙ ap (count_by asks_judged) all
