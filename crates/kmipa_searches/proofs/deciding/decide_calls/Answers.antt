use Rattle.std.proofs.Common.{ap, length, map}
use Rattle.kmipa_check.specs.Calls.{call_of}
use Rattle.kmipa_check.proofs.OrderLemmas.{empty_list, not_empty}
use Rattle.kmipa_searches.proofs.DecidingLemmas.{all_plain}
use Rattle.kmipa_searches.proofs.deciding.decide_calls.Goals as goal

pub returns-then-is_empty : goal.returns-then-is_empty
returns-then-is_empty c = λ recorded are.
    let numbers = c.in_ok-numbers.numbers.items in
    let none = empty_list numbers (length c.as_slice.result.now) c.is_empty.result c.is_empty.ensures c.if-is_empty.true (ap length c.as_slice.ensures.value) in
    c.decide_plain.ensures recorded are (all_plain (map call_of c.args.calls.now) numbers none c.in_ok-numbers.ensures)

pub returns : goal.returns
returns c = λ recorded are.
    let some = not_empty c.in_ok-numbers.numbers.items (length c.as_slice.result.now) c.is_empty.result c.is_empty.ensures c.if-is_empty.false (ap length c.as_slice.ensures.value) in
    (map call_of c.args.calls.now, are, (c.in_ok-numbers.ensures, some))
