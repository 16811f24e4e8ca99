use Rattle.std.specs.contracts.io.impls.RefSliceU8Read.TheImpl.{ghosts}
use Rattle.std.proofs.Common.{Some, ap}
use Rattle.kmipa_ttlv.specs.Input.{StaysOver}
use Rattle.kmipa_record.proofs.TornLemmas.{over_file}
use Rattle.kmipa_record.proofs.torn.torn_end.Goals as goal

pub returns-in-Some-2 : goal.returns-in-Some-2
returns-in-Some-2 c =
    let over : StaysOver ghosts.remaining c.new-input.result c.end_behind.new.input =
    λ bytes start. c.end_behind.ensures.over bytes (c.head_behind_header.ensures.over bytes start) in
    let torn = rw c.in-Some-2.is at c.in_ok-torn.ensures.torn in
    let works = rw c.in-Some-2.is at c.in_ok-torn.ensures.works in
    torn c.args.file.now
    (over_file ghosts.remaining c.args.file.now c.new-input.result c.end_behind.new.input c.new-input.ensures.none_came c.new-input.ensures.goes_on
    (ap (λ r. Some r.now) c.new-input.ensures.reader) over works)
