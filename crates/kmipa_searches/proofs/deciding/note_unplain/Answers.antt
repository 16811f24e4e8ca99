use Rattle.std.proofs.Common.{rules}
use Rattle.kmipa_check.specs.Calls.{call_of}
use Rattle.kmipa_searches.proofs.DecidingLemmas.{one_plain, unplain_pushed}
use Rattle.kmipa_searches.proofs.deciding.note_unplain.Goals as goal

pub returns-then-is_plain : goal.returns-then-is_plain
returns-then-is_plain c = λ before unplain. one_plain before (call_of c.args.call.now) c.args.numbers.now.items c.if-is_plain.ensures unplain

pub returns : goal.returns
returns c = λ before unplain.
    unplain_pushed before (call_of c.args.call.now) c.args.numbers.now.items c.push.new.self.items _ c.if-is_plain.ensures (search rules) c.in_ok-push.ensures.items
    unplain
