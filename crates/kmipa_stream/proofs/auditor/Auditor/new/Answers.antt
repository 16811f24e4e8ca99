use Rattle.std.proofs.Common.{ℕ, [], false, sym, subst}
use Rattle.kmipa_stream.specs.Waiting.{Wait}
use Rattle.kmipa_stream.proofs.StandingLemmas.{none_read}
use Rattle.kmipa_stream.proofs.auditor.Auditor.new.Goals as goal

pub returns : goal.returns
returns c = λ declared named opens.
    let P : ℕ → Type 0 = λ n. Wait [] c.args.turns.now n c.new-3.result in
    record {
      seen = c.new-2.ensures;
      ends = subst P (sym c.in_ok-replay.ensures.first) (c.new-3.ensures c.args.turns.now);
      read = none_read false c.new-2.result c.new-2.ensures;
      found = tt;
      replay = c.in_ok-replay.ensures.replays declared named opens false [];
    }
