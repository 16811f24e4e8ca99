use Rattle.std.proofs.Common.{refl}
use Rattle.kmipa_stream.proofs.ReplayingLemmas.{faulty_ahead}
use Rattle.kmipa_stream.proofs.replaying.Replay.refuse.Goals as goal

pub returns-clause-replays : goal.returns-clause-replays
returns-clause-replays c = λ closed marks turns declared r refuses. record {
  same = r.same;
  named = r.named;
  rules = r.rules;
  grants = r.grants;
  within = r.within;
  formed = r.formed;
  finding = faulty_ahead closed marks turns declared c.args.self.now.formed c.args.kind _ refl r.formed refuses;
}
