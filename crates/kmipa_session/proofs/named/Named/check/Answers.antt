use Rattle.std.proofs.Common.{rules}
use Rattle.kmipa_session.proofs.SessionLemmas.{told_so}
use Rattle.kmipa_session.specs.Sealing.{own_length}
use Rattle.kmipa_session.specs.Worlds.{input_of, torn_of}
use Rattle.kmipa_session.proofs.named.Named.check.Goals.{in-Lines, in-Explained, in-Json, in-ExplainedJson}
use Rattle.kmipa_session.proofs.named.Named.check.Goals as goal

pub returns-clause-checks : goal.returns-clause-checks
returns-clause-checks g c =
    let m = c.match-form in
    told_so c.args.form (own_length (torn_of m.transcript)) (input_of m.transcript) (input_of m.declaration) (input_of m.witness) m.ran c.told_of.result c.told_of.ensures.status c.told_of.ensures.lines (
    elim m.branch [
      | in-Lines w ↦ rw w.in-Lines.is (rw w.transcript-is (rw w.declaration-is (rw w.witness-is (rw w.ran-is w.check_lines-ran.ensures.told))))
      | in-Explained w ↦ rw w.in-Explained.is (rw w.transcript-is (rw w.declaration-is (rw w.witness-is (rw w.ran-is w.check_explained-ran.ensures.told))))
      | in-Json w ↦ search rules
      | in-ExplainedJson w ↦ search rules
    ])
