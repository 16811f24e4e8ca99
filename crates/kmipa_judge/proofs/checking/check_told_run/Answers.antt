use Rattle.std.specs.Io.{appended_bytes}
use Rattle.kmipa_ttlv.specs.Input.{came_of}
use Rattle.kmipa_judge.specs.Checks.{unsaid}
use Rattle.kmipa_judge.proofs.CheckLemmas.{check_known, check_told, done_accepted_any}
use Rattle.kmipa_telling.proofs.JsonLemmas.{only_silent, silent_not_done}
use Rattle.kmipa_telling.proofs.SealLemmas.{silent_knows}
use Rattle.std.proofs.Common.{None}
use Rattle.kmipa_judge.proofs.checking.check_told_run.Goals as goal

pub returns-in-Ok-clause-told : goal.returns-in-Ok-clause-told
returns-in-Ok-clause-told g c =
    check_told c.args.form c.told_of.new.transcript c.told_of.new.declaration c.told_of.new.witness c.in-Ok.said.lines c.append.result (appended_bytes c.args.out.now.items c.append.new.out.items)
    c.in-Ok.ensures.told c.append.ensures.prints

pub returns-in-Ok-clause-accepts : goal.returns-in-Ok-clause-accepts
returns-in-Ok-clause-accepts g c = λ done.
    done_accepted_any c.args.form c.told_of.new.transcript c.told_of.new.declaration c.told_of.new.witness c.append.result (appended_bytes c.args.out.now.items c.append.new.out.items) done
    (returns-in-Ok-clause-told g c)

pub returns-in-Ok-clause-known : goal.returns-in-Ok-clause-known
returns-in-Ok-clause-known g c =
    check_known (came_of c.told_of.new.transcript) c.in-Ok.said.lines c.append.result (appended_bytes c.args.out.now.items c.append.new.out.items) c.in-Ok.said.head
    c.in-Ok.ensures.known c.append.ensures.prints

pub returns-clause-told : goal.returns-clause-told
returns-clause-told g c = unsaid (only_silent c.append-in-Err.ensures.prints)

pub returns-clause-accepts : goal.returns-clause-accepts
returns-clause-accepts g c = λ done.
    absurd (silent_not_done c.append-in-Err.result (appended_bytes c.args.out.now.items c.append-in-Err.new.out.items) (only_silent c.append-in-Err.ensures.prints) done)

pub returns-clause-known : goal.returns-clause-known
returns-clause-known g c =
    silent_knows (came_of c.told_of.new.transcript) c.append-in-Err.result (appended_bytes c.args.out.now.items c.append-in-Err.new.out.items) None (only_silent c.append-in-Err.ensures.prints)
