use Rattle.std.proofs.Common.{List, ℕ, Ok, Err}
use Rattle.std.specs.Io.{appended_bytes}
use Rattle.kmipa_ttlv.specs.Input.{came_of}
use Rattle.kmipa_ttlv.proofs.ReadLemmas.{itself}
use Rattle.kmipa_runs.proofs.YesLemmas.{fault_printed}
use Rattle.kmipa_beside.specs.Lines.{PrintsVerdict}
use Rattle.kmipa_beside.proofs.StatusLemmas.{accepts_done, never_done, verdict_printed}
use Rattle.kmipa_beside.proofs.running.check_beside.Goals as goal

pub returns-in-Ok-clause-told : goal.returns-in-Ok-clause-told
returns-in-Ok-clause-told g c =
    let ti = c.audit_held.new.transcript in
    let di = c.args.declaration.now in
    let wi = c.audit_held.new.witness in
    let v = c.in-Ok.told.verdict in
    let said = c.append.result in
    let lines = appended_bytes c.args.out.now.items c.append.new.out.items in
    let told = verdict_printed PrintsVerdict c.verdict_lines.result v said lines c.verdict_lines.ensures c.append.ensures.prints in
    record {
      prints = (Ok v, c.in-Ok.ensures.beside c.requires.aside, told);
      accepts = λ done. (
        accepts_done (came_of ti) (came_of di) (came_of wi) v said lines (c.in-Ok.ensures.beside c.requires.aside (came_of ti) (came_of di) (came_of wi) (itself ti) (itself di) (itself wi)) told done,
        (c.in-Ok.ensures.ended.0, c.requires.ended, c.in-Ok.ensures.ended.1),
      );
    }

pub returns-in-Err-clause-told : goal.returns-in-Err-clause-told
returns-in-Err-clause-told g c =
    let fault = c.in-Err.fault in
    let said = c.append-in-Err.result in
    let lines = appended_bytes c.args.out.now.items c.append-in-Err.new.out.items in
    let told = fault_printed c.fault_lines.result fault said lines c.fault_lines.ensures c.append-in-Err.ensures.prints in
    record {
      prints = (Err fault, c.in-Err.ensures.beside c.requires.aside, told);
      accepts = λ done. absurd (never_done fault said lines told done);
    }
