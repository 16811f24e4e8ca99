use Rattle.std.proofs.Common.{List, ℕ, Ok, Err}
use Rattle.std.specs.Io.{appended_bytes}
use Rattle.kmipa_ttlv.specs.Input.{came_of}
use Rattle.kmipa_runs.proofs.KnowingLemmas.{knows, refusal_knows}
use Rattle.kmipa_runs.proofs.LineLemmas.{judged_told, outcome_dated, printed_fits, stamped_done_is_yes, stamped_fits, yes_fits}
use Rattle.kmipa_runs.proofs.YesLemmas.{accepted_printed, fault_printed}
use Rattle.kmipa_beside.proofs.StatusLemmas.{never_done, never_no}
use Rattle.kmipa_beside.proofs.running.check_as_ever.Goals as goal

pub returns-in-Ok-clause-told : goal.returns-in-Ok-clause-told
returns-in-Ok-clause-told g c =
    let t = came_of c.audit_opened.new.transcript in
    let d = came_of c.args.declaration.now in
    let w = came_of c.audit_opened.new.witness in
    let judged = c.in-Ok.judged in
    let said = c.report_judged.result in
    let lines = appended_bytes c.args.out.now.items c.report_judged.new.out.items in
    let told = judged_told t d w judged.verdict judged.stamp judged.tally said lines c.in-Ok.ensures.dated c.in-Ok.ensures.tallied c.report_judged.ensures.prints in
    let fits = stamped_fits judged.verdict judged.stamp judged.tally said lines c.report_judged.ensures.prints in
    record {
      prints = (Ok judged.verdict, c.in-Ok.ensures.audits, told);
      fits = fits;
      yes = yes_fits said lines fits;
      accepts = λ done.
          let yes = stamped_done_is_yes judged.verdict judged.stamp judged.tally said lines c.report_judged.ensures.prints done in
          (c.in-Ok.ensures.accepted yes, (c.in-Ok.ensures.ended.0, c.requires.ended, c.in-Ok.ensures.ended.1));
      accepted = λ a b e af bf ef. accepted_printed t d w a b e _ _ _ (Ok judged.verdict) said lines (c.in-Ok.ensures.audits a b e af bf ef) told;
      dated = outcome_dated t d w judged.verdict said lines told;
    }

pub returns-in-Err-clause-told : goal.returns-in-Err-clause-told
returns-in-Err-clause-told g c =
    let t = came_of c.audit_opened.new.transcript in
    let d = came_of c.args.declaration.now in
    let w = came_of c.audit_opened.new.witness in
    let fault = c.in-Err.fault in
    let said = c.append.result in
    let lines = appended_bytes c.args.out.now.items c.append.new.out.items in
    let told = fault_printed c.fault_lines.result fault said lines c.fault_lines.ensures c.append.ensures.prints in
    let fits = printed_fits fault said lines told in
    record {
      prints = (Err fault, c.in-Err.ensures.audits, told);
      fits = fits;
      yes = yes_fits said lines fits;
      accepts = λ done. absurd (never_done fault said lines told done);
      accepted = λ a b e af bf ef. accepted_printed t d w a b e _ _ _ (Err fault) said lines (c.in-Err.ensures.audits a b e af bf ef) told;
      dated = λ is. absurd (never_no fault said lines told is);
    }
