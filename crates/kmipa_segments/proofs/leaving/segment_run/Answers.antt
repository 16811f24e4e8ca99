use Rattle.std.proofs.Common.{◌≡◌, [], Ok, Err, None, arith}
use Rattle.std.proofs.Math.ListN.{drop_of_length-le}
use Rattle.std.specs.Io.{appended_bytes}
use Rattle.kmipa_ttlv.specs.Input.{came_of}
use Rattle.kmipa_ttlv.proofs.ReadLemmas.{itself}
use Rattle.kmipa_runs.proofs.KnowingLemmas.{knows, refusal_knows}
use Rattle.kmipa_segments.proofs.FaultLemmas.{fault_ends_check}
use Rattle.kmipa_segments.proofs.LeavingLemmas.{done_leads}
use Rattle.kmipa_segments.proofs.leaving.segment_run.Goals as goal

pub returns-in-Ok-clause-prints : goal.returns-in-Ok-clause-prints
returns-in-Ok-clause-prints g c = (Ok c.in-Ok.segment, c.in-Ok.ensures.checks, c.tell_segment.ensures.tells)

pub returns-in-Err-clause-prints : goal.returns-in-Err-clause-prints
returns-in-Err-clause-prints g c =
    let kept = appended_bytes c.args.out.now.left.items c.args.out.now.left.items in
    let none : kept ≡ [] = drop_of_length-le c.args.out.now.left.items (omega arith) in (
      Err c.in-Err.fault,
      c.in-Err.ensures.checks,
      fault_ends_check c.args.asked.leaves c.fault_lines.result c.in-Err.fault c.append.result
          (appended_bytes c.args.out.now.lines.items c.append.new.out.items) kept none c.fault_lines.ensures c.append.ensures.prints,
    )

pub returns-in-Ok-clause-leads : goal.returns-in-Ok-clause-leads
returns-in-Ok-clause-leads g c = λ done.
    let t = c.check_inputs.new.transcript in
    let d = c.check_inputs.new.declaration in
    let w = c.check_inputs.new.witness in
    let lines = appended_bytes c.args.out.now.lines.items c.tell_segment.new.out.items in
    let made = appended_bytes c.args.out.now.left.items c.tell_segment.new.made.items in
    let checked = c.in-Ok.ensures.checks (came_of t) (came_of d) (came_of w) (itself t) (itself d) (itself w) in (
      done_leads c.args.asked.leaves c.in-Ok.segment (came_of t) (came_of d) (came_of w) c.args.asked.since c.tell_segment.result lines made checked c.tell_segment.ensures.tells done,
      c.in-Ok.ensures.ended.0,
      c.in-Ok.ensures.ended.1,
      c.in-Ok.ensures.ended.2,
    )

pub returns-in-Ok-clause-known : goal.returns-in-Ok-clause-known
returns-in-Ok-clause-known g c = knows (came_of c.check_inputs.new.transcript) c.tell_segment.result c.in-Ok.segment.records.transcript.head c.in-Ok.ensures.known

pub returns-in-Err-clause-known : goal.returns-in-Err-clause-known
returns-in-Err-clause-known g c =
    refusal_knows (came_of c.check_inputs.new.transcript) c.fault_lines.result c.in-Err.fault c.append.result (appended_bytes c.args.out.now.lines.items c.append.new.out.items) None
    c.fault_lines.ensures c.append.ensures.prints
