use Rattle.std.proofs.Common.{Err, None, [], sym}
use Rattle.std.proofs.lemmas.List.{append-nil}
use Rattle.std.specs.Io.{appended_bytes}
use Rattle.kmipa_ttlv.specs.Input.{came_of}
use Rattle.kmipa_ttlv.proofs.ReadLemmas.{itself}
use Rattle.kmipa_runs.proofs.AppendLemmas.{since}
use Rattle.kmipa_runs.proofs.KnowingLemmas.{knows}
use Rattle.kmipa_telling.proofs.ExplainingLemmas.{explained_reported}
use Rattle.kmipa_searches.proofs.GivingUpLemmas.{done_is_decided, fault_reported}
use Rattle.kmipa_telling.proofs.SealLemmas.{told_knows}
use Rattle.kmipa_searches.proofs.giving_up.explain_search_run.Goals as goal

pub returns-in-Err-clause-prints : goal.returns-in-Err-clause-prints
returns-in-Err-clause-prints g c =
    let lines = appended_bytes c.args.out.now.lines.items c.append.new.out.items in
    let made = c.args.out.now.made.items in (
      Err c.in-Err.told,
      c.in-Err.ensures.decides,
      fault_reported c.fault_told_lines.result c.in-Err.told c.append.result lines (appended_bytes made made) c.fault_told_lines.ensures c.append.ensures.prints
          (since made [] made (sym (append-nil made))),
    )

pub returns-in-Ok-clause-accepts : goal.returns-in-Ok-clause-accepts
returns-in-Ok-clause-accepts g c = λ done.
    let t = c.judge_inputs.new.transcript in
    let d = c.judge_inputs.new.declaration in
    let lines = appended_bytes c.args.out.now.lines.items c.tell_judged.new.out.items in
    let made = appended_bytes c.args.out.now.made.items c.tell_judged.new.made.items in
    let found = c.in-Ok.ensures.decides (came_of t) (came_of d) (itself t) (itself d) in
    let accepted = done_is_decided c.in-Ok.judged (came_of t) (came_of d) (g.W.Watch.seconds c.args.watch.now) c.args.asked.budget c.args.asked.forced c.tell_judged.result lines made found c.tell_judged.ensures.tells done in
    (accepted, c.in-Ok.ensures.ended.0, c.in-Ok.ensures.ended.1)

pub returns-in-Ok-clause-known : goal.returns-in-Ok-clause-known
returns-in-Ok-clause-known g c = knows (came_of c.judge_inputs.new.transcript) c.tell_judged.result c.judge_inputs.new.head c.in-Ok.ensures.known

pub returns-in-Err-clause-known : goal.returns-in-Err-clause-known
returns-in-Err-clause-known g c =
    let lines = appended_bytes c.args.out.now.lines.items c.append.new.out.items in
    told_knows (came_of c.judge_inputs.new.transcript) c.in-Err.told c.append.result lines None
    (explained_reported c.fault_told_lines.result (Err c.in-Err.told) c.append.result lines c.fault_told_lines.ensures c.append.ensures.prints)
