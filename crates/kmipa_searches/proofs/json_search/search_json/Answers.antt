use Rattle.std.proofs.Common.{None, inr}
use Rattle.std.specs.Io.{appended_bytes}
use Rattle.kmipa_ttlv.specs.Input.{came_of}
use Rattle.kmipa_telling.proofs.JsonLemmas.{only_silent, silent_not_done}
use Rattle.kmipa_searches.proofs.JsonSearchLemmas.{done_is_found, printed_search, search_reported}
use Rattle.kmipa_telling.proofs.SealLemmas.{silent_knows}
use Rattle.kmipa_searches.proofs.SealLemmas.{search_knows}
use Rattle.kmipa_searches.proofs.json_search.search_json.Goals as goal

pub returns-in-Ok-clause-prints : goal.returns-in-Ok-clause-prints
returns-in-Ok-clause-prints g c =
    let t = c.search_held.new.transcript in
    let d = c.search_held.new.declaration in
    let lines = appended_bytes c.args.out.now.lines.items c.append_both.new.out.items in
    let made = appended_bytes c.args.out.now.made.items c.append_both.new.made.items in
    printed_search c.args.asked.torn t d (g.W.Watch.seconds c.args.watch.now) c.args.asked.search.budget c.args.asked.search.forced c.in-Ok.outcome c.append_both.result lines made c.in-Ok.ensures.decides
    (search_reported c.args.asked.torn c.told_of-answer.result t d c.in-Ok.outcome c.append_both.result lines made c.told_of-answer.ensures c.append_both.ensures.appended)

pub returns-in-Ok-clause-accepts : goal.returns-in-Ok-clause-accepts
returns-in-Ok-clause-accepts g c = λ done.
    let lines = appended_bytes c.args.out.now.lines.items c.append_both.new.out.items in
    let made = appended_bytes c.args.out.now.made.items c.append_both.new.made.items in
    done_is_found c.args.asked.torn c.search_held.new.transcript c.search_held.new.declaration (g.W.Watch.seconds c.args.watch.now) c.args.asked.search.budget c.args.asked.search.forced c.append_both.result lines made (returns-in-Ok-clause-prints g c) done

pub returns-in-Ok-clause-known : goal.returns-in-Ok-clause-known
returns-in-Ok-clause-known g c =
    let t = c.search_held.new.transcript in
    let d = c.search_held.new.declaration in
    let lines = appended_bytes c.args.out.now.lines.items c.append_both.new.out.items in
    let made = appended_bytes c.args.out.now.made.items c.append_both.new.made.items in
    search_knows c.args.asked.torn t d c.in-Ok.outcome c.append_both.result lines made c.search_held.new.held.head c.in-Ok.ensures.known
    (search_reported c.args.asked.torn c.told_of-answer.result t d c.in-Ok.outcome c.append_both.result lines made c.told_of-answer.ensures c.append_both.ensures.appended)

pub returns-in-Err-clause-prints : goal.returns-in-Err-clause-prints
returns-in-Err-clause-prints g c = inr (only_silent c.append_both-in-Err.ensures.appended)

pub returns-in-Err-clause-accepts : goal.returns-in-Err-clause-accepts
returns-in-Err-clause-accepts g c = λ done.
    let silent = only_silent c.append_both-in-Err.ensures.appended in
    absurd (silent_not_done c.append_both-in-Err.result (appended_bytes c.args.out.now.lines.items c.append_both-in-Err.new.out.items) silent.0 done)

pub returns-in-Err-clause-known : goal.returns-in-Err-clause-known
returns-in-Err-clause-known g c =
    let silent = only_silent c.append_both-in-Err.ensures.appended in
    silent_knows (came_of c.search_held.new.transcript) c.append_both-in-Err.result (appended_bytes c.args.out.now.lines.items c.append_both-in-Err.new.out.items) None silent.0
