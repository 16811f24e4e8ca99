use Rattle.std.proofs.Common.{map}
use Rattle.clap.specs.Words.{app_of, fault_of}
use Rattle.kmipa_words.specs.Words.{program_app}
use Rattle.kmipa_words.proofs.WordLemmas.{fits, parsed, reported, has_kind}
use Rattle.kmipa_words.proofs.words.read_words.Goals as goal

pub returns-in-Err-clause-reported :
    goal.returns-in-Err-clause-reported
returns-in-Err-clause-reported g c =
    let words = map g.S.AsStr.text c.args.words.now in
    let error = c.in-Err.error in
    reported (fault_of program_app words) error c.usage_of.result
    (has_kind (app_of c.in-Ok.command) words error c.in-Ok.ensures c.in-Err.ensures.kinds)
    c.usage_of.ensures

pub returns-in-Ok-try_get_matches_from-clause-job : goal.returns-in-Ok-try_get_matches_from-clause-job
returns-in-Ok-try_get_matches_from-clause-job g c =
    let words = map g.S.AsStr.text c.args.words.now in
    parsed c.job_of.result c.ok_or.result (app_of c.in-Ok.command) words c.in-Ok-try_get_matches_from.matches c.in-Ok.ensures c.in-Ok-try_get_matches_from.ensures.matches
    c.job_of.ensures c.ok_or.ensures.ok_part

pub returns-in-Ok-try_get_matches_from-clause-fits : goal.returns-in-Ok-try_get_matches_from-clause-fits
returns-in-Ok-try_get_matches_from-clause-fits g c =
    let words = map g.S.AsStr.text c.args.words.now in
    fits c.ok_or.result (app_of c.in-Ok.command) words c.in-Ok.ensures c.in-Ok-try_get_matches_from.ensures.kinds
