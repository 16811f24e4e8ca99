use Rattle.kmipa_session.proofs.runs.search_lines.Goals as goal

pub returns-clause-told : goal.returns-clause-told
returns-clause-told g c = record {
  searches = c.search_any_run-run.ensures.told;
  accepts = c.search_any_run-run.ensures.accepts;
}
