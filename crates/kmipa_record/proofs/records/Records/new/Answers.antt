use Rattle.kmipa_record.proofs.RecordsLemmas.{kept_none}
use Rattle.kmipa_record.proofs.records.Records.new.Goals as goal

pub returns-clause-kept : goal.returns-clause-kept
returns-clause-kept c =
    kept_none (record { rows = c.new.result; allow_lines = c.new-2.result; own_attributes = c.new-3.result; entries = c.new-4.result; asides = c.new-5.result; places = c.new-6.result; others = c.new-7.result }) c.new-4.ensures.items c.new-5.ensures.items c.new-7.ensures.empty
