use Rattle.kmipa_msgs.specs.Messages.{row_of}
use Rattle.kmipa_record.specs.DeclarationRecords.{row, allow, own, entry, aside}
use Rattle.kmipa_record.specs.Entries.{entry_of}
use Rattle.std.proofs.Common.{string_bytes}
use Rattle.kmipa_record.proofs.RecordsLemmas.{keeps_more}
use Rattle.kmipa_record.proofs.records.RecordsTakesRecords.take.Goals as goal

pub returns-in-Row : goal.returns-in-Row
returns-in-Row c = λ declared keeps. rw c.in-Row.is (keeps_more c.args.self.now c.take_row.new.self declared (row (row_of c.in-Row.row)) c.take_row.result keeps c.take_row.ensures)

pub returns-in-Allow : goal.returns-in-Allow
returns-in-Allow c = λ declared keeps. rw c.in-Allow.is (keeps_more c.args.self.now c.take_line.new.self declared (allow c.in-Allow.line) c.take_line.result keeps c.take_line.ensures)

pub returns-in-Own : goal.returns-in-Own
returns-in-Own c = λ declared keeps. rw c.in-Own.is (keeps_more c.args.self.now c.take_attribute.new.self declared (own c.in-Own.attribute) c.take_attribute.result keeps c.take_attribute.ensures)

pub returns-in-Entry : goal.returns-in-Entry
returns-in-Entry c = λ declared keeps. rw c.in-Entry.is (keeps_more c.args.self.now c.take_entry.new.self declared (entry (entry_of c.in-Entry.entry)) c.take_entry.result keeps c.take_entry.ensures)

pub returns-in-Aside : goal.returns-in-Aside
returns-in-Aside c = λ declared keeps. rw c.in-Aside.is (keeps_more c.args.self.now c.take_aside.new.self declared (aside (string_bytes c.in-Aside.id)) c.take_aside.result keeps c.take_aside.ensures)
