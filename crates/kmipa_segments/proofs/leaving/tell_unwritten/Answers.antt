use Rattle.std.proofs.Common.{map}
use Rattle.std.specs.Io.{appended_bytes}
use Rattle.kmipa_record.specs.Entries.{entry_of}
use Rattle.kmipa_segments.proofs.LeavingLemmas.{refused_told}
use Rattle.kmipa_segments.proofs.leaving.tell_unwritten.Goals as goal

pub returns-in-Entry-clause-tells : goal.returns-in-Entry-clause-tells
returns-in-Entry-clause-tells c =
    refused_told c.args.kind c.unwritten_lines.result (map entry_of c.args.declaration.now.entries.items) c.append.result (appended_bytes c.args.out.now.items c.append.new.out.items)
    c.in-Entry.is c.unwritten_lines.ensures c.append.ensures.prints
