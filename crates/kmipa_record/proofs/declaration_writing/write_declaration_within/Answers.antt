use Rattle.kmipa_record.specs.Declarations.{declaration_of}
use Rattle.kmipa_record.proofs.DeclarationWritingLemmas.{written, unwritten}
use Rattle.kmipa_record.proofs.declaration_writing.write_declaration_within.Goals as goal

pub returns-in-Ok-clause-written : goal.returns-in-Ok-clause-written
returns-in-Ok-clause-written c =
    let put = c.in-Ok.ensures.put in
    written c.args.reach (declaration_of c.args.declaration.now) put.1 put.0 put.2 c.args.out.now.items c.put_declaration.new.out.items put.3

pub returns-in-Err-clause-refused : goal.returns-in-Err-clause-refused
returns-in-Err-clause-refused c = unwritten c.args.reach (declaration_of c.args.declaration.now) c.in-Err.kind c.in-Err.ensures.refused
