use Rattle.std.proofs.Common.{List, map, subst}
use Rattle.kmipa_record.specs.Witnesses.{turn_of, IsWitness}
use Rattle.kmipa_record.specs.Writing.{Appends, IsWrittenWitness, Unwritten}
use Rattle.kmipa_record.specs.declared.turn.Turn.{Turn}
use Rattle.kmipa_record.proofs.WrittenWitnessLemmas.{written, unwritten}
use Rattle.kmipa_record.proofs.witness_writing.write_witness.Goals as goal

pub returns-in-Ok-clause-written : goal.returns-in-Ok-clause-written
returns-in-Ok-clause-written c =
    let put = c.in-Ok.ensures.put in
    let old = c.args.out.now.items in let new = c.put_witness.new.out.items in
    subst (λ (l : List Turn). Appends (IsWrittenWitness (map turn_of l)) old new) c.deref.ensures.value (written (map turn_of c.deref.result.now) put.0 old new put.1 put.2 put.3)

pub returns-in-Err-clause-refused : goal.returns-in-Err-clause-refused
returns-in-Err-clause-refused c =
    subst (λ (l : List Turn). Unwritten (λ bytes. IsWitness bytes (map turn_of l)) (record { offset = 0; kind = c.in-Err.kind })) c.deref.ensures.value
    (unwritten (map turn_of c.deref.result.now) c.in-Err.kind c.in-Err.ensures.refused)
