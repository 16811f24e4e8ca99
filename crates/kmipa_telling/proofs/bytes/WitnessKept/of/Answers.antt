use Rattle.std.specs.contracts.io.impls.RefSliceU8Read.TheImpl.{ghosts}
use Rattle.std.proofs.Common.{◌∙◌, Some, ap, sym}
use Rattle.kmipa_record.specs.Witnesses.{witness_of, IsWitness, WitnessFault, IsWitnessUpTo}
use Rattle.kmipa_telling.proofs.HeldLemmas.{read_known}
use Rattle.kmipa_telling.proofs.bytes.WitnessKept.of.Goals as goal

pub returns-clause-reads : goal.returns-clause-reads
returns-clause-reads c =
    let read = c.read_witness-read in
    read_known read.result ghosts.remaining c.args.bytes.now c.new-input.result read.new.input (λ b w. IsWitness b (witness_of w)) WitnessFault IsWitnessUpTo c.ended.result
    c.new-input.ensures.none_came c.new-input.ensures.goes_on (ap (λ r. Some r.now) c.new-input.ensures.reader) read.ensures.over
    (sym c.failed.ensures ∙ c.if-failed.false) c.ended.ensures read.ensures.found read.ensures.fault
