use Rattle.std.proofs.Common.{refl}
use Rattle.std.proofs.lemmas.Result.{err_from_is_err_and}
use Rattle.kmipa_ttlv.specs.Input.{came_of}
use Rattle.kmipa_record.specs.Declarations.{nothing_declared}
use Rattle.kmipa_record.proofs.DeclarationLemmas.{none_may, all_taken}
use Rattle.kmipa_record.proofs.declaration.read_declaration_into.Goals as goal

pub records-init : goal.records-init
records-init g c =
    let header = c.in_ok-header.header in (
      record {
        declared = nothing_declared header.settings;
        named = refl;
        may = none_may header.settings;
        held = c.requires.none header.settings;
        read = c.in_ok-header.ensures.read;
      },
      c.in_ok-header.ensures.sound,
      c.read_declaration_header.ensures.over,
    )

pub returns-clause-found : goal.returns-clause-found
returns-clause-found g c = (
  all_taken c.args.reach c.in_ok-header.header g.T.TakesRecords.holds (came_of c.read_record.new.input) c.read_record.new.taker c.in_ok-read_record.ensures.read,
  c.in_ok-read_record.ensures.end c.if-branch.false,
)

pub returns-in_err-header-clause-fault : goal.returns-in_err-header-clause-fault
returns-in_err-header-clause-fault g c = λ file is.
    let p = err_from_is_err_and c.from_residual.result c.from_residual.ensures.1 in
    rw (p.1, p.2) (c.in_err-header.ensures.fault file is)

pub returns-in_err-read_record-clause-fault : goal.returns-in_err-read_record-clause-fault
returns-in_err-read_record-clause-fault g c = λ file is.
    let p = err_from_is_err_and c.from_residual-in_err-read_record.result c.from_residual-in_err-read_record.ensures.1 in
    rw (p.1, p.2) (c.in_err-read_record.ensures.fault file is)

pub records-preserved : goal.records-preserved
records-preserved g c = (c.in_ok-read_record.ensures.read, c.in_ok-read_record.ensures.sound, λ xs h. c.read_record.ensures.over xs (c.records.invariant.2 xs h))
