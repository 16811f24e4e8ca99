use Rattle.std.proofs.Common.{None}
use Rattle.kmipa_json.specs.Told.{members_of}
use Rattle.kmipa_telling.specs.FaultsTold.{TellsFaultTold}
use Rattle.kmipa_judge.proofs.CheckLemmas.{in_object}
use Rattle.kmipa_judge.proofs.checking.object.fault_object.Goals as goal

pub returns : goal.returns
returns g c =
    let t = c.args.files.now.transcript.now in
    let d = c.args.files.now.declaration.now in
    let w = c.args.files.now.witness.now in
    in_object c.args.torn None t d w (TellsFaultTold c.args.fault.now c.in_ok-status.status) (members_of c.in_ok-told.told) (members_of c.tell_fault_told.new.told) _
    c.in_ok-told.ensures c.in_ok-status.ensures c.in_ok-text.ensures
