use Rattle.std.proofs.Common.{refl, Err, sym, subst}
use Rattle.kmipa_record.specs.Witnesses.{turn_of}
use Rattle.kmipa_check.specs.declared.fault.CheckFault.{CheckFault}
use Rattle.kmipa_stream.specs.Standing.{Judges}
use Rattle.kmipa_stream.proofs.StandingLemmas.{standing_closed, stands_closed}
use Rattle.kmipa_stream.proofs.ConcludingLemmas.{found_told, still_done}
use Rattle.kmipa_stream.proofs.auditor.Auditor.judge.Goals as goal

pub catch_up-requires : goal.catch_up-requires
catch_up-requires c = standing_closed c.args.self.now c.requires

pub returns-in-Some : goal.returns-in-Some
returns-in-Some c = λ marks turns declared r s.
    let caught = c.in-Ok.ensures.stands marks turns declared (stands_closed marks turns declared c.args.self.now s) in
    let rest = c.in-Ok-read_rest.ensures.stands marks turns declared caught in
    let P : CheckFault → Type 0 = λ f. Judges marks declared (Rattle.std.proofs.Common.map turn_of turns) (Err f) in
    subst P (sym c.fault.ensures) (found_told marks turns declared c.read_rest.new.self c.in-Some.found r rest c.in-Ok-read_rest.ensures.all c.in-Some.is)

pub returns-in-None : goal.returns-in-None
returns-in-None c = λ marks turns declared r s.
    let caught = c.in-Ok.ensures.stands marks turns declared (stands_closed marks turns declared c.args.self.now s) in
    let rest = c.in-Ok-read_rest.ensures.stands marks turns declared caught in
    c.conclude.ensures marks turns declared r rest c.in-Ok-read_rest.ensures.all c.in-None.is
    (still_done c.catch_up.new.self c.read_rest.new.self c.in-Ok-read_rest.ensures.replay c.in-Ok-read_rest.ensures.lowest c.in-None.is (c.in-Ok.ensures.done refl))
