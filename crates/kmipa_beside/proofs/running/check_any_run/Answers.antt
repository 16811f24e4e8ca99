use Rattle.kmipa_ttlv.specs.Input.{came_of}
use Rattle.kmipa_beside.specs.Checks.{as_ever, beside, in_sight}
use Rattle.kmipa_beside.proofs.AuditLemmas.{hides_alone, sets_aside, sets_nothing_aside}
use Rattle.kmipa_beside.proofs.ReachLemmas.{taken_less}
use Rattle.kmipa_beside.proofs.running.check_any_run.Goals as goal

pub check_as_ever-requires-clause-taken : goal.check_as_ever-requires-clause-taken
check_as_ever-requires-clause-taken g c =
    taken_less c.in-Ok.settings (came_of c.read_declaration_into.new.input) c.read_declaration_into.new.taker c.in-AsEver.ensures.0 c.in-AsEver.ensures.1 c.in-Ok.ensures.found.0

pub returns-in-AsEver-clause-told : goal.returns-in-AsEver-clause-told
returns-in-AsEver-clause-told g c =
    let taken = c.in-Ok.ensures.found.0 in
    as_ever taken.declared
    (sets_nothing_aside (came_of c.read_declaration_into.new.input) c.in-Ok.settings c.read_declaration_into.new.taker taken c.in-AsEver.ensures.0 c.in-AsEver.ensures.1) c.check_as_ever.ensures.told

pub returns-in-InSight-clause-told : goal.returns-in-InSight-clause-told
returns-in-InSight-clause-told g c =
    let taken = c.in-Ok.ensures.found.0 in
    in_sight taken.declared
    (hides_alone (came_of c.read_declaration_into.new.input) c.in-Ok.settings c.read_declaration_into.new.taker taken c.in-InSight.ensures.0 c.in-InSight.ensures.1) c.check_in_sight.ensures.told

pub returns-in-Beside-clause-told : goal.returns-in-Beside-clause-told
returns-in-Beside-clause-told g c =
    let taken = c.in-Ok.ensures.found.0 in
    beside taken.declared (sets_aside (came_of c.read_declaration_into.new.input) c.in-Ok.settings c.read_declaration_into.new.taker taken c.in-Beside.ensures) c.check_beside.ensures.told
