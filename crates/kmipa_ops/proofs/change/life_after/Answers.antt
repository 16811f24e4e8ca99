use Rattle.std.specs.Int.{w64}
use Rattle.std.proofs.lemmas.Int.{to_z-of_z}
use Rattle.kmipa_object.specs.Life.{dates_of}
use Rattle.kmipa_ops.specs.declared.change.Change.TheVariants.{Activate, Revoke, Destroy}
use Rattle.kmipa_ops.proofs.ChangeLemmas.{excluded_is}
use Rattle.kmipa_ops.proofs.change.life_after.Goals as goal

pub returns-in-Activate-clause-err : goal.returns-in-Activate-clause-err
returns-in-Activate-clause-err c = excluded_is c.args.change Activate (dates_of c.args.life) c.args.t _ c.activated.result c.in-Activate.is (to_z-of_z w64 c.args.t c.ranges.t) c.activated.ensures.err

pub returns-in-Revoke-clause-err : goal.returns-in-Revoke-clause-err
returns-in-Revoke-clause-err c =
    excluded_is c.args.change (Revoke c.in-Revoke.code) (dates_of c.args.life) c.args.t _ c.revoked.result c.in-Revoke.is (to_z-of_z w64 c.args.t c.ranges.t) c.revoked.ensures.err

pub returns-in-Destroy-clause-err : goal.returns-in-Destroy-clause-err
returns-in-Destroy-clause-err c = excluded_is c.args.change Destroy (dates_of c.args.life) c.args.t _ c.destroyed.result c.in-Destroy.is (to_z-of_z w64 c.args.t c.ranges.t) c.destroyed.ensures.err
