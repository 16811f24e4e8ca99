-- Revoke.
use Rattle.kmipa_ops.specs.Changes.{change_deed}
use Rattle.kmipa_ops.specs.Row.{Deed}
use Rattle.kmipa_ops.specs.declared.change.Change.TheVariants.{Revoke}
use Rattle.kmipa_msgs.specs.Messages.{RevokeOf}

abbrev pub revoke_deed : RevokeOf → Deed
revoke_deed r = change_deed r.id (Revoke r.code)
