use Rattle.std.proofs.Common.{inr}
use Rattle.kmipa_command.proofs.session.run_session.Goals as goal

pub returns-in-Err : goal.returns-in-Err
returns-in-Err g c = inr (c.in-Err.usage, c.in-Err.ensures.reported, c.run_usage.ensures)
