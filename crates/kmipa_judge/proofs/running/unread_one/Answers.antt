use Rattle.std.proofs.Common.{None, option_map}
use Rattle.kmipa_json.specs.Told.{members_of}
use Rattle.kmipa_judge.proofs.RunLemmas.{unread_opened}
use Rattle.kmipa_judge.proofs.running.unread_one.Goals as goal

pub returns-in-Ok-clause-told : goal.returns-in-Ok-clause-told
returns-in-Ok-clause-told g c =
    unread_opened c.args.form c.args.transcript.now None (option_map members_of c.in-Ok.opened) c.args.fault.now c.unread.result.status c.unread.result.lines.items
    c.in-Ok.ensures c.unread.ensures.told
