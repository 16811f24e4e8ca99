use Rattle.std.proofs.Common.{List}
use Rattle.kmipa_store.specs.Ledger.{Held, relived}
use Rattle.kmipa_store.proofs.PresentLemmas.{logs_made}
use Rattle.kmipa_store.proofs.changes.set_life.Goals as goal

pub returns : goal.returns
returns c =
    let x = c.args.present.now in
    let wanted : List Held = relived x.dated.objects c.args.place c.args.life in
    let d = c.write_down in
    logs_made c.args.places.now.items x c.set_life.new.self d.new.present c.args.changes.now.items d.new.changes.items wanted c.in_ok-change.change d.result c.in_ok-change.ensures d.ensures
