use Rattle.std.proofs.Common.{◌++◌, ◌∷◌, [], List}
use Rattle.kmipa_store.specs.Ledger.{Held, held}
use Rattle.kmipa_store.proofs.PresentLemmas.{logs_made}
use Rattle.kmipa_store.proofs.changes.push_object.Goals as goal

pub returns : goal.returns
returns c =
    let x = c.args.present.now in
    let wanted : List Held = x.dated.objects ++ held c.args.object ∷ [] in
    let d = c.write_down in
    logs_made c.args.places.now.items x c.push.new.self d.new.present c.args.changes.now.items d.new.changes.items wanted c.in_ok-change.change d.result c.in_ok-change.ensures d.ensures
