use Rattle.std.proofs.Common.{List}
use Rattle.kmipa_object.specs.Lists.{updated}
use Rattle.kmipa_store.specs.Ledger.{Held, held}
use Rattle.kmipa_store.proofs.PresentLemmas.{logs_made}
use Rattle.kmipa_store.proofs.changes.renew_object.Goals as goal

pub returns : goal.returns
returns c =
    let x = c.args.present.now in
    let wanted : List Held = updated x.dated.objects c.args.place (λ _. held c.args.object) in
    let d = c.write_down in
    logs_made c.args.places.now.items x c.renew.new.self d.new.present c.args.changes.now.items d.new.changes.items wanted c.in_ok-change.change d.result c.in_ok-change.ensures d.ensures
