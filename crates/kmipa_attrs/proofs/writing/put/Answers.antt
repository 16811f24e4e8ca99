use Rattle.std.proofs.Common.{◌∙◌, ap}
use Rattle.std.specs.Option.{option_map}
use Rattle.kmipa_ttlv.specs.ItemTree.{trees}
use Rattle.kmipa_attrs.proofs.WriteLemmas.{put_one}
use Rattle.kmipa_attrs.proofs.writing.put.Goals as goal

pub returns-in_ok-push : goal.returns-in_ok-push
returns-in_ok-push g c =
    ap trees c.in_ok-push.ensures.items ∙ put_one c.args.tag c.args.children.now.items c.item.result (option_map g.T.Held.made c.args.value) (g.T.Held.made c.in-Some.value) c.item.ensures (ap (option_map g.T.Held.made) c.in-Some.is)
