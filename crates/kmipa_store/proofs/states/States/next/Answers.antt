-- proofs/states/States/next/Answers.antt
use Rattle.std.proofs.Common.{◌∙◌, ap, sym}
use mir.Syntax.{w64}
use Rattle.std.proofs.lemmas.Int.{to_z-of_z}
use Rattle.kmipa_store.specs.Clock.{states_at}
use Rattle.kmipa_store.proofs.FeatureLemmas.{knows_passing}
use Rattle.kmipa_store.proofs.states.States.next.Goals as goal

pub next-requires : goal.next-requires
next-requires c =
    let i = c.self.inside in
    knows_passing i.features c.args.objects.now i.in_order.items c.args.feature _ c.self.invariant (c.self.view_is ∙ c.requires.told ∙ ap (states_at c.args.objects.now) (sym (to_z-of_z w64 c.args.t c.ranges.t))) c.requires.passing
