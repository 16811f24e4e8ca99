use Rattle.std.proofs.Common.{List, Ok, ap, sym, ◌∙◌, subst}
use Rattle.kmipa_object.specs.Life.{state, dates_of}
use Rattle.kmipa_object.specs.Lists.{updated}
use Rattle.kmipa_store.specs.Clock.{Time, noted_life, without}
use Rattle.kmipa_store.specs.Ledger.{Held, relived}
use Rattle.kmipa_store.specs.Names.{Covers}
use Rattle.kmipa_store.specs.Present.{Makes, Standing}
use Rattle.kmipa_store.specs.declared.changes.ObjectChange.TheVariants.{Replaced}
use Rattle.kmipa_store.proofs.FeatureLemmas.{lasts_led}
use Rattle.kmipa_store.proofs.NameLemmas.{covers_relived}
use Rattle.kmipa_store.proofs.PresentLemmas.{makes_relived, stand, told_relived}
use Rattle.kmipa_store.proofs.SoughtLemmas.{sought_led}
use Rattle.kmipa_store.proofs.present.Present.set_life.Goals as goal

pub invariant_of-self-2 : goal.invariant_of-self-2
invariant_of-self-2 c =
    let i = c.self.inside in
    let after : Time → Time = λ x. record x { states = updated x.states c.args.place (λ _. state (dates_of c.args.life) x.moment) } in (
      told_relived i.objects c.set_life.new.self c.args.place c.args.life i.clock c.tell.new.self (noted_life i.clock.moment i.clock.due c.args.place c.args.life) c.self.invariant.0 c.set_life.ensures (c.tell.ensures ∙ ap after c.in_ok-brought.ensures.0),
      λ w. subst (λ (x : List Held). Covers i.names x) (sym c.set_life.ensures) (covers_relived i.names i.objects c.args.place c.args.life (c.self.invariant.1 w)),
      lasts_led i.features i.objects c.set_life.new.self c.args.place c.args.life c.self.invariant.2 c.set_life.ensures,
      sought_led i.sought i.objects c.set_life.new.self c.args.place c.args.life c.set_life.ensures c.self.invariant.3,
    )

pub returns : goal.returns
returns c =
    let i = c.self.inside in
    let place = c.args.place in
    let after : Time → Time = λ x. record x { states = updated x.states place (λ _. state (dates_of c.args.life) x.moment) } in
    let o = c.at.result.now in
    subst (λ (x : Standing). Makes x (relived x.dated.objects place c.args.life) (Ok (Replaced place o.life c.in_ok-brought.brought)) (stand c.set_life.new.self c.tell.new.self)) c.self.view_is
    (makes_relived i.objects c.set_life.new.self o i.clock c.tell.new.self place c.args.life (updated i.clock.states place (λ _. state (dates_of c.args.life) i.clock.moment)) c.in_ok-brought.brought
    c.set_life.ensures c.at.ensures (c.tell.ensures ∙ ap after c.in_ok-brought.ensures.0) (ap (λ (x : Time). without x.due place c.in_ok-brought.brought) c.tell.ensures ∙ c.in_ok-brought.ensures.1))
