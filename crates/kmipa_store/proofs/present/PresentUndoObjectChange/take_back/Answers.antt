use Rattle.std.proofs.Common.{List, map, ap, sym, ◌∙◌, subst}
use Rattle.kmipa_attrs.specs.Sets.{name_of}
use Rattle.kmipa_store.specs.Clock.{Time, without}
use Rattle.kmipa_store.specs.Ledger.{Held, held}
use Rattle.kmipa_store.specs.Names.{Covers}
use Rattle.kmipa_store.proofs.FeatureLemmas.{lasts_fewer, lasts_led}
use Rattle.kmipa_store.proofs.NameLemmas.{covers_back, covers_popped, covers_relived}
use Rattle.kmipa_store.proofs.PresentLemmas.{told_exchanged, told_popped, told_relived}
use Rattle.kmipa_store.proofs.SoughtLemmas.{differ_exchanged, differ_popped, popped_place, sought_led}
use Rattle.kmipa_store.proofs.present.PresentUndoObjectChange.take_back.Goals as goal

pub invariant_of-self : goal.invariant_of-self
invariant_of-self c =
    let i = c.self.inside in (
      told_popped i.objects c.pop.new.self i.clock c.remove.new.self (without i.clock.due c.len-last.result c.in-Added.brought) c.self.invariant.0 c.pop.ensures c.remove.ensures,
      λ w. subst (λ (x : List Held). Covers c.forget_last.new.names x) (sym c.pop.ensures) (covers_popped i.names c.forget_last.new.names i.objects (c.self.invariant.1 w) c.forget_last.ensures.names),
      lasts_fewer i.features c.forget_last.new.features i.objects c.pop.new.self c.self.invariant.2 c.forget_last.ensures.features c.pop.ensures,
      c.touch.ensures i.objects c.pop.new.self (differ_popped i.objects c.pop.new.self c.len-last.result c.pop.ensures (popped_place i.objects c.pop.new.self c.len-last.result c.pop.ensures c.len-last.ensures)) c.self.invariant.3,
    )

pub invariant_of-self-in-Replaced : goal.invariant_of-self-in-Replaced
invariant_of-self-in-Replaced c =
    let i = c.self.inside in
    let r = c.in-Replaced in
    let after : Time → Time = λ x. record x { due = without x.due r.place r.brought } in (
      told_relived i.objects c.set_life.new.self r.place r.life i.clock c.forget.new.self (without i.clock.due r.place r.brought) c.self.invariant.0 c.set_life.ensures (c.forget.ensures ∙ ap after c.tell.ensures),
      λ w. subst (λ (x : List Held). Covers i.names x) (sym c.set_life.ensures) (covers_relived i.names i.objects r.place r.life (c.self.invariant.1 w)),
      lasts_led i.features i.objects c.set_life.new.self r.place r.life c.self.invariant.2 c.set_life.ensures,
      sought_led i.sought i.objects c.set_life.new.self r.place r.life c.set_life.ensures c.self.invariant.3,
    )

pub invariant_of-self-in-Renewed : goal.invariant_of-self-in-Renewed
invariant_of-self-in-Renewed c =
    let i = c.self.inside in
    let r = c.in-Renewed in
    let h = held c.into_inner-former.result in
    let l = c.list_again-are_listed in
    let after : Time → Time = λ x. record x { due = without x.due r.place r.brought } in (
      told_exchanged i.objects c.exchange.new.objects r.place h i.clock c.forget-in-Renewed.new.self (without i.clock.due r.place r.brought) c.self.invariant.0 c.exchange.ensures.after (c.forget-in-Renewed.ensures ∙ ap after c.tell-in-Renewed.ensures),
      covers_back i.are_names_listed l.result i.names l.new.names i.objects c.exchange.new.objects r.place h (map name_of c.as_slice-names.result.now) c.self.invariant.1 l.ensures (ap (map name_of) c.as_slice-names.ensures) c.exchange.ensures.after,
      c.exchange.ensures.features c.self.invariant.2,
      c.touch-in-Renewed.ensures i.objects c.exchange.new.objects (differ_exchanged i.objects c.exchange.new.objects r.place h c.exchange.ensures.after) c.self.invariant.3,
    )

pub invariant_of-self-in-Renewed-2 : goal.invariant_of-self-in-Renewed-2
invariant_of-self-in-Renewed-2 c =
    let i = c.self.inside in
    let r = c.in-Renewed in
    let h = held c.into_inner-former.result in
    let l = c.list_again-are_listed in
    let after : Time → Time = λ x. record x { due = without x.due r.place r.brought } in (
      told_exchanged i.objects c.exchange.new.objects r.place h i.clock c.forget-in-Renewed.new.self (without i.clock.due r.place r.brought) c.self.invariant.0 c.exchange.ensures.after (c.forget-in-Renewed.ensures ∙ ap after c.tell-in-Renewed.ensures),
      covers_back i.are_names_listed l.result i.names l.new.names i.objects c.exchange.new.objects r.place h (map name_of c.as_slice-names.result.now) c.self.invariant.1 l.ensures (ap (map name_of) c.as_slice-names.ensures) c.exchange.ensures.after,
      c.exchange.ensures.features c.self.invariant.2,
      c.touch-in-Renewed.ensures i.objects c.exchange.new.objects (differ_exchanged i.objects c.exchange.new.objects r.place h c.exchange.ensures.after) c.self.invariant.3,
    )
