use Rattle.std.proofs.Common.{◌≡◌, List, map, string_bytes, Option, Ok, ap, sym, ◌∙◌, subst}
use Rattle.std.specs.Box.{with_value}
use Rattle.kmipa_attrs.specs.Sets.{name_of}
use Rattle.kmipa_attrs.specs.declared.name.Name.{Name}
use Rattle.kmipa_object.specs.Life.{state, dates_of}
use Rattle.kmipa_object.specs.Lists.{updated}
use Rattle.kmipa_object.specs.declared.object.Object.{Object}
use Rattle.kmipa_store.specs.Clock.{Time, noted_life, without}
use Rattle.kmipa_store.specs.Ledger.{Held, held, id_at}
use Rattle.kmipa_store.specs.Names.{AreListed, Covers}
use Rattle.kmipa_store.specs.Objects.{GivesFormer, become, exchanged}
use Rattle.kmipa_store.specs.Present.{Makes, Standing}
use Rattle.kmipa_store.specs.declared.changes.ObjectChange.TheVariants.{Renewed}
use Rattle.kmipa_store.proofs.ChangeLemmas.{at_id}
use Rattle.kmipa_store.proofs.NameLemmas.{covers_exchanged}
use Rattle.kmipa_store.proofs.PresentLemmas.{makes_exchanged, stand, told_exchanged}
use Rattle.kmipa_store.proofs.SoughtLemmas.{differ_exchanged}
use Rattle.kmipa_store.proofs.present.Present.renew.Goals as goal

pub invariant_of-self-2 : goal.invariant_of-self-2
invariant_of-self-2 c =
    let i = c.self.inside in
    let o = c.args.object in
    let place = c.args.place in
    let was : c.deref_mut.result.now ≡ o = c.deref_mut.ensures.value ∙ c.in_ok-other.ensures.ok in
    let now : c.exchange.new.objects ≡ exchanged i.objects place (held o) = c.exchange.ensures.after ∙ ap (λ (x : Object). exchanged i.objects place (held x)) was in
    let after : Time → Time = λ x. record x { states = updated x.states place (λ _. state (dates_of o.life) x.moment) } in (
      told_exchanged i.objects c.exchange.new.objects place (held o) i.clock c.tell.new.self (noted_life i.clock.moment i.clock.due place o.life) c.self.invariant.0 now (c.tell.ensures ∙ ap after c.in_ok-brought.ensures.0),
      λ w. subst (λ (x : List Held). Covers c.note.new.self x) (sym now)
          (covers_exchanged i.names c.note.new.self i.objects place (held o) (c.self.invariant.1 w) c.in_ok-note.ensures.0 (subst (λ (x : List Name). AreListed c.note.new.self place (map name_of x)) c.as_slice-names.ensures c.in_ok-note.ensures.1)),
      c.exchange.ensures.features c.self.invariant.2,
      c.touch.ensures i.objects c.exchange.new.objects (differ_exchanged i.objects c.exchange.new.objects place (held o) now) c.self.invariant.3,
    )

pub returns : goal.returns
returns c =
    let i = c.self.inside in
    let o = c.args.object in
    let place = c.args.place in
    let b = c.in_ok-brought.brought in
    let former = with_value c.in_ok-other.other c.exchange.new.other in
    let was : c.deref_mut.result.now ≡ o = c.deref_mut.ensures.value ∙ c.in_ok-other.ensures.ok in
    let now : c.exchange.new.objects ≡ exchanged i.objects place (held o) = c.exchange.ensures.after ∙ ap (λ (x : Object). exchanged i.objects place (held x)) was in
    let after : Time → Time = λ x. record x { states = updated x.states place (λ _. state (dates_of o.life) x.moment) } in
    let g = at_id i.objects place (string_bytes o.id) (ap (λ (x : Standing). id_at x.dated.objects place) c.self.view_is ∙ c.requires.same) in
    let left : held c.exchange.new.other ≡ become (held o) g.0 =
    subst (λ (x : Option Held). GivesFormer x (held c.deref_mut.result.now) (held c.exchange.new.other)) g.1 c.exchange.ensures.former ∙ ap (λ (x : Object). become (held x) g.0) was in
    subst (λ (x : Standing). Makes x (updated x.dated.objects place (λ _. held o)) (Ok (Renewed place former b)) (stand c.exchange.new.objects c.tell.new.self)) c.self.view_is
    (makes_exchanged i.objects c.exchange.new.objects o former g.0 i.clock c.tell.new.self place (updated i.clock.states place (λ _. state (dates_of o.life) i.clock.moment)) b
    now g.1 g.2 left (c.tell.ensures ∙ ap after c.in_ok-brought.ensures.0) (ap (λ (x : Time). without x.due place b) c.tell.ensures ∙ c.in_ok-brought.ensures.1))
