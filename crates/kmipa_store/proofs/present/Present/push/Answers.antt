use Rattle.std.proofs.Common.{◌++◌, ◌∷◌, [], List, map, Ok, sym, subst}
use Rattle.kmipa_attrs.specs.Sets.{name_of}
use Rattle.kmipa_attrs.specs.declared.name.Name.{Name}
use Rattle.kmipa_object.specs.Life.{state, dates_of}
use Rattle.kmipa_store.specs.Clock.{Time, noted_life}
use Rattle.kmipa_store.specs.Features.{KnowsLasting}
use Rattle.kmipa_store.specs.Ledger.{Held, held}
use Rattle.kmipa_store.specs.Names.{AreListed, Covers}
use Rattle.kmipa_store.specs.Present.{Makes, Standing}
use Rattle.kmipa_store.specs.Sought.{KnowsSought}
use Rattle.kmipa_store.specs.declared.changes.ObjectChange.TheVariants.{Added}
use Rattle.kmipa_store.proofs.FeatureLemmas.{lasts_more}
use Rattle.kmipa_store.proofs.NameLemmas.{covers_noted, covers_pushed}
use Rattle.kmipa_store.proofs.PresentLemmas.{Tells, makes_pushed, removed_same, stand, told_pushed}
use Rattle.kmipa_store.proofs.SoughtLemmas.{sought_more}
use Rattle.kmipa_store.proofs.present.Present.push.Goals as goal

pub invariant_of-self : goal.invariant_of-self
invariant_of-self c =
    let i = c.self.inside in
    (c.self.invariant.0, λ w. covers_noted i.names c.note.new.self i.objects c.len-place.result (map name_of c.as_slice.result.now) c.note.result (c.self.invariant.1 w) c.note.ensures, c.self.invariant.2, c.self.invariant.3)

pub invariant_of-self-in_err-brought : goal.invariant_of-self-in_err-brought
invariant_of-self-in_err-brought c =
    let i = c.self.inside in (
      subst (λ (x : Time). Tells i.objects x) (sym c.in_err-brought.ensures.1) c.self.invariant.0,
      λ w. covers_noted i.names c.note.new.self i.objects c.len-place.result (map name_of c.as_slice.result.now) c.note.result (c.self.invariant.1 w) c.note.ensures,
      c.self.invariant.2,
      c.self.invariant.3,
    )

pub invariant_of-self-in-Ok : goal.invariant_of-self-in-Ok
invariant_of-self-in-Ok c =
    let i = c.self.inside in (
      told_pushed i.objects c.push.new.self (held c.args.object) i.clock c.add.new.self (noted_life i.clock.moment i.clock.due c.len-place.result c.args.object.life) c.self.invariant.0 c.in-Ok.ensures c.in_ok-brought.ensures.0,
      λ w. covers_pushed i.names c.note.new.self i.objects c.push.new.self (held c.args.object) c.len-place.result (c.self.invariant.1 w) c.len-place.ensures c.in_ok-note.ensures.0
          (subst (λ (x : List Name). AreListed c.note.new.self c.len-place.result (map name_of x)) c.as_slice.ensures c.in_ok-note.ensures.1) c.in-Ok.ensures,
      lasts_more i.features c.note_object.new.self i.objects c.push.new.self (held c.args.object) (held c.at.result.now) c.len-place.result c.self.invariant.2 c.in-Ok.ensures c.len-place.ensures c.at.ensures c.note_object.ensures,
      sought_more i.sought i.objects c.push.new.self (held c.args.object) c.in-Ok.ensures c.self.invariant.3,
    )

pub invariant_of-self-in-Err : goal.invariant_of-self-in-Err
invariant_of-self-in-Err c =
    let i = c.self.inside in
    let same = removed_same i.clock c.add.new.self c.remove.new.self (state (dates_of c.args.object.life) i.clock.moment) c.len-place.result (noted_life i.clock.moment i.clock.due c.len-place.result c.args.object.life) c.in_ok-brought.brought
    c.in_ok-brought.ensures.0 c.in_ok-brought.ensures.1 c.remove.ensures in (
      subst (λ (x : Time). Tells c.push.new.self x) (sym same) (subst (λ (x : List Held). Tells x i.clock) (sym c.in-Err.ensures.1) c.self.invariant.0),
      λ w. subst (λ (x : List Held). Covers c.note.new.self x) (sym c.in-Err.ensures.1)
          (covers_noted i.names c.note.new.self i.objects c.len-place.result (map name_of c.as_slice.result.now) c.note.result (c.self.invariant.1 w) c.note.ensures),
      subst (λ (x : List Held). KnowsLasting i.features x) (sym c.in-Err.ensures.1) c.self.invariant.2,
      subst (λ (x : List Held). KnowsSought i.sought x) (sym c.in-Err.ensures.1) c.self.invariant.3,
    )

pub returns-in-Ok : goal.returns-in-Ok
returns-in-Ok c =
    let i = c.self.inside in
    subst (λ (x : Standing). Makes x (x.dated.objects ++ held c.args.object ∷ []) (Ok (Added c.in_ok-brought.brought)) (stand c.push.new.self c.add.new.self)) c.self.view_is
    (makes_pushed i.objects c.push.new.self c.args.object i.clock c.add.new.self c.len-place.result (i.clock.states ++ state (dates_of c.args.object.life) i.clock.moment ∷ []) c.in_ok-brought.brought
    c.in-Ok.ensures c.len-place.ensures c.in_ok-brought.ensures.0 c.in_ok-brought.ensures.1)
