use Rattle.std.proofs.Common.{List, ◌≡◌, ◌∙◌, ap, sym, refl, None, slice_get, option_map, subst}
use Rattle.kmipa_object.proofs.ListLemmas.{get-map, get_past, map-set, updated-none}
use Rattle.kmipa_store.specs.Ledger.{Held, held, relived, with_life}
use Rattle.kmipa_store.specs.Objects.{objects_of}
use Rattle.kmipa_store.specs.Slots.{AreNoted}
use Rattle.kmipa_store.proofs.SlotLemmas.{noted_relived}
use Rattle.kmipa_store.proofs.objects.Objects.set_life.Goals as goal

pub returns-in_default : goal.returns-in_default
returns-in_default c =
    let os = c.self.inside.in_order.items in
    let none : slice_get (objects_of os) c.args.place ≡ None = get-map held os c.args.place ∙ ap (option_map held) (get_past os c.args.place c.in_default.ensures.item.3) in
    sym (updated-none (objects_of os) c.args.place (λ (h : Held). with_life h c.args.life) none)
    ∙ ap (λ (hs : List Held). relived hs c.args.place c.args.life) c.self.view_is

pub invariant_of-self-2 : goal.invariant_of-self-2
invariant_of-self-2 c =
    let i = c.self.inside in
    let o = c.in-Some.object.now in
    subst (λ (x : List Held). AreNoted i.slots x) (sym (map-set held (λ (h : Held). with_life h c.args.life) i.in_order.items c.args.place o (record o { life = c.args.life }) c.in-Some.ensures.value refl))
    (noted_relived i.slots (objects_of i.in_order.items) c.args.place c.args.life c.self.invariant)

pub returns : goal.returns
returns c =
    let i = c.self.inside in
    let o = c.in-Some.object.now in
    map-set held (λ (h : Held). with_life h c.args.life) i.in_order.items c.args.place o (record o { life = c.args.life }) c.in-Some.ensures.value refl
    ∙ ap (λ (hs : List Held). relived hs c.args.place c.args.life) c.self.view_is
