use Rattle.std.proofs.Common.{List, ◌≡◌, ◌∙◌, ap, sym, refl, set, Option, Some, None, slice_get, option_map, subst}
use Rattle.kmipa_object.specs.declared.object.Object.{Object}
use Rattle.kmipa_object.proofs.ListLemmas.{get-at, get-map, get_past, map-set, updated-none}
use Rattle.kmipa_store.specs.Ledger.{Held, held}
use Rattle.kmipa_store.specs.Objects.{GivesFormer, become, exchanged, objects_of}
use Rattle.kmipa_store.specs.Slots.{AreNoted}
use Rattle.kmipa_store.proofs.ObjectLemmas.{held_but_id}
use Rattle.kmipa_store.proofs.SlotLemmas.{noted_exchanged}
use Rattle.kmipa_store.proofs.objects.Objects.exchange.Goals as goal

pub returns-in_default-clause-after : goal.returns-in_default-clause-after
returns-in_default-clause-after c =
    let os = c.self.inside.in_order.items in
    let h = held c.args.other.now in
    let none : slice_get (objects_of os) c.args.place ≡ None = get-map held os c.args.place ∙ ap (option_map held) (get_past os c.args.place c.in_default.ensures.item.3) in
    sym (updated-none (objects_of os) c.args.place (λ (g : Held). become g h) none)
    ∙ ap (λ (hs : List Held). exchanged hs c.args.place h) c.self.view_is

pub returns-in_default-clause-former : goal.returns-in_default-clause-former
returns-in_default-clause-former c =
    let os = c.self.inside.in_order.items in
    let h = held c.args.other.now in
    let none : slice_get (objects_of os) c.args.place ≡ None = get-map held os c.args.place ∙ ap (option_map held) (get_past os c.args.place c.in_default.ensures.item.3) in
    subst (λ (o : Option Held). GivesFormer o h h) (sym none ∙ ap (λ (hs : List Held). slice_get hs c.args.place) c.self.view_is) refl

pub invariant_of-self-2 : goal.invariant_of-self-2
invariant_of-self-2 c =
    let i = c.self.inside in
    let os = i.in_order.items in
    let o = c.in-Some.object.now in
    let h = held c.args.other.now in
    let w : Object = record { id = o.id; kind = c.swap.new.x; given = c.swap-2.new.x; life = c.swap-3.new.x } in
    let all : objects_of (set os c.args.place w) ≡ exchanged (objects_of os) c.args.place h =
    map-set held (λ (g : Held). become g h) os c.args.place o w c.in-Some.ensures.value (held_but_id o c.args.other.now c.swap.new.x c.swap-2.new.x c.swap-3.new.x c.swap.ensures.x_after c.swap-2.ensures.x_after c.swap-3.ensures.x_after) in
    subst (λ (x : List Held). AreNoted i.slots x) (sym all) (noted_exchanged i.slots (objects_of os) c.args.place h c.self.invariant)

pub returns-clause-after : goal.returns-clause-after
returns-clause-after c =
    let os = c.self.inside.in_order.items in
    let o = c.in-Some.object.now in
    let h = held c.args.other.now in
    let w : Object = record { id = o.id; kind = c.swap.new.x; given = c.swap-2.new.x; life = c.swap-3.new.x } in
    map-set held (λ (g : Held). become g h) os c.args.place o w c.in-Some.ensures.value (held_but_id o c.args.other.now c.swap.new.x c.swap-2.new.x c.swap-3.new.x c.swap.ensures.x_after c.swap-2.ensures.x_after c.swap-3.ensures.x_after)
    ∙ ap (λ (hs : List Held). exchanged hs c.args.place h) c.self.view_is

pub returns-clause-former : goal.returns-clause-former
returns-clause-former c =
    let os = c.self.inside.in_order.items in
    let o = c.in-Some.object.now in
    let other = c.args.other.now in
    let there : slice_get (objects_of os) c.args.place ≡ Some (held o) = get-map held os c.args.place ∙ ap (option_map held) (get-at os c.args.place o c.in-Some.ensures.item.3.0 c.in-Some.ensures.value) in
    let w : Object = record { id = other.id; kind = c.swap.new.y; given = c.swap-2.new.y; life = c.swap-3.new.y } in
    subst (λ (x : Option Held). GivesFormer x (held other) (held w)) (sym there ∙ ap (λ (hs : List Held). slice_get hs c.args.place) c.self.view_is)
    (held_but_id other o c.swap.new.y c.swap-2.new.y c.swap-3.new.y c.swap.ensures.y_after c.swap-2.ensures.y_after c.swap-3.ensures.y_after)
