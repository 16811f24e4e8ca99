use Rattle.std.proofs.Common.{◌≡◌, ◌≤◌, List, length, Option, slice_get, ap, sym, refl, ◌∙◌, subst, arith}
use Rattle.kmipa_object.proofs.ListLemmas.{get_past, length-updated, updated-none}
use Rattle.kmipa_store.specs.Ledger.{Held, held}
use Rattle.kmipa_store.specs.Objects.{GivesFormer, become, exchanged}
use Rattle.kmipa_store.proofs.LiveNameLemmas.{knows_exchanged}
use Rattle.kmipa_store.proofs.TallyLemmas.{counts_changed}
use Rattle.kmipa_store.proofs.counted.Counted.exchange.Goals as goal

pub returns-then-place-len-clause-after : goal.returns-then-place-len-clause-after
returns-then-place-len-clause-after c =
    let hs : List Held = c.self.inside.objects in
    let h = held c.args.other.now in
    let past : length hs ≤ c.args.place = let t = c.if-place-len.true in let e = c.len.ensures in omega (arith, t, e) in
    sym c.self.view_is ∙ sym (updated-none hs c.args.place (λ x. become x h) (get_past hs c.args.place past)) ∙ ap (λ (x : List Held). exchanged x c.args.place h) c.self.view_is

pub returns-then-place-len-clause-former : goal.returns-then-place-len-clause-former
returns-then-place-len-clause-former c =
    let hs : List Held = c.self.inside.objects in
    let h = held c.args.other.now in
    let past : length hs ≤ c.args.place = let t = c.if-place-len.true in let e = c.len.ensures in omega (arith, t, e) in
    subst (λ (o : Option Held). GivesFormer o h h) (sym (get_past hs c.args.place past) ∙ ap (λ (x : List Held). slice_get x c.args.place) c.self.view_is) refl

pub at-after-requires : goal.at-after-requires
at-after-requires c =
    let hs : List Held = c.self.inside.objects in
    let h = c.if-place-len.false in
    let e = c.len.ensures in
    let n : length c.exchange.new.self ≡ length hs = ap (λ (x : List Held). length x) c.exchange.ensures.after ∙ length-updated hs c.args.place (λ x. become x (held c.args.other.now)) in
    omega (arith, h, e, n)

pub invariant_of-self : goal.invariant_of-self
invariant_of-self c =
    let i = c.self.inside in (
      c.of.ensures,
      knows_exchanged i.live c.forget.new.self c.follow.new.live i.objects c.exchange.new.self c.args.place (held c.args.other.now) (held c.at-after.result.now)
          c.self.invariant.1 c.exchange.ensures.after c.at-after.ensures c.forget.ensures c.follow.ensures,
    )

pub invariant_of-self-2 : goal.invariant_of-self-2
invariant_of-self-2 c =
    let i = c.self.inside in (
      counts_changed i.tally c.remove.new.self c.add.new.self i.objects c.exchange.new.self c.args.place (held c.at-before.result.now) (held c.at-after.result.now) (λ x. become x (held c.args.other.now))
          c.self.invariant.0 c.at-before.ensures c.exchange.ensures.after c.at-after.ensures c.remove.ensures c.add.ensures,
      knows_exchanged i.live c.forget.new.self c.follow.new.live i.objects c.exchange.new.self c.args.place (held c.args.other.now) (held c.at-after.result.now)
          c.self.invariant.1 c.exchange.ensures.after c.at-after.ensures c.forget.ensures c.follow.ensures,
    )
