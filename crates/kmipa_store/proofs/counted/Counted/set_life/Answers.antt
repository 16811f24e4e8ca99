use Rattle.std.proofs.Common.{◌≡◌, ◌≤◌, List, length, ap, sym, ◌∙◌, arith}
use Rattle.kmipa_object.proofs.ListLemmas.{get_past, length-updated, updated-none}
use Rattle.kmipa_store.specs.Ledger.{Held, held, relived, with_life}
use Rattle.kmipa_store.proofs.LiveNameLemmas.{knows_led, none_is}
use Rattle.kmipa_store.proofs.TallyLemmas.{counts_led}
use Rattle.kmipa_store.proofs.counted.Counted.set_life.Goals as goal

pub returns-then-place-len : goal.returns-then-place-len
returns-then-place-len c =
    let hs : List Held = c.self.inside.objects in
    let past : length hs ≤ c.args.place = let h = c.if-place-len.true in let e = c.len.ensures in omega (arith, h, e) in
    sym c.self.view_is ∙ sym (updated-none hs c.args.place (λ x. with_life x c.args.life) (get_past hs c.args.place past)) ∙ ap (λ (x : List Held). relived x c.args.place c.args.life) c.self.view_is

pub at-led-requires : goal.at-led-requires
at-led-requires c =
    let hs : List Held = c.self.inside.objects in
    let h = c.if-place-len.false in
    let e = c.len.ensures in
    let n : length c.set_life.new.self ≡ length hs = ap (λ (x : List Held). length x) c.set_life.ensures ∙ length-updated hs c.args.place (λ x. with_life x c.args.life) in
    omega (arith, h, e, n)

pub invariant_of-self : goal.invariant_of-self
invariant_of-self c =
    let i = c.self.inside in (
      c.of.ensures,
      knows_led i.live c.follow.new.live i.objects c.set_life.new.self c.args.place (held c.at-before.result.now) (held c.at-led.result.now) c.args.life
          c.self.invariant.1 c.at-before.ensures c.set_life.ensures c.at-led.ensures c.is_none-was_live.result (none_is c.at-before.result.now.life.destroy c.is_none-was_live.result c.is_none-was_live.ensures) c.follow.ensures,
    )

pub invariant_of-self-2 : goal.invariant_of-self-2
invariant_of-self-2 c =
    let i = c.self.inside in (
      counts_led i.tally c.remove.new.self c.add.new.self i.objects c.set_life.new.self c.args.place (held c.at-before.result.now) (held c.at-led.result.now) c.args.life
          c.self.invariant.0 c.at-before.ensures c.set_life.ensures c.at-led.ensures c.remove.ensures c.add.ensures,
      knows_led i.live c.follow.new.live i.objects c.set_life.new.self c.args.place (held c.at-before.result.now) (held c.at-led.result.now) c.args.life
          c.self.invariant.1 c.at-before.ensures c.set_life.ensures c.at-led.ensures c.is_none-was_live.result (none_is c.at-before.result.now.life.destroy c.is_none-was_live.result c.is_none-was_live.ensures) c.follow.ensures,
    )
