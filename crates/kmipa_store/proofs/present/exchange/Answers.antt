use Rattle.std.proofs.Common.{◌≡◌, ◌≤◌, List, length, Option, ap, sym, refl, ◌∙◌, subst, arith}
use Rattle.kmipa_object.proofs.ListLemmas.{get_past, length-updated, updated-none}
use Rattle.kmipa_store.specs.Features.{KnowsLasting}
use Rattle.kmipa_store.specs.Ledger.{Held, held}
use Rattle.kmipa_store.specs.Objects.{GivesFormer, become}
use Rattle.kmipa_store.proofs.FeatureLemmas.{lasts_exchanged}
use Rattle.kmipa_store.proofs.present.exchange.Goals as goal

pub returns-then-place-len-clause-after : goal.returns-then-place-len-clause-after
returns-then-place-len-clause-after c =
    let hs : List Held = c.args.objects.now in
    let past : length hs ≤ c.args.place = let t = c.if-place-len.true in let e = c.len.ensures in omega (arith, t, e) in
    sym (updated-none hs c.args.place (λ x. become x (held c.args.other.now)) (get_past hs c.args.place past))

pub returns-then-place-len-clause-former : goal.returns-then-place-len-clause-former
returns-then-place-len-clause-former c =
    let hs : List Held = c.args.objects.now in
    let h = held c.args.other.now in
    let past : length hs ≤ c.args.place = let t = c.if-place-len.true in let e = c.len.ensures in omega (arith, t, e) in
    subst (λ (o : Option Held). GivesFormer o h h) (sym (get_past hs c.args.place past)) refl

pub at-after-requires : goal.at-after-requires
at-after-requires c =
    let hs : List Held = c.args.objects.now in
    let h = c.if-place-len.false in
    let e = c.len.ensures in
    let n : length c.exchange.new.self ≡ length hs = ap (λ (x : List Held). length x) c.exchange.ensures.after ∙ length-updated hs c.args.place (λ x. become x (held c.args.other.now)) in
    omega (arith, h, e, n)

pub returns-clause-features : goal.returns-clause-features
returns-clause-features c = λ (knows : KnowsLasting c.args.features.now c.args.objects.now).
    lasts_exchanged c.args.features.now c.forget_object.new.self c.note_object.new.self c.args.objects.now c.exchange.new.self c.args.place (held c.args.other.now) (held c.at-after.result.now)
    knows c.forget_object.ensures c.exchange.ensures.after c.at-after.ensures c.note_object.ensures
