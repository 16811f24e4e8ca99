-- proofs/present/lasting_of/Answers.antt
use Rattle.std.proofs.Common.{◌≤◌, length, refl, arith}
use Rattle.kmipa_store.specs.Ledger.{held}
use Rattle.kmipa_store.proofs.FeatureLemmas.{lasts_all, lasts_next, lasts_none}
use Rattle.kmipa_store.proofs.present.lasting_of.Goals as goal

pub loop-place-init : goal.loop-place-init
loop-place-init c = lasts_none c.begun-features.result c.args.objects.now 0 refl

pub loop-place-preserved : goal.loop-place-preserved
loop-place-preserved c =
    lasts_next c.loop-place.features c.note_object.new.self c.args.objects.now (held c.at.result.now) c.loop-place.place c.at.ensures c.loop-place.invariant c.note_object.ensures

pub returns : goal.returns
returns c =
    let all : length c.args.objects.now ≤ c.loop-place.place = let h = c.loop-place-test.false in let e = c.len-place-end.ensures in omega (arith, h, e) in
    lasts_all c.loop-place.features c.args.objects.now c.loop-place.place all c.loop-place.invariant
