use Rattle.std.proofs.Common.{ℤ, List, map, sym, subst, rules}
use mir.Val.{SFits, to_z, of_z}
use mir.Syntax.{w64}
use Rattle.std.proofs.lemmas.Int.{to_z-of_z}
use Rattle.kmipa_msgs.specs.Messages.{ask_of, response_of}
use Rattle.kmipa_record.specs.Witnesses.{birth_of, fill_of, turn_of}
use Rattle.kmipa_record.specs.declared.birth.Birth.{Birth}
use Rattle.kmipa_record.specs.declared.fill.Fill.{Fill}
use Rattle.kmipa_check.specs.Bearing.{BirthsRefused}
use Rattle.kmipa_check.specs.Fills.{IsFilled}
use Rattle.kmipa_check.specs.Filling.{FillsRefused}
use Rattle.kmipa_check.specs.Grants.{grants_of}
use Rattle.kmipa_places.specs.Calls.{read_of}
use Rattle.kmipa_places.specs.Places.{place_of}
use Rattle.kmipa_turns.specs.Parting.{sides_of}
use Rattle.kmipa_turns.specs.Turning.{AreBorn, IsFull}
use Rattle.kmipa_turns.proofs.FullLemmas.{asked_side, births_refuse, fills_refuse, full_of, response_with}
use Rattle.kmipa_turns.proofs.completing.with_given.Goals as goal

pub returns-in-Err : goal.returns-in-Err
returns-in-Err c =
    let g = grants_of c.args.grants.now in
    let t = turn_of c.args.turn.now in
    let x = read_of c.args.said in
    let s = sides_of c.in_ok-sides.sides in
    let sides = c.in_ok-sides.ensures in
    let fits : SFits w64 c.args.said.stamp = search rules in
    let F : List Fill → Type 0 = λ fs. FillsRefused (asked_side g x t s sides) (response_with (to_z w64 (of_z w64 c.args.said.stamp)) s.answers) (map fill_of fs) c.in-Err.fault in
    let S : ℤ → Type 0 = λ z. FillsRefused (asked_side g x t s sides) (response_with z s.answers) t.fills c.in-Err.fault in
    fills_refuse g x t s sides c.in-Err.fault (subst S (to_z-of_z w64 c.args.said.stamp fits) (subst F c.deref.ensures.value c.in-Err.ensures))

pub returns-in-Err-born_asks : goal.returns-in-Err-born_asks
returns-in-Err-born_asks c =
    let g = grants_of c.args.grants.now in
    let t = turn_of c.args.turn.now in
    let x = read_of c.args.said in
    let s = sides_of c.in_ok-sides.sides in
    let sides = c.in_ok-sides.ensures in
    let fits : SFits w64 c.args.said.stamp = search rules in
    let stamp = to_z-of_z w64 c.args.said.stamp fits in
    let q = asked_side g x t s sides in
    let F : List Fill → Type 0 = λ fs. IsFilled q (response_with (to_z w64 (of_z w64 c.args.said.stamp)) s.answers) (map fill_of fs) (response_of c.in-Ok.full) in
    let S : ℤ → Type 0 = λ z. IsFilled q (response_with z s.answers) t.fills (response_of c.in-Ok.full) in
    let B : List Birth → Type 0 = λ bs. BirthsRefused g q (response_with (to_z w64 (of_z w64 c.args.said.stamp)) s.answers) (map birth_of bs) c.in-Err-born_asks.fault in
    let T : ℤ → Type 0 = λ z. BirthsRefused g q (response_with z s.answers) t.births c.in-Err-born_asks.fault in
    births_refuse g x t s sides (response_of c.in-Ok.full) (subst S stamp (subst F c.deref.ensures.value c.in-Ok.ensures)) c.in-Err-born_asks.fault
    (subst T stamp (subst B c.deref-2.ensures.value c.in-Err-born_asks.ensures))

pub returns : goal.returns
returns c =
    let g = grants_of c.args.grants.now in
    let t = turn_of c.args.turn.now in
    let x = read_of c.args.said in
    let s = sides_of c.in_ok-sides.sides in
    let sides = c.in_ok-sides.ensures in
    let fits : SFits w64 c.args.moment = search rules in
    let ps = map place_of c.in_ok-places.places.items in
    let asks = map ask_of c.in-Ok-born_asks.born.items in
    let still : SFits w64 c.args.said.stamp = search rules in
    let stamp = to_z-of_z w64 c.args.said.stamp still in
    let q = asked_side g x t s sides in
    let F : List Fill → Type 0 = λ fs. IsFilled q (response_with (to_z w64 (of_z w64 c.args.said.stamp)) s.answers) (map fill_of fs) (response_of c.in-Ok.full) in
    let S : ℤ → Type 0 = λ z. IsFilled q (response_with z s.answers) t.fills (response_of c.in-Ok.full) in
    let B : List Birth → Type 0 = λ bs. AreBorn g q (response_with (to_z w64 (of_z w64 c.args.said.stamp)) s.answers) (map birth_of bs) asks in
    let T : ℤ → Type 0 = λ z. AreBorn g q (response_with z s.answers) t.births asks in
    let M : ℤ → Type 0 = λ z. IsFull g x t c.args.moment (record x { stamp = z; places = ps }) in
    subst M (sym (to_z-of_z w64 c.args.moment fits))
    (full_of g x t s sides (response_of c.in-Ok.full) (subst S stamp (subst F c.deref.ensures.value c.in-Ok.ensures)) asks (subst T stamp (subst B c.deref-2.ensures.value c.in-Ok-born_asks.ensures))
    c.args.moment ps c.in_ok-places.ensures)
