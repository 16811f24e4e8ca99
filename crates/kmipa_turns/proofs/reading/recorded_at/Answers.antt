use Rattle.std.proofs.Common.{◌≡◌, ℤ, Some, map, refl, sym, subst, rules, slice_get}
use Rattle.std.proofs.lemmas.Int.{to_z-of_z}
use Rattle.std.specs.String.{string_bytes}
use mir.Val.{SFits}
use mir.Syntax.{w32}
use Rattle.kmipa_record.specs.Marks.{begins, mark_of}
use Rattle.kmipa_turns.proofs.MarkLemmas.{begin_mark, ended_call, open_call}
use Rattle.kmipa_turns.proofs.reading.recorded_at.Goals as goal

pub returns-in-Some : goal.returns-in-Some
returns-in-Some c =
    let fits : SFits w32 c.in-Begin.begin.call = search rules in
    let marks = map mark_of c.args.marks.now in
    let P : ℤ → Type 0 = λ z. slice_get marks c.args.place ≡ Some (begins z (string_bytes c.in-Begin.begin.client) c.in-Begin.begin.message.items) in
    let there = begin_mark c.args.marks.now c.args.place c.index-marks-place.result c.in-Begin.begin c.requires.below c.index-marks-place.is c.in-Begin.is in (
      ended_call marks _ _ (string_bytes c.in-Begin.begin.client) c.in-Begin.begin.message.items (subst P (sym (to_z-of_z w32 c.in-Begin.begin.call fits)) there) c.as_str-client.ensures.value
          c.as_slice-request.ensures.value refl c.in-Some.end c.in-Some.response.now c.in-Some.ensures refl refl,
      refl,
    )

pub returns-in-None : goal.returns-in-None
returns-in-None c =
    let fits : SFits w32 c.in-Begin.begin.call = search rules in
    let marks = map mark_of c.args.marks.now in
    let P : ℤ → Type 0 = λ z. slice_get marks c.args.place ≡ Some (begins z (string_bytes c.in-Begin.begin.client) c.in-Begin.begin.message.items) in
    let there = begin_mark c.args.marks.now c.args.place c.index-marks-place.result c.in-Begin.begin c.requires.below c.index-marks-place.is c.in-Begin.is in (
      open_call marks _ _ (string_bytes c.in-Begin.begin.client) c.in-Begin.begin.message.items (subst P (sym (to_z-of_z w32 c.in-Begin.begin.call fits)) there) c.as_str-client.ensures.value
          c.as_slice-request.ensures.value refl c.in-None.ensures refl refl,
      refl,
    )
