use Rattle.std.proofs.Common.{◌∙◌, ℤ, Bool, map, sym, ap, subst, rules}
use mir.Val.{SFits}
use mir.Syntax.{w32}
use Rattle.std.proofs.lemmas.Int.{to_z-of_z}
use Rattle.kmipa_record.specs.Witnesses.{fill_of}
use Rattle.kmipa_check.specs.Fills.{HasFillFor}
use Rattle.kmipa_check.specs.Numbers.{place_in}
use Rattle.kmipa_check.specs.Deciding.{Decided}
use Rattle.kmipa_check.proofs.FillingLemmas.{fill_decided, too_large}
use Rattle.kmipa_check.proofs.filling.has_fill.Goals as goal

pub returns-in-Ok : goal.returns-in-Ok
returns-in-Ok c =
    let fits : SFits w32 c.in-Ok.item = search rules in
    let at = c.place.ensures ∙ ap (λ (z : ℤ). place_in c.args.places.now z) (to_z-of_z w32 c.in-Ok.item fits) in
    let P : Bool → Type 0 = λ b. Decided b (HasFillFor (map fill_of c.args.fills.now) c.args.place) in
    subst P (sym c.is_some.ensures) (fill_decided c.args.fills.now c.args.places.now c.requires.indexed c.in-Ok.item c.args.place c.in-Ok.ensures.1 c.place.result (sym at))

pub returns-in-Err : goal.returns-in-Err
returns-in-Err c = too_large (map fill_of c.args.fills.now) c.args.place c.requires.numbered c.in-Err.ensures
