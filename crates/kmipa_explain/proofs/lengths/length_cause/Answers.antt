use Rattle.std.proofs.Common.{◌∙◌, option_map, subst, sym, ap}
use Rattle.kmipa_msgs.specs.Messages.{answer_of}
use Rattle.kmipa_record.specs.Entries.{entry_of}
use Rattle.kmipa_ops.specs.Effects.{EffectOf}
use Rattle.kmipa_ops.specs.Subjects.{effect_of}
use Rattle.kmipa_explain.specs.Lengths.{IsImpossibleBy}
use Rattle.kmipa_explain.proofs.LengthLemmas.{new_no_key}
use Rattle.kmipa_explain.specs.declared.held.LengthHeld.{LengthHeld}
use Rattle.kmipa_explain.proofs.lengths.length_cause.Goals as goal

pub returns-in-Makes : goal.returns-in-Makes
returns-in-Makes c =
    let object = option_map (λ entry. entry_of entry.now) c.args.object in
    let payload = (answer_of c.args.answer.now).payload in
    let e = sym c.row_of.ensures.effect ∙ ap effect_of c.in-Makes.is in
    let P : EffectOf → Type 0 = λ x. (l : LengthHeld) × IsImpossibleBy x object payload l in
    let Q : EffectOf → Type 0 = λ x. IsImpossibleBy x object payload c.new_length.result in
    subst Q (sym e) (new_no_key _ c.new_length.result object payload c.new_length.ensures (subst P e c.requires))
