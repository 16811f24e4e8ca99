use Rattle.std.proofs.Common.{◌∙◌, ℕ, List, None, Option, ap, map, sym}
use Rattle.kmipa_attrs.specs.Sets.{name_of}
use Rattle.kmipa_msgs.specs.Messages.{answer_of, ask_of, maybe_lent}
use Rattle.kmipa_ops.specs.Objects.{meant}
use Rattle.kmipa_ops.specs.Subjects.{subject_of}
use Rattle.kmipa_parts.specs.Making.{unless_failed}
use Rattle.kmipa_parts.proofs.SubjectLemmas.{about_meant, about_new, about_none}
use Rattle.kmipa_parts.proofs.subject.about.Goals as goal

pub returns-in-Object : goal.returns-in-Object
returns-in-Object c =
    let held = maybe_lent c.args.held in
    let asked = (ask_of c.args.ask.now).asked in
    let answer = answer_of c.args.answer.now in
    c.meant.ensures ∙ ap (λ (id : Option (List ℕ)). meant id held) c.id.ensures
    ∙ about_meant held asked answer.status answer.payload _ _ _ (sym (ap subject_of c.in-Object.is) ∙ c.row_of.ensures.subject)

pub returns-in-Names : goal.returns-in-Names
returns-in-Names c =
    let asked = (ask_of c.args.ask.now).asked in
    let answer = answer_of c.args.answer.now in
    c.made.ensures ∙ ap (unless_failed answer.status) c.held_after.ensures
    ∙ about_new (maybe_lent c.args.held) asked answer.status answer.payload _ (sym (ap subject_of c.in-Names.is) ∙ c.row_of.ensures.subject)

pub returns-in-Nothing : goal.returns-in-Nothing
returns-in-Nothing c =
    let asked = (ask_of c.args.ask.now).asked in
    let answer = answer_of c.args.answer.now in
    about_none (maybe_lent c.args.held) asked answer.status answer.payload (sym (ap subject_of c.in-Nothing.is) ∙ c.row_of.ensures.subject)
