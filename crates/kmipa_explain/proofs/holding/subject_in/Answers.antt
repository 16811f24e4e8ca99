use Rattle.std.specs.Prelude.{IfOk}
use Rattle.std.proofs.Common.{rules, ◌≡◌, ◌∙◌, ℕ, ℤ, List, Option, FitsSigned, w64, option_map, subst}
use Rattle.std.proofs.lemmas.Int.{to_z-of_z}
use Rattle.kmipa_msgs.specs.Messages.{AnswerOf, AskOf, answer_of, ask_of}
use Rattle.kmipa_record.specs.Declarations.{declaration_of}
use Rattle.kmipa_ops.specs.Placeholders.{placeholder_of}
use Rattle.kmipa_check.specs.Steps.{step_of}
use Rattle.kmipa_explain.specs.Items.{about}
use Rattle.kmipa_explain.specs.Reading.{seen_subject}
use Rattle.kmipa_explain.specs.Meant.{text_of}
use Rattle.kmipa_explain.specs.Whence.{subject_held}
use Rattle.kmipa_explain.specs.declared.subject.Subject.{Subject}
use Rattle.kmipa_explain.proofs.PairLemmas.{pair_is}
use Rattle.kmipa_explain.proofs.holding.subject_in.Goals as goal

pub returns : goal.returns
returns c = λ asked answered there.
    let s = step_of c.args.step.now in
    let held = declaration_of c.args.standing.now.held in
    let p = placeholder_of c.args.standing.now.placeholder in
    let ask = ask_of c.ask_there-ask.result.now in
    let answer = answer_of c.answer_there-answer.result.now in
    let pair = pair_is s.request.items s.response.items c.args.item asked answered there ask answer c.ask_there-ask.ensures c.answer_there-answer.ensures in
    let fits : FitsSigned w64 c.moment.result = search rules in
    let Is : ℤ → Option (List ℕ) → Type 0 = λ t o. IfOk c.subject_held.result (λ (x : Option Subject). option_map seen_subject x ≡ subject_held t c.args.cause.now held o) in
    let A : AskOf → Type 0 = λ a. Is s.response.stamp (about p a.asked answered.payload) in
    let B : AnswerOf → Type 0 = λ b. Is s.response.stamp (about p ask.asked b.payload) in
    let M : Option (List ℕ) → Type 0 = λ o. Is s.response.stamp o in
    let T : ℤ → Type 0 = λ t. Is t (text_of c.in_ok-meant.meant) in
    subst A pair.0 (subst B pair.1 (subst M c.in_ok-meant.ensures (subst T (to_z-of_z w64 c.moment.result fits ∙ c.moment.ensures) c.subject_held.ensures)))
