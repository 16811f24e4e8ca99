use Rattle.std.specs.Prelude.{IfOk}
use Rattle.std.proofs.Common.{rules, ◌∙◌, ℕ, ℤ, List, Option, FitsSigned, w64, sym, subst}
use Rattle.std.proofs.lemmas.Int.{to_z-of_z}
use Rattle.kmipa_msgs.specs.Messages.{AnswerOf, AskOf, answer_of, ask_of}
use Rattle.kmipa_record.specs.Declarations.{declaration_of}
use Rattle.kmipa_ops.specs.Placeholders.{placeholder_of}
use Rattle.kmipa_check.specs.Steps.{step_of}
use Rattle.kmipa_explain.specs.Holding.{TellsHeld}
use Rattle.kmipa_explain.specs.Items.{about}
use Rattle.kmipa_explain.specs.Meant.{text_of}
use Rattle.kmipa_explain.specs.Reasoned.{HeldReason}
use Rattle.kmipa_explain.proofs.PairLemmas.{pair_is}
use Rattle.kmipa_explain.proofs.holding.cause_in.Goals as goal

pub cause_of_meant-requires : goal.cause_of_meant-requires
cause_of_meant-requires c =
    let s = step_of c.args.step.now in
    let held = declaration_of c.args.standing.now.held in
    let p = placeholder_of c.args.standing.now.placeholder in
    let r = c.requires in
    let ask = ask_of c.ask_there-ask.result.now in
    let answer = answer_of c.answer_there-answer.result.now in
    let pair = pair_is s.request.items s.response.items c.args.item r.ask r.answer r.there ask answer c.ask_there-ask.ensures c.answer_there-answer.ensures in
    let fits : FitsSigned w64 c.moment.result = search rules in
    let A : AskOf → Type 0 = λ a. HeldReason c.args.why held (about p a.asked r.answer.payload) s.response.stamp a r.answer in
    let B : AnswerOf → Type 0 = λ b. HeldReason c.args.why held (about p ask.asked b.payload) s.response.stamp ask b in
    let M : Option (List ℕ) → Type 0 = λ o. HeldReason c.args.why held o s.response.stamp ask answer in
    let T : ℤ → Type 0 = λ t. HeldReason c.args.why held (text_of c.in_ok-meant.meant) t ask answer in
    subst T (sym (to_z-of_z w64 c.moment.result fits ∙ c.moment.ensures)) (subst M (sym c.in_ok-meant.ensures) (subst B (sym pair.1) (subst A (sym pair.0) r.reason)))

pub returns : goal.returns
returns c = λ asked answered there.
    let s = step_of c.args.step.now in
    let held = declaration_of c.args.standing.now.held in
    let p = placeholder_of c.args.standing.now.placeholder in
    let ask = ask_of c.ask_there-ask.result.now in
    let answer = answer_of c.answer_there-answer.result.now in
    let pair = pair_is s.request.items s.response.items c.args.item asked answered there ask answer c.ask_there-ask.ensures c.answer_there-answer.ensures in
    let fits : FitsSigned w64 c.moment.result = search rules in
    let A : AskOf → Type 0 = λ a. IfOk c.cause_of_meant.result (TellsHeld c.args.why held (about p a.asked answered.payload) s.response.stamp a answered) in
    let B : AnswerOf → Type 0 = λ b. IfOk c.cause_of_meant.result (TellsHeld c.args.why held (about p ask.asked b.payload) s.response.stamp ask b) in
    let M : Option (List ℕ) → Type 0 = λ o. IfOk c.cause_of_meant.result (TellsHeld c.args.why held o s.response.stamp ask answer) in
    let T : ℤ → Type 0 = λ t. IfOk c.cause_of_meant.result (TellsHeld c.args.why held (text_of c.in_ok-meant.meant) t ask answer) in
    subst A pair.0 (subst B pair.1 (subst M c.in_ok-meant.ensures (subst T (to_z-of_z w64 c.moment.result fits ∙ c.moment.ensures) c.cause_of_meant.ensures)))
