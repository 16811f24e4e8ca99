use Rattle.std.proofs.Common.{◌≡◌, ℤ, ◌+◌, Some, Ok, length, refl, sym, ap, subst, ◌∙◌, arith, rules}
use mir.Val.{to_z, of_z}
use mir.Syntax.{w64}
use Rattle.kmipa_msgs.specs.Messages.{rules_of}
use Rattle.kmipa_check.specs.Steps.{step_of}
use Rattle.kmipa_stream.specs.Replaying.{FindsSo, AnswersAhead, GoesOnAhead, meaning_in}
use Rattle.kmipa_stream.specs.Steps.{is_less}
use Rattle.kmipa_stream.specs.declared.replaying.Finding.{Finding}
use Rattle.kmipa_stream.proofs.ReplayingLemmas.{form_more, goes_on_more, refuses_more, finds_still}
use Rattle.kmipa_stream.proofs.replaying.Replay.take_formed.Goals as goal

pub returns-in_default : goal.returns-in_default
returns-in_default c = record {
  replays = λ closed marks turns declared r w forms within answers.
      let k = c.args.self.now.formed in
      let wait = c.first_waiting-waiting.ensures marks turns k r.named (omega arith) w in (
        record {
          same = r.same;
          named = r.named;
          rules = r.rules;
          grants = r.grants;
          within = omega (arith, c.requires.below, ap length r.same);
          formed = form_more closed marks turns declared k (step_of c.args.step.now) forms r.formed;
          finding = finds_still closed marks turns declared k (k + 1) c.args.self.now.last c.args.self.now.last c.args.self.now.counts (meaning_in c.args.self.now.ledger) (meaning_in c.args.self.now.ledger) c.args.self.now.finding c.in_default.not-Possible r.finding;
        },
        wait.0,
      );
  formed = (refl, refl);
}

pub returns-in-Ok-None-clause-replays : goal.returns-in-Ok-None-clause-replays
returns-in-Ok-None-clause-replays c = λ closed marks turns declared r w forms within answers.
    let k = c.args.self.now.formed in
    let s = step_of c.args.step.now in
    let wait = c.first_waiting-waiting.ensures marks turns k r.named (omega arith) w in
    let P : Finding → Type 0 = λ f. FindsSo closed marks turns declared k c.args.self.now.last c.args.self.now.counts (meaning_in c.args.self.now.ledger) f in
    let Q : Finding → Type 0 = λ f. FindsSo closed marks turns declared (k + 1) (Some (to_z w64 (of_z w64 c.moment-moment.result))) c.counted_with-self.result (meaning_in c.take_step.new.ledger) f in
    let found = subst P c.in-Possible.is r.finding in
    let moment : to_z w64 (of_z w64 c.moment-moment.result) ≡ s.response.stamp = search rules in
    let S : ℤ → Type 0 = λ z. GoesOnAhead closed marks turns declared (k + 1) (Some z) c.counted_with-self.result (meaning_in c.take_step.new.ledger) in
    let back : c.is_less-back.result ≡ is_less s.response.stamp c.args.self.now.last = search rules in
    let goes = goes_on_more closed marks turns declared k s forms (rules_of c.args.self.now.rules) c.args.self.now.last c.args.self.now.counts (meaning_in c.args.self.now.ledger) (meaning_in c.take_step.new.ledger) c.first_waiting-waiting.result
    c.is_before-late.result c.is_less-back.result c.take_step.result (omega (arith, within)) r.rules wait.1 c.is_before-late.ensures back found.1 c.take_step.ensures.taken c.counted_with-self.result c.counted_with-self.ensures (c.in-Ok-None.is ∙ ap Ok c.in-Ok-None.field-0-is) in (
      record {
        same = r.same;
        named = r.named;
        rules = r.rules;
        grants = r.grants;
        within = omega (arith, c.requires.below, ap length r.same);
        formed = form_more closed marks turns declared k s forms r.formed;
        finding = subst Q (sym c.in-Possible.is) (c.in-Ok-None.ensures.sound, subst S (sym moment) goes);
      },
      wait.0,
    )

pub returns-in-Ok-Some-clause-replays : goal.returns-in-Ok-Some-clause-replays
returns-in-Ok-Some-clause-replays c = λ closed marks turns declared r w forms within answers.
    let k = c.args.self.now.formed in
    let s = step_of c.args.step.now in
    let wait = c.first_waiting-waiting.ensures marks turns k r.named (omega arith) w in
    let P : Finding → Type 0 = λ f. FindsSo closed marks turns declared k c.args.self.now.last c.args.self.now.counts (meaning_in c.args.self.now.ledger) f in
    let found = subst P c.in-Possible.is r.finding in
    let stamp : to_z w64 (of_z w64 c.args.step.now.stamp) ≡ s.stamp = search rules in
    let back : c.is_less-back.result ≡ is_less s.response.stamp c.args.self.now.last = search rules in
    let refuses = refuses_more closed marks turns declared k s forms (rules_of c.args.self.now.rules) c.args.self.now.last c.args.self.now.counts (meaning_in c.args.self.now.ledger) (meaning_in c.take_step.new.ledger) c.first_waiting-waiting.result
    c.is_before-late.result c.is_less-back.result c.take_step.result (omega (arith, within)) r.rules wait.1 c.is_before-late.ensures back found.1 c.take_step.ensures.taken c.in-Ok-Some.refused
    (c.in-Ok-Some.is ∙ ap Ok c.in-Ok-Some.field-0-is) in
    let number : c.in-Ok-Some.refused.call ≡ c.args.step.now.number = search rules in
    let A : ℤ → Type 0 = λ z. AnswersAhead closed marks turns z s.stamp in
    let B : ℤ → Type 0 = λ z. AnswersAhead closed marks turns c.in-Ok-Some.refused.call z in (
      record {
        same = r.same;
        named = r.named;
        rules = r.rules;
        grants = r.grants;
        within = omega (arith, c.requires.below, ap length r.same);
        formed = form_more closed marks turns declared k s forms r.formed;
        finding = (refuses, subst B (sym stamp) (subst A (sym number) answers));
      },
      wait.0,
    )
