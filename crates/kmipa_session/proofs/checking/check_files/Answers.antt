use Rattle.std.proofs.Common.{◌∙◌, Bool, Option, subst}
use Rattle.kmipa_record.specs.declared.torn.Torn.{Torn}
use Rattle.kmipa_session.specs.Printing.{voice_of}
use Rattle.kmipa_session.specs.Sealing.{SaysSeals}
use Rattle.kmipa_session.specs.Timing.{EndsInTime}
use Rattle.kmipa_session.specs.declared.voice.Voice.{Voice}
use Rattle.kmipa_session.proofs.checking.check_files.Goals as goal

pub returns : goal.returns
returns g c =
    let ran = c.check-ran.result in
    let sealed = c.say_seals-sealed.result in
    let said = c.say_in_time-said.result in
    let expected = c.args.words.expected in
    let P : Voice → Type 0 = λ v. SaysSeals v expected c.torn.result ran.head ran.status ran.lines.items sealed.status sealed.lines.items in
    let Q : Option Torn → Type 0 = λ t. SaysSeals (voice_of c.args.form) expected t ran.head ran.status ran.lines.items sealed.status sealed.lines.items in
    let T : Voice → Type 0 = λ v. EndsInTime v c.args.words.seconds c.have_failed-failed.result sealed.status sealed.lines.items said.status said.lines.items in
    let F : Bool → Type 0 = λ b. EndsInTime (voice_of c.args.form) c.args.words.seconds b sealed.status sealed.lines.items said.status said.lines.items in (
      c.check-ran.ensures.transcript ∙ c.in_ok-transcript.ensures.name,
      λ e. c.check-ran.ensures.torn ∙ c.in_ok-transcript.ensures.opened e,
      c.check-ran.ensures.declaration ∙ c.in_ok-declaration.ensures.name,
      c.check-ran.ensures.witness ∙ c.in_ok-witness.ensures.name,
      (
        sealed,
        (ran, c.check-ran.ensures.checks, c.check-ran.ensures.known, subst Q c.torn.ensures (subst P c.voice_of-voice.ensures c.say_seals-sealed.ensures)),
        subst F c.have_failed-failed.ensures (subst T c.voice_of-voice.ensures c.say_in_time-said.ensures),
      ),
    )
