use Rattle.std.proofs.Common.{◌≡◌, ◌∙◌, inl, List, ℕ, rules, subst}
use Rattle.std.proofs.Common.{Bool, Option}
use Rattle.std.specs.Prelude.{is_some}
use Rattle.kmipa_record.specs.declared.torn.Torn.{Torn}
use Rattle.kmipa_session.specs.Checks.{ChecksInSegment}
use Rattle.kmipa_session.specs.Sealing.{SaysSeals}
use Rattle.kmipa_session.specs.Sessions.{IsMadeAsAsked}
use Rattle.kmipa_session.specs.Timing.{EndsInTime}
use Rattle.kmipa_session.specs.Worlds.{input_of}
use Rattle.kmipa_session.specs.declared.voice.Voice.TheVariants.{Lines}
use Rattle.kmipa_session.proofs.checking.check_segment.Goals as goal

pub returns : goal.returns
returns g c =
    let made = g.W.World.made in
    let run = c.check_segment-ran in
    let ran = run.result.0 in
    let bytes = run.result.1.items in
    let sealed = c.say_seals-sealed.result in
    let said = c.say_in_time-said.result in
    let leaves = c.args.words.segment.leaves in
    let asked : c.is_some.result ≡ is_some leaves = search rules in
    let P : Bool → Type 0 = λ b. ChecksInSegment b c.in-Ok.since (input_of run.new.transcript) (input_of run.new.declaration) (input_of run.new.witness) ran.status ran.lines.items bytes in
    let Q : List ℕ → Type 0 = λ b. IsMadeAsAsked made leaves b said.status c.in_ok-file.file in
    let S : Option Torn → Type 0 = λ t. SaysSeals Lines c.args.words.expected t ran.head ran.status ran.lines.items sealed.status sealed.lines.items in
    let F : Bool → Type 0 = λ b. EndsInTime Lines c.args.words.seconds b sealed.status sealed.lines.items said.status said.lines.items in
    let same : c.deref-2.result.now ≡ bytes = search rules in
    inl (inl (
      run.ensures.transcript ∙ c.in_ok-transcript.ensures.name,
      λ e. run.ensures.torn ∙ c.in_ok-transcript.ensures.opened e,
      run.ensures.declaration ∙ c.in_ok-declaration.ensures.name,
      run.ensures.witness ∙ c.in_ok-order.ensures.name,
      (
        c.in-Ok.since,
        c.in-Ok.ensures,
        (
          bytes,
          (
            sealed,
            (ran, subst P asked run.ensures.checks, run.ensures.known, subst S c.torn.ensures c.say_seals-sealed.ensures),
            subst F c.have_failed-failed.ensures c.say_in_time-said.ensures,
          ),
          subst Q same c.in_ok-file.ensures,
        ),
      ),
    ))
