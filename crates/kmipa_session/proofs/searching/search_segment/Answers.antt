use Rattle.std.proofs.Common.{◌≡◌, ◌∙◌, inl, Bool, List, ℕ, Option, rules, subst}
use Rattle.kmipa_record.specs.declared.torn.Torn.{Torn}
use Rattle.std.specs.Prelude.{is_some}
use Rattle.kmipa_session.specs.Sealing.{SaysSeals}
use Rattle.kmipa_session.specs.Searches.{SearchesInSegment}
use Rattle.kmipa_session.specs.Sessions.{IsMade, IsMadeAsAsked}
use Rattle.kmipa_session.specs.Worlds.{input_of}
use Rattle.kmipa_session.specs.declared.voice.Voice.TheVariants.{Lines}
use Rattle.kmipa_session.proofs.searching.search_segment.Goals as goal

pub returns : goal.returns
returns g c =
    let made = g.W.World.made in
    let run = c.search_segment-ran in
    let ran = run.result.0 in
    let bytes = run.result.1.items in
    let more = run.result.2.items in
    let said = c.say_seals-said.result in
    let leaves = c.args.words.segment.leaves in
    let asked : c.is_some.result ≡ is_some leaves = search rules in
    let P : Bool → Type 0 = λ b. SearchesInSegment c.args.words.search.seconds c.args.words.search b c.in-Ok.since (input_of run.new.transcript) (input_of run.new.declaration) ran.status ran.lines.items bytes more in
    let N : ℕ → Type 0 = λ n. SearchesInSegment n c.args.words.search c.is_some.result c.in-Ok.since (input_of run.new.transcript) (input_of run.new.declaration) ran.status ran.lines.items bytes more in
    let Q : List ℕ → Type 0 = λ b. IsMade made c.args.words.files.out.now b said.status c.in_ok-file.file in
    let S : List ℕ → Type 0 = λ b. IsMadeAsAsked made leaves b said.status c.in_ok-file.more in
    let T : Option Torn → Type 0 = λ t. SaysSeals Lines c.args.words.expected t ran.head ran.status ran.lines.items said.status said.lines.items in
    let same : c.deref-2.result.now ≡ bytes = search rules in
    let same_more : c.deref-3.result.now ≡ more = search rules in
    inl (inl (
      run.ensures.transcript ∙ c.in_ok-transcript.ensures.name,
      λ e. run.ensures.torn ∙ c.in_ok-transcript.ensures.opened e,
      run.ensures.declaration ∙ c.in_ok-declaration.ensures.name,
      (
        c.in-Ok.since,
        c.in-Ok.ensures,
        (
          bytes,
          more,
          (ran, subst P asked (subst N c.watch_of-watch.ensures run.ensures.searches), run.ensures.known, subst T c.torn.ensures c.say_seals-said.ensures),
          subst Q same c.in_ok-file.ensures.witness,
          subst S same_more c.in_ok-file.ensures.left,
        ),
      ),
    ))
