use Rattle.std.proofs.Common.{◌≡◌, ◌∙◌, inl, List, ℕ, Option, rules, subst}
use Rattle.kmipa_record.specs.declared.torn.Torn.{Torn}
use Rattle.kmipa_session.specs.Printing.{voice_of}
use Rattle.kmipa_session.specs.Sealing.{SaysSeals, own_length}
use Rattle.kmipa_session.specs.Searches.{Searches}
use Rattle.kmipa_session.specs.Sessions.{IsMade}
use Rattle.kmipa_session.specs.Worlds.{input_of, torn_of}
use Rattle.kmipa_session.specs.declared.voice.Voice.{Voice}
use Rattle.kmipa_session.proofs.searching.search_files.Goals as goal

pub returns : goal.returns
returns g c =
    let made = g.W.World.made in
    let run = c.search-ran in
    let ran = run.result.0 in
    let bytes = run.result.1.items in
    let said = c.say_seals-said.result in
    let P : Voice → Type 0 = λ v. SaysSeals v c.args.words.expected c.torn.result ran.head ran.status ran.lines.items said.status said.lines.items in
    let S : Option Torn → Type 0 = λ t. SaysSeals (voice_of c.args.form) c.args.words.expected t ran.head ran.status ran.lines.items said.status said.lines.items in
    let N : ℕ → Type 0 = λ n. Searches n c.args.form c.args.words.search (own_length (torn_of run.new.transcript)) (input_of run.new.transcript) (input_of run.new.declaration) ran.status ran.lines.items bytes in
    let Q : List ℕ → Type 0 = λ b. IsMade made c.args.words.files.out.now b said.status c.in_ok-file.file in
    let same : c.deref-2.result.now ≡ bytes = search rules in
    inl (
      run.ensures.transcript ∙ c.in_ok-transcript.ensures.name,
      λ e. run.ensures.torn ∙ c.in_ok-transcript.ensures.opened e,
      run.ensures.declaration ∙ c.in_ok-declaration.ensures.name,
      (bytes, (ran, subst N c.watch_of-watch.ensures run.ensures.searches, run.ensures.known, subst S c.torn.ensures (subst P c.voice_of.ensures c.say_seals-said.ensures)), subst Q same c.in_ok-file.ensures),
    )
