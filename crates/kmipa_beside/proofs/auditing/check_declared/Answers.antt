use Rattle.std.proofs.Common.{ℤ, List, Option, String, length, map, option_map, string_bytes, subst, sym, ap, ◌∙◌, rules}
use Rattle.std.specs.Global.{Global}
use mir.Val.{SFits}
use mir.Syntax.{w32}
use Rattle.std.proofs.lemmas.Int.{to_z-of_z}
use Rattle.kmipa_msgs.specs.Messages.{rules_of}
use Rattle.kmipa_msgs.specs.declared.rules.Unjudged.{Unjudged}
use Rattle.kmipa_record.specs.Transcripts.{transcript_of}
use Rattle.kmipa_record.specs.Witnesses.{witness_of}
use Rattle.kmipa_store.specs.Ledger.{cards_of}
use Rattle.kmipa_store.specs.States.{state_of_journal}
use Rattle.kmipa_record.specs.declared.settings.Settings.{Settings}
use Rattle.kmipa_record.specs.declared.own_attribute.OwnAttribute.{OwnAttribute}
use Rattle.kmipa_check.specs.Grants.{GrantsOf}
use Rattle.kmipa_stream.proofs.OpeningLemmas.{rules_opened}
use Rattle.kmipa_trail.specs.Owners.{owners_at_first}
use Rattle.kmipa_beside.specs.Audits.{ChecksUnder}
use Rattle.kmipa_beside.specs.Owners.{named_from, named_of, owned_as, owners_by}
use Rattle.kmipa_beside.specs.declared.named.Named.{Named}
use Rattle.kmipa_beside.proofs.OwnersLemmas.{owners_first, owners_long, owners_opened}
use Rattle.kmipa_beside.proofs.DeclaredLemmas.{declared_known, declared_sound}
use Rattle.kmipa_beside.proofs.auditing.check_declared.Goals as goal

pub check_under-requires : goal.check_under-requires
check_under-requires c =
    let o = c.args.declared.opening in
    declared_sound o c.requires.0 c.requires.2 c.args.declared.settings c.requires.1 (state_of_journal c.set_rest_aside.new.ledger) c.set_rest_aside.ensures

pub owners_named-requires : goal.owners_named-requires
owners_named-requires c =
    let o = c.args.declared.opening in
    ap length c.deref.ensures.value ∙ owners_long o c.requires.0 c.requires.2

pub returns : goal.returns
returns c = λ given named opens recorded.
    let o = c.args.declared.opening in
    let settings = c.args.declared.settings in
    let granted : ℤ → List OwnAttribute → GrantsOf = λ z own. record { tolerance = z; own = own } in
    let stretch : ℤ → GrantsOf = λ z. granted z c.as_slice.result.now in
    let fits : SFits w32 settings.tolerance = search rules in
    let grants = ap stretch (to_z-of_z w32 settings.tolerance fits ∙ ap (λ (s : Settings). s.tolerance) (sym named)) ∙ ap (granted given.settings.tolerance) (c.as_slice.ensures.value ∙ opens.own) in
    let all = map named_of c.in_ok-named.named.items in
    let declared = owners_opened o given opens all
    (c.in_ok-named.ensures ∙ ap (λ (os : List (Option (String Global))). named_from (cards_of (state_of_journal o.ledger).now.objects) (map (option_map string_bytes) os)) c.deref.ensures.value) in
    let owners = c.in_ok-owners.ensures ∙ ap (λ (ns : List Named). owners_by settings.visibility (map owned_as (map named_of ns))) c.deref-2.ensures.value
    ∙ owners_first settings.visibility (map owned_as all) given.entries declared
    ∙ ap (λ (s : Settings). owners_at_first s.visibility given.entries) (sym named) in
    let U : Unjudged → Type 0 = λ u. ChecksUnder u (transcript_of c.args.transcript.now) given (witness_of c.args.witness.now) c.check_under.result in
    subst U (ap (λ (s : Settings). s.unjudged) (sym named)) (c.check_under.ensures given
    (rules_opened o given settings (rules_of c.in_ok-rules.rules) named opens c.in_ok-rules.ensures)
    grants
    owners
    (declared_known o given opens settings named (state_of_journal c.set_rest_aside.new.ledger) c.set_rest_aside.ensures)
    recorded)
