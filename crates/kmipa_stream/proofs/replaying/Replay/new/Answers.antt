use Rattle.std.proofs.Common.{ℤ, List, [], refl, sym, ap, ◌∙◌, arith, rules}
use mir.Val.{SFits}
use mir.Syntax.{w32}
use Rattle.std.proofs.lemmas.Int.{to_z-of_z}
use Rattle.kmipa_msgs.specs.Messages.{rules_of}
use Rattle.kmipa_store.specs.States.{state_of_journal}
use Rattle.kmipa_record.specs.declared.settings.Settings.{Settings}
use Rattle.kmipa_record.specs.declared.own_attribute.OwnAttribute.{OwnAttribute}
use Rattle.kmipa_check.specs.Grants.{GrantsOf}
use Rattle.kmipa_stream.specs.Replaying.{counts_under}
use Rattle.kmipa_stream.proofs.OpeningLemmas.{all_known, rules_opened}
use Rattle.kmipa_stream.proofs.replaying.Replay.new.Goals as goal

pub returns-clause-replays : goal.returns-clause-replays
returns-clause-replays c = λ declared named opens closed marks.
    let m = (state_of_journal c.args.opening.ledger).now in
    let granted : ℤ → List OwnAttribute → GrantsOf = λ z own. record { tolerance = z; own = own } in
    let stretch : ℤ → GrantsOf = λ z. granted z c.args.opening.own_attributes.items in
    let fits : SFits w32 c.args.settings.tolerance = search rules in
    let known = all_known declared.entries m opens.opened declared refl in
    record {
      same = refl;
      named = c.in_ok-of.ensures;
      rules = rules_opened c.args.opening declared c.args.settings (rules_of c.in_ok-rules_with.field-0) named opens c.in_ok-rules_with.ensures;
      grants = ap stretch (to_z-of_z w32 c.args.settings.tolerance fits ∙ ap (λ (s : Settings). s.tolerance) (sym named)) ∙ ap (granted declared.settings.tolerance) opens.own;
      within = omega arith;
      formed = λ all calls ahead are place lt. absurd (omega (arith, lt));
      finding = (
        opens.opened.sound,
        λ all calls order ahead are is. record {
          replayed = record { placed = λ turn lt. absurd (omega (arith, lt)); known = known; sound = opens.opened.sound };
          stamped = refl;
          counted = c.none_counted.ensures ∙ ap (λ (s : Settings). counts_under s.unjudged []) (sym named);
        },
      );
    }
