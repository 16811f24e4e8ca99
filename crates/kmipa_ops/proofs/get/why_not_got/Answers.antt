use Rattle.std.proofs.Common.{◌∙◌, ap, sym, option_map}
use Rattle.kmipa_object.specs.declared.allow.Act.TheVariants as act
use Rattle.kmipa_object.specs.Allowances.{allows}
use Rattle.kmipa_object.specs.declared.state.State.{State}
use Rattle.kmipa_store.specs.Ledger.{held}
use Rattle.kmipa_msgs.specs.Messages.{maybe_lent, got_of, rules_of}
use Rattle.kmipa_ops.specs.Meant.{is_not}
use Rattle.kmipa_ops.proofs.MeantLemmas.{secret_there, has_secret, state_there, object_there, why_live}
use Rattle.kmipa_ops.proofs.get.why_not_got.Goals as goal

pub why_not_live-requires : goal.why_not_live-requires
why_not_live-requires g c = secret_there (g.L.Ledger.state c.args.ledger.now).now c.in-Some.place (held c.at-object.result.now) c.in-Secret.secret c.requires.sound c.at-object.ensures c.in-Secret.is

pub returns-in-Gone : goal.returns-in-Gone
returns-in-Gone g c =
    let m = (g.L.Ledger.state c.args.ledger.now).now in
    let t = g.L.Ledger.moment c.args.ledger.now in
    let h = held c.at-object.result.now in
    absurd (has_secret (rules_of c.args.rules.now) m c.in-Some.place t h c.requires.sound c.at-object.ensures
    (ap (λ (s : State). is_not (allows (rules_of c.args.rules.now).allow_lines act.Get s)) (state_there m.objects c.in-Some.place t c.state.result h c.at-object.ensures c.state.ensures) ∙ sym c.is_excluded.ensures ∙ c.if-is_excluded.false) c.in-Gone.is)

pub returns-in-Secret : goal.returns-in-Secret
returns-in-Secret g c =
    let m = (g.L.Ledger.state c.args.ledger.now).now in
    let t = g.L.Ledger.moment c.args.ledger.now in
    let h = held c.at-object.result.now in
    c.why_not_live.ensures
    ∙ why_live (rules_of c.args.rules.now) m (maybe_lent c.args.about) t (option_map (λ got. got_of got.now) c.args.shown) h c.in-Secret.secret c.requires.sound
    (object_there m.objects (maybe_lent c.args.about) c.args.place c.in-Some.place h c.in-Some.is c.requires.place c.at-object.ensures) c.in-Secret.is
    (ap (λ (s : State). is_not (allows (rules_of c.args.rules.now).allow_lines act.Get s)) (state_there m.objects c.in-Some.place t c.state.result h c.at-object.ensures c.state.ensures) ∙ sym c.is_excluded.ensures ∙ c.if-is_excluded.false)
