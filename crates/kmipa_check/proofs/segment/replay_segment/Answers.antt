use Rattle.std.proofs.Common.{Ok, map, sym, ap, subst}
use Rattle.kmipa_record.specs.Declarations.{DeclarationOf, declaration_of}
use Rattle.kmipa_check.specs.Replays.{TellsRun}
use Rattle.kmipa_check.specs.SegmentReplays.{TellsSegment}
use Rattle.kmipa_check.specs.Since.{as_ever}
use Rattle.kmipa_check.specs.Steps.{step_of}
use Rattle.kmipa_check.specs.declared.segment.Checked.{Checked}
use Rattle.kmipa_check.specs.declared.verdict.Verdict.{Verdict}
use Rattle.kmipa_check.proofs.SinceLemmas.{placed_since}
use Rattle.kmipa_check.proofs.SegmentLemmas.{fault_told}
use Rattle.kmipa_check.proofs.segment.replay_segment.Goals as goal

pub returns-in_ok-declaration_left-in-Ok-Yes-clause-told : goal.returns-in_ok-declaration_left-in-Ok-Yes-clause-told
returns-in_ok-declaration_left-in-Ok-Yes-clause-told g c =
    let declared = declaration_of c.args.declaration.now in
    let replayed = c.in-Ok-Yes.ensures.leaves declared c.requires.rules c.requires.replayed (ap Ok c.in-Ok-Yes.field-0-is) in
    record {
      ledger = (g.L.Ledger.state c.replay.new.ledger).now;
      replayed = replayed;
      since_then = placed_since c.args.since (map step_of c.args.steps.now) c.in-None.ensures replayed.placed;
    }

pub returns-in_ok-declaration_left-in-Ok-Yes-clause-leaves : goal.returns-in_ok-declaration_left-in-Ok-Yes-clause-leaves
returns-in_ok-declaration_left-in-Ok-Yes-clause-leaves g c =
    let declared = declaration_of c.args.declaration.now in
    let replayed = c.in-Ok-Yes.ensures.leaves declared c.requires.rules c.requires.replayed (ap Ok c.in-Ok-Yes.field-0-is) in
    record {
      behind = record { ledger = (g.L.Ledger.state c.replay.new.ledger).now; replayed = replayed; is = c.in_ok-declaration_left-in-Ok-Yes.ensures };
      since_then = placed_since c.args.since (map step_of c.args.steps.now) c.in-None.ensures replayed.placed;
      last = c.last_stamp.ensures;
    }

pub returns-in_ok-declaration_left-in-Ok-Yes-clause-held : goal.returns-in_ok-declaration_left-in-Ok-Yes-clause-held
returns-in_ok-declaration_left-in-Ok-Yes-clause-held g c = record {
  sound = c.in-Ok-Yes.ensures.sound c.in-Ok-Yes.field-0-is;
  entries = ap (λ (d : DeclarationOf). d.entries) c.in_ok-declaration_left-in-Ok-Yes.ensures;
}

pub returns-in-Ok-No-clause-told : goal.returns-in-Ok-No-clause-told
returns-in-Ok-No-clause-told g c =
    let declared = declaration_of c.args.declaration.now in
    let P : Verdict → Type 0 = λ v. TellsRun declared (map step_of c.args.steps.now) (Ok v) in
    let Q : Verdict → Type 0 = λ v. TellsSegment declared c.args.since (map step_of c.args.steps.now) (Ok v) in
    let told = subst P c.in-Ok-No.field-0-is (c.in-Ok-No.ensures.told declared c.requires.rules c.requires.replayed) in
    subst Q (sym (ap (λ (x : Checked). x.verdict) c.no-in-Ok-No.ensures)) (as_ever c.in-None.ensures told)

pub returns-in-Err-clause-told : goal.returns-in-Err-clause-told
returns-in-Err-clause-told g c =
    let declared = declaration_of c.args.declaration.now in
    fault_told declared c.args.since (map step_of c.args.steps.now) c.in-Err.fault (c.in-Err.ensures.told declared c.requires.rules c.requires.replayed)
