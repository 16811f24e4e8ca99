use Rattle.std.proofs.Common.{List, length, take, refl, subst, arith}
use Rattle.std.proofs.lemmas.List.{take_all}
use Rattle.std.proofs.lemmas.Option.{slice_get_read}
use Rattle.kmipa_session.specs.Keeping.{AreNextKept}
use Rattle.kmipa_session.specs.declared.folder.FolderSegment.{FolderSegment}
use Rattle.kmipa_session.proofs.ChainingLemmas.{kept_next, kept_turn, none_kept}
use Rattle.kmipa_session.proofs.chaining.judge_in_turn.Goals as goal

pub segments-init : goal.segments-init
segments-init g c = record {
  within = omega arith;
  declared = c.requires;
  joins = rw c.new-made.ensures.items (none_kept g.W.World.made c.args.chain.now);
}

pub segments-preserved : goal.segments-preserved
segments-preserved g c =
    let segments = c.args.segments.now in
    let segment = c.index-segments-place.result in
    record {
      within = omega (arith, c.segments-test.true);
      declared = c.judge.ensures.declared;
      joins = kept_turn g.W.World.made c.args.chain.now c.segments.chain c.judge.new.chain segments c.segments.place segment c.segments.made.items c.push.new.self.items c.in_ok-said.file
          (slice_get_read segments (length segments) c.segments.place segment refl c.segments-test.true c.index-segments-place.is) c.in-Ok.ensures.items c.segments.invariant.joins (c.in_ok-said.ensures.joins c.in-Done.is);
    }

pub returns-clause-kept : goal.returns-clause-kept
returns-clause-kept g c = λ done.
    let P : List FolderSegment → Type 0 = λ s. AreNextKept g.W.World.made c.args.chain.now c.segments.chain s c.segments.made.items in
    subst P (take_all c.segments.place c.args.segments.now (omega (arith, c.segments-test.false))) c.segments.invariant.joins

pub returns-clause-joins : goal.returns-clause-joins
returns-clause-joins g c = λ done.
    let P : List FolderSegment → Type 0 = λ s. AreNextKept g.W.World.made c.args.chain.now c.segments.chain s c.segments.made.items in
    kept_next g.W.World.made c.args.chain.now c.segments.chain c.args.segments.now c.segments.made.items
    (subst P (take_all c.segments.place c.args.segments.now (omega (arith, c.segments-test.false))) c.segments.invariant.joins)
