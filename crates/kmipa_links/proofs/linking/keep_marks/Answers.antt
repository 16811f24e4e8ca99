use Rattle.std.proofs.Common.{List, map, refl, subst, sym, ap, None}
use Rattle.kmipa_record.specs.Marks.{MarkOf, mark_of}
use Rattle.kmipa_links.specs.Linking.{IsTakenSoFar}
use Rattle.kmipa_links.proofs.LinkLemmas.{taken_all, taken_none}
use Rattle.kmipa_links.proofs.linking.keep_marks.Goals as goal

pub marks-init : goal.marks-init
marks-init g c =
    let P : List MarkOf → Type 0 = λ m. IsTakenSoFar m c.args.source.now None c.args.links.now c.args.links.now in
    record { so_far = subst P (sym (ap (map mark_of) c.requires.none)) (taken_none c.args.source.now c.args.links.now c.requires.come); same = refl }

pub returns-clause-taken : goal.returns-clause-taken
returns-clause-taken g c =
    let s = c.marks.invariant.so_far in
    let marks = map mark_of c.marks.marks.items in
    let end = rw c.in_default.is at (c.in_ok-mark.ensures.come marks s.come) in
    taken_all marks c.marks.source c.next.new.self c.marks.clash c.args.links.now c.marks.links s end.0 end.1 (c.in_ok-mark.ensures.ended marks s.come c.in_default.is)
