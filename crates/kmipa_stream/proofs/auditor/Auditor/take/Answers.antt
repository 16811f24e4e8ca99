use Rattle.std.proofs.Common.{◌∷◌, ◌++◌, [], false, refl, sym, subst}
use Rattle.std.specs.String.{string_bytes}
use Rattle.kmipa_record.specs.Marks.{AreRecorded, begins, mark_of}
use Rattle.kmipa_record.specs.declared.transcript.Mark.{Mark}
use Rattle.kmipa_stream.specs.Standing.{Stands}
use Rattle.kmipa_stream.specs.declared.auditor.Auditor.{Auditor}
use Rattle.kmipa_stream.proofs.StandingLemmas.{stands_on, wait_on}
use Rattle.kmipa_stream.proofs.auditor.Auditor.take.Goals as goal

pub returns-in_ok-begin-in-Begin : goal.returns-in_ok-begin-in-Begin
returns-in_ok-begin-in-Begin c = λ marks turns declared s r.
    let a = c.args.self.now in
    let b = c.in-Begin.begin in
    let new : Auditor = record { alloc = a.alloc; seen = c.begin.new.self; ends = a.ends; lowest = a.lowest; replay = a.replay } in
    let P : Mark → Type 0 = λ m. AreRecorded (marks ++ mark_of m ∷ []) in
    let Q : Mark → Type 0 = λ m. Stands false (marks ++ mark_of m ∷ []) turns declared new in
    let recorded = subst P c.in-Begin.is r in
    subst Q (sym c.in-Begin.is)
    (stands_on marks (begins b.call (string_bytes b.client) b.message.items) turns declared a new s (c.in_ok-begin-in-Begin.ensures.seen marks s.seen recorded) c.in_ok-begin-in-Begin.ensures.kept
    (wait_on marks b.call (string_bytes b.client) b.message.items turns a.replay.formed a.ends s.ends) refl refl)
