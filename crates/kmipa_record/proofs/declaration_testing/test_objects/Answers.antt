use Rattle.std.proofs.Common.{ℕ, List, ◌++◌, map, string_bytes}
use Rattle.std.proofs.lemmas.Result.{err_from_is_err_and, IfErr-weaker}
use Rattle.kmipa_record.specs.DeclarationWriting.{MayStandTogether, ids_of}
use Rattle.kmipa_record.specs.Entries.{entry_of}
use Rattle.kmipa_record.proofs.DeclarationWritingLemmas.{entries_together}
use Rattle.kmipa_record.proofs.WritingLemmas.{refused_map, on_ok_map}
use Rattle.kmipa_record.proofs.declaration_testing.test_objects.Goals as goal

pub returns-in_err-test_entries-clause-refused : goal.returns-in_err-test_entries-clause-refused
returns-in_err-test_entries-clause-refused c =
    let p = err_from_is_err_and c.from_residual.result c.from_residual.ensures.1 in
    rw (p.1, p.2) (refused_map c.in_err-test_entries.field-0.0 (entries_together (map entry_of c.args.entries.now) (map string_bytes c.args.asides.now)) c.in_err-test_entries.ensures.refused)

pub returns-clause-together : goal.returns-clause-together
returns-clause-together c =
    let both = c.in_ok-test_entries.ensures.together in
    on_ok_map c.test_asides.result _ _ (λ distinct. record { each = both.0; distinct = distinct }) (c.test_asides.ensures.distinct (ids_of (map entry_of c.args.entries.now)) both.1)

pub returns-clause-refused : goal.returns-clause-refused
returns-clause-refused c =
    let both = c.in_ok-test_entries.ensures.together in
    IfErr-weaker c.test_asides.result _ _ (λ kind r. refused_map kind (λ (t : MayStandTogether (map entry_of c.args.entries.now) (map string_bytes c.args.asides.now)). t.distinct) r)
    (c.test_asides.ensures.refused (ids_of (map entry_of c.args.entries.now)) both.1)
