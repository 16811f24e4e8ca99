use Rattle.std.proofs.Common.{◌≡◌, ◌∙◌, ◌++◌, ◌∷◌, [], ℕ, List, map, take, drop, suc, true, false, refl, sym, ap, subst, string_bytes}
use Rattle.std.proofs.lemmas.List.{map-append, append-nil}
use Rattle.std.proofs.lemmas.List.Elements.{All-push}
use Rattle.std.proofs.lemmas.Result.{err_from_is_err_and}
use Rattle.std.specs.Prelude.{All}
use Rattle.kmipa_record.specs.DeclarationWriting.{AreDistinct, AreNoted, MayStand, MayStandTogether, ids_of}
use Rattle.kmipa_record.specs.Entries.{EntryOf, entry_of}
use Rattle.kmipa_record.specs.Writing.{refused}
use Rattle.kmipa_record.proofs.DeclarationWritingLemmas.{may_not, ids_ahead}
use Rattle.kmipa_record.proofs.WritingLemmas.{mapped_here, mapped_more, refused_map}
use Rattle.kmipa_record.proofs.declaration_testing.test_entries.Goals as goal

pub returns-then-not-may_stand-clause-refused : goal.returns-then-not-may_stand-clause-refused
returns-then-not-may_stand-clause-refused c =
    let entries = c.args.entries.now in let i = c.loop-entry.entry-index in let entry = c.entry-item.result in
    let before = map entry_of (take i entries) in let after = map entry_of (drop (suc i) entries) in
    let not : ¬ (MayStand (entry_of entry)) = λ may. absurd (let clash : false ≡ true = sym c.if-not-may_stand.true ∙ c.may_stand.ensures.1 may in cc) in
    refused refl (λ t. may_not before after [] (entry_of entry) not (subst (λ (l : List EntryOf). MayStandTogether l []) (mapped_here entry_of entries i entry c.loop-entry-test.true c.entry-item.is) t))

pub returns-in_err-note-clause-refused : goal.returns-in_err-note-clause-refused
returns-in_err-note-clause-refused c =
    let p = err_from_is_err_and c.from_residual.result c.from_residual.ensures.1 in
    let entries = c.args.entries.now in let i = c.loop-entry.entry-index in let entry = c.entry-item.result in
    let before = map entry_of (take i entries) in let after = map entry_of (drop (suc i) entries) in
    rw (p.1, p.2) (refused_map c.in_err-note.field-0.0
    (λ t. ids_ahead before after (entry_of entry) (subst (λ (l : List EntryOf). MayStandTogether l []) (mapped_here entry_of entries i entry c.loop-entry-test.true c.entry-item.is) t))
    (c.in_err-note.ensures (ids_of before) c.loop-entry.invariant.1))

pub loop-entry-preserved : goal.loop-entry-preserved
loop-entry-preserved c =
    let entries = c.args.entries.now in let i = c.loop-entry.entry-index in let entry = c.entry-item.result in
    let before = map entry_of (take i entries) in
    let noted = c.in_ok-note.ensures (ids_of before) c.loop-entry.invariant.1 in
    subst (λ (l : List EntryOf). All MayStand l × AreNoted c.note.new.identifiers (ids_of l)) (sym (mapped_more entry_of entries i entry c.loop-entry-test.true c.entry-item.is)) (
      All-push MayStand before (entry_of entry) c.loop-entry.invariant.0 (c.may_stand.ensures.0 c.if-not-may_stand.false),
      subst (λ (l : List (List ℕ)). AreNoted c.note.new.identifiers l) (sym (map-append (λ (e : EntryOf). e.id) before (entry_of entry ∷ []))) noted,
    )
