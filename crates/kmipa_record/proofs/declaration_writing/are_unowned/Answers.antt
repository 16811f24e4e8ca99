use Rattle.std.proofs.Common.{◌≡◌, ◌∙◌, List, None, map, take, drop, suc, get_or, refl, sym, subst}
use Rattle.std.proofs.lemmas.List.{take_all}
use Rattle.std.proofs.lemmas.List.Elements.{All-push}
use Rattle.kmipa_record.specs.Entries.{EntryOf, entry_of}
use Rattle.kmipa_record.specs.Writing.{AreUnowned}
use Rattle.kmipa_record.specs.declared.entry.Entry.{Entry}
use Rattle.kmipa_record.proofs.DeclarationWritingLemmas.{unowned, is_owned}
use Rattle.kmipa_record.proofs.WritingLemmas.{mapped_more, mapped_here, one_of}
use Rattle.kmipa_record.proofs.declaration_writing.are_unowned.Goals as goal

pub returns-then-is_some : goal.returns-then-is_some
returns-then-is_some c = (
  λ t. absurd cc,
  λ all.
      let entries = c.args.entries.now in let i = c.loop-entry.entry-index in let entry = c.entry-item.result in
      let one = one_of (λ (e : EntryOf). e.owner ≡ None) (map entry_of entries) (map entry_of (take i entries)) (map entry_of (drop (suc i) entries)) (entry_of entry)
      (mapped_here entry_of entries i entry c.loop-entry-test.true c.entry-item.is) all in
      absurd (is_owned entry (sym c.is_some.ensures ∙ c.if-is_some.true) one),
)

pub loop-entry-preserved : goal.loop-entry-preserved
loop-entry-preserved c =
    let entries = c.args.entries.now in let i = c.loop-entry.entry-index in let entry = c.entry-item.result in
    subst AreUnowned (sym (mapped_more entry_of entries i entry c.loop-entry-test.true c.entry-item.is))
    (All-push (λ (e : EntryOf). e.owner ≡ None) (map entry_of (take i entries)) (entry_of entry) c.loop-entry.invariant (unowned entry (sym c.is_some.ensures ∙ c.if-is_some.false)))

pub returns : goal.returns
returns c = (λ t. subst (λ (l : List Entry). AreUnowned (map entry_of l)) (take_all c.loop-entry.entry-index c.args.entries.now c.loop-entry-test.false) c.loop-entry.invariant, λ all. refl)
