use Rattle.std.proofs.Common.{subst}
use Rattle.kmipa_ttlv.specs.ViewTree.{view_tree, view_trees}
use Rattle.kmipa_record.specs.Entries.{EntryOf, entry_of, SaysEntry, IsDeclarable}
use Rattle.kmipa_record.proofs.EntryLemmas.{unlisted, one_entry}
use Rattle.kmipa_record.proofs.entry.entry_in.Goals as goal

pub returns-in_default-2 : goal.returns-in_default-2
returns-in_default-2 c = λ e s d.
    unlisted (view_tree c.args.item.now) _ _ _ _ _ c.in-Some.ensures (rw c.in_default-2.is at c.in_ok-attrs.ensures) e s

pub returns-else-is_declarable : goal.returns-else-is_declarable
returns-else-is_declarable c = λ e s d.
    let here : EntryOf = entry_of (record { id = c.in_ok-from_str.field-0; kind = c.in-Some.parts.kind; attrs = c.in-Some-2.attrs; bytes = c.in_ok-copied.field-0; owner = c.in_ok-copied_text.field-0 }) in
    let set = rw c.in-Some-2.is at c.in_ok-attrs.ensures in
    let said : SaysEntry (view_tree c.args.item.now) here
    = record { attributes = view_trees c.in-Some.parts.attributes; is = rw (c.in_ok-from_str.ensures.ok, c.in_ok-copied.ensures.same, c.in_ok-copied_text.ensures) c.in-Some.ensures; listed = set.0; said = set.1 } in
    absurd (let no = c.if-is_declarable.ensures.1 (subst IsDeclarable (one_entry (view_tree c.args.item.now) e here s said) d) in cc)
