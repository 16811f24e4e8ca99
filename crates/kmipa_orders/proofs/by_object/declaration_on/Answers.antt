use Rattle.std.proofs.Common.{◌≡◌, ◌∙◌, ◌+◌, Vec, map, take, sym, subst}
use Rattle.std.specs.List.{filter}
use Rattle.std.specs.declared.alloc.Global.{Global}
use Rattle.kmipa_record.specs.Entries.{EntryOf, entry_of}
use Rattle.kmipa_record.specs.declared.entry.Entry.{Entry}
use Rattle.kmipa_msgs.specs.Messages.{lent}
use Rattle.kmipa_parts.specs.Parts.{is_among}
use Rattle.kmipa_orders.proofs.PartLemmas.{entry_so_far, other_so_far}
use Rattle.kmipa_orders.proofs.by_object.declaration_on.Goals as goal
use Rattle.kmipa_orders.proofs.by_object.declaration_on.Goals.{then-is_of+in_ok-copy+in_ok-push, else-is_of}

pub entries-preserved : goal.entries-preserved
entries-preserved c =
    let own = is_among (map lent c.args.ids.now) in
    let xs = c.deref-entry-items.result.now in
    let i = c.entries.entry-index in
    let x = c.entry-item.result in
    let P : Vec Entry Global → Type 0 = λ v. map entry_of v.items ≡ filter (λ (e : EntryOf). own e.id) (map entry_of (take (i + 1) xs)) in
    elim c.if-is_of.branch [
      | then-is_of+in_ok-copy+in_ok-push w ↦
          subst P (sym w.entries-is)
          (entry_so_far own xs i x c.entries-test.true c.entry-item.is c.entries.entries.items c.entries.invariant w.push.new.self.items w.in_ok-copy.copy w.in_ok-push.ensures.items w.in_ok-copy.ensures
          (sym c.is_of.ensures ∙ w.if-is_of.true))
      | else-is_of w ↦
          subst P (sym w.entries-is)
          (other_so_far own xs i x c.entries-test.true c.entry-item.is c.entries.entries.items c.entries.invariant (sym c.is_of.ensures ∙ w.if-is_of.false))
    ]
