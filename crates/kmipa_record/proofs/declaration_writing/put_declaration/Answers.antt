use Rattle.std.proofs.Common.{ℕ, List, String, map, string_bytes, sym, subst}
use Rattle.std.specs.Global.{Global}
use Rattle.std.specs.Io.{StartsWith}
use Rattle.std.specs.Prelude.{All}
use Rattle.std.proofs.lemmas.Result.{err_from_is_err_and, IfErr-weaker}
use Rattle.kmipa_ttlv.specs.Tree.{Tree}
use Rattle.kmipa_ttlv.specs.Written.{Legal}
use Rattle.kmipa_object.specs.declared.allow.AllowLine.{AllowLine}
use Rattle.kmipa_msgs.specs.Messages.{row_of}
use Rattle.kmipa_msgs.specs.declared.rules.Row.{Row}
use Rattle.kmipa_record.specs.DeclarationRecords.{row_item, aside_item}
use Rattle.kmipa_record.specs.DeclarationWriting.{IsWritableDeclaration, written_records}
use Rattle.kmipa_record.specs.Declarations.{declaration_of}
use Rattle.kmipa_record.specs.Entries.{entry_of, written_entry}
use Rattle.kmipa_record.specs.Lines.{allow_line_item, own_line_item}
use Rattle.kmipa_record.specs.Settings.{declaration_header}
use Rattle.kmipa_record.specs.Writing.{Adds, AddsAll}
use Rattle.kmipa_record.specs.declared.declaration.Declaration.{Declaration}
use Rattle.kmipa_record.specs.declared.entry.Entry.{Entry}
use Rattle.kmipa_record.specs.declared.own_attribute.OwnAttribute.{OwnAttribute}
use Rattle.kmipa_record.proofs.DeclarationWritingLemmas.{adds_joined}
use Rattle.kmipa_record.proofs.WritingLemmas.{adds_behind, behind_starts, starts_on, refused_map, on_ok_map, mapped_twice, all_mapped}
use Rattle.kmipa_record.proofs.declaration_writing.put_declaration.Goals as goal

pub returns-in_err-append_all-clause-grows : goal.returns-in_err-append_all-clause-grows
returns-in_err-append_all-clause-grows c =
    let old = c.args.out.now.items in
    starts_on old c.append.new.out.items c.append_all.new.out.items (behind_starts old c.append.new.out.items _ c.in_ok-append.ensures.ok.after) c.append_all.ensures.grows

pub returns-in_err-append_all-2-clause-grows : goal.returns-in_err-append_all-2-clause-grows
returns-in_err-append_all-2-clause-grows c =
    let old = c.args.out.now.items in let a = c.append_all.new.out.items in
    let first = starts_on old c.append.new.out.items a (behind_starts old c.append.new.out.items _ c.in_ok-append.ensures.ok.after) c.append_all.ensures.grows in
    starts_on old a c.append_all-2.new.out.items first c.append_all-2.ensures.grows

pub returns-in_err-append_all-3-clause-grows : goal.returns-in_err-append_all-3-clause-grows
returns-in_err-append_all-3-clause-grows c =
    let old = c.args.out.now.items in let a = c.append_all.new.out.items in let b = c.append_all-2.new.out.items in
    let first = starts_on old c.append.new.out.items a (behind_starts old c.append.new.out.items _ c.in_ok-append.ensures.ok.after) c.append_all.ensures.grows in
    starts_on old b c.append_all-3.new.out.items (starts_on old a b first c.append_all-2.ensures.grows) c.append_all-3.ensures.grows

pub returns-in_err-append_all-4-clause-grows : goal.returns-in_err-append_all-4-clause-grows
returns-in_err-append_all-4-clause-grows c =
    let old = c.args.out.now.items in let a = c.append_all.new.out.items in let b = c.append_all-2.new.out.items in let d = c.append_all-3.new.out.items in
    let first = starts_on old c.append.new.out.items a (behind_starts old c.append.new.out.items _ c.in_ok-append.ensures.ok.after) c.append_all.ensures.grows in
    starts_on old d c.append_all-4.new.out.items (starts_on old b d (starts_on old a b first c.append_all-2.ensures.grows) c.append_all-3.ensures.grows) c.append_all-4.ensures.grows

pub returns-clause-grows : goal.returns-clause-grows
returns-clause-grows c =
    let old = c.args.out.now.items in let a = c.append_all.new.out.items in let b = c.append_all-2.new.out.items in let d = c.append_all-3.new.out.items in let e = c.append_all-4.new.out.items in
    let first = starts_on old c.append.new.out.items a (behind_starts old c.append.new.out.items _ c.in_ok-append.ensures.ok.after) c.append_all.ensures.grows in
    starts_on old e c.append_all-5.new.out.items (starts_on old d e (starts_on old b d (starts_on old a b first c.append_all-2.ensures.grows) c.append_all-3.ensures.grows) c.append_all-4.ensures.grows) c.append_all-5.ensures.grows

pub returns-in_err-append_all-4-clause-refused : goal.returns-in_err-append_all-4-clause-refused
returns-in_err-append_all-4-clause-refused c =
    let p = err_from_is_err_and c.from_residual-in_err-append_all-4.result c.from_residual-in_err-append_all-4.ensures.1 in
    let d = c.args.declaration.now in
    rw (p.1, p.2) (refused_map c.in_err-append_all-4.field-0.0
    (λ (able : IsWritableDeclaration c.args.reach (declaration_of d)). subst (λ (l : List Entry). All (λ (e : Entry). Legal 16 (written_entry (entry_of e))) l) (sym c.deref-4.ensures.value) (all_mapped entry_of (λ e. Legal 16 (written_entry e)) d.entries.items able.entries))
    c.in_err-append_all-4.ensures.refused)

pub returns-clause-refused : goal.returns-clause-refused
returns-clause-refused c =
    let d = c.args.declaration.now in
    IfErr-weaker c.append_all-5.result _ _ (λ kind r. refused_map kind
    (λ (able : IsWritableDeclaration c.args.reach (declaration_of d)). subst (λ (l : List (String Global)). All (λ (id : String Global). Legal 16 (aside_item (string_bytes id))) l) (sym c.deref-5.ensures.value) (all_mapped string_bytes (λ id. Legal 16 (aside_item id)) d.asides.items able.asides)) r)
    c.append_all-5.ensures.refused

pub returns-clause-put : goal.returns-clause-put
returns-clause-put c =
    let d = c.args.declaration.now in
    let old = c.args.out.now.items in let first = c.append.new.out.items in
    let m1 = c.append_all.new.out.items in let m2 = c.append_all-2.new.out.items in let m3 = c.append_all-3.new.out.items in let m4 = c.append_all-4.new.out.items in let new = c.append_all-5.new.out.items in
    let h = c.header_of-header.result in
    let header : Adds (declaration_header h) old first = subst (λ (t : Tree). Adds t old first) c.in_ok-write_declaration_header.ensures c.in_ok-append.ensures.ok in
    let lent : AddsAll (map (λ (r : Row). row_item (row_of r)) d.rows.items) first m1
    = subst (λ (l : List Row). AddsAll (map (λ (r : Row). row_item (row_of r)) l) first m1) c.deref.ensures.value c.in_ok-append_all.ensures.put in
    let rows : AddsAll (map row_item (map row_of d.rows.items)) first m1 = subst (λ (l : List Tree). AddsAll l first m1) (mapped_twice row_of row_item d.rows.items) lent in
    let lines : AddsAll (map allow_line_item d.allow_lines.items) m1 m2 = subst (λ (l : List AllowLine). AddsAll (map allow_line_item l) m1 m2) c.deref-2.ensures.value c.in_ok-append_all-2.ensures.put in
    let own : AddsAll (map own_line_item d.own_attributes.items) m2 m3 = subst (λ (l : List OwnAttribute). AddsAll (map own_line_item l) m2 m3) c.deref-3.ensures.value c.in_ok-append_all-3.ensures.put in
    let again : AddsAll (map (λ (e : Entry). written_entry (entry_of e)) d.entries.items) m3 m4
    = subst (λ (l : List Entry). AddsAll (map (λ (e : Entry). written_entry (entry_of e)) l) m3 m4) c.deref-4.ensures.value c.in_ok-append_all-4.ensures.put in
    let entries : AddsAll (map written_entry (map entry_of d.entries.items)) m3 m4 = subst (λ (l : List Tree). AddsAll l m3 m4) (mapped_twice entry_of written_entry d.entries.items) again in
    on_ok_map c.append_all-5.result _ _ (λ s.
    let last : AddsAll (map (λ (id : String Global). aside_item (string_bytes id)) d.asides.items) m4 new
    = subst (λ (l : List (String Global)). AddsAll (map (λ (id : String Global). aside_item (string_bytes id)) l) m4 new) c.deref-5.ensures.value s in
    let asides : AddsAll (map aside_item (map string_bytes d.asides.items)) m4 new = subst (λ (l : List Tree). AddsAll l m4 new) (mapped_twice string_bytes aside_item d.asides.items) last in (
      c.in_ok-test_declaration.ensures.may,
      h,
      c.header_of-header.ensures,
      adds_behind (declaration_header h) (written_records (declaration_of d)) old first new header
          (adds_joined _ _ first m1 new rows (adds_joined _ _ m1 m2 new lines (adds_joined _ _ m2 m3 new own (adds_joined _ _ m3 m4 new entries asides)))),
    ))
    c.append_all-5.ensures.put
