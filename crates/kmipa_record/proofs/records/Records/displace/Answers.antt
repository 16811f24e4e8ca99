use Rattle.std.proofs.Common.{◌≡◌, ◌∙◌, List, Some, refl, sym, ap, length, slice_get, string_bytes}
use Rattle.std.proofs.lemmas.Map.Text.{btree_set_updates_text}
use Rattle.std.proofs.lemmas.Option.{slice_get_read}
use Rattle.kmipa_record.specs.declared.entry.Entry.{Entry}
use Rattle.kmipa_record.proofs.RecordsLemmas.{joined}
use Rattle.kmipa_record.proofs.records.Records.displace.Goals.{in-Ok-insert, in-Err}
use Rattle.kmipa_record.proofs.records.Records.displace.Goals as goal

pub returns : goal.returns
returns c =
    let old = c.args.self.now in
    let id = string_bytes c.in-Ok.id in
    let lent = c.deref.result.now in
    let entry = c.in-Some-get.entry.now in
    let place = c.in-Some.place in
    let at : slice_get old.entries.items place ≡ Some entry =
    ap (λ (xs : List Entry). slice_get xs place) (sym c.deref.ensures.value)
    ∙ slice_get_read lent (length lent) place entry refl c.in-Some-get.ensures.lookup.3.0 c.in-Some-get.ensures.lookup.1 in
    elim c.match-insert.branch [
      | in-Ok-insert w ↦ rw w.result-is (record {
        same = refl;
        others = joined old.others c.insert.new.self old.entries.items c.args.earlier c.in-Some.place c.in-Some-get.entry.now id c.in-Some.is at c.in-Ok.ensures.cases
            (λ cs. btree_set_updates_text id old.others c.insert.new.self _ w.in-Ok-insert.ensures.updates cs);
      })
      | in-Err w ↦ rw w.result-is (record { same = refl; others = refl })
    ]
