use Rattle.std.proofs.Common.{◌≡◌, ◌∙◌, ◌++◌, ◌∷◌, [], true, false, inl, inr, refl, sym, ap, length, vec_len, string_bytes, rules}
use Rattle.std.specs.BTreeSet.{contains_text}
use Rattle.kmipa_record.specs.DeclarationReading.{asides_in}
use Rattle.kmipa_record.specs.Hashes.{identifier_hash}
use Rattle.kmipa_record.specs.declared.records.Records.{Records}
use Rattle.kmipa_record.proofs.RecordsLemmas.{is_new, is_used, kept_more, entry_declared}
use Rattle.kmipa_record.proofs.records.Records.take_entry.Goals.{in-Ok-push, in-Err}
use Rattle.kmipa_record.proofs.records.Records.take_entry.Goals as goal

pub returns-then-contains : goal.returns-then-contains
returns-then-contains c = λ s.
    let others = c.displace.new.self.others in
    let used : contains_text others c.as_str-2.result.now ≡ true = sym c.contains.ensures ∙ c.if-contains.true in
    inr (
      refl,
      is_used c.args.self.now c.in-Ok.earlier others c.identifier_hash-hash.result (string_bytes c.args.entry.id) c.requires c.in_ok-displace.ensures.others c.in-Ok.ensures.old
          (c.identifier_hash-hash.ensures ∙ ap identifier_hash c.as_str.ensures.value) s (ap (contains_text others) (sym c.as_str-2.ensures.value) ∙ used),
    )

pub returns : goal.returns
returns c =
    let others = c.displace.new.self.others in
    let entry = c.args.entry in
    let hashed = c.identifier_hash-hash.ensures ∙ ap identifier_hash c.as_str.ensures.value in
    let counted : vec_len c.args.self.now.entries ≡ length c.args.self.now.entries.items = search rules in
    let unused : contains_text others (string_bytes entry.id) ≡ false = ap (contains_text others) (sym c.as_str-2.ensures.value) ∙ sym c.contains.ensures ∙ c.if-contains.false in
    let same = c.displace.ensures.same in
    let moved = c.displace.new.self in
    let was = c.args.self.now in
    let new : Records = record { rows = moved.rows; allow_lines = moved.allow_lines; own_attributes = moved.own_attributes; entries = c.push.new.self; asides = moved.asides; places = moved.places; others = moved.others } in
    let placed : Records = record { rows = was.rows; allow_lines = was.allow_lines; own_attributes = was.own_attributes; entries = was.entries; asides = was.asides; places = c.insert.new.self; others = was.others } in
    elim c.match-push.branch [
      | in-Ok-push w ↦
          let grown = w.in-Ok-push.ensures.items ∙ ap (λ (m : Records). m.entries.items ++ entry ∷ []) same in
          rw w.result-is (record {
            kept = kept_more c.args.self.now _ entry c.in-Ok.earlier c.identifier_hash-hash.result c.len.result c.insert.new.self others c.requires
                c.in_ok-displace.ensures.others c.in-Ok.ensures.old hashed c.in-Ok.ensures.updates (c.len.ensures ∙ counted) refl (ap (λ (m : Records). m.places) same) grown
                (ap (λ (m : Records). asides_in m) same);
            follows = λ s. is_new c.args.self.now c.in-Ok.earlier others c.identifier_hash-hash.result (string_bytes entry.id) c.requires c.in_ok-displace.ensures.others c.in-Ok.ensures.old hashed s unused;
            declared = λ s. entry_declared c.args.self.now new entry others placed c.displace.new.self same refl refl refl refl refl refl refl refl grown s;
          })
      | in-Err w ↦ rw w.result-is (λ s. inl refl)
    ]
