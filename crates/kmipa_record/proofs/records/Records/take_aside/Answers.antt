use Rattle.std.proofs.Common.{◌≡◌, ◌∙◌, ◌++◌, ◌∷◌, ℕ, List, [], true, false, inl, inr, refl, sym, ap, cond, bytes_eq, string_bytes}
use Rattle.std.proofs.lemmas.Map.Text.{btree_set_updates_text}
use Rattle.std.specs.BTreeSet.{contains_text}
use Rattle.kmipa_record.specs.DeclarationReading.{entries_in, asides_in}
use Rattle.kmipa_record.specs.Hashes.{identifier_hash}
use Rattle.kmipa_record.specs.declared.records.Records.{Records}
use Rattle.kmipa_record.proofs.RecordsLemmas.{not_false, not_true, is_new, is_used, kept_aside, aside_declared}
use Rattle.kmipa_record.proofs.records.Records.take_aside.Goals.{in-Ok-push, in-Err-push}
use Rattle.kmipa_record.proofs.records.Records.take_aside.Goals as goal

pub returns-in-Ok-false : goal.returns-in-Ok-false
returns-in-Ok-false c = λ s.
    let others = c.displace.new.self.others in
    let hashed = c.identifier_hash.ensures ∙ ap identifier_hash c.as_str.ensures.value in
    let known : contains_text others (string_bytes c.in-Ok.copy) ≡ true = not_false _ (sym c.in-Ok-false.field-0-test ∙ c.in-Ok-false.ensures.added) in
    let id = string_bytes c.args.id in
    inr (
      refl,
      is_used c.args.self.now c.copied-earlier.result others c.identifier_hash.result id c.requires c.in_ok-displace.ensures.others (c.copied-earlier.ensures ∙ c.get.ensures.value) hashed s
          (ap (contains_text others) (sym c.in-Ok.ensures.cases) ∙ known),
    )

pub returns : goal.returns
returns c =
    let others = c.displace.new.self.others in
    let hashed = c.identifier_hash.ensures ∙ ap identifier_hash c.as_str.ensures.value in
    let id = string_bytes c.args.id in
    let fresh : contains_text others (string_bytes c.in-Ok.copy) ≡ false = not_true _ (sym c.in-Ok-true.field-0-test ∙ c.in-Ok-true.ensures.added) in
    let unused : contains_text others id ≡ false = ap (contains_text others) (sym c.in-Ok.ensures.cases) ∙ fresh in
    let same = c.displace.ensures.same in
    let earlier = c.copied-earlier.ensures ∙ c.get.ensures.value in
    let moved = c.displace.new.self in
    let new : Records = record { rows = moved.rows; allow_lines = moved.allow_lines; own_attributes = moved.own_attributes; entries = moved.entries; asides = c.push.new.self; places = moved.places; others = c.insert.new.self } in
    elim c.match-push.branch [
      | in-Ok-push w ↦
          rw w.result-is (record {
            kept = kept_aside c.args.self.now _ c.args.id c.copied-earlier.result others c.requires c.in_ok-displace.ensures.others
                (λ cs. btree_set_updates_text (string_bytes c.in-Ok.copy) others c.insert.new.self _ c.in-Ok-true.ensures.updates cs ∙ ap (λ (bs : List ℕ). cond (bytes_eq bs cs) true (contains_text others cs)) c.in-Ok.ensures.cases)
                (ap (λ (m : Records). m.places) same) (ap entries_in same) (w.in-Ok-push.ensures.items ∙ ap (λ (m : Records). m.asides.items ++ c.args.id ∷ []) same);
            follows = λ s. is_new c.args.self.now c.copied-earlier.result others c.identifier_hash.result id c.requires c.in_ok-displace.ensures.others earlier hashed s unused;
            declared = λ s. aside_declared c.args.self.now new c.args.id others c.displace.new.self same refl refl refl refl w.in-Ok-push.ensures.items s;
          })
      | in-Err-push w ↦ rw w.result-is (λ s. inl refl)
    ]
