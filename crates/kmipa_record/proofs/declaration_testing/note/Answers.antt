use Rattle.std.proofs.Common.{◌≡◌, ◌∙◌, ℕ, List, true, false, refl, cond, bytes_eq, sym, subst, string_bytes}
use Rattle.std.proofs.lemmas.Map.Text.{btree_set_updates_text}
use Rattle.std.specs.BTreeSet.{contains_text}
use Rattle.kmipa_record.specs.Writing.{refused}
use Rattle.kmipa_record.proofs.RecordsLemmas.{not_false, not_true}
use Rattle.kmipa_record.proofs.DeclarationWritingLemmas.{is_noted, noted_twice, noted_new, noted_more}
use Rattle.kmipa_record.proofs.declaration_testing.note.Goals as goal

pub returns-in-Ok-false : goal.returns-in-Ok-false
returns-in-Ok-false c = λ ids noted.
    let id = string_bytes c.args.id.now in
    let same : string_bytes c.in_ok-copy.copy ≡ id = c.in_ok-copy.ensures.cases in
    let known : contains_text c.args.identifiers.now (string_bytes c.in_ok-copy.copy) ≡ true = not_false _ (sym c.in-Ok-false.field-0-test ∙ c.in-Ok-false.ensures.added) in
    refused refl (noted_twice ids id (sym (noted.noted id) ∙ subst (λ (x : List ℕ). contains_text c.args.identifiers.now x ≡ true) same known))

pub returns : goal.returns
returns c = λ ids noted.
    let id = string_bytes c.args.id.now in
    let same : string_bytes c.in_ok-copy.copy ≡ id = c.in_ok-copy.ensures.cases in
    let fresh : contains_text c.args.identifiers.now (string_bytes c.in_ok-copy.copy) ≡ false = not_true _ (sym c.in-Ok-true.field-0-test ∙ c.in-Ok-true.ensures.added) in
    record {
      noted = λ cs. noted_more ids id cs (contains_text c.args.identifiers.now cs) (contains_text c.insert.new.self cs)
          (subst (λ (x : List ℕ). contains_text c.insert.new.self cs ≡ cond (bytes_eq x cs) true (contains_text c.args.identifiers.now cs)) same
          (btree_set_updates_text (string_bytes c.in_ok-copy.copy) c.args.identifiers.now c.insert.new.self _ c.in-Ok-true.ensures.updates cs)) (noted.noted cs);
      distinct = noted_new ids id noted.distinct (sym (noted.noted id) ∙ subst (λ (x : List ℕ). contains_text c.args.identifiers.now x ≡ false) same fresh);
    }
