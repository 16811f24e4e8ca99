use Rattle.std.proofs.Common.{◌≡◌, ◌∙◌, List, ℕ, length, map, vec_len, rules, subst, sym}
use Rattle.std.proofs.lemmas.List.{length-map}
use Rattle.kmipa_record.specs.Declarations.{IsDeclaration, declaration_of}
use Rattle.kmipa_record.specs.Entries.{entry_of}
use Rattle.kmipa_record.specs.declared.entry.Entry.{Entry}
use Rattle.kmipa_segments.specs.Comparing.{ComparesAmong}
use Rattle.kmipa_segments.proofs.CompareLemmas.{whole_file}
use Rattle.kmipa_segments.proofs.comparing.compare_input.Goals as goal

pub returns-in-Ok-clause-compares : goal.returns-in-Ok-clause-compares
returns-in-Ok-clause-compares g c = λ d file.
    let left = c.args.left.now.entries.items in
    let told = c.in_ok-told.told in
    let found = c.in_ok-told.ensures.found in
    let long : vec_len told.entries ≡ length told.entries.items = search rules in
    let P : List ℕ → Type 0 = λ bytes. IsDeclaration bytes (declaration_of told) in
    let L : List Entry → Type 0 = λ l. ComparesAmong (map entry_of l) (map entry_of c.deref-2.result.now) c.in-Ok.difference in
    let T : List Entry → Type 0 = λ l. ComparesAmong (map entry_of left) (map entry_of l) c.in-Ok.difference in
    record {
      told = declaration_of told;
      declaration = subst P (sym (whole_file d c.read_declaration.new.input file found.1)) found.0;
      count = c.len.ensures ∙ long ∙ sym (length-map told.entries.items entry_of);
      compares = subst T c.deref-2.ensures.value (subst L c.deref.ensures.value c.in-Ok.ensures);
    }
