use Rattle.std.proofs.Common.{rules, ◌≡◌, ◌≢◌, ◌∷◌, ◌++◌, [], length, map, refl, sym, subst, string_bytes, ℤ, to_z, of_z, w32}
use Rattle.std.specs.Prelude.{IfSome}
use Rattle.kmipa_links.specs.Links.{SealsOf}
use Rattle.kmipa_links.specs.declared.links.Links.{Links}
use Rattle.kmipa_links.proofs.LinkLemmas.{end_segment, first_of_one, first_stays, names_pushed, no_segments, some_segments}
use Rattle.kmipa_links.proofs.links.Links.push.Goals.{then-is_empty, else-is_empty}
use Rattle.kmipa_links.proofs.links.Links.push.Goals as goal

pub returns : goal.returns
returns c = λ before segment taken is named has may.
    let old = c.args.self.now in
    let names : map string_bytes c.push.new.self.items ≡ map string_bytes old.names.items ++ (segment.name ∷ []) =
    names_pushed old.names.items c.push.new.self.items c.in_ok-name.name segment.name (search rules) (search rules) in
    elim c.if-is_empty.branch [
      | then-is_empty w ↦
          let none : length old.names.items ≡ 0 = search rules in
          let first = to_z w32 (of_z w32 w.number_of-self.result) in
          let same : first ≡ w.number_of-self.result = search rules in
          let new : Links = record { names = c.push.new.self; calls = old.calls; last = c.args.head; first = first } in
          let N : ℤ → Type 0 = λ n. IfSome segment.seals (λ (seals : SealsOf). seals.label.segment ≡ n) in
          rw w.self-is (end_segment before segment old new taken is may names refl has
          (first_of_one before segment first (no_segments before old taken.ends none) (subst N (sym same) (w.number_of-self.ensures segment.seals has))))
      | else-is_empty w ↦
          let some : length old.names.items ≢ 0 = search rules in
          let new : Links = record { names = c.push.new.self; calls = old.calls; last = c.args.head; first = old.first } in
          rw w.self-is (end_segment before segment old new taken is may names refl has (first_stays before segment old.first (some_segments before old taken.ends some) taken.ends.first))
    ]
