use Rattle.std.proofs.Common.{rules, ◌≡◌, ◌<◌, false, true, ℤ, List, get_or, length, String, sym, subst, string_bytes, to_z, of_z, w32}
use Rattle.std.specs.Global.{Global}
use Rattle.kmipa_links.specs.Links.{StandsToo}
use Rattle.kmipa_links.proofs.LinkLemmas.{gap_by_call, name_there}
use Rattle.kmipa_links.proofs.links.Links.gap_of_call.Goals.{in-Some, in-None}
use Rattle.kmipa_links.proofs.links.Links.gap_of_call.Goals as goal

pub returns : goal.returns
returns c = λ before segment taken.
    let told = c.in_ok-from_str.field-0 in
    let names = c.args.self.now.names.items in
    let number : to_z w32 (of_z w32 c.args.clash.call) ≡ c.args.clash.call = search rules in
    let less : c.args.clash.place < length c.deref.result.now = subst (λ (l : List (String Global)). c.args.clash.place < length l) (sym c.deref.ensures.value) (name_there before segment c.args.self.now c.args.clash taken) in
    elim c.match-get.branch [
      | in-Some w ↦
          let name = w.in-Some.name.now in
          let found = rw w.in-Some.is at c.get.ensures.lookup.1 in
          let at = subst (λ (l : List (String Global)). name ≡ get_or l c.args.clash.place name) c.deref.ensures.value found in
          let same : string_bytes told ≡ string_bytes name = search rules in
          subst (λ (n : ℤ). StandsToo before segment n (string_bytes told)) (sym number) (gap_by_call before segment c.args.self.now c.args.clash name told taken at same)
      | in-None w ↦ let none : false ≡ true = rw w.in-None.is at (c.get.ensures.lookup.2 less) in absurd cc
    ]
