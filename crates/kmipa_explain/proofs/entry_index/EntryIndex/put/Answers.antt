use Rattle.std.proofs.Common.{◌≡◌, ℕ, List, Some, bytes_eq, cond, subst, string_bytes}
use Rattle.std.proofs.lemmas.Map.Text.{btree_map_updates_text}
use Rattle.kmipa_explain.specs.Ids.{place_in}
use Rattle.kmipa_explain.proofs.entry_index.EntryIndex.put.Goals as goal

pub returns : goal.returns
returns c other =
    let P : List ℕ → Type 0 = λ bs. place_in (record { places = c.insert.new.self }) other ≡ cond (bytes_eq bs other) (Some c.args.place) (place_in c.args.self.now other) in
    subst P c.in_ok-own.ensures.ok (btree_map_updates_text (string_bytes c.in_ok-own.own) c.args.self.now.places c.insert.new.self (Some c.args.place) c.in_ok-_other.ensures.updates other)
