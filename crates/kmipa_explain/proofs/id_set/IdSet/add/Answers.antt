use Rattle.std.proofs.Common.{◌≡◌, ℕ, List, true, not, bytes_eq, cond, subst, string_bytes}
use Rattle.std.proofs.lemmas.Map.Text.{btree_set_updates_text}
use Rattle.kmipa_explain.specs.Ids.{has_id}
use Rattle.kmipa_explain.proofs.id_set.IdSet.add.Goals as goal

pub returns-clause-new : goal.returns-clause-new
returns-clause-new c =
    let P : List ℕ → Type 0 = λ bs. c.in_ok-is_new.is_new ≡ not (has_id c.args.self.now bs) in
    subst P c.in_ok-own.ensures.ok c.in_ok-is_new.ensures.added

pub returns-clause-added : goal.returns-clause-added
returns-clause-added c other =
    let P : List ℕ → Type 0 = λ bs. has_id (record { ids = c.insert.new.self }) other ≡ cond (bytes_eq bs other) true (has_id c.args.self.now other) in
    subst P c.in_ok-own.ensures.ok (btree_set_updates_text (string_bytes c.in_ok-own.own) c.args.self.now.ids c.insert.new.self true c.in_ok-is_new.ensures.updates other)
