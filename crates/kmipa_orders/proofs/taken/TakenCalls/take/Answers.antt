use Rattle.std.proofs.Common.{◌≡◌, ◌<◌, ◌∙◌, ℕ, List, Bool, true, sym, subst}
use Rattle.kmipa_orders.specs.Ends.{flag}
use Rattle.kmipa_orders.proofs.TakenLemmas.{low_kept, taken_more}
use Rattle.kmipa_orders.proofs.taken.TakenCalls.take.Goals as goal

pub returns : goal.returns
returns c = λ count taken a below.
    let P : List Bool → Type 0 = λ fs. (p : ℕ) → p < c.args.self.now.low → flag fs p ≡ true in
    let Q : List Bool → Type 0 = λ fs. (p : ℕ) → p < c.first_left-self.result → flag fs p ≡ true in
    let kept = subst P (sym (c.deref.ensures.value ∙ c.mark.ensures)) (low_kept count taken c.args.place c.args.self.now a below) in
    taken_more count taken c.args.place c.args.self.now a below (record { flags = c.mark.new.flags; low = c.first_left-self.result; high = c.above-self.result; hash = c.turned-self.result }) c.mark.ensures
    (subst Q c.deref.ensures.value (c.first_left-self.ensures kept)) c.above-self.ensures.high c.above-self.ensures.place
