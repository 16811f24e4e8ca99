use Rattle.std.proofs.Common.{◌≡◌, ◌<◌, ◌∙◌, ℕ, List, Bool, true, sym, subst}
use Rattle.kmipa_orders.specs.Ends.{flag}
use Rattle.kmipa_orders.proofs.TakenLemmas.{high_kept, taken_less}
use Rattle.kmipa_orders.proofs.taken.TakenCalls.give_back.Goals as goal

pub returns : goal.returns
returns c = λ count taken a fresh.
    let P : List Bool → Type 0 = λ fs. (p : ℕ) → flag fs p ≡ true → p < c.args.self.now.high in
    let Q : List Bool → Type 0 = λ fs. (p : ℕ) → flag fs p ≡ true → p < c.last_taken-self.result in
    let kept = subst P (sym (c.deref.ensures.value ∙ c.mark.ensures)) (high_kept count taken c.args.place c.args.self.now a) in
    taken_less count taken c.args.place c.args.self.now a (record { flags = c.mark.new.flags; low = c.lower-self.result; high = c.last_taken-self.result; hash = c.turned-self.result }) c.mark.ensures
    c.lower-self.ensures.low c.lower-self.ensures.place (subst Q c.deref.ensures.value (c.last_taken-self.ensures kept)) fresh
