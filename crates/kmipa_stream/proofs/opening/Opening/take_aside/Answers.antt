use Rattle.std.proofs.Common.{inr, refl, sym, ◌∙◌}
use Rattle.kmipa_stream.proofs.OpeningLemmas.{opens_aside, used_not_new}
use Rattle.kmipa_stream.proofs.opening.Opening.take_aside.Goals as goal

pub returns-then-is_used : goal.returns-then-is_used
returns-then-is_used c = λ declared o. inr (refl, used_not_new c.args.self.now declared o c.args.id.now (sym c.is_used.ensures ∙ c.if-is_used.true))

pub returns-in-Ok : goal.returns-in-Ok
returns-in-Ok c = λ declared o.
    opens_aside c.args.self.now (record { ledger = c.set_aside.new.self; rows = c.args.self.now.rows; allow_lines = c.args.self.now.allow_lines; own_attributes = c.args.self.now.own_attributes; owners = c.args.self.now.owners }) declared c.args.id.now o (sym c.is_used.ensures ∙ c.if-is_used.false) refl refl refl refl c.in-Ok.ensures.meaning
