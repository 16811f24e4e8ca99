use Rattle.std.proofs.Common.{inr, refl, sym, ap, ◌∙◌, string_bytes, ℕ, List}
use Rattle.kmipa_store.specs.States.{state_of_journal}
use Rattle.kmipa_record.specs.Entries.{entry_of}
use Rattle.kmipa_stream.specs.Opening.{is_used}
use Rattle.kmipa_stream.proofs.OpeningLemmas.{opens_entry, ownerless_may, used_not_new}
use Rattle.kmipa_stream.proofs.opening.Opening.take_entry.Goals as goal

pub returns-then-is_used : goal.returns-then-is_used
returns-then-is_used c = λ declared o.
    let m = (state_of_journal c.args.self.now.ledger).now in
    let used = ap (λ (id : List ℕ). is_used m id) (sym c.as_str.ensures.value) ∙ sym c.is_used.ensures ∙ c.if-is_used.true in
    inr (refl, used_not_new c.args.self.now declared o (string_bytes c.args.entry.id) used)

pub declare-requires-clause-declarable : goal.declare-requires-clause-declarable
declare-requires-clause-declarable c = ownerless_may (entry_of c.args.entry) c.requires

pub returns-in-Ok-declare : goal.returns-in-Ok-declare
returns-in-Ok-declare c = λ declared o.
    let m = (state_of_journal c.args.self.now.ledger).now in
    let unused = ap (λ (id : List ℕ). is_used m id) (sym c.as_str.ensures.value) ∙ sym c.is_used.ensures ∙ c.if-is_used.false in
    opens_entry c.args.self.now (record { ledger = c.declare.new.ledger; rows = c.args.self.now.rows; allow_lines = c.args.self.now.allow_lines; own_attributes = c.args.self.now.own_attributes; owners = c.push.new.self }) declared (entry_of c.args.entry) o c.requires unused refl refl refl c.args.entry.owner refl c.in-Ok.ensures.items c.in-Ok-declare.ensures
