use Rattle.std.proofs.Common.{[], refl, sym, ap, map, option_map, string_bytes, subst}
use Rattle.kmipa_msgs.specs.Messages.{row_of}
use Rattle.kmipa_store.specs.Ledger.{LedgerState}
use Rattle.kmipa_check.specs.Opening.{Opened}
use Rattle.kmipa_check.proofs.OpeningLemmas.{opened_none}
use Rattle.kmipa_stream.proofs.opening.Opening.new.Goals as goal

pub returns : goal.returns
returns c = λ settings.
    let P : LedgerState → Type 0 = λ s. Opened [] s.now in
    record { opened = subst P (sym c.new.ensures.meaning) opened_none; rows = ap (map row_of) c.new-2.ensures.items; lines = c.new-3.ensures.items; own = c.new-4.ensures.items; owners = ap (map (option_map string_bytes)) c.new-5.ensures.items; aside = ap (λ (s : LedgerState). s.now.aside) c.new.ensures.meaning }
