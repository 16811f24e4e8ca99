use Rattle.std.proofs.Common.{◌≡◌, ◌+◌, ◌-◌, ◌++◌, ◌∷◌, [], List, ℕ, length, take, drop, sym, ap, subst, ◌∙◌, arith, length-drop, drop-drop, take_all}
use Rattle.std.specs.Io.{appended_bytes}
use Rattle.std.proofs.lemmas.List.{take-append-drop}
use Rattle.kmipa_ttlv.specs.Spelling.{Spells}
use Rattle.kmipa_ttlv.specs.Stream.{Begins}
use Rattle.kmipa_ttlv.specs.Written.{spelling}
use Rattle.kmipa_runs.specs.Inputs.{joined}
use Rattle.kmipa_runs.proofs.AppendLemmas.{onto, since, split, starts_on}
use Rattle.kmipa_runs.proofs.InputLemmas.{begins_last, joined_last}
use Rattle.kmipa_runs.proofs.writing.write_items.Goals as goal

pub items-preserved : goal.items-preserved
items-preserved c =
    let bytes = c.args.bytes.now in
    let at = c.items.at in
    let n = c.in_ok-at.field-0 in
    let rest = drop at bytes in
    let first = c.args.made.now.items in
    let old = c.items.made.items in
    let new = c.write_next.new.made.items in
    let inv = c.items.invariant in
    let done = inv.written in
    let one = c.in_ok-at.ensures.writes in
    let slice : take (length bytes - at) rest ≡ rest = take_all (length bytes - at) rest (omega (arith, length-drop at bytes)) in
    let S : List ℕ → Type 0 = λ l. Spells one.0 (take n l) in
    let begins = begins_last done.0 one.0 bytes rest (take n rest) (drop n rest) (sym (take-append-drop n rest)) (subst S slice one.1) done.1 in
    let behind : drop n rest ≡ drop (at + n) bytes = drop-drop n at bytes in
    let joins : appended_bytes first new ≡ joined (done.0 ++ one.0 ∷ [])
    = onto first old new (appended_bytes first old) (split first old inv.appends) c.write_next.ensures.appends
    ∙ ap (λ (l : List ℕ). l ++ appended_bytes old new) done.2
    ∙ ap (λ (l : List ℕ). joined done.0 ++ l) (since old (spelling one.0) new one.2)
    ∙ sym (joined_last done.0 one.0) in
    let P : List ℕ → Type 0 = λ after. Begins (done.0 ++ one.0 ∷ []) bytes after in
    record {
      within = omega (arith, inv.within, c.in_ok-at.ensures.within.1, length-drop at bytes, ap length slice);
      written = (done.0 ++ one.0 ∷ [], subst P behind begins, joins);
      appends = starts_on first old new inv.appends c.write_next.ensures.appends;
    }
