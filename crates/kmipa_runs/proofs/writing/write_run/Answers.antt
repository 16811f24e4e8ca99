use Rattle.std.proofs.Common.{List, [], ℕ, sym, ap, subst, ◌∙◌}
use Rattle.std.specs.Io.{appended_bytes}
use Rattle.std.proofs.lemmas.List.{append-nil}
use Rattle.kmipa_ttlv.specs.Input.{came_of, is_failed}
use Rattle.kmipa_runs.specs.Inputs.{bytes_of, digits, MakesOrTells}
use Rattle.kmipa_runs.proofs.AppendLemmas.{since}
use Rattle.kmipa_runs.proofs.InputLemmas.{all_read, digits_reported}
use Rattle.kmipa_runs.proofs.writing.write_run.Goals as goal

pub returns-in-Ok-clause-writes : goal.returns-in-Ok-clause-writes
returns-in-Ok-clause-writes g c =
    let came = came_of c.read_text.new.input in
    let same = all_read (came_of c.args.input.now) came c.new-text.result.items c.read_text.new.out.items c.requires c.new-text.ensures.items c.in_default.ensures.came ∙ sym c.deref.ensures.value in
    let bytes = c.in-Ok.bytes.items in
    let P : List ℕ → Type 0 = λ l. MakesOrTells l c.write_bytes.result (appended_bytes c.args.out.now.items c.write_bytes.new.out.items)
    (appended_bytes c.args.made.now.items c.write_bytes.new.made.items) in
    digits bytes (ap bytes_of same ∙ c.in-Ok.ensures.ok) (subst P c.deref-in-Ok.ensures.value c.write_bytes.ensures.writes)

pub returns-clause-writes : goal.returns-clause-writes
returns-clause-writes g c =
    let came = came_of c.read_text.new.input in
    let made = c.args.made.now.items in
    let same = all_read (came_of c.args.input.now) came c.new-text.result.items c.read_text.new.out.items c.requires c.new-text.ensures.items c.in_default.ensures.came ∙ sym c.deref.ensures.value in
    digits_reported came c.deref.result.now (is_failed c.read_text.new.input) c.in-Err-read_digits.error c.tell_digits.result
    (appended_bytes c.args.out.now.items c.tell_digits.new.out.items) (appended_bytes made made) same (since made [] made (sym (append-nil made)))
    c.in-Err-read_digits.ensures.err c.tell_digits.ensures.tells
