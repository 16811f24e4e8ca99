use Rattle.std.proofs.Common.{string_bytes, subst, sym}
use Rattle.std.specs.Prelude.{IfOk}
use Rattle.kmipa_judge.specs.Checks.{AreHeldAs, TellsAsEver, held_as}
use Rattle.kmipa_judge.specs.declared.form.CheckForm.{CheckForm}
use Rattle.kmipa_judge.proofs.CheckLemmas.{ever_told, reads_inputs}
use Rattle.kmipa_judge.proofs.checking.as_ever.told_as_ever.Goals as goal

pub lines_as_ever-requires-clause-reads : goal.lines_as_ever-requires-clause-reads
lines_as_ever-requires-clause-reads g c =
    let t = c.args.files.now.transcript.now in
    let d = c.args.files.now.declaration.now in
    let w = c.args.files.now.witness.now in
    reads_inputs c.args.form t d w c.args.read c.requires.read c.requires.aside c.requires.seen

pub lines_as_ever-requires-clause-declared : goal.lines_as_ever-requires-clause-declared
lines_as_ever-requires-clause-declared g c = c.requires.read.declared

pub lines_as_ever-requires-clause-known : goal.lines_as_ever-requires-clause-known
lines_as_ever-requires-clause-known g c = c.requires.read.known

pub returns-in-Explained-clause-told : goal.returns-in-Explained-clause-told
returns-in-Explained-clause-told g c =
    let t = c.args.files.now.transcript.now in
    let d = c.args.files.now.declaration.now in
    let w = c.args.files.now.witness.now in
    let P : CheckForm → Type 0 = λ f. IfOk c.lines_as_ever.result (λ x. TellsAsEver f t d w x.lines.status (string_bytes x.lines.text)) in
    ever_told c.args.form t d w c.args.read c.requires.read c.requires.aside c.requires.seen c.lines_as_ever.result (subst P (sym c.in-Explained.is) c.lines_as_ever.ensures.told)

pub json_as_ever-requires-clause-reads : goal.json_as_ever-requires-clause-reads
json_as_ever-requires-clause-reads g c =
    let t = c.args.files.now.transcript.now in
    let d = c.args.files.now.declaration.now in
    let w = c.args.files.now.witness.now in
    reads_inputs c.args.form t d w c.args.read c.requires.read c.requires.aside c.requires.seen

pub json_as_ever-requires-clause-declared : goal.json_as_ever-requires-clause-declared
json_as_ever-requires-clause-declared g c = c.requires.read.declared

pub json_as_ever-requires-clause-known : goal.json_as_ever-requires-clause-known
json_as_ever-requires-clause-known g c = c.requires.read.known

pub returns-in-Json-clause-told : goal.returns-in-Json-clause-told
returns-in-Json-clause-told g c =
    let t = c.args.files.now.transcript.now in
    let d = c.args.files.now.declaration.now in
    let w = c.args.files.now.witness.now in
    let P : CheckForm → Type 0 = λ f. IfOk c.json_as_ever.result (λ x. TellsAsEver f t d w x.lines.status (string_bytes x.lines.text)) in
    ever_told c.args.form t d w c.args.read c.requires.read c.requires.aside c.requires.seen c.json_as_ever.result (subst P (sym c.in-Json.is) c.json_as_ever.ensures.told)

pub json_as_ever-requires-clause-held : goal.json_as_ever-requires-clause-held
json_as_ever-requires-clause-held g c =
    let files = c.args.files.now in
    let P : CheckForm → Type 0 = λ f. AreHeldAs (held_as f) files.held.now files.transcript.now files.declaration.now files.witness.now in
    subst P c.in-Json.is c.requires.held

pub explained_json_as_ever-requires-clause-reads : goal.explained_json_as_ever-requires-clause-reads
explained_json_as_ever-requires-clause-reads g c =
    let t = c.args.files.now.transcript.now in
    let d = c.args.files.now.declaration.now in
    let w = c.args.files.now.witness.now in
    reads_inputs c.args.form t d w c.args.read c.requires.read c.requires.aside c.requires.seen

pub explained_json_as_ever-requires-clause-declared : goal.explained_json_as_ever-requires-clause-declared
explained_json_as_ever-requires-clause-declared g c = c.requires.read.declared

pub explained_json_as_ever-requires-clause-known : goal.explained_json_as_ever-requires-clause-known
explained_json_as_ever-requires-clause-known g c = c.requires.read.known

pub returns-in-ExplainedJson-clause-told : goal.returns-in-ExplainedJson-clause-told
returns-in-ExplainedJson-clause-told g c =
    let t = c.args.files.now.transcript.now in
    let d = c.args.files.now.declaration.now in
    let w = c.args.files.now.witness.now in
    let P : CheckForm → Type 0 = λ f. IfOk c.explained_json_as_ever.result (λ x. TellsAsEver f t d w x.lines.status (string_bytes x.lines.text)) in
    ever_told c.args.form t d w c.args.read c.requires.read c.requires.aside c.requires.seen c.explained_json_as_ever.result (subst P (sym c.in-ExplainedJson.is) c.explained_json_as_ever.ensures.told)

pub explained_json_as_ever-requires-clause-held : goal.explained_json_as_ever-requires-clause-held
explained_json_as_ever-requires-clause-held g c =
    let files = c.args.files.now in
    let P : CheckForm → Type 0 = λ f. AreHeldAs (held_as f) files.held.now files.transcript.now files.declaration.now files.witness.now in
    subst P c.in-ExplainedJson.is c.requires.held
