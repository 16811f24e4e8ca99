-- Files of a judging.
use Rattle.std.proofs.Common.{◌≡◌, List, ℕ, Option, Some, None, option_map, sym, subst}
use Rattle.std.specs.Global.{Vec}
use denote.Bor.{Bor}
use Rattle.kmipa_ttlv.specs.declared.input.Input.{Input}
use Rattle.kmipa_judge.specs.Runs.{JudgesFiles}
use Rattle.kmipa_judge.specs.declared.form.JudgeForm.{JudgeForm}
use Rattle.kmipa_judge.specs.declared.run.JudgeRun.{JudgeRun}
use Rattle.kmipa_jobs.specs.declared.status.Status.{Status}
use Rattle.kmipa_session.specs.Sessions.{IsOpenedBy}
use Rattle.kmipa_session.specs.Worlds.{name_of}
use Rattle.kmipa_session.specs.declared.judged.JudgedFiles.{JudgedFiles}
use Rattle.kmipa_session.specs.declared.named.Named.{Named}

-- a file that has the same name was opened by it, too
pub opened_by : {F : Type 0} (name : Option (Bor (List ℕ))) (a b : Option (Named F)) → option_map name_of b ≡ option_map name_of a → IsOpenedBy name a → IsOpenedBy name b
opened_by None None None same opened = opened
opened_by None None (Some y) same opened = absurd cc
opened_by None (Some x) b same opened = absurd opened
opened_by (Some name) None b same opened = absurd opened
opened_by (Some name) (Some x) None same opened = absurd cc
opened_by (Some name) (Some x) (Some y) same opened = let names : name_of y ≡ name_of x = cc in cc

-- what a run told is told
pub told_as : {R : Type 0} (seconds : ℕ) (form : JudgeForm) (t : Input R) (d : Option (Input R)) (run : JudgeRun) (judged : JudgedFiles) → judged.ran.status ≡ run.status → judged.ran.lines ≡ run.lines
    → judged.witness ≡ run.witness → judged.used ≡ run.declaration → JudgesFiles seconds form t d run.status run.lines.items run.witness.items run.declaration.items
    → JudgesFiles seconds form t d judged.ran.status judged.ran.lines.items judged.witness.items judged.used.items
told_as seconds form t d run judged same_status same_lines same_witness same_used told =
    let P : Status → Type 0 = λ s. JudgesFiles seconds form t d s run.lines.items run.witness.items run.declaration.items in
    let Q : Vec ℕ → Type 0 = λ l. JudgesFiles seconds form t d judged.ran.status l.items run.witness.items run.declaration.items in
    let S : Vec ℕ → Type 0 = λ w. JudgesFiles seconds form t d judged.ran.status judged.ran.lines.items w.items run.declaration.items in
    let U : Vec ℕ → Type 0 = λ u. JudgesFiles seconds form t d judged.ran.status judged.ran.lines.items judged.witness.items u.items in
    subst U (sym same_used) (subst S (sym same_witness) (subst Q (sym same_lines) (subst P (sym same_status) told)))

-- in which form so ever that is the same
pub told_in : {R : Type 0} (seconds : ℕ) (a b : JudgeForm) (t : Input R) (d : Option (Input R)) (said : Status) (lines witness used : List ℕ) → a ≡ b
    → JudgesFiles seconds a t d said lines witness used → JudgesFiles seconds b t d said lines witness used
told_in seconds a b t d said lines witness used is told =
    let P : JudgeForm → Type 0 = λ f. JudgesFiles seconds f t d said lines witness used in
    subst P is told
