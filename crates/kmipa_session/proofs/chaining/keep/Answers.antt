use Rattle.std.proofs.Common.{◌≡◌, ◌∙◌, List, ℕ, ap, rules, subst, sym}
use Rattle.std.specs.Io.{appended_bytes}
use Rattle.kmipa_jobs.specs.declared.status.Status.TheVariants.{Done}
use Rattle.kmipa_segments.specs.Chaining.{IsKept}
use Rattle.kmipa_session.proofs.chaining.keep.Goals as goal

pub returns : goal.returns
returns g c =
    let bytes = c.chain_witness.new.made.items in
    let done : c.chain_witness.result ≡ Done = search rules in
    let shown : appended_bytes c.new-bytes.result.items bytes ≡ bytes = ap (λ (l : List ℕ). appended_bytes l bytes) c.new-bytes.ensures.items in
    let P : List ℕ → Type 0 = λ b. IsKept c.args.chain.now b in
    let made = c.in_ok-file.ensures in
    (ap (λ (p : List ℕ × List ℕ). p.0) made, subst P (sym (ap (λ (p : List ℕ × List ℕ). p.1) made ∙ c.as_slice.ensures.value)) (subst P shown (c.chain_witness.ensures.made done)))
