use Rattle.std.proofs.Common.{rules, ◌≡◌, ◌≤◌, length, ◌+◌, ℕ, refl, sym, ap, ◌∙◌, arith}
use Rattle.kmipa_ttlv.specs.Head.{number_of_kind}
use Rattle.kmipa_ttlv.specs.Tree.{structure, scalar, none, push}
use Rattle.kmipa_ttlv.specs.Spelled.{scalar_at}
use Rattle.kmipa_ttlv.specs.Spelling.{padded, extent, value_at, Framed}
use Rattle.kmipa_ttlv.proofs.StandsLemmas.{stands_of, Run-push}
use Rattle.kmipa_ttlv.proofs.SpelledLemmas.{untested_stands}
use Rattle.kmipa_ttlv.proofs.standing.+standing.Goals as goal
use Rattle.kmipa_ttlv.proofs.standing.+standing.Goals.{standing-else-is_tested-via-then-is_tested+else-not-holds, standing-else-is_tested-via-else-is_tested}

pub all_stand-items-init : goal.all_stand-items-init
all_stand-items-init t c = record { run = (none, refl); within = omega arith }

pub all_stand-items-preserved : goal.all_stand-items-preserved
all_stand-items-preserved t c =
    let s = c.in-Some.ensures in
    let run = c.items.invariant.run in
    record {
      run = (push run.0 s.0, rw (c.split_at.ensures.back, s.2) (Run-push c.args.left run.0 s.0 c.args.bytes.now c.items.rest.now run.1 s.1));
      within = omega (arith, c.split_at.ensures.back_len, c.items.invariant.within);
    }

pub holds-returns-in-Structure : goal.holds-returns-in-Structure
holds-returns-in-Structure t c = λ e.
    let run = c.all_stand.ensures e in
    let one : number_of_kind c.args.head.kind ≡ 1 = ap number_of_kind c.in-Structure.is in
    (structure c.args.head.tag.number run.0, (refl, one, run.1))

pub holds-returns-in_default : goal.holds-returns-in_default
holds-returns-in_default t c = λ e.
    let right = c.is_scalar.ensures e in
    (scalar c.args.head.tag.number (scalar_at (number_of_kind c.args.head.kind) c.args.value.now), (refl, right.kind_is, right.means))

pub standing-returns : goal.standing-returns
standing-returns t c =
    let h = c.in-Ok.head in
    let is = c.in-Ok.ensures.1 in
    let bytes = c.args.bytes.now in
    let kind = number_of_kind h.kind in
    let framed : Framed h.tag.number kind bytes = record { header = is.header; tag_is = is.tag; kind_is = is.kind; whole = is.whole } in
    let taken : c.extent.result ≡ extent bytes = c.extent.ensures ∙ ap (λ (n : ℕ). 8 + padded n) (sym is.len) in
    let whole : c.extent.result ≤ length bytes = omega (arith, taken, is.whole) in
    elim c.else-is_tested.branch [
      | standing-else-is_tested-via-then-is_tested+else-not-holds w ↦
          let held = w.holds.ensures (search rules) in
          (held.0, stands_of c.args.left h.tag.number kind held.0 bytes w.value_of.result.now c.if-left-eq0.false framed w.value_of.ensures.value held.1, taken, whole)
      | standing-else-is_tested-via-else-is_tested w ↦
          let not = c.is_tested.ensures w.if-is_tested.false in
          (scalar h.tag.number (scalar_at kind (value_at bytes)), untested_stands c.args.left h.kind h.tag.number h.len bytes c.if-left-eq0.false framed is.len is.allowed not.0 not.1 not.2, taken, whole)
    ]
