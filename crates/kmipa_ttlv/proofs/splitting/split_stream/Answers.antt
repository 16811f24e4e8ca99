use Rattle.std.proofs.Common.{◌≡◌, ◌+◌, ℕ, List, [], ◌∷◌, ◌++◌, Vec, Global, map, take, drop, sym, subst, ap, ◌∙◌, arith, take_all}
use Rattle.std.specs.Prelude.{flat_map}
use Rattle.std.proofs.lemmas.Grind.{flat_map-append}
use Rattle.std.proofs.lemmas.List.{map-append, take-append-drop}
use Rattle.std.proofs.lemmas.Result.{err_from_is_err_and}
use Rattle.kmipa_ttlv.specs.ItemTree.{tree}
use Rattle.kmipa_ttlv.specs.Frames.{rest_of, frame_place, fault_of, IsAfter}
use Rattle.kmipa_ttlv.specs.Stream.{Begins, IsCutShort, IsFlawedBehind}
use Rattle.kmipa_ttlv.specs.Tree.{Tree}
use Rattle.kmipa_ttlv.specs.declared.fault.FaultKind.TheVariants.{Truncated}
use Rattle.kmipa_ttlv.proofs.StreamLemmas.{all_given, ByKind-together, flawed_behind}
use Rattle.kmipa_ttlv.proofs.ReadLemmas.{no_header}
use Rattle.kmipa_ttlv.proofs.splitting.split_stream.Goals as goal

nothing : IsCutShort []
nothing = (0, no_header [] (omega arith))

abbrev bytes_of : List (Vec ℕ Global) → List ℕ
bytes_of pieces = flat_map (λ piece. piece.items) pieces

pub pieces-init : goal.pieces-init
pieces-init c = record {
  after = rw c.new-items.ensures.items c.new-frames.ensures;
  short = subst IsCutShort c.new-frames.ensures.begins nothing;
}

pub items-preserved : goal.items-preserved
items-preserved c =
    let came = bytes_of (take (c.pieces.piece-index + 1) c.args.pieces.now) in
    let more = rw c.in-Some.is at c.in_ok-item.ensures.given in
    let same : map tree c.push.new.self.items ≡ map tree c.items.items.items ++ tree c.in-Some.item ∷ []
    = ap (map tree) c.in_ok-push.ensures.items ∙ map-append tree c.items.items.items (c.in-Some.item ∷ []) in
    subst (λ (given : List Tree). IsAfter came given c.next.new.self) (sym same) (more came (map tree c.items.items.items) c.items.invariant)

pub returns-clause-only : goal.returns-clause-only
returns-clause-only c = λ others rest b.
    let i = c.pieces.piece-index in
    let pieces = c.args.pieces.now in
    let all : take i pieces ≡ pieces = take_all i pieces c.pieces-test.false in
    let short = c.pieces.invariant.short in
    let b' : Begins others (bytes_of (take i pieces)) rest = subst (λ (ps : List (Vec ℕ Global)). Begins others (bytes_of ps) rest) (sym all) b in
    all_given (map tree c.pieces.items.items) others (bytes_of (take i pieces)) (rest_of c.pieces.frames) rest short.0 Truncated c.pieces.invariant.after.begins short.1 b'

pub returns-in_err-item-clause-fault : goal.returns-in_err-item-clause-fault
returns-in_err-item-clause-fault c =
    let p = err_from_is_err_and c.from_residual-in_err-item.result c.from_residual-in_err-item.ensures.1 in
    let f = c.in_err-item.field-0.0 in
    let pieces = c.args.pieces.now in
    let i = c.pieces.piece-index + 1 in
    let came = bytes_of (take i pieces) in
    let given = map tree c.items.items.items in
    let s = c.next.new.self in
    let all : came ++ bytes_of (drop i pieces) ≡ bytes_of pieces = sym (flat_map-append (λ (piece : Vec ℕ Global). piece.items) (take i pieces) (drop i pieces)) ∙ ap bytes_of (take-append-drop i pieces) in
    rw (p.1, p.2) (ByKind-together f.kind _ _ _ _ (IsFlawedBehind (bytes_of pieces) f)
    (λ tells stays. flawed_behind came (bytes_of (drop i pieces)) (bytes_of pieces) given (rest_of s) (frame_place s) (fault_of s) f all stays (tells came given c.items.invariant).0)
    c.in_err-item.ensures.tells c.in_err-item.ensures.stays)
