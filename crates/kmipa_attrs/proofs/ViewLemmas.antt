-- What children hold under a tag, one after the other.
use Rattle.std.proofs.Common.{◌≡◌, ℕ, [], ◌∷◌, map, Option, Result, sym, ap, ◌∙◌}
use Rattle.kmipa_ttlv.specs.Tree.{Tree, Trees}
use Rattle.kmipa_attrs.specs.Fields.{every}
use Rattle.kmipa_attrs.specs.Attributes.{each, folded, single_step}
use Rattle.kmipa_attrs.specs.declared.fault.AttrFault.{AttrFault}

pub each_next : {A : Type 0} (how : Tree → Option A) (tag : ℕ) (ts us : Trees) (t : Tree) → every tag ts ≡ t ∷ every tag us → each how tag ts ≡ how t ∷ each how tag us
unfolding each
each_next how tag ts us t e = ap (map how) e

pub each_none : {A : Type 0} (how : Tree → Option A) (tag : ℕ) (ts : Trees) → every tag ts ≡ [] → each how tag ts ≡ []
unfolding each
each_none how tag ts e = ap (map how) e

-- what is folded of them
pub folded_next : {A : Type 0} (how : Tree → Option A) (tag : ℕ) (ts us : Trees) (t : Tree) (found next : Result (Option A) AttrFault) (x : Option A) → every tag ts ≡ t ∷ every tag us
    → x ≡ how t → next ≡ single_step found x → folded found (each how tag ts) ≡ folded next (each how tag us)
folded_next how tag ts us t found next x e is ne = ap (folded found) (each_next how tag ts us t e) ∙ ap (λ r. folded r (each how tag us)) (sym (ne ∙ ap (single_step found) is))
