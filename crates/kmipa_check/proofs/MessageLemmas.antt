-- Bytes say one message, or are outside.
use Rattle.std.proofs.Common.{◌≡◌, ℕ, List, [], refl, sym, subst}
use Rattle.kmipa_ttlv.specs.Tree.{Tree}
use Rattle.kmipa_ttlv.specs.Spelling.{Spells}
use Rattle.kmipa_ttlv.proofs.LawLemmas.{one_spelling_lem}
use Rattle.kmipa_msgs.specs.declared.kind.OutsideKind.{OutsideKind}
use Rattle.kmipa_check.specs.Calls.{AreMessage, AreOutside, no_item, outside}

pub same_item : (a b : Tree) (bytes : List ℕ) → Spells a bytes → Spells b bytes → a ≡ b
same_item a b bytes p q = (one_spelling_lem a b bytes bytes [] [] p q refl).0

pub same_message : {M : Type 0} (Said : Tree → M → Type 0) (Fault : Tree → ℕ → OutsideKind → Type 0) (bytes : List ℕ) (m n : M)
    → AreMessage Said Fault bytes m → AreMessage Said Fault bytes n → m ≡ n
same_message {M} Said Fault bytes m n x y =
    let P : Tree → Type 0 = λ t. Said t n in
    sym (x.inside.only n (subst P (same_item y.item x.item bytes y.spelled x.spelled) y.inside.said))

pub not_outside : {M : Type 0} (Said : Tree → M → Type 0) (Fault : Tree → ℕ → OutsideKind → Type 0) (bytes : List ℕ) (m : M) (place : ℕ) (kind : OutsideKind)
    → AreMessage Said Fault bytes m → AreOutside Fault bytes place kind → ⊥
not_outside Said Fault bytes m place kind x (no_item none zero_is kind_is) = none x.item x.spelled
not_outside Said Fault bytes m place kind x (outside t spelled o) =
    let P : Tree → Type 0 = λ u. Fault u place kind in
    x.inside.right place kind (subst P (same_item t x.item bytes spelled x.spelled) o.here)
