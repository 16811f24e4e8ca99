-- Of what is read of files that are held.
use Rattle.std.proofs.Common.{◌≡◌, Result, Ok, Err, subst}
use Rattle.std.specs.Prelude.{IfErr, IfOk}

-- what holds of the error holds of this one
pub err_told : {T E : Type 0} (r : Result T E) (e : E) (P : E → Type 0) → r ≡ Err e → IfErr r P → P e
err_told (Err x) e P is holds = let same : x ≡ e = cc in subst P same holds
err_told (Ok x) e P is holds = absurd cc

-- what holds of the value holds of this one
pub ok_told : {T E : Type 0} (r : Result T E) (v : T) (P : T → Type 0) → r ≡ Ok v → IfOk r P → P v
ok_told (Ok x) v P is holds = let same : x ≡ v = cc in subst P same holds
ok_told (Err x) v P is holds = absurd cc
