-- What is lent, and what is tested of options.
use Rattle.std.proofs.Common.{◌≡◌, ℤ, Bool, true, false, List, Option, Some, None, is_some, not, option_map, Result, Ok, Err, refl, sym, ap, ◌∙◌}
use Rattle.std.specs.Option.{option_copied}
use Rattle.std.specs.Prelude.{MatchResult}
use Rattle.kmipa_ttlv.specs.ViewTree.{view_tree}
use Rattle.kmipa_ttlv.specs.declared.view.View.{View}
use Rattle.kmipa_places.specs.Calls.{message_of}
use Rattle.kmipa_places.specs.Unread.{is_among}
use denote.Bor.{Bor}

-- the message that is lent is that of the item
pub lent_message : (o : Option (Bor View)) (v : Option View) → option_copied o ≡ v → message_of o ≡ option_map view_tree v
lent_message None None e = refl
lent_message None (Some v) e = absurd cc
lent_message (Some b) None e = absurd cc
lent_message (Some b) (Some v) e = let same : b.now ≡ v = cc in ap (λ (x : View). Some (view_tree x)) same

pub none_not : {X Y : Type 0} (f : X → Y) (o : Option X) (b : Bool) → is_some o ≡ not b → b ≡ false → option_map f o ≡ None → ⊥
none_not f None b e is none = let clash : false ≡ not false = e ∙ ap not is in absurd cc
none_not f (Some x) b e is none = absurd cc

pub none_so : {X Y : Type 0} (f : X → Y) (o : Option X) (b : Bool) → b ≡ is_some o → b ≡ false → option_map f o ≡ None
none_so f None b e is = refl
none_so f (Some x) b e is = absurd cc

-- the whole call is tested to be aside, or not
pub is_set : (asides lent : List ℤ) (b : Bool) → lent ≡ asides → b ≡ is_among lent 0 → b ≡ true → is_among asides 0 ≡ true
is_set asides lent b e f g = ap (λ (l : List ℤ). is_among l 0) (sym e) ∙ sym f ∙ g

pub not_set : (asides lent : List ℤ) (b : Bool) → lent ≡ asides → b ≡ is_among lent 0 → b ≡ false → is_among asides 0 ≡ true → ⊥
not_set asides lent b e f g set =
    let no : is_among asides 0 ≡ false = ap (λ (l : List ℤ). is_among l 0) (sym e) ∙ sym f ∙ g in
    let clash : true ≡ false = sym set ∙ no in
    absurd cc

-- what a call came to says this too
pub also : {X E : Type 0} (P Q : X → Type 0) (A B : E → Type 0) (r : Result X E) → ((x : X) → P x → Q x) → ((e : E) → A e → B e) → MatchResult r P A → MatchResult r Q B
also P Q A B (Ok x) f g h = f x h
also P Q A B (Err e) f g h = g e h
