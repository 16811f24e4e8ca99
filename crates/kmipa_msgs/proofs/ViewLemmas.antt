-- Readings of what is lent, seen as what they mean.
use Rattle.std.proofs.Common.{◌≡◌, Bool, Option, Result, Ok, Err, refl, sym, ap, ◌∙◌, ℕ}
use Rattle.std.specs.Option.{option_map}
use Rattle.kmipa_attrs.specs.Fields.{map_field}
use Rattle.kmipa_attrs.specs.Readings.{map_ok, both, needed, optional, kept_if}
use Rattle.kmipa_attrs.specs.declared.fields.Field.{Field}
use Rattle.kmipa_attrs.specs.declared.fields.Field.TheVariants.{Absent, Wrong, There}
use Rattle.kmipa_attrs.proofs.ReadingLemmas.{both_map}

pub map_ok-twice : {A B C K : Type 0} (f : B → C) (g : A → B) (a : Result A K) → map_ok f (map_ok g a) ≡ map_ok (λ x. f (g x)) a
map_ok-twice f g (Ok x) = refl
map_ok-twice f g (Err k) = refl

-- what is made of rows is made of what they are seen as
pub seen : {A B C K : Type 0} (make : B → C) (view : A → B) (rows : Result A K) (spec : Result B K) → map_ok view rows ≡ spec → map_ok (λ p. make (view p)) rows ≡ map_ok make spec
seen make view rows spec h = sym (map_ok-twice make view rows) ∙ ap (map_ok make) h

pub both_seen : {A B C D K : Type 0} (number : K → ℕ) (f : A → C) (g : B → D) (a : Result A K) (b : Result B K) (rows : Result (A × B) K) (left : Result C K) (right : Result D K)
    → rows ≡ both number a b → map_ok f a ≡ left → map_ok g b ≡ right → map_ok (λ p. (f p.0, g p.1)) rows ≡ both number left right
both_seen {A} {B} {C} {D} {K} number f g a b rows left right e h i =
    let view : A × B → C × D = λ p. (f p.0, g p.1) in
    ap (map_ok view) e ∙ both_map number f g a b ∙ ap (λ (l : Result C K). both number l (map_ok g b)) h ∙ ap (both number left) i

both_right : {A B D K : Type 0} (number : K → ℕ) (g : B → D) (a : Result A K) (b : Result B K) → map_ok (λ (p : A × B). (p.0, g p.1)) (both number a b) ≡ both number a (map_ok g b)
both_right number g (Ok x) (Ok y) = refl
both_right number g (Ok x) (Err j) = refl
both_right number g (Err k) (Ok y) = refl
both_right number g (Err k) (Err j) = refl

-- only the second row is lent
pub right_seen : {A B D K : Type 0} (number : K → ℕ) (g : B → D) (a : Result A K) (b : Result B K) (rows : Result (A × B) K) (left : Result A K) (right : Result D K)
    → rows ≡ both number a b → a ≡ left → map_ok g b ≡ right → map_ok (λ p. (p.0, g p.1)) rows ≡ both number left right
right_seen {A} {B} {D} {K} number g a b rows left right e h i =
    let view : A × B → A × D = λ p. (p.0, g p.1) in
    ap (map_ok view) e ∙ both_right number g a b ∙ ap (λ (l : Result A K). both number l (map_ok g b)) h ∙ ap (both number left) i

needed_view : {A B K : Type 0} (g : A → B) (f : Field A) (k j : K) → map_ok g (needed f k j) ≡ needed (map_field g f) k j
needed_view g Absent k j = refl
needed_view g Wrong k j = refl
needed_view g (There x) k j = refl

optional_view : {A B K : Type 0} (g : A → B) (f : Field A) (k : K) → map_ok (option_map g) (optional f k) ≡ optional (map_field g f) k
optional_view g Absent k = refl
optional_view g Wrong k = refl
optional_view g (There x) k = refl

-- a lent field that is needed, that may be absent, or whose other types are read over
pub needed_seen : {A B K : Type 0} (g : A → B) (f : Field A) (h : Field B) (k j : K) (row : Result A K) → row ≡ needed f k j → map_field g f ≡ h → map_ok g row ≡ needed h k j
needed_seen {A} {B} g f h k j row e i = ap (map_ok g) e ∙ needed_view g f k j ∙ ap (λ (x : Field B). needed x k j) i

pub optional_seen : {A B K : Type 0} (g : A → B) (f : Field A) (h : Field B) (k : K) (row : Result (Option A) K) → row ≡ optional f k → map_field g f ≡ h → map_ok (option_map g) row ≡ optional h k
optional_seen {A} {B} g f h k row e i = ap (map_ok (option_map g)) e ∙ optional_view g f k ∙ ap (λ (x : Field B). optional x k) i

-- two rows, each as it is
pub joined : {A B K : Type 0} (number : K → ℕ) (a : Result A K) (b : Result B K) (rows : Result (A × B) K) (left : Result A K) (right : Result B K)
    → rows ≡ both number a b → a ≡ left → b ≡ right → rows ≡ both number left right
joined number a b rows left right e h i = e ∙ (λ j. both number (h j) (i j))

-- an optional row of a field
pub optional_row : {A K : Type 0} (f h : Field A) (k : K) (row : Result (Option A) K) → row ≡ optional f k → f ≡ h → row ≡ optional h k
optional_row f h k row e i = e ∙ (λ j. optional (i j) k)

-- a test, of what is known
pub test_row : {K : Type 0} (b c : Bool) (k : K) (row : Result (Unit {0}) K) → row ≡ kept_if b tt k → b ≡ c → row ≡ kept_if c tt k
test_row b c k row e i = e ∙ (λ j. kept_if (i j) tt k)
