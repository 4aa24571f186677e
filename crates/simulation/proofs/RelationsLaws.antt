-- Lists and answers whose parts are related, and what keeps that. Laws over any relation; the order is that of words/specs.
use Rattle.std.specs.Prelude.{◌≡◌, refl, Bool, true, false, ◌&&◌, ◌||◌, cond, List, [], ◌∷◌, ◌++◌, map, ℕ, zero, suc, length, get_or}
use Rattle.std.proofs.Common.{ap, ap₂, true≢false}
use Rattle.std.proofs.lemmas.Bool.{false≢true}
use Rattle.std.proofs.Math.Option.{Option, none}
use Rattle.words.specs.Lists.{all_of, any_of}
use Rattle.words.specs.Options.{only_if, map_some, map_both, traverse}
use Rattle.simulation.specs.Relations.{ListRel, OptionRel, ends, joins, nones, somes}

-- ---- lists

pub length-rel : {A : Type 0} {R : A → A → Type 0} {xs ys : List A} → ListRel R xs ys → length xs ≡ length ys
length-rel ends = refl
length-rel (joins r rs) = ap suc (length-rel rs)

pub append-rel : {A : Type 0} {R : A → A → Type 0} {xs ys us vs : List A} → ListRel R xs ys → ListRel R us vs → ListRel R (xs ++ us) (ys ++ vs)
append-rel ends q = q
append-rel (joins r rs) q = joins r (append-rel rs q)

pub get_d-rel : {A : Type 0} {R : A → A → Type 0} {xs ys : List A} (k : ℕ) {d e : A} → ListRel R xs ys → R d e → R (get_or xs k d) (get_or ys k e)
get_d-rel k ends q = q
get_d-rel zero (joins r rs) q = r
get_d-rel (suc k) (joins r rs) q = get_d-rel k rs q

pub map-rel : {A B : Type 0} {R : A → A → Type 0} {S : B → B → Type 0} (f g : A → B) → ((x y : A) → R x y → S (f x) (g y)) → {xs ys : List A} → ListRel R xs ys → ListRel S (map f xs) (map g ys)
map-rel f g h ends = ends
map-rel f g h (joins r rs) = joins (h _ _ r) (map-rel f g h rs)

pub list-map : {A : Type 0} {R S : A → A → Type 0} → ((x y : A) → R x y → S x y) → {xs ys : List A} → ListRel R xs ys → ListRel S xs ys
list-map h ends = ends
list-map h (joins r rs) = joins (h _ _ r) (list-map h rs)

pub all-rel : {A : Type 0} {R : A → A → Type 0} (f g : A → Bool) → ((x y : A) → R x y → f x ≡ g y) → {xs ys : List A} → ListRel R xs ys → all_of f xs ≡ all_of g ys
unfolding all_of
all-rel f g h ends = refl
all-rel f g h (joins r rs) = ap₂ ◌&&◌ (h _ _ r) (all-rel f g h rs)

pub any-rel : {A : Type 0} {R : A → A → Type 0} (f g : A → Bool) → ((x y : A) → R x y → f x ≡ g y) → {xs ys : List A} → ListRel R xs ys → any_of f xs ≡ any_of g ys
unfolding any_of
any-rel f g h ends = refl
any-rel f g h (joins r rs) = ap₂ ◌||◌ (h _ _ r) (any-rel f g h rs)

pub list-eq : {A : Type 0} {R : A → A → Type 0} → ((x y : A) → R x y → x ≡ y) → {xs ys : List A} → ListRel R xs ys → xs ≡ ys
list-eq h ends = refl
list-eq h (joins r rs) = ap₂ ◌∷◌ (h _ _ r) (list-eq h rs)

-- ---- choices and answers that may be missing

pub cond-rel : {A : Type 0} (R : A → A → Type 0) (b c : Bool) (x y x' y' : A) → b ≡ c → R x x' → R y y' → R (cond b x y) (cond c x' y')
cond-rel R true true x y x' y' e p q = p
cond-rel R true false x y x' y' e p q = absurd (true≢false e)
cond-rel R false true x y x' y' e p q = absurd (false≢true e)
cond-rel R false false x y x' y' e p q = q

pub guard-rel : {A : Type 0} {R : A → A → Type 0} {b c : Bool} {x y : Option A} → b ≡ c → OptionRel R x y → OptionRel R (only_if b x) (only_if c y)
unfolding only_if
guard-rel {A} {R} {b} {c} {x} {y} e r = cond-rel (OptionRel R) b c x none y none e r nones

pub map_some-rel : {A B : Type 0} {R : A → A → Type 0} {S : B → B → Type 0} (f g : A → B) → ((x y : A) → R x y → S (f x) (g y)) → {x y : Option A} → OptionRel R x y → OptionRel S (map_some f x) (map_some g y)
unfolding map_some
map_some-rel f g h nones = nones
map_some-rel f g h (somes r) = somes (h _ _ r)

pub map_both-rel : {A B C : Type 0} {R : A → A → Type 0} {S : B → B → Type 0} {P : C → C → Type 0} (f g : A → B → C) → ((x y : A) (u v : B) → R x y → S u v → P (f x u) (g y v)) → {x y : Option A} {u v : Option B} → OptionRel R x y → OptionRel S u v → OptionRel P (map_both f x u) (map_both g y v)
unfolding map_both
map_both-rel f g h nones s = nones
map_both-rel f g h (somes r) s = map_some-rel _ _ (λ u v q. h _ _ u v r q) s

pub traverse-rel : {A B : Type 0} {R : A → A → Type 0} {S : B → B → Type 0} (f g : A → Option B) → ((x y : A) → R x y → OptionRel S (f x) (g y)) → {xs ys : List A} → ListRel R xs ys → OptionRel (ListRel S) (traverse f xs) (traverse g ys)
unfolding traverse
traverse-rel f g h ends = somes ends
traverse-rel f g h (joins r rs) = map_both-rel ◌∷◌ ◌∷◌ (λ x y u v p q. joins p q) (h _ _ r) (traverse-rel f g h rs)
