-- The numbers that are bound in events, and laws of them: what a form's own bindings are, and one part after another.
use Rattle.std.specs.Prelude.{◌≡◌, refl, List, [], ◌∷◌, ◌++◌, ℕ, zero, suc, ◌+◌, length}
use Rattle.std.proofs.Common.{ap, ap₂, sym, ◌∙◌, append_assoc, arith}
use Rattle.words.specs.Each.{Each, none_of, also}
use Rattle.recipe.specs.Name.{Binding, variable, macro, Name}
use Rattle.expansion.specs.Computation.{looked, quoted, reached, binds, Events}
use Rattle.expansion.specs.Forms.{bindings}
use Rattle.expansion.specs.FormLaws.{Unbinding, looking, quoting, reaching}
use Rattle.expansion.specs.Ways.Bindings.{bound_by, macro_number, up_from, variable_number}

-- ---- the numbers bound

pub bound_by-append : (number : Binding → List ℕ) (l k : Events) → bound_by number (l ++ k) ≡ bound_by number l ++ bound_by number k
unfolding bound_by
bound_by-append number [] k = refl
bound_by-append number (looked x ∷ l) k = bound_by-append number l k
bound_by-append number (quoted x ∷ l) k = bound_by-append number l k
bound_by-append number (reached x ∷ l) k = bound_by-append number l k
bound_by-append number (binds b x ∷ l) k = ap (λ (r : List ℕ). number b ++ r) (bound_by-append number l k) ∙ sym (append_assoc (number b) (bound_by number l) (bound_by number k))

pub up_from-append : (k m n : ℕ) → up_from k m ++ up_from (k + m) n ≡ up_from k (m + n)
unfolding up_from
up_from-append k zero n =
    let p : k + 0 ≡ k = omega arith in
    let q : n ≡ 0 + n = omega arith in
    ap₂ up_from p q
up_from-append k (suc m) n =
    let p : k + suc m ≡ suc k + m = omega arith in
    let q : suc (m + n) ≡ suc m + n = omega arith in
    ap (λ j. k ∷ (up_from (suc k) m ++ up_from j n)) p ∙ ap (λ (r : List ℕ). k ∷ r) (up_from-append (suc k) m n) ∙ ap (up_from k) q

pub unbinding-binds : (number : Binding → List ℕ) {l : Events} → Each Unbinding l → bound_by number l ≡ []
unfolding bound_by
unbinding-binds number none_of = refl
unbinding-binds number (also looking h) = unbinding-binds number h
unbinding-binds number (also quoting h) = unbinding-binds number h
unbinding-binds number (also reaching h) = unbinding-binds number h

-- a form's own bindings
pub variables-bind : (k : ℕ) (xs : List Name) → bound_by variable_number (bindings variable k xs) ≡ up_from k (length xs)
unfolding bound_by bindings up_from variable_number
variables-bind k [] = refl
variables-bind k (x ∷ xs) = ap (λ (r : List ℕ). k ∷ r) (variables-bind (suc k) xs)

pub macros-bind : (k : ℕ) (xs : List Name) → bound_by macro_number (bindings macro k xs) ≡ up_from k (length xs)
unfolding bound_by bindings up_from macro_number
macros-bind k [] = refl
macros-bind k (x ∷ xs) = ap (λ (r : List ℕ). k ∷ r) (macros-bind (suc k) xs)

pub no-macros-bind : (k : ℕ) (xs : List Name) → bound_by macro_number (bindings variable k xs) ≡ []
unfolding bound_by bindings macro_number
no-macros-bind k [] = refl
no-macros-bind k (x ∷ xs) = no-macros-bind (suc k) xs

pub no-variables-bind : (k : ℕ) (xs : List Name) → bound_by variable_number (bindings macro k xs) ≡ []
unfolding bound_by bindings variable_number
no-variables-bind k [] = refl
no-variables-bind k (x ∷ xs) = no-variables-bind (suc k) xs
