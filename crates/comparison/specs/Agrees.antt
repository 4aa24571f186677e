-- What it is for an expression to be our term: the same forms, each name the variable that its lambda's formal stands for,
-- and other names by spelling.
use Rattle.std.specs.Prelude.{Bool, true, false, ◌&&◌, cond, List, [], ◌∷◌, ℕ, suc, eqb, length, get_or}
use Rattle.std.proofs.Math.Option.{Option, none, some}
use Rattle.words.specs.Lists.{equal}
use Rattle.datum.specs.Constant.{matches}
use Rattle.datum.specs.Datum.{Datum, constant_d, name_d, list_d, Data, none_d, more_d}
use Rattle.core_term.specs.Term.{Term, Terms, variable_c, operation_c, datum_c, if_c, lambda_c, application_c, none_c, more_c}
use Rattle.comparison.specs.Expression.{Expression, reference_e, datum_e, if_e, lambda_e, application_e, Expressions, none_e, more_e}

-- ---- scopes

-- the formals of the lambdas round an expression, the innermost first: their name, our variable
abbrev pub Scope : Type 0
Scope = List (ℕ × ℕ)

-- the variable of the innermost formal of this name
unfoldable pub meant : ℕ → Scope → Option ℕ
meant n [] = none
meant n (b ∷ scope) = let outer = meant n scope in cond (eqb n b.0) (some b.1) outer

-- one lambda's formals, the first of them for variable v
unfoldable pub bind : List ℕ → ℕ → Scope → Scope
bind [] v scope = scope
bind (n ∷ ns) v scope = bind ns (suc v) ((n, v) ∷ scope)

-- ---- what a term is, whatever is said of its variables

module _ {A F : Type 0} (no : A) where
  unfoldable pub on_variable : (ℕ → A) → Term F → A
  on_variable f (variable_c v) = f v
  on_variable f (operation_c p) = no
  on_variable f (datum_c d) = no
  on_variable f (if_c x y z) = no
  on_variable f (lambda_c v fs x) = no
  on_variable f (application_c h ts) = no

  unfoldable pub on_operation : (ℕ → A) → Term F → A
  on_operation f (variable_c v) = no
  on_operation f (operation_c p) = f p
  on_operation f (datum_c d) = no
  on_operation f (if_c x y z) = no
  on_operation f (lambda_c v fs x) = no
  on_operation f (application_c h ts) = no

  unfoldable pub on_datum : (Datum → A) → Term F → A
  on_datum f (variable_c v) = no
  on_datum f (operation_c p) = no
  on_datum f (datum_c d) = f d
  on_datum f (if_c x y z) = no
  on_datum f (lambda_c v fs x) = no
  on_datum f (application_c h ts) = no

  unfoldable pub on_if : (Term F → Term F → Term F → A) → Term F → A
  on_if f (variable_c v) = no
  on_if f (operation_c p) = no
  on_if f (datum_c d) = no
  on_if f (if_c x y z) = f x y z
  on_if f (lambda_c v fs x) = no
  on_if f (application_c h ts) = no

  -- a lambda's first variable, how many, and its body
  unfoldable pub on_lambda : (ℕ → ℕ → Term F → A) → Term F → A
  on_lambda f (variable_c v) = no
  on_lambda f (operation_c p) = no
  on_lambda f (datum_c d) = no
  on_lambda f (if_c x y z) = no
  on_lambda f (lambda_c v fs x) = f v (length fs) x
  on_lambda f (application_c h ts) = no

  unfoldable pub on_application : (Term F → Terms F → A) → Term F → A
  on_application f (variable_c v) = no
  on_application f (operation_c p) = no
  on_application f (datum_c d) = no
  on_application f (if_c x y z) = no
  on_application f (lambda_c v fs x) = no
  on_application f (application_c h ts) = f h ts

-- ---- agreement

-- how each side spells its names, and the operations in the order of their places
module _ (theirs ours : ℕ → List ℕ) (operations : List (List ℕ)) where
  -- quoted names by spelling; a decimal has its places: 0.80 is not 0.8
  unfoldable mutual
    pub same_datum : Datum → Datum → Bool
    same_datum (constant_d a) (constant_d b) = matches a b
    same_datum (constant_d a) (name_d k) = false
    same_datum (constant_d a) (list_d es) = false
    same_datum (name_d n) (constant_d b) = false
    same_datum (name_d n) (name_d k) = equal (theirs n) (ours k)
    same_datum (name_d n) (list_d es) = false
    same_datum (list_d ds) (constant_d b) = false
    same_datum (list_d ds) (name_d k) = false
    same_datum (list_d ds) (list_d es) = same_data ds es

    pub same_data : Data → Data → Bool
    same_data none_d none_d = true
    same_data none_d (more_d e es) = false
    same_data (more_d d ds) none_d = false
    same_data (more_d d ds) (more_d e es) = same_datum d e && same_data ds es

  -- a name is the variable that it means, or, where no formal has it, an operation of this spelling
  unfoldable pub same_name : {F : Type 0} → ℕ → Option ℕ → Term F → Bool
  same_name n (some v) = on_variable false (eqb v)
  same_name n none = on_operation false (λ p. equal (theirs n) (get_or operations p []))

  unfoldable mutual
    pub agrees : {F : Type 0} → Scope → Expression → Term F → Bool
    agrees scope (reference_e n) = same_name n (meant n scope)
    agrees scope (datum_e d) = on_datum false (same_datum d)
    agrees scope (if_e x y z) = on_if false (λ a b c. agrees scope x a && (agrees scope y b && agrees scope z c))
    agrees scope (lambda_e ns x) = on_lambda false (λ v count a. eqb (length ns) count && agrees (bind ns v scope) x a)
    agrees scope (application_e h xs) = on_application false (λ g ts. agrees scope h g && agree_all scope xs ts)

    pub agree_all : {F : Type 0} → Scope → Expressions → Terms F → Bool
    agree_all scope none_e none_c = true
    agree_all scope none_e (more_c t ts) = false
    agree_all scope (more_e x xs) none_c = false
    agree_all scope (more_e x xs) (more_c t ts) = agrees scope x t && agree_all scope xs ts
