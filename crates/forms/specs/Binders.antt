-- The names that a list binds, and what their binders leave.
use Rattle.std.specs.Prelude.{◌≡◌, true, List, [], ◌∷◌, ◌++◌, ℕ, suc, ◌+◌, ◌*◌, ◌^◌, ◌≤◌, ◌<◌, length, take}
use Rattle.words.specs.Lists.{all_of}
use Rattle.recipe.specs.Name.{Binding, variable, macro, Name, bind_name}
use Rattle.recipe.specs.Tree.{Tree, names, elements, element}
use Rattle.expansion.specs.Forms.{is_lambda, formals, keywords}
use Rattle.recipe.specs.Tidy.{Tidy}
use Rattle.arena.specs.Arena.{wrap_at, name_at, tree_at}
use Rattle.forms.specs.Shapes.{own_name, binds_one}
use Rattle.forms.specs.declared.shapes.Bound.{Bound}
use Rattle.forms.specs.declared.shapes.Bound.TheVariants.{Formals, Keywords}

-- every element binds as it should; shapes tells before
abbrev pub AllNames : (bound : Bound) → Tree → Type 0
AllNames bound t = all_of (binds_one bound) (elements t) ≡ true

-- the names that elements bind, from the left
unfoldable pub own_names : (bound : Bound) → List Tree → List Name
own_names bound [] = []
own_names bound (c ∷ cs) = names (own_name bound c) ++ own_names bound cs

unfoldable pub names_in : (bound : Bound) → Tree → List Name
names_in bound t = own_names bound (elements t)

-- every tail in it is a list, as in all that a run has at hand
abbrev pub ListTails : Tree → Type 0
ListTails = Tidy (λ x. Unit {0}) (λ a. Unit {0})

-- what a form that binds is known to have
abbrev pub HasNames : (bound : Bound) → Tree → Type 0
HasNames Formals t = (is_lambda t ≡ true) × ListTails t
HasNames Keywords t = AllNames Keywords (element 1 t)

-- the names that a form binds
abbrev pub bound_names : (bound : Bound) → Tree → List Name
bound_names Formals = formals
bound_names Keywords = keywords

-- what names are bound to: variables or macros
abbrev pub binds_to : (bound : Bound) → ℕ → Binding
binds_to Formals = variable
binds_to Keywords = macro

-- bind_all, one name at a time
unfoldable pub bind_names : (ℕ → Binding) → ℕ → List Name → Name → Name
bind_names f k [] x = x
bind_names f k (y ∷ ys) x = bind_names f (suc k) ys (bind_name y (f k) x)

-- what opening a list that binds tells: the name of its first element, and the rest
pub record Opened (work : List ℕ) (list w : ℕ) (bound : Bound) (own rest : ℕ) : Type 0 where
  pub own-low : own < list
  pub rest-low : rest < list
  pub names-are : names_in bound (tree_at work list w) ≡ name_at work own w ∷ names_in bound (tree_at work rest w)
  pub ordinary : AllNames bound (tree_at work rest w)

-- room for binders of names xs: nine words a name, and numbers that fit a word; node and wraps as they should be
pub record Space (xs : List Name) (work : List ℕ) (node w number parent top : ℕ) : Type 0 where
  pub fits : top + 9 * length xs ≤ length work
  pub small : top + 9 * length xs < 2 ^ 32
  pub numbers : number + length xs ≤ 2 ^ 30
  pub node-below : node ≤ top
  pub w-below : w ≤ top
  pub parent-below : parent ≤ top

-- names xs are bound, numbered from k, after what `parent` means
pub record Scoped (f : ℕ → Binding) (k : ℕ) (xs : List Name) (parent : ℕ) (old new : List ℕ) (top wrap end : ℕ) : Type 0 where
  pub end_is : end ≡ top + 9 * length xs
  pub wrap-below : wrap ≤ end
  pub kept : take top new ≡ take top old
  pub means : (x : Name) → wrap_at new wrap x ≡ bind_names f k xs (wrap_at old parent x)

-- names are bound up to the node's: where those are bound, all names of the list are
pub record Scoping (old : List ℕ) (list w : ℕ) (bound : Bound) (number parent top : ℕ) (work : List ℕ) (node n wrap end : ℕ) : Type 0 where
  pub ordinary : AllNames bound (tree_at work node w)
  pub space : Space (names_in bound (tree_at work node w)) work node w n wrap end
  pub whole : (new : List ℕ) (x y : ℕ) → Scoped (binds_to bound) n (names_in bound (tree_at work node w)) wrap work new end x y
      → Scoped (binds_to bound) number (names_in bound (tree_at old list w)) parent old new top x y
