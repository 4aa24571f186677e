-- Laws of binders one after another: they are the definition's bind_all. Each own name is resolved under the wrap that waits
-- on the form, so a binder does not see the ones before it, and the definition's list of names is read before it binds.
use Rattle.std.specs.Prelude.{◌≡◌, refl, Bool, true, ◌&&◌, ℕ, suc, ◌+◌, ◌^◌, ◌≤◌, ◌<◌, leb, length}
use Rattle.std.proofs.Common.{sym, ap₂, subst, ◌∙◌, arith, add-one, length-append}
use Rattle.std.proofs.Math.Path.{ap}
use mathlib.Core.List.{List, [], ◌∷◌, ◌++◌}
use Rattle.std.proofs.Math.Option.{some}
use Rattle.words.specs.Limits.{formals_most}
use Rattle.words.specs.Lists.{within, all_of}
use Rattle.words.specs.ListLaws.{never}
use Rattle.words.specs.TestLaws.{and_left, and_right, all-parts, within-most}
use Rattle.datum.specs.Constant.{Constant}
use Rattle.recipe.specs.Name.{Binding, Name, binding_key, bind_name}
use Rattle.recipe.specs.Tree.{Tree, empty, constant, name, pair, names, is_ordinary_name, is_list, is_list_of, on_empty, on_pair, elements, element, on_names, bind, bind_all}
use Rattle.recipe.specs.TreeLaws.{on_names-∘}
use Rattle.recipe.specs.Tidy.{Tidy, tidy_empty, tidy_constant, tidy_name, tidy_pair, tidy-element, ordinary-names}
use Rattle.expansion.specs.Forms.{is_lambda, formals, is_macro, is_macros, first_names, keywords}
use Rattle.arena.specs.Arena.{wrap_at, name_at, tree_at}
use Rattle.arena.specs.ArenaLaws.{take_less}
use Rattle.arena.specs.Cells.{Room, Binds}
use Rattle.arena.specs.CellLaws.{tree-kept, tree-after}
use Rattle.forms.specs.Shapes.{own_name, binds_one}
use Rattle.forms.specs.Binders.{AllNames, own_names, names_in, ListTails, HasNames, bound_names, binds_to, bind_names, Opened, Space, Scoped, Scoping}
use Rattle.forms.specs.BinderLaws.{binds-ordinary}
use Rattle.forms.specs.declared.shapes.Bound.{Bound}
use Rattle.forms.specs.declared.shapes.Bound.TheVariants.{Formals, Keywords}

-- ---- no name

scoped-none : (f : ℕ → Binding) (k : ℕ) (xs : List Name) (parent : ℕ) (old : List ℕ) (top : ℕ) → xs ≡ [] → parent ≤ top → Scoped f k xs parent old old top parent top
unfolding bind_names
scoped-none f k xs parent old top e h = record { end_is = rw e (omega arith); wrap-below = h; kept = refl; means = λ x. rw e }

-- ---- one name more

module _ (old : List ℕ) (list w : ℕ) (bound : Bound) (number parent top own rest : ℕ)
    (space : Space (names_in bound (tree_at old list w)) old list w number parent top) (open' : Opened old list w bound own rest) where
  count-is : length (names_in bound (tree_at old list w)) ≡ suc (length (names_in bound (tree_at old rest w)))
  count-is = ap length open'.names-are

  pub own_below : own ≤ top
  own_below = omega (arith, space.node-below, open'.own-low)

  pub room-one : Room old top 9
  room-one = record { fits = omega (arith, space.fits, count-is); small = omega (arith, space.small, count-is) }

  pub number_small : number < 2 ^ 30
  number_small = omega (arith, space.numbers, count-is)

  module _ (key next : ℕ) (mid : List ℕ) (key-is : key ≡ binding_key (some (binds_to bound number))) (binds : Binds own w key parent old mid top next) where
    rest-kept : tree_at mid rest w ≡ tree_at old rest w
    rest-kept = tree-kept old mid top rest w (omega (arith, space.node-below, open'.rest-low)) space.w-below binds.kept

    more-is : names_in bound (tree_at old list w) ≡ name_at old own w ∷ names_in bound (tree_at mid rest w)
    more-is = rw rest-kept open'.names-are

    more-count : length (names_in bound (tree_at old list w)) ≡ suc (length (names_in bound (tree_at mid rest w)))
    more-count = ap length more-is

    ordinary-next : AllNames bound (tree_at mid rest w)
    ordinary-next = rw rest-kept open'.ordinary

    space-next : length mid ≡ length old → Space (names_in bound (tree_at mid rest w)) mid rest w (number + 1) next next
    space-next l =
        record {
          fits = omega (arith, space.fits, more-count, binds.end);
          small = omega (arith, space.small, more-count, binds.end);
          numbers = omega (arith, space.numbers, more-count);
          node-below = omega (arith, space.node-below, open'.rest-low, binds.end);
          w-below = omega (arith, space.w-below, binds.end);
          parent-below = omega arith;
        }

    scoped_more : (new : List ℕ) (wrap end : ℕ) → Scoped (binds_to bound) (number + 1) (names_in bound (tree_at mid rest w)) next mid new next wrap end
        → Scoped (binds_to bound) number (names_in bound (tree_at old list w)) parent old new top wrap end
    unfolding bind_names
    scoped_more new wrap end s =
        record {
          end_is = omega (arith, s.end_is, more-count, binds.end);
          wrap-below = s.wrap-below;
          kept = take_less new mid top next (omega (arith, binds.end)) s.kept ∙ binds.kept;
          means = λ x.
              s.means x
              ∙ ap (λ (k : ℕ). bind_names (binds_to bound) k (names_in bound (tree_at mid rest w)) (wrap_at mid next x)) (add-one number)
              ∙ ap (bind_names (binds_to bound) (suc number) (names_in bound (tree_at mid rest w))) (binds.means (binds_to bound number) key-is x)
              ∙ ap (λ (l : List Name). bind_names (binds_to bound) number l (wrap_at old parent x)) (sym more-is);
        }

-- ---- name after name

module _ (old : List ℕ) (list w : ℕ) (bound : Bound) (number parent top : ℕ) where
  pub scoping-begins : AllNames bound (tree_at old list w) → Space (names_in bound (tree_at old list w)) old list w number parent top
      → Scoping old list w bound number parent top old list number parent top
  scoping-begins h s = record { ordinary = h; space = s; whole = λ new x y r. r }

  module _ (work : List ℕ) (node n wrap end : ℕ) (inv : Scoping old list w bound number parent top work node n wrap end) where
    pub scoping-ends : names_in bound (tree_at work node w) ≡ [] → Scoped (binds_to bound) number (names_in bound (tree_at old list w)) parent old work top wrap end
    scoping-ends e = inv.whole work wrap end (scoped-none (binds_to bound) n _ wrap work end e inv.space.parent-below)

    pub scoping-more : (own rest : ℕ) → Opened work node w bound own rest → (key next : ℕ) (mid : List ℕ) → key ≡ binding_key (some (binds_to bound n)) → Binds own w key wrap work mid end next → length mid ≡ length work
        → Scoping old list w bound number parent top mid rest (n + 1) next next
    scoping-more own rest o key next mid k b l =
        let s = inv.space in
        record {
          ordinary = ordinary-next work node w bound n wrap end own rest s o key next mid k b;
          space = space-next work node w bound n wrap end own rest s o key next mid k b l;
          whole = λ new x y r. inv.whole new x y (scoped_more work node w bound n wrap end own rest s o key next mid k b new x y r);
        }

-- ---- trees

bind_names-tree : (f : ℕ → Binding) (k : ℕ) (xs : List Name) (t : Tree) → on_names (bind_names f k xs) t ≡ bind_all f k xs t
unfolding bind_names bind_all bind on_names
bind_names-tree f k [] t = same t
  where
    same : (u : Tree) → on_names (λ x. x) u ≡ u
    same empty = refl
    same (constant a) = refl
    same (name x) = refl
    same (pair h u) = ap₂ pair (same h) (same u)
bind_names-tree f k (y ∷ ys) t = sym (on_names-∘ (bind_names f (suc k) ys) (bind_name y (f k)) t) ∙ bind_names-tree f (suc k) ys (on_names (bind_name y (f k)) t)

-- every tree below, under the new wrap
pub scoped-tree : (f : ℕ → Binding) (k : ℕ) (xs : List Name) (parent : ℕ) (old new : List ℕ) (top wrap end : ℕ) → Scoped f k xs parent old new top wrap end
    → (node : ℕ) → node ≤ top → tree_at new node wrap ≡ bind_all f k xs (tree_at old node parent)
scoped-tree f k xs parent old new top wrap end s node h =
    tree-after old new top wrap node h s.kept (bind_names f k xs) parent s.means ∙ bind_names-tree f k xs (tree_at old node parent)

-- ---- a form's names

-- a run's trees are proper
pub proper : {N : Name → Type 0} {C : Constant → Type 0} {t : Tree} → Tidy N C t → ListTails t
proper tidy_empty = tidy_empty
proper (tidy_constant c) = tidy_constant tt
proper (tidy_name x) = tidy_name tt
proper (tidy_pair h t l) = tidy_pair (proper h) (proper t) l

formal-names : {t : Tree} → ListTails t → is_list t ≡ true → names_in Formals t ≡ names t
unfolding names_in own_names own_name elements names is_list on_empty on_pair
formal-names tidy_empty l = refl
formal-names (tidy_constant c) l = never l refl
formal-names (tidy_name x) l = never l refl
formal-names (tidy_pair {h} p q l) k = ap (λ (xs : List Name). names h ++ xs) (formal-names q l)

module _ (t : Tree) where
  abbrev list-shape : Bool
  list-shape = is_list (element 1 t)

  module _ (shape : is_lambda t ≡ true) where
    within-shape : (list-shape && (all_of is_ordinary_name (elements (element 1 t)) && leb (length (elements (element 1 t))) formals_most)) ≡ true
    unfolding is_lambda
    within-shape = and_right (is_list_of 3 t) _ shape

    pub lambda-names : AllNames Formals (element 1 t)
    unfolding binds_one
    lambda-names = and_left _ (leb (length (elements (element 1 t))) formals_most) (and_right list-shape _ within-shape)

    pub formals-are : ListTails t → names_in Formals (element 1 t) ≡ formals t
    unfolding formals
    formals-are p = formal-names (tidy-element 1 p) (and_left list-shape _ within-shape)

  pub macros-names : (limit : ℕ) → is_macros limit t ≡ true → AllNames Keywords (element 1 t)
  unfolding is_macros binds_one
  macros-names limit shape =
      and_left _ (within 1 limit (length (elements (element 1 t)))) (and_right list-shape _ (and_right (is_list_of 3 t) _ shape))

first-names : (cs : List Tree) → own_names Keywords cs ≡ first_names cs
unfolding own_names own_name first_names
first-names [] = refl
first-names (c ∷ cs) = ap (λ (xs : List Name). names (element 0 c) ++ xs) (first-names cs)

pub keywords-are : (t : Tree) → names_in Keywords (element 1 t) ≡ keywords t
unfolding names_in keywords
keywords-are t = first-names (elements (element 1 t))

-- ---- how many they are

own-count : (bound : Bound) (cs : List Tree) → all_of (binds_one bound) cs ≡ true → length (own_names bound cs) ≡ length cs
unfolding own_names
own-count bound [] h = refl
own-count bound (c ∷ cs) h =
    let g = all-parts (binds_one bound) c cs h in
    length-append (names (own_name bound c)) (own_names bound cs) ∙ omega (arith, ordinary-names (own_name bound c) (binds-ordinary bound c g.0), own-count bound cs g.1)

pub names-count : (bound : Bound) (t : Tree) → AllNames bound t → length (names_in bound t) ≡ length (elements t)
unfolding names_in
names-count bound t h = own-count bound (elements t) h

module _ (t : Tree) where
  pub formals-count : is_lambda t ≡ true → ListTails t → length (formals t) ≡ length (elements (element 1 t))
  formals-count shape p = sym (ap length (formals-are t shape p)) ∙ names-count Formals (element 1 t) (lambda-names t shape)

  pub keywords-count : AllNames Keywords (element 1 t) → length (keywords t) ≡ length (elements (element 1 t))
  keywords-count h = sym (ap length (keywords-are t)) ∙ names-count Keywords (element 1 t) h

  pub keywords-most : (limit : ℕ) → is_macros limit t ≡ true → length (keywords t) ≤ limit
  unfolding is_macros
  keywords-most limit shape =
      omega (arith, keywords-count (macros-names t limit shape), within-most 1 limit (length (elements (element 1 t))) (and_right (all_of is_macro (elements (element 1 t))) _ (and_right (is_list (element 1 t)) _ (and_right (is_list_of 3 t) _ shape))))

-- ---- a form's binders

-- room for a form's names is room for those of its list
pub space-list : (xs ys : List Name) (work : List ℕ) (node w number parent top list : ℕ) → xs ≡ ys → list ≤ node → Space ys work node w number parent top → Space xs work list w number parent top
space-list xs ys work node w number parent top list e l s =
    record {
      fits = rw e s.fits;
      small = rw e s.small;
      numbers = rw e s.numbers;
      node-below = omega (arith, s.node-below);
      w-below = s.w-below;
      parent-below = s.parent-below;
    }

pub scoped-names : (f : ℕ → Binding) (k : ℕ) (xs ys : List Name) (parent : ℕ) (old new : List ℕ) (top wrap end : ℕ) → xs ≡ ys → Scoped f k xs parent old new top wrap end → Scoped f k ys parent old new top wrap end
scoped-names f k xs ys parent old new top wrap end e s = subst (λ (zs : List Name). Scoped f k zs parent old new top wrap end) e s

-- the names of a form's list are the form's
pub all-names : (bound : Bound) (t : Tree) → HasNames bound t → AllNames bound (element 1 t)
all-names Formals t h = lambda-names t h.0
all-names Keywords t h = h

pub names-are : (bound : Bound) (t : Tree) → HasNames bound t → names_in bound (element 1 t) ≡ bound_names bound t
names-are Formals t h = formals-are t h.0 h.1
names-are Keywords t h = keywords-are t
