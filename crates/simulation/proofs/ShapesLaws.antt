-- Trees, patterns and templates of one shape, with equal constants and related names. Laws of trees over any relation of names.
use Rattle.std.specs.Prelude.{◌≡◌, Bool, ◌&&◌}
use Rattle.std.proofs.Math.Path.{refl, ap₂}
use Rattle.std.proofs.Math.Bool.{false, not}
use Prim.Native.Nat.{ℕ, zero, suc, ◌+◌}
use Rattle.std.proofs.Math.Dec.{eqb}
use Rattle.recipe.specs.Name.{Name, is_ellipsis, is_wildcard, is_ordinary}
use Rattle.recipe.specs.Tree.{Tree, size, names, on_empty, on_name, on_pair, is_ordinary_name, is_list, is_list_of, elements, element, tail, past, on_names}
use Rattle.expansion.specs.Rules.{Pattern, Template}
use Rattle.simulation.specs.Relations.{ListRel, ends, joins}
use Rattle.simulation.proofs.RelationsLaws.{length-rel, append-rel, get_d-rel}
use Rattle.simulation.specs.Shapes.{PatternOf, TemplateOf, TreeOf, constant_ps, constant_ts, constants, ellipsis_ps, ellipsis_ts, empties, empty_ps, empty_ts, insert_ts, literal_ps, names₂, pair_ps, pair_ts, pairs, variable_ps, variable_ts, wildcard_ps}

-- ---- a larger relation

module _ {R S : Name → Name → Type 0} (h : (x y : Name) → R x y → S x y) where
  pub tree_map : {t u : Tree} → TreeOf R t u → TreeOf S t u
  tree_map empties = empties
  tree_map constants = constants
  tree_map (names₂ r) = names₂ (h _ _ r)
  tree_map (pairs p q) = pairs (tree_map p) (tree_map q)

  pub pattern-map : {p q : Pattern} → PatternOf R p q → PatternOf S p q
  pattern-map variable_ps = variable_ps
  pattern-map (literal_ps r) = literal_ps (h _ _ r)
  pattern-map wildcard_ps = wildcard_ps
  pattern-map constant_ps = constant_ps
  pattern-map empty_ps = empty_ps
  pattern-map (pair_ps p q) = pair_ps (pattern-map p) (pattern-map q)
  pattern-map (ellipsis_ps p q) = ellipsis_ps (pattern-map p) (pattern-map q)

  pub template-map : {e f : Template} → TemplateOf R e f → TemplateOf S e f
  template-map variable_ts = variable_ts
  template-map (insert_ts r) = insert_ts (h _ _ r)
  template-map constant_ts = constant_ts
  template-map empty_ts = empty_ts
  template-map (pair_ts p q) = pair_ts (template-map p) (template-map q)
  template-map (ellipsis_ts p q) = ellipsis_ts (template-map p) (template-map q)

-- ---- trees

module _ {R : Name → Name → Type 0} where
  pub size-rel : {t u : Tree} → TreeOf R t u → size t ≡ size u
  unfolding size
  size-rel empties = refl
  size-rel constants = refl
  size-rel (names₂ r) = refl
  size-rel (pairs p q) = ap₂ (λ a b. suc (a + b)) (size-rel p) (size-rel q)

  pub names-rel : {t u : Tree} → TreeOf R t u → ListRel R (names t) (names u)
  unfolding names
  names-rel empties = ends
  names-rel constants = ends
  names-rel (names₂ r) = joins r ends
  names-rel (pairs p q) = append-rel (names-rel p) (names-rel q)

  -- what is asked of a name, where it is one
  pub on_name-rel : (f g : Name → Bool) → ((x y : Name) → R x y → f x ≡ g y) → (n : Bool) {t u : Tree} → TreeOf R t u → on_name f n t ≡ on_name g n u
  unfolding on_name
  on_name-rel f g h n empties = refl
  on_name-rel f g h n constants = refl
  on_name-rel f g h n (names₂ r) = h _ _ r
  on_name-rel f g h n (pairs p q) = refl

  pub is_list-rel : {t u : Tree} → TreeOf R t u → is_list t ≡ is_list u
  unfolding is_list on_empty on_pair
  is_list-rel empties = refl
  is_list-rel constants = refl
  is_list-rel (names₂ r) = refl
  is_list-rel (pairs p q) = refl

  pub elements-rel : {t u : Tree} → TreeOf R t u → ListRel (TreeOf R) (elements t) (elements u)
  unfolding elements
  elements-rel empties = ends
  elements-rel constants = ends
  elements-rel (names₂ r) = ends
  elements-rel (pairs p q) = joins p (elements-rel q)

  pub is_list_of-rel : (k : ℕ) {t u : Tree} → TreeOf R t u → is_list_of k t ≡ is_list_of k u
  unfolding is_list_of
  is_list_of-rel k r = ap₂ (λ a b. a && eqb b k) (is_list-rel r) (length-rel (elements-rel r))

  pub element-rel : (k : ℕ) {t u : Tree} → TreeOf R t u → TreeOf R (element k t) (element k u)
  unfolding element
  element-rel k r = get_d-rel k (elements-rel r) empties

  pub tail-rel : {t u : Tree} → TreeOf R t u → TreeOf R (tail t) (tail u)
  unfolding tail on_pair
  tail-rel empties = empties
  tail-rel constants = empties
  tail-rel (names₂ r) = empties
  tail-rel (pairs p q) = q

  pub past-rel : (n : ℕ) {t u : Tree} → TreeOf R t u → TreeOf R (past n t) (past n u)
  unfolding past
  past-rel zero r = r
  past-rel (suc n) r = past-rel n (tail-rel r)

  pub on_names-rel : {S : Name → Name → Type 0} (f g : Name → Name) → ((x y : Name) → R x y → S (f x) (g y)) → {t u : Tree} → TreeOf R t u → TreeOf S (on_names f t) (on_names g u)
  unfolding on_names
  on_names-rel f g h empties = empties
  on_names-rel f g h constants = constants
  on_names-rel f g h (names₂ r) = names₂ (h _ _ r)
  on_names-rel f g h (pairs p q) = pairs (on_names-rel f g h p) (on_names-rel f g h q)

-- related names are both `...` or neither, and both `_` or neither
module _ (R : Name → Name → Type 0) (dots-eq : (x y : Name) → R x y → is_ellipsis x ≡ is_ellipsis y) (wild-eq : (x y : Name) → R x y → is_wildcard x ≡ is_wildcard y) where
  pub is_ordinary_name-rel : (t u : Tree) → TreeOf R t u → is_ordinary_name t ≡ is_ordinary_name u
  unfolding is_ordinary_name is_ordinary
  is_ordinary_name-rel t u r = on_name-rel is_ordinary is_ordinary (λ x y q. ap₂ (λ a b. not a && not b) (dots-eq x y q) (wild-eq x y q)) false r
