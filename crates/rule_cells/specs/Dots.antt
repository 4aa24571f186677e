-- The ellipsis of rules among trees in the arena, and its laws, one for each way through the code.
use Rattle.std.specs.Prelude.{◌≡◌, Bool, true, ◌&&◌, List, ℕ, ◌≤◌, eqb, take}
use Rattle.std.proofs.Math.Path.{refl, sym}
use Rattle.std.proofs.Common.{◌∙◌}
use Rattle.std.proofs.Math.Bool.{false}
use Rattle.words.specs.Lists.{any_of}
use Rattle.recipe.specs.Name.{Name, same, is_ellipsis}
use Rattle.recipe.specs.Tree.{Tree, on_pair, on_name, elements, tail}
use Rattle.expansion.specs.Rules.{no_ellipsis, dots_next}
use Rattle.arena.specs.Offsets.{KIND, HEAD, TAIL}
use Rattle.arena.specs.Arena.{word_at, reference_at, name_at, tree_at, number_of}
use Rattle.arena.specs.NodeLaws.{tree_at-name, tree_at-pair, name_at-number}
use Rattle.arena.specs.Lists.{Means}
use Rattle.arena.specs.ListLaws.{no_name, no-pair, no-elements}
use Rattle.rule_cells.specs.MadeLaws.{name-kept}
use Rattle.rule_cells.specs.declared.dots.Dots.{Dots}
use Rattle.rule_cells.specs.declared.dots.Dots.TheVariants.{Default, Never, Chosen}
use native.Mathlib.Omega.{arith}

-- `...`, known by number; no name; or the chosen name, by its node, known by sameness
unfoldable pub dots_at : (work : List ℕ) (dots : Dots) (w : ℕ) → Name → Bool
dots_at work Default w = is_ellipsis
dots_at work Never w = no_ellipsis
dots_at work (Chosen node) w = same (name_at work node w)

-- a chosen name's node stands below b
abbrev pub DotsBelow : (dots : Dots) (b : ℕ) → Type 0
DotsBelow Default b = Unit {0}
DotsBelow Never b = Unit {0}
DotsBelow (Chosen node) b = node ≤ b

pub dots-higher : (dots : Dots) (a b : ℕ) → a ≤ b → DotsBelow dots a → DotsBelow dots b
dots-higher Default a b h l = tt
dots-higher Never a b h l = tt
dots-higher (Chosen node) a b h l = omega arith

-- the tree is the ellipsis
abbrev pub is_dots : (work : List ℕ) (dots : Dots) (w : ℕ) → Tree → Bool
is_dots work dots w = on_name (dots_at work dots w) false

-- the ellipsis stands among the elements of a list
abbrev pub dots_among : (work : List ℕ) (dots : Dots) (w : ℕ) → Tree → Bool
dots_among work dots w t = any_of (is_dots work dots w) (elements t)

module _ (work : List ℕ) (dots : Dots) (w : ℕ) where
  pub dots-default : (x : Name) → dots ≡ Default → dots_at work dots w x ≡ is_ellipsis x
  unfolding dots_at
  dots-default x e = rw e refl

  pub dots-never : (x : Name) → dots ≡ Never → dots_at work dots w x ≡ false
  unfolding dots_at no_ellipsis
  dots-never x e = rw e refl

  pub dots-chosen : (x : Name) (node : ℕ) → dots ≡ Chosen node → dots_at work dots w x ≡ same (name_at work node w) x
  unfolding dots_at
  dots-chosen x node e = rw e refl

  pub dots-by-number : (node n : ℕ) → dots ≡ Default → n ≡ number_of work node → eqb n 6 ≡ dots_at work dots w (name_at work node w)
  unfolding is_ellipsis
  dots-by-number node n e f = sym (dots-default (name_at work node w) e ∙ rw (name_at-number work node w, ← f) refl)

  module _ (node : ℕ) where
    pub dots-name : (b : Bool) → word_at work node KIND ≡ 3 → b ≡ dots_at work dots w (name_at work node w) → b ≡ is_dots work dots w (tree_at work node w)
    unfolding on_name
    dots-name b e f = rw (tree_at-name work node w e) f

    pub dots-other : (word_at work node KIND ≡ 3 → ⊥) → false ≡ is_dots work dots w (tree_at work node w)
    dots-other n = sym (no_name work node w (dots_at work dots w) false n)

    pub next-pair : (r : ℕ) (b : Bool) → word_at work node KIND ≡ 4 → r ≡ reference_at work node HEAD → b ≡ is_dots work dots w (tree_at work r w) → b ≡ dots_next (dots_at work dots w) (tree_at work node w)
    unfolding dots_next on_pair
    next-pair r b e f d = rw (tree_at-pair work node w e, ← f) d

    pub next-other : (word_at work node KIND ≡ 4 → ⊥) → false ≡ dots_next (dots_at work dots w) (tree_at work node w)
    unfolding dots_next on_pair
    next-other n = no-pair work node _ refl (λ t. false ≡ dots_next (dots_at work dots w) t) refl (λ x. refl) (λ a. refl) n w

    -- among the elements of a list
    pub among-end : (word_at work node KIND ≡ 4 → ⊥) → false ≡ dots_among work dots w (tree_at work node w)
    unfolding any_of
    among-end n = rw (no-elements work node w n) refl

    module _ (first : ℕ) (e : word_at work node KIND ≡ 4) (f : first ≡ reference_at work node HEAD) where
      pub among-here : true ≡ is_dots work dots w (tree_at work first w) → true ≡ dots_among work dots w (tree_at work node w)
      unfolding any_of elements
      among-here h = rw (tree_at-pair work node w e, ← f, ← h) refl

      pub among-more : (rest : ℕ) (b : Bool) → rest ≡ reference_at work node TAIL → false ≡ is_dots work dots w (tree_at work first w) → b ≡ dots_among work dots w (tree_at work rest w) → b ≡ dots_among work dots w (tree_at work node w)
      unfolding any_of elements
      among-more rest b g h k = rw (tree_at-pair work node w e, ← f, ← g, ← h) k

  -- another after the one that the rest of a list begins with
  pub crowded-no : (rest : ℕ) (followed : Bool) → followed ≡ false → false ≡ (followed && dots_among work dots w (tail (tree_at work rest w)))
  crowded-no rest followed e = rw e refl

  pub crowded-by : (rest after : ℕ) (followed b : Bool) → followed ≡ true → Means work rest after tail → b ≡ dots_among work dots w (tree_at work after w) → b ≡ (followed && dots_among work dots w (tail (tree_at work rest w)))
  crowded-by rest after followed b e m h = rw (e, ← m.is w) h

-- new cells change no name
pub dots-kept : (old new : List ℕ) (top : ℕ) → take top new ≡ take top old → (dots : Dots) (w : ℕ) → DotsBelow dots top → w ≤ top → dots_at new dots w ≡ dots_at old dots w
unfolding dots_at
dots-kept old new top kept Default w l m = refl
dots-kept old new top kept Never w l m = refl
dots-kept old new top kept (Chosen node) w l m = rw (name-kept old new top kept node w l m) refl
