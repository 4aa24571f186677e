-- A step's result in the arena: fresh nodes above the old top, the root last, with every name produced; each item is paid for.
use Rattle.std.specs.Prelude.{◌≡◌, Option, Some, None, Bool, true, List, ℕ, zero, suc, ◌+◌, ◌*◌, ◌-◌, ◌≤◌, ◌<◌, take}
use Rattle.recipe.specs.Tree.{Tree, size, element, produce}
use Rattle.expansion.specs.Transcribe.{copies, all_below}
use Rattle.arena.specs.Arena.{tree_at}
use Rattle.arena.specs.Cells.{Room}
use Rattle.rule_cells.specs.Cells.{template_at}
use Rattle.environments.specs.Sound.{Plain}
use Rattle.environments.specs.Environment.{enter, agree_by, result_by}
use Rattle.environments.specs.Entries.{environment_at, Under}
use Rattle.steps.specs.declared.copy.Built.{Built}

-- a node is three words, and a name's may have a join of three more
abbrev pub node_words : ℕ
node_words = 6

-- what is built, and so much fuel left
abbrev pub built : (at left : ℕ) → Option Built
built at left = Some (record { at = at; left = left })

-- r is a fresh node of one item, as a step's result has it
pub record Fresh (tree : Tree) (old new : List ℕ) (top r : ℕ) : Type 0 where
  pub above : top ≤ r
  pub most : r ≤ top + node_words
  pub kept : take top new ≡ take top old
  pub means : tree_at new r 0 ≡ produce tree

-- ---- a tree whose items are paid for

-- root is a fresh copy of the tree, and so much fuel is left
pub record Paid (tree : Tree) (old new : List ℕ) (top fuel root left : ℕ) : Type 0 where
  pub spent : size tree + left ≡ fuel
  pub above : top ≤ root
  pub most : root + node_words * left ≤ top + node_words * fuel
  pub kept : take top new ≡ take top old
  pub means : tree_at new root 0 ≡ produce tree

-- the tree has more items than there is fuel
pub record Unpaid (tree : Tree) (old new : List ℕ) (top fuel : ℕ) : Type 0 where
  pub over : fuel < size tree
  pub kept : take top new ≡ take top old

abbrev pub Pays : (tree : Tree) (old new : List ℕ) (top fuel : ℕ) → Option Built → Type 0
Pays tree old new top fuel (Some b) = Paid tree old new top fuel b.at b.left
Pays tree old new top fuel None = Unpaid tree old new top fuel

-- a node and a wrap that stand below the top, with room for as many items as there is fuel
pub record Waiting (work : List ℕ) (top fuel node w : ℕ) : Type 0 where
  pub room : Room work top (node_words * fuel)
  pub node-below : node ≤ top
  pub wrap-below : w ≤ top

-- ---- templates

-- what a template gives in an environment
unfoldable pub result_at : (work env : List ℕ) (w t : ℕ) → Tree
result_at work env w t = result_by (environment_at work env w) (template_at work t)

-- whether driving lists are of one length in all of it (ground 17 where they are not)
unfoldable pub agrees_at : (work env : List ℕ) (w t : ℕ) → Bool
agrees_at work env w t = agree_by (environment_at work env w) (template_at work t)

-- copy i of an element
unfoldable pub copy_at : (work env : List ℕ) (w e : ℕ) → ℕ → Tree
copy_at work env w e i = result_by (enter i (environment_at work env w)) (template_at work e)

-- whether they are in copy i
unfoldable pub copy_agrees : (work env : List ℕ) (w e : ℕ) → ℕ → Bool
copy_agrees work env w e i = agree_by (enter i (environment_at work env w)) (template_at work e)

-- a plain template in an environment below the top, with room for as many items as there is fuel
pub record Buildable (work : List ℕ) (top fuel : ℕ) (env : List ℕ) (w t : ℕ) : Type 0 where
  pub room : Room work top (node_words * fuel)
  pub plain : Plain (template_at work t)
  pub under : Under env top
  pub wrap-below : w ≤ top
  pub template-below : t ≤ top

-- what the template gives is paid for, and the lengths are right
pub record Gives (old new : List ℕ) (top fuel : ℕ) (env : List ℕ) (w t root left : ℕ) : Type 0 where
  pub paid : Paid (result_at old env w t) old new top fuel root left
  pub agrees : agrees_at old env w t ≡ true

-- there is not fuel enough, or the lengths are not right
pub record Stops (old new : List ℕ) (top fuel : ℕ) (env : List ℕ) (w t : ℕ) : Type 0 where
  pub over : agrees_at old env w t ≡ true → fuel < size (result_at old env w t)
  pub kept : take top new ≡ take top old

abbrev pub Made : (old new : List ℕ) (top fuel : ℕ) (env : List ℕ) (w t : ℕ) → Option Built → Type 0
Made old new top fuel env w t (Some b) = Gives old new top fuel env w t b.at b.left
Made old new top fuel env w t None = Stops old new top fuel env w t

-- ---- copies, of an element or of a list's elements, by what copy i is

-- the items of the first n copies, each with its pair
unfoldable pub added : (ℕ → Tree) → ℕ → ℕ
added f zero = 0
added f (suc n) = added f n + suc (size (f n))

-- a list begins with the copies, the last first; a pair of it takes half of what is paid for
pub record Turned (copy : ℕ → Tree) (old new : List ℕ) (top fuel c list left : ℕ) : Type 0 where
  pub spent : added copy c + left ≡ fuel
  pub above : top ≤ list
  pub most : list + 3 * c + node_words * left ≤ top + node_words * fuel
  pub kept : take top new ≡ take top old
  pub means : (m : ℕ) → m < c → element m (tree_at new list 0) ≡ produce (copy (c - suc m))

-- the first c elements of a list
abbrev pub elements_at : (work : List ℕ) (list w : ℕ) → ℕ → Tree
elements_at work list w i = element i (tree_at work list w)

-- there are more items in them than there is fuel
pub record ElementsUnpaid (old new : List ℕ) (top fuel list w c : ℕ) : Type 0 where
  pub over : fuel < added (elements_at old list w) c
  pub kept : take top new ≡ take top old

abbrev pub ElementsBackwards : (old new : List ℕ) (top fuel list w c : ℕ) → Option Built → Type 0
ElementsBackwards old new top fuel list w c (Some b) = Turned (elements_at old list w) old new top fuel c b.at b.left
ElementsBackwards old new top fuel list w c None = ElementsUnpaid old new top fuel list w c

-- ---- copies of an element

abbrev pub CopiesAgreed : (work env : List ℕ) (w e c : ℕ) → Type 0
CopiesAgreed work env w e c = all_below (copy_agrees work env w e) c ≡ true

-- there is not fuel enough for them, or the lengths in them are not right
pub record CopiesStop (old new : List ℕ) (top fuel : ℕ) (env : List ℕ) (w e c : ℕ) : Type 0 where
  pub over : all_below (copy_agrees old env w e) c ≡ true → fuel < added (copy_at old env w e) c
  pub kept : take top new ≡ take top old

abbrev pub Backwards : (old new : List ℕ) (top fuel : ℕ) (env : List ℕ) (w e c : ℕ) → Option Built → Type 0
Backwards old new top fuel env w e c (Some b) = Turned (copy_at old env w e) old new top fuel c b.at b.left × CopiesAgreed old env w e c
Backwards old new top fuel env w e c None = CopiesStop old new top fuel env w e c

-- the first c elements of a list, the last first, before a tail
pub record Reversed (old new : List ℕ) (top list tail c r : ℕ) : Type 0 where
  pub above : tail ≤ r
  pub most : r ≤ top + 3 * c
  pub kept : take top new ≡ take top old
  pub means : tree_at new r 0 ≡ copies (λ i. element (c - suc i) (tree_at old list 0)) 0 c (tree_at old tail 0)

-- the copies before the list that ended at the old top
pub record Before (old new : List ℕ) (top fuel : ℕ) (env : List ℕ) (w e c r left : ℕ) : Type 0 where
  pub spent : added (copy_at old env w e) c + left ≡ fuel
  pub above : top ≤ r
  pub most : r + node_words * left ≤ top + node_words * fuel
  pub kept : take top new ≡ take top old
  pub means : tree_at new r 0 ≡ copies (λ i. produce (copy_at old env w e i)) 0 c (tree_at old top 0)
  pub agreed : CopiesAgreed old env w e c

abbrev pub Copied : (old new : List ℕ) (top fuel : ℕ) (env : List ℕ) (w e c : ℕ) → Option Built → Type 0
Copied old new top fuel env w e c (Some b) = Before old new top fuel env w e c b.at b.left
Copied old new top fuel env w e c None = CopiesStop old new top fuel env w e c
