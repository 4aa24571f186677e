-- What the constructors of cells leave: the new cell above the old top, its meaning, and all below as it was.
use Rattle.std.specs.Prelude.{◌≡◌, ℕ, ◌+◌, ◌^◌, ◌<◌, ◌≤◌, List, length, take}
use Rattle.std.proofs.Math.Option.{some}
use Rattle.recipe.specs.Name.{Binding, Name, binding_key, bind_name, plain_name}
use Rattle.recipe.specs.Tree.{Tree}
use Rattle.arena.specs.declared.cells.Binder.{Binder}
use Rattle.arena.specs.Arena.{word_at, wrap_at, newest, name_at, tree_at}

-- room for a cell of n words: the budget of ground 9 gives it, and references fit a word
pub record Room (work : List ℕ) (top n : ℕ) : Type 0 where
  pub fits : top + n ≤ length work
  pub small : top + n < 2 ^ 32

-- three words at the top
pub record Cell (a b c : ℕ) (old new : List ℕ) (top r : ℕ) : Type 0 where
  pub end : r ≡ top + 3
  pub inside : r ≤ length new
  pub kept : take top new ≡ take top old
  pub first : word_at new r 3 ≡ a
  pub second : word_at new r 2 ≡ b
  pub third : word_at new r 1 ≡ c

-- a new wrap of n words that means f
pub record Wrapped (f : Name → Name) (n : ℕ) (old new : List ℕ) (top r : ℕ) : Type 0 where
  pub end : r ≡ top + n
  pub kept : take top new ≡ take top old
  pub means : (x : Name) → wrap_at new r x ≡ f x

-- a binder is given its own name by number, key, count of marks, newest mark and the two wraps that its marks come from
pub record Described (work : List ℕ) (i : Name) (b : Binder) : Type 0 where
  pub number_is : b.number ≡ i.number
  pub binding-is : b.binding ≡ binding_key i.binding
  pub count-is : b.count ≡ length i.marks
  pub newest-is : b.newest ≡ newest i.marks
  pub marks-are : (wrap_at work b.pending (wrap_at work b.own (plain_name 0 0))).marks ≡ i.marks

-- it binds that name, whatever the binding that the new key stands for
pub record Bound (binder : Binder) (old new : List ℕ) (top r : ℕ) : Type 0 where
  pub end : r ≡ top + 9
  pub kept : take top new ≡ take top old
  pub means : (i : Name) (b : Binding) → Described old i binder → binder.key ≡ binding_key (some b)
      → (x : Name) → wrap_at new r x ≡ bind_name i b (wrap_at old binder.parent x)

-- it binds the name of a node under a wrap
pub record Binds (node w key parent : ℕ) (old new : List ℕ) (top r : ℕ) : Type 0 where
  pub end : r ≡ top + 9
  pub kept : take top new ≡ take top old
  pub means : (b : Binding) → key ≡ binding_key (some b) → (x : Name) → wrap_at new r x ≡ bind_name (name_at old node w) b (wrap_at old parent x)

-- a new node of a tree, under any wrap that waits on it
pub record Grown (tree : ℕ → Tree) (old new : List ℕ) (top r : ℕ) : Type 0 where
  pub end : r ≡ top + 3
  pub kept : take top new ≡ take top old
  pub means : (w : ℕ) → w ≤ top → tree_at new r w ≡ tree w
