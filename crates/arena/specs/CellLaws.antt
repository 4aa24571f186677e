-- Laws of new cells.
use Rattle.std.specs.Prelude.{◌≡◌, ℕ, ◌+◌, ◌-◌, ◌<◌, ◌≤◌, List, length, take, ◌≢◌, slice_index, slice_index_or, slice_set, refl}
use Rattle.std.proofs.Common.{sym, ◌∙◌, arith, length-set, get_or-set_same, get_or-set_other}
use Rattle.std.proofs.Math.Path.{ap, ap₂}
use Rattle.std.proofs.lemmas.List.{take-set-le}
use Rattle.recipe.specs.Name.{Name, plain_name, mark_name, bind_name}
use Rattle.recipe.specs.Tree.{empty, constant, name, pair, on_names, mark}
use Rattle.recipe.specs.TreeLaws.{on_names-∘, on_names-cong}
use Rattle.arena.specs.declared.cells.Binder.{Binder}
use Rattle.arena.specs.Arena.{word_at, reference_at, step_limit, marked, own_marks, wrap_at, origin_name, node_name, name_at, constant_at, tree_at}
use Rattle.arena.specs.ArenaLaws.{word_at-in, word_at-below, falling-is, take_less, wrap_at-below, wrap_at-mark, wrap_at-join, wrap_at-binder, marked-is, Own, rebound-is}
use Rattle.arena.specs.NodeLaws.{tree_at-wrap, tree_at-below, tree_at-empty, tree_at-name, tree_at-pair, tree_at-constant}
use Rattle.arena.specs.Offsets.{OWN, HEAD, TAIL, INNER, OUTER, BOUND-PENDING, BOUND-OWN}
use Rattle.arena.specs.Cells.{Cell, Wrapped, Described, Bound, Grown}

-- ---- three words at the top

abbrev pub stored : (t : List ℕ) (top a b c : ℕ) → List ℕ
stored t top a b c = slice_set (slice_set (slice_set t top a) (top + 1) b) (top + 2) c

module _ (t : List ℕ) (top a b c : ℕ) (fits : top + 3 ≤ length t) where
  stored-kept : take top (stored t top a b c) ≡ take top t
  stored-kept = take-set-le top _ (top + 2) c (omega arith) ∙ take-set-le top _ (top + 1) b (omega arith) ∙ take-set-le top t top a (omega arith)

  stored-first : slice_index_or (stored t top a b c) top 0 ≡ a
  stored-first =
      get_or-set_other (slice_set (slice_set t top a) (top + 1) b) (top + 2) top c 0 (λ z. omega arith)
      ∙ get_or-set_other (slice_set t top a) (top + 1) top b 0 (λ z. omega arith)
      ∙ get_or-set_same t top a 0 (omega arith)

  stored-second : slice_index_or (stored t top a b c) (top + 1) 0 ≡ b
  stored-second = get_or-set_other (slice_set (slice_set t top a) (top + 1) b) (top + 2) (top + 1) c 0 (λ z. omega arith) ∙ get_or-set_same (slice_set t top a) (top + 1) b 0 (simp length-set (omega arith))

  stored-third : slice_index_or (stored t top a b c) (top + 2) 0 ≡ c
  stored-third = get_or-set_same (slice_set (slice_set t top a) (top + 1) b) (top + 2) c 0 (simp length-set (omega arith))

  stored-inside : top + 3 ≤ length (stored t top a b c)
  stored-inside = simp length-set fits

  word-stored : (k i : ℕ) → k ≤ 3 → i + k ≡ top + 3 → word_at (stored t top a b c) (top + 3) k ≡ slice_index (stored t top a b c) i
  word-stored k i h e =
      let d : top + 3 - k ≡ i = omega arith in
      word_at-in (stored t top a b c) (top + 3) k (omega arith) (omega arith) stored-inside ∙ ap (λ (j : ℕ). slice_index (stored t top a b c) j) d

  pub cell-stored : Cell a b c t (stored t top a b c) top (top + 3)
  cell-stored =
      record {
        end = refl;
        inside = stored-inside;
        kept = stored-kept;
        first = word-stored 3 top (omega arith) (omega arith) ∙ stored-first;
        second = word-stored 2 (top + 1) (omega arith) (omega arith) ∙ stored-second;
        third = word-stored 1 (top + 2) (omega arith) (omega arith) ∙ stored-third;
      }

-- ---- references

-- a word that is a reference below the cell
pub reference-is : (t : List ℕ) (at k r : ℕ) → word_at t at k ≡ r → r < at → reference_at t at k ≡ r
unfolding reference_at
reference-is t at k r e h = rw e (falling-is at r h)

-- what stood below the top means what it meant
pub wrap-kept : (old new : List ℕ) (top w : ℕ) → w ≤ top → take top new ≡ take top old → (x : Name) → wrap_at new w x ≡ wrap_at old w x
wrap-kept old new top w h e x = wrap_at-below new old w (take_less new old w top h e) x

-- ---- wraps

module _ (old new : List ℕ) (top r : ℕ) where
  pub wrapped-mark : (m parent : ℕ) → m < step_limit → parent ≤ top → Cell m parent 1 old new top r → Wrapped (λ x. mark_name m (wrap_at old parent x)) 3 old new top r
  wrapped-mark m parent l h c =
      record {
        end = c.end;
        kept = c.kept;
        means = λ x.
            wrap_at-mark new r (omega (arith, c.end)) c.third x
            ∙ ap₂ marked c.first (ap (λ (p : ℕ). wrap_at new p x) (reference-is new r INNER parent c.second (omega (arith, c.end))) ∙ wrap-kept old new top parent h c.kept x)
            ∙ marked-is m _ l;
      }

  pub wrapped-join : (outer inner : ℕ) → outer ≤ top → inner ≤ top → Cell outer inner 2 old new top r → Wrapped (λ x. wrap_at old outer (wrap_at old inner x)) 3 old new top r
  wrapped-join outer inner h l c =
      record {
        end = c.end;
        kept = c.kept;
        means = λ x.
            wrap_at-join new r (omega (arith, c.end)) c.third x
            ∙ ap₂ (λ (p q : ℕ). wrap_at new p (wrap_at new q x)) (reference-is new r OUTER outer c.first (omega (arith, c.end))) (reference-is new r INNER inner c.second (omega (arith, c.end)))
            ∙ wrap-kept old new top outer h c.kept _
            ∙ ap (wrap_at old outer) (wrap-kept old new top inner l c.kept x);
      }

-- the words of a lower part of a cell that ends further up
lower-cell : (a b c : ℕ) (old part new : List ℕ) (top at j r : ℕ) → Cell a b c old part top at → r ≡ at + j → r ≤ length new → take at new ≡ take at part
    → (word_at new r (3 + j) ≡ a) × (word_at new r (2 + j) ≡ b) × (word_at new r (1 + j) ≡ c)
lower-cell a b c old part new top at j r x e l f = (up 3 (omega arith) (omega arith) ∙ x.first, up 2 (omega arith) (omega arith) ∙ x.second, up 1 (omega arith) (omega arith) ∙ x.third)
  where
    up : (k : ℕ) → 0 < k → k ≤ 3 → word_at new r (k + j) ≡ word_at part at k
    up k p h =
        let d : r - (k + j) ≡ at - k = omega arith in
        word_at-in new r (k + j) (omega (arith, x.end)) (omega (arith, x.end)) l
        ∙ ap (λ (i : ℕ). slice_index new i) d
        ∙ sym (word_at-in new at k (omega (arith, x.end)) (omega (arith, x.end)) (omega arith))
        ∙ word_at-below new part at k p f

module _ (b : Binder) (old one two new : List ℕ) (top p q r : ℕ) (own_below : b.own ≤ top) (pending-below : b.pending ≤ top) (parent-below : b.parent ≤ top)
    (first : Cell b.own b.pending b.newest old one top p) (second : Cell b.count b.number b.binding one two p q) (third : Cell b.key b.parent 3 two new q r) where
  end_is : r ≡ top + 9
  end_is = omega (arith, first.end, second.end, third.end)

  kept-one : take p new ≡ take p one
  kept-one = take_less new two p q (omega (arith, second.end)) third.kept ∙ second.kept

  kept-all : take top new ≡ take top old
  kept-all = take_less new one top p (omega (arith, first.end)) kept-one ∙ first.kept

  own-described : (i : Name) → Described old i b → Own new r i
  unfolding own_marks
  own-described i d =
      let low = lower-cell b.own b.pending b.newest old one new top p 6 r first (omega (arith, second.end, third.end)) third.inside kept-one in
      let high = lower-cell b.count b.number b.binding one two new p q 3 r second third.end third.inside third.kept in
      record {
        number_is = high.1 ∙ d.number_is;
        binding-is = high.2 ∙ d.binding-is;
        count-is = high.0 ∙ d.count-is;
        newest-is = low.2 ∙ d.newest-is;
        marks-are =
            ap₂ (λ (u v : ℕ). (wrap_at new u (wrap_at new v (plain_name 0 0))).marks)
            (reference-is new r BOUND-PENDING b.pending low.1 (omega (arith, end_is)))
            (reference-is new r BOUND-OWN b.own low.0 (omega (arith, end_is)))
            ∙ ap (λ (x : Name). x.marks) (wrap-kept old new top b.pending pending-below kept-all _ ∙ ap (wrap_at old b.pending) (wrap-kept old new top b.own own_below kept-all _))
            ∙ d.marks-are;
      }

  pub bound-cells : Bound b old new top r
  bound-cells =
      record {
        end = end_is;
        kept = kept-all;
        means = λ i to d e x.
            wrap_at-binder new r (omega (arith, end_is)) third.third x
            ∙ rebound-is new r i to _ (own-described i d) (third.first ∙ e)
            ∙ ap (bind_name i to)
            (ap (λ (u : ℕ). wrap_at new u x) (reference-is new r INNER b.parent third.second (omega (arith, end_is)))
            ∙ wrap-kept old new top b.parent parent-below kept-all x);
      }

-- ---- nodes

pub tree-kept : (old new : List ℕ) (top node w : ℕ) → node ≤ top → w ≤ top → take top new ≡ take top old → tree_at new node w ≡ tree_at old node w
tree-kept old new top node w h l e = tree_at-below new old node w (take_less new old node top h e) (take_less new old w top l e)

module _ (old new : List ℕ) (top r : ℕ) where
  pub grown-pair : (head tail : ℕ) → head ≤ top → tail ≤ top → Cell 4 head tail old new top r → Grown (λ w. pair (tree_at old head w) (tree_at old tail w)) old new top r
  grown-pair head tail h l c =
      record {
        end = c.end;
        kept = c.kept;
        means = λ w p.
            tree_at-pair new r w c.first
            ∙ ap₂ pair
            (ap (λ (n : ℕ). tree_at new n w) (reference-is new r HEAD head c.second (omega (arith, c.end))) ∙ tree-kept old new top head w h p c.kept)
            (ap (λ (n : ℕ). tree_at new n w) (reference-is new r TAIL tail c.third (omega (arith, c.end))) ∙ tree-kept old new top tail w l p c.kept);
      }

  pub grown-name : (origin own : ℕ) → own ≤ top → Cell 3 origin own old new top r → Grown (λ w. name (wrap_at old w (wrap_at old own (origin_name origin)))) old new top r
  unfolding name_at node_name
  grown-name origin own h c =
      record {
        end = c.end;
        kept = c.kept;
        means = λ w p.
            tree_at-name new r w c.first
            ∙ ap name
            (ap₂ (λ (u o : ℕ). wrap_at new w (wrap_at new u (origin_name o))) (reference-is new r OWN own c.third (omega (arith, c.end))) c.second
            ∙ wrap-kept old new top w p c.kept _
            ∙ ap (wrap_at old w) (wrap-kept old new top own h c.kept _));
      }

  pub grown-empty : (a b : ℕ) → Cell 0 a b old new top r → Grown (λ w. empty) old new top r
  grown-empty a b c = record { end = c.end; kept = c.kept; means = λ w p. tree_at-empty new r w c.first }

  pub grown-constant : (k a b : ℕ) → (k ≢ 0) → (k ≢ 3) → (k ≢ 4) → Cell k a b old new top r → Grown (λ w. constant (record { kind = k; first = a; second = b })) old new top r
  unfolding constant_at
  grown-constant k a b n3 n4 n5 c =
      record {
        end = c.end;
        kept = c.kept;
        means = λ w p.
            tree_at-constant new r w (λ z. n3 (sym c.first ∙ z)) (λ z. n4 (sym c.first ∙ z)) (λ z. n5 (sym c.first ∙ z))
            ∙ rw (c.first, c.second, c.third);
      }

-- ---- trees under a new wrap: what waits is carried through the tree under the parent

module _ (old new : List ℕ) (top r node : ℕ) (below : node ≤ top) (kept : take top new ≡ take top old) where
  pub tree-after : (f : Name → Name) (v : ℕ) → ((x : Name) → wrap_at new r x ≡ f (wrap_at old v x)) → tree_at new node r ≡ on_names f (tree_at old node v)
  tree-after f v e =
      tree_at-wrap new node r
      ∙ on_names-cong _ _ e _
      ∙ ap (on_names (λ x. f (wrap_at old v x))) (tree-kept old new top node 0 below (omega arith) kept)
      ∙ sym (on_names-∘ f (wrap_at old v) _)
      ∙ ap (on_names f) (sym (tree_at-wrap old node v))

  pub tree-mark : (m parent : ℕ) → Wrapped (λ x. mark_name m (wrap_at old parent x)) 3 old new top r → tree_at new node r ≡ mark m (tree_at old node parent)
  unfolding mark
  tree-mark m parent c = tree-after (mark_name m) parent c.means
