-- The checker's walk in its own terms: flags, a place in the words, the variables bound so far and the terms left.
use Rattle.std.specs.Prelude.{◌≡◌, Bool, List, ℕ, ◌+◌, ◌-◌, ◌≤◌, ◌<◌, length, drop, Some, None}
use Rattle.std.proofs.Common.{sym, subst, ◌∙◌, arith}
use Rattle.std.proofs.Math.Path.{ap, refl}
use Rattle.words.specs.ListLaws.{rest-is}
use Rattle.std.specs.declared.option.Option.{Option}
use Rattle.core_term.specs.declared.nodes.Node.{Node}
use Rattle.core_term.specs.declared.nodes.Shape.{Shape}
use Rattle.core_term.specs.declared.term.Checked.{Checked}
use Rattle.core_term.specs.Node.{node_at, missing}
use Rattle.core_term.specs.NodeLaws.{node-some}
use Rattle.core_term.specs.Code.Opened.{node_in, shape_in, Shaped, OpenedAs}
use Rattle.core_term.specs.Code.OpenedLaws.{shaped-opened}
use Rattle.core_term.specs.Every.{Asked}
use Rattle.core_term.specs.Code.Window.{marked, window, head_of}
use Rattle.core_term.specs.Code.WindowLaws.{marked-undo, marked-clear, allowed-node}
use Rattle.core_term.specs.Code.Shape.{Whole, NoWhole, Row, NoRow, InRow, Kept, Clear}
use Rattle.core_term.specs.Code.Shape as S
use Rattle.core_term.proofs.OfCode.ShapeLaws.{Found, found, not_found, row-whole, row-none, row-end, row-stops, next-inside, row_more, row-less}
use Rattle.core_term.specs.Code.Walk.{rest}

-- what is said of a known answer
module _ (A : Asked (List ℕ)) (q : Bool) (e : List ℕ) (b : ℕ) (ws : List ℕ) (r : Option Checked) (s : S.Shaped A q e b ws r) where
  pub shaped-term : (c : Checked) → r ≡ Some c → Whole A q e b ws c.used c.bound
  shaped-term c h = subst (λ (z : Option Checked). S.Shaped A q e b ws z) h s

  pub shaped-none : r ≡ None → NoWhole A q e b ws
  shaped-none h = subst (λ (z : Option Checked). S.Shaped A q e b ws z) h s

-- no answer, where there is none
module _ (r : Option Checked) (h : r ≡ None) (A : Asked (List ℕ)) (flags flags' : List ℕ) where
  pub none-shaped : (q : Bool) (e : List ℕ) (b : ℕ) (ws : List ℕ) → NoWhole A q e b ws → S.Shaped A q e b ws r × Kept r flags flags'
  none-shaped q e b ws n = rw h (n, tt)

  pub none-row : (q : Bool) (e : List ℕ) (b : ℕ) (ws : List ℕ) (at n : ℕ) → NoRow A q e b ws at n → InRow A q e b ws at n r × Kept r flags flags'
  none-row q e b ws at n k = rw h (k, tt)

pub kept-term : (r : Option Checked) (flags flags' : List ℕ) (c : Checked) → Kept r flags flags' → r ≡ Some c → flags' ≡ flags
kept-term r flags flags' c k h = subst (λ (z : Option Checked). Kept z flags flags') h k

module _ (operations : ℕ) (name_good : ℕ → Bool) (base : ℕ) where
  abbrev pub Asks : Asked (List ℕ)
  Asks = window operations name_good base

  -- ---- a node, by what was opened

  -- there is none
  pub walk-missing : (q : Bool) (e : List ℕ) (b : ℕ) (ws : List ℕ) → node_at ws ≡ missing → NoWhole Asks q e b ws
  unfolding head_of
  walk-missing q e b ws h = not_found Asks (allowed-node operations name_good base) q e b ws (rw h refl)

  module _ (q : Bool) (e : List ℕ) (b : ℕ) (ws : List ℕ) (n : Node) (o : OpenedAs ws n) where
    -- it may not stand there
    pub walk_none : None ≡ head_of Asks q e b (node_in ws n) → NoWhole Asks q e b ws
    walk_none h = not_found Asks (allowed-node operations name_good base) q e b ws (h ∙ ap (head_of Asks q e b) o.is)

    module _ (within : ℕ) (h : Some within ≡ head_of Asks q e b (node_in ws n)) (s : Shape) (i : s ≡ shape_in n) where
      it : Found Asks (allowed-node operations name_good base) q e b ws within
      it = found Asks (allowed-node operations name_good base) q e b ws within (h ∙ ap (head_of Asks q e b) o.is)

      shape : Shaped it.it s
      shape = shaped-opened ws n o s i it.it it.left it.is

      pub walk-within : within ≡ b + s.names
      walk-within = omega (arith, it.then, shape.names)

      pub walk-own : (1 ≤ s.own) × (s.own ≤ length ws)
      walk-own = (omega (arith, shape.own, node-some it.it), subst (λ (z : Shape). z.own ≤ length ws) (sym i) o.room)

      -- its parts are said of the flags that its variables set
      entered : marked base b s.names 1 e ≡ Asks.enter e b it.it
      unfolding window
      entered = ap (λ (j : ℕ). marked base b j 1 e) shape.names

      pub walk-parts : (r : Option Checked) → InRow Asks s.quoted (marked base b s.names 1 e) within ws s.own s.parts r → S.Shaped Asks q e b ws r
      walk-parts (Some c) k =
          row-whole Asks (allowed-node operations name_good base) q e b ws within it s shape c.used c.bound
          (subst (λ (f : List ℕ). Row Asks s.quoted f within ws s.own s.parts c.used c.bound) entered k)
      walk-parts None k =
          row-none Asks (allowed-node operations name_good base) q e b ws within it s shape
          (subst (λ (f : List ℕ). NoRow Asks s.quoted f within ws s.own s.parts) entered k)

      -- it has none
      pub walk-leaf : s.parts ≡ 0 → Whole Asks q e b ws s.own within
      walk-leaf z =
          let f = marked base b s.names 1 e in
          walk-parts (Some (record { used = s.own; bound = within }))
          (subst (λ (j : ℕ). Row Asks s.quoted f within ws s.own j s.own within) (sym z)
          (row-end Asks (allowed-node operations name_good base) s.quoted f ws within s.own))

  -- ---- terms in a row

  module _ (d : Bool) (set : List ℕ) (first : ℕ) (ws : List ℕ) (own n : ℕ) where
    -- a row from here on is the whole row
    pub record Walking (flags : List ℕ) (c at left : ℕ) : Type 0 where
      pub same : flags ≡ set
      pub clear : Clear base c flags
      pub inside : at ≤ length ws
      pub begun : 1 ≤ at
      pub whole : (used after : ℕ) → Row Asks d set c ws at left used after → Row Asks d set first ws own n used after
      pub none : NoRow Asks d set c ws at left → NoRow Asks d set first ws own n

    pub walk_start : (flags : List ℕ) → flags ≡ set → Clear base first flags → own ≤ length ws → 1 ≤ own → Walking flags first own n
    walk_start flags e k l m = record { same = e; clear = k; inside = l; begun = m; whole = λ used after r. r; none = λ r. r }

    module _ (flags : List ℕ) (c at left : ℕ) (w : Walking flags c at left) where
      pub walk_end : left ≡ 0 → Row Asks d set first ws own n at c
      walk_end h = w.whole at c (subst (λ (i : ℕ). Row Asks d set c ws at i at c) (sym h) (row-end Asks (allowed-node operations name_good base) d set ws c at))

      pub walk-stop : 0 < left → NoWhole Asks d flags c (rest at ws) → NoRow Asks d set first ws own n
      walk-stop h k =
          w.none (row-stops Asks (allowed-node operations name_good base) d set ws c at left h
          (subst (λ (z : List ℕ). NoWhole Asks d set c z) (rest-is at ws) (subst (λ (f : List ℕ). NoWhole Asks d f c (rest at ws)) w.same k)))

      module _ (used after : ℕ) (t : Whole Asks d flags c (rest at ws) used after) (h : 0 < left) where
        part : Whole Asks d set c (drop at ws) used after
        part = subst (λ (z : List ℕ). Whole Asks d set c z used after) (rest-is at ws) (subst (λ (f : List ℕ). Whole Asks d f c (rest at ws) used after) w.same t)

        pub walk-next : at + used ≤ length ws
        walk-next = next-inside Asks (allowed-node operations name_good base) d set ws c at left h used after part w.inside

        pub walk-on : (flags' : List ℕ) → flags' ≡ flags → Walking flags' after (at + used) (left - 1)
        walk-on flags' i =
            record {
              same = i ∙ w.same;
              clear = subst (λ (z : List ℕ). Clear base after z) (sym i) (λ k l m. w.clear k (omega (arith, t.bound)) m);
              inside = walk-next;
              begun = omega (arith, w.begun);
              whole = λ end last r. w.whole end last (row_more Asks (allowed-node operations name_good base) d set ws c at left h used after part end last r);
              none = λ r. w.none (row-less Asks (allowed-node operations name_good base) d set ws c at left h used after part r);
            }

-- ---- the flags that a lambda sets, and clears again

module _ (base b within n : ℕ) (e set : List ℕ) (h : within ≡ b + n) (k : Clear base b e) (m : set ≡ marked base b (within - b) 1 e) where
  set_is : set ≡ marked base b n 1 e
  set_is = let i : within - b ≡ n = omega arith in m ∙ ap (λ (j : ℕ). marked base b j 1 e) i

  pub set-row : (A : Asked (List ℕ)) (d : Bool) (c : ℕ) (ws : List ℕ) (at left : ℕ) (r : Option Checked) → InRow A d set c ws at left r → InRow A d (marked base b n 1 e) c ws at left r
  set-row A d c ws at left r k = subst (λ (f : List ℕ). InRow A d f c ws at left r) set_is k

  pub set-clear : Clear base within set
  set-clear = rw (h, set_is) (marked-clear base b n e k)

  pub set-undone : (flags flags' : List ℕ) → flags ≡ set → flags' ≡ marked base b (within - b) 0 flags → flags' ≡ e
  set-undone flags flags' i j = j ∙ ap (marked base b (within - b) 0) (i ∙ m) ∙ marked-undo base b (within - b) e k
