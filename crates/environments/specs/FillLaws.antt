-- Laws of filling slots from a use, one for each way through the code.
use Rattle.std.specs.Prelude.{◌≡◌, ℕ, suc, ◌+◌, ◌*◌, ◌^◌, ◌<◌, ◌≤◌, true, false, List, [], ◌∷◌, length, take, ◌==◌, ◌≢◌, slice_set}
use Rattle.std.proofs.Math.Path.{refl, sym, ap, ap₂}
use Rattle.std.proofs.Common.{subst, ◌∙◌, length-set, get_or-set_same}
use Rattle.std.proofs.lemmas.Bool.{false≢true}
use native.Mathlib.Omega.{arith}
use Rattle.std.proofs.Math.Seq.{get_or-set_other, take-set-le}
use borrow.Author.Tests.{eqb-true, eqb-false}
use Rattle.words.specs.ListLaws.{either}
use Rattle.recipe.specs.Tree.{Tree, element, tail, past}
use Rattle.recipe.specs.TreeLaws.{element-past}
use Rattle.expansion.specs.Rules.{Pattern, pair_p, ellipsis_p}
use Rattle.expansion.specs.Match.{share, holds}
use Rattle.arena.specs.Arena.{word_at, reference_at, tree_at}
use Rattle.arena.specs.ArenaLaws.{take_less, reference_at-most}
use Rattle.arena.specs.CellLaws.{tree-kept}
use Rattle.arena.specs.Cells.{Room}
use Rattle.arena.specs.Lists.{Means}
use Rattle.rule_cells.specs.Cells.{pattern_at}
use Rattle.rule_cells.specs.CellLaws.{pattern_at-below}
use Rattle.environments.specs.declared.fill.Free.{Free}
use Rattle.environments.specs.Parts.{Shares}
use Rattle.environments.specs.ShareLaws.{past-tail}
use Rattle.environments.specs.PatternCells.{variable-is, other-is, pair_is, ellipsis-is}
use Rattle.environments.specs.Taken.{Taken, many, takes}
use Rattle.environments.specs.Blocks.{slots, added, blocks, columns, shift, word_in, Stands, RowStands, Same}
use Rattle.environments.specs.BlockLaws.{words-kept, slots-variable, slots-ellipsis, slots-pair, Within, columns-within, rows-less, added-less, stands-kept, row_kept, row-shift, other-holds}
use Rattle.environments.specs.Fill.{Fillable, Filled, Openable, Opened, RowsFillable, RowsFilled, BlockFilled, Filling}

-- ---- what is below a bound up to which words are kept

module _ (old new : List ℕ) (bound : ℕ) (kept : take bound new ≡ take bound old) where
  pub pattern-kept : (q : ℕ) → q ≤ bound → pattern_at new q ≡ pattern_at old q
  pattern-kept q h = pattern_at-below new old q (take_less new old q bound h kept)

-- ---- a cell without parts

module _ (old : List ℕ) (p u : ℕ) (x : Free) (tag : ℕ) (tag_is : tag ≡ word_at old p 1) (ok : Fillable old p u x) where
  module _ (e : tag ≡ 1) where
    pub row_inside : x.slot < length old
    row_inside = omega (arith, ok.row, ok.room.fits, slots-variable old p tag tag_is e)

    pub variable-small : x.slot + 1 < 2 ^ 32
    variable-small = omega (arith, ok.row, ok.room.small, slots-variable old p tag tag_is e)

    pub filled-variable : Filled old (slice_set old x.slot u) p u x (record { slot = x.slot + 1; top = x.top })
    unfolding blocks columns takes RowStands Stands
    filled-variable =
        let kept : take x.slot (slice_set old x.slot u) ≡ take x.slot old = take-set-le x.slot old x.slot u (omega arith) in
        let here : word_in (slice_set old x.slot u) (x.slot + 0) ≡ u = (let z : x.slot + 0 ≡ x.slot = omega arith in rw z (get_or-set_same old x.slot u 0 row_inside)) in
        record {
          slot_is = omega (arith, slots-variable old p tag tag_is e);
          top-is = λ w h. rw (variable-is old p tag tag_is e) (omega arith);
          before = kept;
          between = λ i l h. get_or-set_other old x.slot i u 0 (omega arith);
          stands = λ w k h held.
              rw (variable-is old p tag tag_is e, here) (omega arith, tree-kept old (slice_set old x.slot u) x.slot u w ok.use-below h kept);
        }

  module _ (a : tag ≡ 1 → ⊥) (b : tag ≡ 6 → ⊥) (c : tag ≡ 7 → ⊥) where
    abbrev bare : (q : Pattern) → Type 0
    bare q = (slots q ≡ 0) × ((t : Tree) → blocks q t ≡ 0) × ((k : ℕ) → holds k q ≡ false)

    pub filled_none : Filled old old p u x x
    unfolding slots blocks holds
    filled_none =
        let n : bare (pattern_at old p) =
        other-is old p tag tag_is bare (λ y. (refl, λ t. refl, λ k. refl)) (refl, λ t. refl, λ k. refl) (λ y. (refl, λ t. refl, λ k. refl)) (refl, λ t. refl, λ k. refl) a b c in
        record {
          slot_is = omega (arith, n.0);
          top-is = λ w h. omega (arith, n.1 (tree_at old u w));
          before = refl;
          between = λ i l h. refl;
          stands = λ w k h held. absurd (false≢true (sym (n.2 k) ∙ held));
        }

  -- ---- a pair: its head, then its rest

  module _ (head rest first later : ℕ) (head-is : head ≡ reference_at old p 3) (rest-is : rest ≡ reference_at old p 2) where
    head-low : head ≤ x.slot
    head-low = omega (arith, reference_at-most old p 3, ok.pattern-below)

    rest-low : rest ≤ x.slot
    rest-low = omega (arith, reference_at-most old p 2, ok.pattern-below)

    module _ (e : tag ≡ 6) (f : Means old u first (element 0)) (g : Means old u later tail) where
      is-pair : pattern_at old p ≡ pair_p (pattern_at old head) (pattern_at old rest)
      is-pair = pair_is old p tag tag_is head rest head-is rest-is e

      both : slots (pattern_at old p) ≡ slots (pattern_at old head) + slots (pattern_at old rest)
      both = slots-pair old p tag tag_is rest rest-is head head-is e

      pair-blocks : (w : ℕ) → blocks (pattern_at old p) (tree_at old u w) ≡ blocks (pattern_at old head) (tree_at old first w) + blocks (pattern_at old rest) (tree_at old later w)
      unfolding blocks
      pair-blocks w = rw (is-pair, f.is w, g.is w) refl

      pub fillable-head : Fillable old head first x
      fillable-head =
          record {
            wrap = ok.wrap;
            pattern-below = head-low;
            use-below = omega (arith, f.low, ok.use-below);
            wrap-below = ok.wrap-below;
            row = omega (arith, both, ok.row);
            room = record { fits = omega (arith, ok.room.fits, pair-blocks ok.wrap); small = omega (arith, ok.room.small, pair-blocks ok.wrap) };
          }

      module _ (mid : List ℕ) (y : Free) (long : length mid ≡ length old) (a : Filled old mid head first x y) where
        rest-same : pattern_at mid rest ≡ pattern_at old rest
        rest-same = pattern-kept old mid x.slot a.before rest rest-low

        later_same : (w : ℕ) → w ≤ x.slot → tree_at mid later w ≡ tree_at old later w
        later_same w h = tree-kept old mid x.slot later w (omega (arith, g.low, ok.use-below)) h a.before

        rest-blocks : (w : ℕ) → w ≤ x.slot → blocks (pattern_at mid rest) (tree_at mid later w) ≡ blocks (pattern_at old rest) (tree_at old later w)
        rest-blocks w h = ap₂ blocks rest-same (later_same w h)

        -- the rest's blocks begin where the head's end
        rest-top : (w : ℕ) → w ≤ x.slot → y.top + blocks (pattern_at mid rest) (tree_at mid later w) ≡ x.top + blocks (pattern_at old p) (tree_at old u w)
        rest-top w h = omega (arith, a.top-is w h, rest-blocks w h, pair-blocks w)

        rest-slots : y.slot + slots (pattern_at mid rest) ≡ x.slot + slots (pattern_at old p)
        rest-slots = omega (arith, a.slot_is, ap slots rest-same, both)

        pub fillable-rest : Fillable mid rest later y
        fillable-rest =
            let top = rest-top ok.wrap ok.wrap-below in
            record {
              wrap = ok.wrap;
              pattern-below = omega (arith, rest-low, a.slot_is);
              use-below = omega (arith, g.low, ok.use-below, a.slot_is);
              wrap-below = omega (arith, ok.wrap-below, a.slot_is);
              row = omega (arith, rest-slots, ok.row, a.top-is ok.wrap ok.wrap-below);
              room = record { fits = omega (arith, ok.room.fits, top, long); small = omega (arith, ok.room.small, top) };
            }

        module _ (new : List ℕ) (z : Free) (b : Filled mid new rest later y z) where
          slot-end : z.slot ≡ x.slot + slots (pattern_at old p)
          slot-end = omega (arith, b.slot_is, rest-slots)

          top-end : (w : ℕ) → w ≤ x.slot → z.top ≡ x.top + blocks (pattern_at old p) (tree_at old u w)
          top-end w h = omega (arith, b.top-is w (omega (arith, a.slot_is)), rest-top w h)

          -- what the head has filled is left by the rest
          head-stands : (w k : ℕ) → w ≤ x.slot → holds k (pattern_at old head) ≡ true
              → RowStands new u x.top z.top w x.slot (columns (pattern_at old head) k) (takes (pattern_at old head) (tree_at old first w) k)
          head-stands w k h held =
              let wide : z.slot ≤ x.top = omega (arith, slot-end, ok.row) in
              let high : y.top ≤ z.top = omega (arith, b.top-is w (omega (arith, a.slot_is))) in
              let kept : (v : ℕ) → v ≤ first → tree_at new v w ≡ tree_at mid v w =
              λ v l. tree-kept mid new y.slot v w (omega (arith, f.low, ok.use-below, a.slot_is)) (omega (arith, a.slot_is)) b.before in
              row_kept mid new first x.top y.top w u x.top z.top f.low (omega arith) high kept (λ i l m. b.between i (omega arith) m) x.slot _ (slots (pattern_at old head)) _
              (columns-within (pattern_at old head) k held) (λ i l m. words-kept mid new y.slot b.before i (omega (arith, a.slot_is))) (a.stands w k h held)

          rest-stands : (w k : ℕ) → w ≤ x.slot → holds k (pattern_at old rest) ≡ true
              → RowStands new u x.top z.top w x.slot (shift (slots (pattern_at old head)) (columns (pattern_at old rest) k)) (takes (pattern_at old rest) (tree_at old later w) k)
          rest-stands w k h held =
              let s = b.stands w k (omega (arith, a.slot_is)) (ap (holds k) rest-same ∙ held) in
              let s2 : RowStands new later y.top z.top w (x.slot + slots (pattern_at old head)) (columns (pattern_at old rest) k) (takes (pattern_at old rest) (tree_at old later w) k) =
              rw (rest-same, later_same w h, a.slot_is) at s in
              row-shift new u x.top z.top w x.slot (slots (pattern_at old head)) (columns (pattern_at old rest) k) _
              (row_kept new new later y.top z.top w u x.top z.top g.low (omega (arith, a.top-is w h)) (omega arith) (λ v l. refl) (λ i l m. refl) _ _ (slots (pattern_at old rest)) _ (columns-within (pattern_at old rest) k held) (λ i l m. refl) s2)

          pub filled-pair : Filled old new p u x z
          unfolding holds columns takes
          filled-pair =
              record {
                slot_is = slot-end;
                top-is = top-end;
                before = take_less new mid x.slot y.slot (omega (arith, a.slot_is)) b.before ∙ a.before;
                between = λ i l m. b.between i l (omega (arith, a.top-is ok.wrap ok.wrap-below)) ∙ a.between i (omega (arith, b.slot_is)) m;
                stands = λ w k h held.
                    rw is-pair
                    (either (holds k (pattern_at old head))
                    (λ t. rw (t, ← f.is w) (head-stands w k h t))
                    (λ t. rw (t, ← g.is w) (rest-stands w k h (other-holds (holds k (pattern_at old head)) (holds k (pattern_at old rest)) (rw is-pair at held) t))));
              }

-- ---- a block's first two words

module _ (old : List ℕ) (p u top c : ℕ) (ok : Openable old p u top) (shares : Shares old p u c) where
  pub opened-none : c ≡ 0 → Opened old (slice_set old top 0) p u top 0 (top + 2)
  opened-none e =
      record {
        shares = λ w. sym e ∙ shares w;
        count-is = get_or-set_same old top 0 0 (omega (arith, ok.room.fits));
        width_is = λ h. absurd (h refl);
        end_is = omega arith;
        kept = take-set-le top old top 0 (omega arith);
      }

  module _ (element : ℕ) (some : c ≡ 0 → ⊥) (element-is : element ≡ reference_at old p 3) where
    abbrev n : ℕ
    n = slots (pattern_at old element)

    rows_fit : Room old top (2 + c * n)
    rows_fit =
        let s = shares ok.wrap in
        record { fits = rw (s, element-is) ok.room.fits; small = rw (s, element-is) ok.room.small }

    pub opened-slots : 0 + n < 2 ^ 32
    opened-slots = omega (arith, rows-less 0 c n (omega arith), rows_fit.small)

    module _ (width : ℕ) (width_is : width ≡ 0 + n) where
      same_width : width ≡ n
      same_width = omega arith

      pub opened-room : Room old top (2 + c * width)
      opened-room = rw same_width rows_fit

      pub opened_some : Opened old (slice_set (slice_set old top c) (top + 1) width) p u top c (top + 2 + c * width)
      opened_some =
          record {
            shares = shares;
            count-is = get_or-set_other (slice_set old top c) (top + 1) top width 0 (omega arith) ∙ get_or-set_same old top c 0 (omega (arith, rows_fit.fits));
            width_is = λ h. get_or-set_same (slice_set old top c) (top + 1) width 0 (simp length-set (omega (arith, rows_fit.fits))) ∙ same_width ∙ ap (λ (q : ℕ). slots (pattern_at old q)) element-is;
            end_is = rw (same_width, element-is) refl;
            kept = take-set-le top (slice_set old top c) (top + 1) width (omega arith) ∙ take-set-le top old top c (omega arith);
          }

-- ---- rows

pub rows-begin : (old : List ℕ) (p u : ℕ) (x : Free) → RowsFilled old old p u 0 x u x.top
unfolding past added
rows-begin old p u x =
    record {
      node-is = λ w h. refl;
      low = omega arith;
      end_is = λ w h. omega arith;
      before = refl;
      stands = λ w k i h held l. absurd (omega arith);
    }

module _ (old : List ℕ) (p u c : ℕ) (x : Free) (ok : RowsFillable old p u c x) (cur : List ℕ) (long : length cur ≡ length old) (i node end at : ℕ) (inv : RowsFilled old cur p u i x node end) (at-is : at ≡ x.slot + i * slots (pattern_at old p)) (less : i < c) (first later : ℕ)
    (f : Means cur node first (element 0)) (g : Means cur node later tail) where
  abbrev P : Pattern
  P = pattern_at old p

  same-pattern : pattern_at cur p ≡ P
  same-pattern = pattern-kept old cur x.slot inv.before p ok.pattern-below

  node-same : (w : ℕ) → w ≤ x.slot → tree_at cur node w ≡ past i (tree_at old u w)
  node-same w h = tree-kept old cur x.slot node w (omega (arith, inv.low, ok.use-below)) h inv.before ∙ inv.node-is w h

  first-is : (w : ℕ) → w ≤ x.slot → tree_at cur first w ≡ element i (tree_at old u w)
  first-is w h = f.is w ∙ ap (element 0) (node-same w h) ∙ element-past i (tree_at old u w)

  first-low : first ≤ u
  first-low = omega (arith, f.low, inv.low)

  row-less : i * slots P + slots P ≤ c * slots P
  row-less = rows-less i c (slots P) less

  next-end : (w : ℕ) → w ≤ x.slot → end + blocks (pattern_at cur p) (tree_at cur first w) ≡ x.top + added (blocks P) (suc i) (tree_at old u w)
  unfolding added
  next-end w h = omega (arith, inv.end_is w h, ap₂ blocks same-pattern (first-is w h))

  pub fillable-row : Fillable cur p first (record { slot = at; top = end })
  fillable-row =
      let e = next-end ok.wrap ok.wrap-below in
      let m = added-less (blocks P) (tree_at old u ok.wrap) (suc i) c less in
      record {
        wrap = ok.wrap;
        pattern-below = omega (arith, ok.pattern-below);
        use-below = omega (arith, first-low, ok.use-below);
        wrap-below = omega (arith, ok.wrap-below);
        row = omega (arith, ap slots same-pattern, row-less, ok.row, inv.end_is ok.wrap ok.wrap-below);
        room = record { fits = omega (arith, ok.room.fits, e, m, long); small = omega (arith, ok.room.small, e, m) };
      }

  module _ (new : List ℕ) (y : Free) (b : Filled cur new p first (record { slot = at; top = end }) y) where
    pub row-end : y.slot ≡ x.slot + suc i * slots P
    row-end = omega (arith, b.slot_is, ap slots same-pattern, at-is)

    upper : (w : ℕ) → w ≤ x.slot → y.top ≡ x.top + added (blocks P) (suc i) (tree_at old u w)
    upper w h = b.top-is w (omega arith) ∙ next-end w h

    row_here : (w k : ℕ) → w ≤ x.slot → holds k P ≡ true → RowStands new u x.top y.top w (x.slot + i * slots P) (columns P k) (takes P (element i (tree_at old u w)) k)
    row_here w k h held =
        let s = b.stands w k (omega arith) (ap (holds k) same-pattern ∙ held) in
        let s2 : RowStands new first end y.top w (x.slot + i * slots P) (columns P k) (takes P (element i (tree_at old u w)) k) = rw (same-pattern, first-is w h, at-is) at s in
        row_kept new new first end y.top w u x.top y.top first-low (omega (arith, inv.end_is w h)) (omega arith) (λ v l. refl) (λ v l m. refl) _ _ (slots P) _ (columns-within P k held) (λ v l m. refl) s2

    row_before : (w k j : ℕ) → w ≤ x.slot → holds k P ≡ true → j < i → RowStands new u x.top y.top w (x.slot + j * slots P) (columns P k) (takes P (element j (tree_at old u w)) k)
    row_before w k j h held l =
        let kept : (v : ℕ) → v ≤ u → tree_at new v w ≡ tree_at cur v w = λ v m. tree-kept cur new at v w (omega (arith, ok.use-below)) (omega arith) b.before in
        let wide : y.slot ≤ x.top = omega (arith, row-end, row-less, ok.row) in
        let high : end ≤ y.top = omega (arith, b.top-is w (omega arith)) in
        let rows : j * slots P + slots P ≤ i * slots P = rows-less j i (slots P) l in
        row_kept cur new u x.top end w u x.top y.top (omega arith) (omega arith) high kept (λ v m n. b.between v (omega arith) n) _ _ (slots P) _
        (columns-within P k held) (λ v m n. words-kept cur new at b.before v (omega arith)) (inv.stands w k j h held l)

    pub rows_more : RowsFilled old new p u (suc i) x later y.top
    unfolding past
    rows_more =
        record {
          node-is = λ w h.
              sym (tree-kept old cur x.slot later w (omega (arith, g.low, inv.low, ok.use-below)) h inv.before)
              ∙ g.is w ∙ ap tail (node-same w h) ∙ sym (past-tail i (tree_at old u w));
          low = omega (arith, g.low, inv.low);
          end_is = upper;
          before = take_less new cur x.slot at (omega arith) b.before ∙ inv.before;
          stands = λ w k j h held l.
              either (j == i)
              (λ e. let s : j ≡ i = eqb-true j i e in rw s (row_here w k h held))
              (λ e. let d : j ≡ i → ⊥ = eqb-false j i e in row_before w k j h held (omega arith));
        }

-- ---- the loop over rows

module _ (old : List ℕ) (p u c : ℕ) (x : Free) where
  pub filling-begins : Filling old old p u c x 0 u x.slot x.top
  filling-begins = record { long = refl; within = omega arith; slot_is = omega arith; rows = rows-begin old p u x }

  module _ (cur : List ℕ) (i node slot top : ℕ) (inv : Filling old cur p u c x i node slot top) where
    pub filling-ends : c ≤ i → RowsFilled old cur p u c x node top
    filling-ends h = let e : i ≡ c = omega (arith, inv.within) in subst (λ (n : ℕ). RowsFilled old cur p u n x node top) e inv.rows

    module _ (ok : RowsFillable old p u c x) (less : i < c) (first later : ℕ) (f : Means cur node first (element 0)) (g : Means cur node later tail) where
      pub filling-asks : Fillable cur p first (record { slot = slot; top = top })
      filling-asks = fillable-row old p u c x ok cur inv.long i node top slot inv.rows inv.slot_is less first later f g

      pub filling-more : (new : List ℕ) (y : Free) → length new ≡ length cur → Filled cur new p first (record { slot = slot; top = top }) y → Filling old new p u c x (i + 1) later y.slot y.top
      filling-more new y far b =
          let e : i + 1 ≡ suc i = omega arith in
          rw e
          (record {
            long = far ∙ inv.long;
            within = omega arith;
            slot_is = row-end old p u c x ok cur inv.long i node top slot inv.rows inv.slot_is less first later f g new y b;
            rows = rows_more old p u c x ok cur inv.long i node top slot inv.rows inv.slot_is less first later f g new y b;
          })

-- ---- the whole block

-- rows that hold what is taken are a block's entries
rows-stand : (work : List ℕ) (base low high w block n c : ℕ) (l : List ℕ) (f : ℕ → Taken) → Within n l → word_in work block ≡ c → (c ≢ 0) → word_in work (block + 1) ≡ n → low ≤ block → block + 2 + c * n ≤ high
    → ((i : ℕ) → i < c → RowStands work base low high w (block + 2 + i * n) l (f i)) → Stands work base low high w l block (many c f)
unfolding Stands RowStands Within
rows-stand work base low high w block n c [] f h = absurd h
rows-stand work base low high w block n c (s ∷ ss) f h = λ count some width lower upper each. (
  count,
  lower,
  omega arith,
  λ i l.
      let rows : i * n + n ≤ c * n = rows-less i c n l in
      let e : block + 2 + (i * n + s) ≡ block + 2 + i * n + s = omega arith in
      rw (width, e) (omega arith, each i l),
)

-- and where there are none, no word is
none-stand : (work : List ℕ) (base low high w block n : ℕ) (l : List ℕ) (f : ℕ → Taken) → Within n l → word_in work block ≡ 0 → low ≤ block → block + 2 ≤ high → Stands work base low high w l block (many 0 f)
unfolding Stands Within
none-stand work base low high w block n [] f h = absurd h
none-stand work base low high w block n (s ∷ ss) f h = λ count lower upper. (count, lower, upper, λ i l. absurd (omega arith))

module _ (old mid : List ℕ) (p u top head c rows : ℕ) (head-is : head ≡ reference_at old p 3) (pattern-below : p ≤ top) (use-below : u ≤ top) (opened : Opened old mid p u top c rows) where
  abbrev E : Pattern
  E = pattern_at old head

  abbrev inner : Free
  inner = record { slot = top + 2; top = rows }

  head-below : head ≤ top
  head-below = omega (arith, reference_at-most old p 3)

  head-same : pattern_at mid head ≡ E
  head-same = pattern-kept old mid top opened.kept head head-below

  tree-same : (w : ℕ) → w ≤ top → tree_at mid u w ≡ tree_at old u w
  tree-same w h = tree-kept old mid top u w use-below h opened.kept

  rows_is : rows ≡ top + 2 + c * slots E
  rows_is = rw head-is opened.end_is

  pub rows-fillable : (wrap : ℕ) → wrap ≤ top → length mid ≡ length old → Room old rows (added (blocks E) c (tree_at old u wrap)) → RowsFillable mid head u c inner
  rows-fillable wrap h long room =
      let e : added (blocks (pattern_at mid head)) c (tree_at mid u wrap) ≡ added (blocks E) c (tree_at old u wrap) = ap₂ (λ (q : Pattern) (t : Tree). added (blocks q) c t) head-same (tree-same wrap h) in
      record {
        wrap = wrap;
        pattern-below = omega (arith, head-below);
        use-below = omega arith;
        wrap-below = omega arith;
        row = omega (arith, rows_is, ap (λ (q : Pattern). c * slots q) head-same);
        room = record { fits = omega (arith, e, room.fits, long); small = omega (arith, e, room.small) };
      }

  module _ (new : List ℕ) (node end : ℕ) (filled : RowsFilled mid new head u c inner node end) where
    upper-end : (w : ℕ) → w ≤ top → end ≡ rows + added (blocks E) c (tree_at old u w)
    upper-end w h = filled.end_is w (omega arith) ∙ ap₂ (λ (q : Pattern) (t : Tree). rows + added (blocks q) c t) head-same (tree-same w h)

    -- the two words that the rows leave
    first_word : word_in new top ≡ c
    first_word = words-kept mid new (top + 2) filled.before top (omega arith) ∙ opened.count-is

    second_word : (c ≢ 0) → word_in new (top + 1) ≡ slots E
    second_word h = words-kept mid new (top + 2) filled.before (top + 1) (omega arith) ∙ opened.width_is h ∙ ap (λ (q : ℕ). slots (pattern_at old q)) (sym head-is)

    each_row : (w k i : ℕ) → w ≤ top → holds k E ≡ true → i < c → RowStands new u top end w (top + 2 + i * slots E) (columns E k) (takes E (element i (tree_at old u w)) k)
    each_row w k i h held l =
        let s = filled.stands w k i (omega arith) (ap (holds k) head-same ∙ held) l in
        let s2 : RowStands new u rows end w (top + 2 + i * slots E) (columns E k) (takes E (element i (tree_at old u w)) k) = rw (head-same, tree-same w h) at s in
        row_kept new new u rows end w u top end (omega arith) (omega (arith, rows_is)) (omega arith) (λ v m. refl) (λ v m n. refl) _ _ (slots E) _ (columns-within E k held) (λ v m n. refl) s2

    block-stands : (w k : ℕ) → w ≤ top → holds k E ≡ true → Stands new u top end w (columns E k) top (many c (λ i. takes E (element i (tree_at old u w)) k))
    block-stands w k h held =
        either (c == 0)
        (λ z.
        let none : c ≡ 0 = eqb-true c 0 z in
        subst (λ (m : ℕ). Stands new u top end w (columns E k) top (many m (λ i. takes E (element i (tree_at old u w)) k))) (sym none)
        (none-stand new u top end w top (slots E) (columns E k) _ (columns-within E k held) (first_word ∙ none) (omega arith) (omega (arith, rows_is, upper-end w h))))
        (λ z.
        let some : c ≡ 0 → ⊥ = eqb-false c 0 z in
        rows-stand new u top end w top (slots E) c (columns E k) _ (columns-within E k held) first_word some (second_word some) (omega arith) (omega (arith, rows_is, upper-end w h)) (λ i l. each_row w k i h held l))

    pub block-filled : BlockFilled old new p u top node end
    block-filled =
        record {
          node-is = λ w h.
              sym (tree-kept old mid top node w (omega (arith, filled.low)) h opened.kept) ∙ filled.node-is w (omega arith) ∙ ap₂ past (opened.shares w) (tree-same w h);
          low = filled.low;
          end_is = λ w h. rw (← head-is, ← opened.shares w) (omega (arith, upper-end w h, rows_is));
          kept = take_less new mid top (top + 2) (omega arith) filled.before ∙ opened.kept;
          stands = λ w k h held. rw (← head-is, ← opened.shares w) (block-stands w k h (ap (λ (q : ℕ). holds k (pattern_at old q)) head-is ∙ held));
        }

-- ---- an ellipsis: its block, its slot's word, then the rest of its list

module _ (old : List ℕ) (p u : ℕ) (x : Free) (tag : ℕ) (tag_is : tag ≡ word_at old p 1) (ok : Fillable old p u x) (rest head : ℕ) (rest-is : rest ≡ reference_at old p 2) (head-is : head ≡ reference_at old p 3) (e : tag ≡ 7) where
  abbrev Element : Pattern
  Element = pattern_at old head

  abbrev following : ℕ
  following = word_at old p 4

  abbrev Used : ℕ → Tree
  Used w = tree_at old u w

  is-ellipsis : pattern_at old p ≡ ellipsis_p Element following (pattern_at old rest)
  is-ellipsis = ellipsis-is old p tag tag_is head rest head-is rest-is e

  one_more : slots (pattern_at old p) ≡ 1 + slots (pattern_at old rest)
  one_more = slots-ellipsis old p tag tag_is rest rest-is e

  ellipsis-blocks : (w : ℕ) → blocks (pattern_at old p) (Used w)
      ≡ 2 + share following (Used w) * slots Element + added (blocks Element) (share following (Used w)) (Used w) + blocks (pattern_at old rest) (past (share following (Used w)) (Used w))
  unfolding blocks
  ellipsis-blocks w = rw is-ellipsis refl

  above : x.slot < x.top
  above = omega (arith, ok.row, one_more)

  pattern-low : p ≤ x.top
  pattern-low = omega (arith, ok.pattern-below)

  use-low : u ≤ x.top
  use-low = omega (arith, ok.use-below)

  wrap-low : ok.wrap ≤ x.top
  wrap-low = omega (arith, ok.wrap-below)

  pub ellipsis-openable : Openable old p u x.top
  ellipsis-openable =
      let b = ellipsis-blocks ok.wrap in
      record {
        wrap = ok.wrap;
        pattern-below = pattern-low;
        room = rw (← head-is) (record { fits = omega (arith, b, ok.room.fits); small = omega (arith, b, ok.room.small) });
      }

  module _ (mid : List ℕ) (c rows : ℕ) (opened : Opened old mid p u x.top c rows) (long : length mid ≡ length old) where
    rows-place : rows ≡ x.top + 2 + c * slots Element
    rows-place = rw head-is opened.end_is

    pub rows-small : x.top + 2 < 2 ^ 32
    rows-small = omega (arith, ellipsis-blocks ok.wrap, ok.room.small)

    pub ellipsis-rows : RowsFillable mid head u c (record { slot = x.top + 2; top = rows })
    ellipsis-rows =
        let b = rw (← opened.shares ok.wrap) at (ellipsis-blocks ok.wrap) in
        rows-fillable old mid p u x.top head c rows head-is pattern-low use-low opened ok.wrap wrap-low long
        (record { fits = omega (arith, b, rows-place, ok.room.fits); small = omega (arith, b, rows-place, ok.room.small) })

    module _ (two : List ℕ) (node end : ℕ) (filled : RowsFilled mid two head u c (record { slot = x.top + 2; top = rows }) node end) (far : length two ≡ length mid) where
      block : BlockFilled old two p u x.top node end
      block = block-filled old mid p u x.top head c rows head-is pattern-low use-low opened two node end filled

      abbrev three : List ℕ
      three = slice_set two x.slot x.top

      abbrev behind : Free
      behind = record { slot = x.slot + 1; top = end }

      pub slot-inside : x.slot < length two
      slot-inside = omega (arith, above, ok.room.fits, far, long)

      pub slot_small : x.slot + 1 < 2 ^ 32
      slot_small = omega (arith, above, ok.room.small)

      -- below the slot all is as it was
      slot_kept : take x.slot three ≡ take x.slot old
      slot_kept = take-set-le x.slot two x.slot x.top (omega arith) ∙ take_less two old x.slot x.top (omega (arith, above)) block.kept

      rest_below : rest ≤ x.slot
      rest_below = omega (arith, reference_at-most old p 2, ok.pattern-below)

      rest-again : pattern_at three rest ≡ pattern_at old rest
      rest-again = pattern-kept old three x.slot slot_kept rest rest_below

      node-again : (w : ℕ) → w ≤ x.slot → tree_at three node w ≡ past (share following (Used w)) (Used w)
      node-again w h = tree-kept old three x.slot node w (omega (arith, block.low, ok.use-below)) h slot_kept ∙ block.node-is w (omega (arith, above))

      behind-top : (w : ℕ) → w ≤ x.slot → end + blocks (pattern_at three rest) (tree_at three node w) ≡ x.top + blocks (pattern_at old p) (Used w)
      behind-top w h =
          let b = rw (← head-is) at (block.end_is w (omega (arith, above))) in
          omega (arith, b, ap₂ blocks rest-again (node-again w h), ellipsis-blocks w)

      pub fillable-behind : Fillable three rest node behind
      fillable-behind =
          let t = behind-top ok.wrap ok.wrap-below in
          record {
            wrap = ok.wrap;
            pattern-below = omega (arith, rest_below);
            use-below = omega (arith, block.low, ok.use-below);
            wrap-below = omega (arith, ok.wrap-below);
            row = omega (arith, ap slots rest-again, one_more, ok.row, block.end_is ok.wrap wrap-low);
            room = record { fits = simp length-set (omega (arith, t, ok.room.fits, far, long)); small = omega (arith, t, ok.room.small) };
          }

      module _ (new : List ℕ) (z : Free) (b : Filled three new rest node behind z) where
        ends : z.slot ≡ x.slot + slots (pattern_at old p)
        ends = omega (arith, b.slot_is, ap slots rest-again, one_more)

        wide : z.slot ≤ x.top
        wide = omega (arith, ends, ok.row)

        -- words from the top on are left, and the slot's word is the block
        block_same : Same two new x.top end
        block_same i l m = b.between i (omega (arith, wide)) m ∙ get_or-set_other two x.slot i x.top 0 (omega (arith, above))

        word-is : word_in new (x.slot + 0) ≡ x.top
        word-is =
            let n : x.slot + 0 ≡ x.slot = omega arith in
            rw n (words-kept three new (x.slot + 1) b.before x.slot (omega arith) ∙ get_or-set_same two x.slot x.top 0 slot-inside)

        trees-kept : (w v : ℕ) → w ≤ x.slot → v ≤ u → tree_at new v w ≡ tree_at two v w
        trees-kept w v h l =
            tree-kept three new (x.slot + 1) v w (omega (arith, ok.use-below)) (omega arith) b.before
            ∙ tree-kept two three x.slot v w (omega (arith, ok.use-below)) h (take-set-le x.slot two x.slot x.top (omega arith))

        high : (w : ℕ) → w ≤ x.slot → end ≤ z.top
        high w h = omega (arith, b.top-is w (omega arith))

        in-element : (w k : ℕ) → w ≤ x.slot → holds k Element ≡ true
            → RowStands new u x.top z.top w x.slot (0 ∷ columns Element k) (many (share following (Used w)) (λ i. takes Element (element i (Used w)) k))
        unfolding RowStands
        in-element w k h held =
            let s = block.stands w k (omega (arith, above)) (ap (λ (q : ℕ). holds k (pattern_at old q)) (sym head-is) ∙ held) in
            let s2 : Stands two u x.top end w (columns Element k) x.top (many (share following (Used w)) (λ i. takes Element (element i (Used w)) k)) = rw (← head-is) at s in
            rw word-is (stands-kept two new u x.top end w u x.top z.top (omega arith) (omega arith) (high w h) (λ v l. trees-kept w v h l) block_same _ _ _ s2)

        in_rest : (w k : ℕ) → w ≤ x.slot → holds k (pattern_at old rest) ≡ true
            → RowStands new u x.top z.top w x.slot (shift 1 (columns (pattern_at old rest) k)) (takes (pattern_at old rest) (past (share following (Used w)) (Used w)) k)
        in_rest w k h held =
            let s = b.stands w k (omega arith) (ap (holds k) rest-again ∙ held) in
            let s2 : RowStands new node end z.top w (x.slot + 1) (columns (pattern_at old rest) k) (takes (pattern_at old rest) (past (share following (Used w)) (Used w)) k) = rw (rest-again, node-again w h) at s in
            row-shift new u x.top z.top w x.slot 1 (columns (pattern_at old rest) k) _
            (row_kept new new node end z.top w u x.top z.top block.low (omega (arith, block.end_is w (omega (arith, above)))) (omega arith) (λ v l. refl) (λ v l m. refl) _ _ (slots (pattern_at old rest)) _
            (columns-within (pattern_at old rest) k held) (λ v l m. refl) s2)

        pub filled-ellipsis : Filled old new p u x z
        unfolding holds columns takes
        filled-ellipsis =
            record {
              slot_is = ends;
              top-is = λ w h. b.top-is w (omega arith) ∙ behind-top w h;
              before = take_less new three x.slot (x.slot + 1) (omega arith) b.before ∙ slot_kept;
              between = λ i l m.
                  b.between i l (omega (arith, block.end_is ok.wrap wrap-low)) ∙ get_or-set_other two x.slot i x.top 0 (omega (arith, ends, one_more)) ∙ words-kept old two x.top block.kept i m;
              stands = λ w k h held.
                  rw is-ellipsis
                  (either (holds k Element)
                  (λ t. rw t (in-element w k h t))
                  (λ t. rw t (in_rest w k h (other-holds (holds k Element) (holds k (pattern_at old rest)) (rw is-ellipsis at held) t))));
            }
