-- Laws of the copies of an element: built the last first along the lists that drive them, then put before the rest of their list.
use Rattle.std.specs.Prelude.{◌≡◌, Option, Some, None, true, List, length, take}
use Rattle.std.proofs.Math.Path.{refl, sym, ap, ap₂}
use Rattle.std.proofs.Common.{subst, ◌∙◌, ne_eqb}
use Rattle.std.proofs.Math.Option.{some}
use Prim.Native.Nat.{ℕ, zero, suc, ◌+◌, ◌*◌, ◌-◌, ◌≤◌, ◌<◌}
use native.Mathlib.Omega.{arith}
use Rattle.recipe.specs.Tree.{Tree, pair, size, on_names, produce, element, elements, tail}
use Rattle.recipe.specs.TreeLaws.{on_names-element, element-tail}
use Rattle.expansion.specs.Rules.{variable_p}
use Rattle.expansion.specs.Match.{part}
use Rattle.expansion.specs.Transcribe.{copies, all_below}
use Rattle.arena.specs.Arena.{word_at, reference_at, tree_at, wrap_at}
use Rattle.arena.specs.ArenaLaws.{take_less, reference_at-most}
use Rattle.arena.specs.NodeLaws.{tree_at-wrap}
use Rattle.arena.specs.Cells.{Room, Grown}
use Rattle.arena.specs.CellLaws.{tree-kept}
use Rattle.words.specs.Lists.{within}
use Rattle.arena.specs.Lists.{Means}
use Rattle.rule_cells.specs.CellLaws.{pattern_at-variable, template_at-variable}
use Rattle.environments.specs.Environment.{takes, entering, enter, result_by}
use Rattle.environments.specs.Entries.{field, entry_at, ellipsis_in, taking_of, environment_at, level, taken_in, Listed, Under, Low, Ahead, Along, AlongAll, Enters}
use Rattle.environments.specs.EntryLaws.{entry-low}
use Rattle.environments.specs.BelowLaws.{below_true, below_at}
use Rattle.environments.specs.TemplateCells.{leaf-agrees}
use Rattle.steps.specs.declared.copy.Built.{Built}
use Rattle.steps.specs.Build.{node_words, built, Paid, Unpaid, Waiting, result_at, agrees_at, copy_at, copy_agrees, Buildable, Gives, Stops, added, Turned, elements_at, ElementsUnpaid, ElementsBackwards, CopiesAgreed, CopiesStop, Backwards, Reversed, Copied}
use Rattle.steps.specs.BuildLaws.{room-left, pays-is}
use Rattle.steps.specs.ResultLaws.{copy-kept, copy-agrees-kept, buildable-left}

-- ---- lists of copies

element-first : (h t : Tree) → element 0 (pair h t) ≡ h
unfolding element elements
element-first h t = refl

element-later : (m : ℕ) (h t : Tree) → element (suc m) (pair h t) ≡ element m t
unfolding element elements
element-later m h t = refl

copies-below : (f g : ℕ → Tree) (k n : ℕ) (a b : Tree) → ((i : ℕ) → i < k + n → f i ≡ g i) → a ≡ b → copies f k n a ≡ copies g k n b
unfolding copies
copies-below f g k zero a b h e = e
copies-below f g k (suc n) a b h e = ap₂ pair (h k (omega arith)) (copies-below f g (suc k) n a b (λ i l. h i (omega arith)) e)

pub produce-copies : (f : ℕ → Tree) (k n : ℕ) (rest : Tree) → produce (copies f k n rest) ≡ copies (λ i. produce (f i)) k n (produce rest)
unfolding copies produce on_names
produce-copies f k zero rest = refl
produce-copies f k (suc n) rest = ap (pair (produce (f k))) (produce-copies f (suc k) n rest)

size-copies : (f : ℕ → Tree) (k n : ℕ) (rest : Tree) → size (copies f k n rest) + added f k ≡ added f (k + n) + size rest
unfolding copies size added
size-copies f k zero rest = let e : k + 0 ≡ k = omega arith in rw e (omega arith)
size-copies f k (suc n) rest =
    let e : k + suc n ≡ suc k + n = omega arith in
    rw e (omega (arith, size-copies f (suc k) n rest))

pub size-all-copies : (f : ℕ → Tree) (n : ℕ) (rest : Tree) → size (copies f 0 n rest) ≡ added f n + size rest
unfolding added
size-all-copies f n rest = let e : 0 + n ≡ n = omega arith in let s = size-copies f 0 n rest in let q : size (copies f 0 n rest) + 0 ≡ added f n + size rest = s ∙ rw e refl in omega arith

added_more : (f : ℕ → Tree) (k n : ℕ) → added f k ≤ added f (k + n)
unfolding added
added_more f k zero = let e : k + 0 ≡ k = omega arith in rw e (omega arith)
added_more f k (suc n) = let e : k + suc n ≡ suc (k + n) = omega arith in rw e (omega (arith, added_more f k n))

pub added-cong : (f g : ℕ → Tree) (n : ℕ) → ((i : ℕ) → f i ≡ g i) → added f n ≡ added g n
unfolding added
added-cong f g zero h = refl
added-cong f g (suc n) h = ap₂ (λ (x : ℕ) (t : Tree). x + suc (size t)) (added-cong f g n h) (h n)

-- copy k is among c
added-among : (f : ℕ → Tree) (k c : ℕ) → k < c → added f k + suc (size (f k)) ≤ added f c
unfolding added
added-among f k c h = let e : c ≡ suc k + (c - suc k) = omega arith in subst (λ (n : ℕ). added f (suc k) ≤ added f n) (sym e) (added_more f (suc k) (c - suc k))

-- ---- lists that are gone along stay as they are

ahead-kept : (old new : List ℕ) (top list i node : ℕ) → take top new ≡ take top old → list ≤ top → node ≤ top → Ahead old list i node → Ahead new list i node
ahead-kept old new top list i node kept l n a =
    record { is = λ w m. side w list l (i + m) ∙ ap (on_names (wrap_at new w)) (a.is 0 m) ∙ sym (side w node n m) }
  where
    side : (w at : ℕ) → at ≤ top → (m : ℕ) → element m (tree_at new at w) ≡ on_names (wrap_at new w) (element m (tree_at old at 0))
    side w at h m =
        ap (element m) (tree_at-wrap new at w) ∙ on_names-element (wrap_at new w) m (tree_at new at 0)
        ∙ ap (λ (t : Tree). on_names (wrap_at new w) (element m t)) (tree-kept old new top at 0 h (omega arith) kept)

-- the list after one element more
ahead_more : (old cur : List ℕ) (top list k node later : ℕ) → take top cur ≡ take top old → list ≤ top → node ≤ top → Ahead old list k node → Means cur node later tail → Ahead old list (suc k) later
ahead_more old cur top list k node later kept l n a goes =
    ahead-kept cur old top list (suc k) later (sym kept) l (omega (arith, goes.low))
    (record {
      is = λ w m.
          let z : suc k + m ≡ k + suc m = omega arith in
          rw z ((ahead-kept old cur top list k node kept l n a).is w (suc m))
          ∙ sym (element-tail m (tree_at cur node w)) ∙ ap (element m) (sym (goes.is w));
    })

pub along-kept : (old new outer : List ℕ) (top i : ℕ) (inner : List ℕ) → take top new ≡ take top old → Under outer top → Under inner top → AlongAll old outer i inner → AlongAll new outer i inner
along-kept old new outer top i inner kept u v a k =
    let x : Along old (entry_at outer k) i (entry_at inner k) = a k in
    let o : Low (entry_at outer k) top = entry-low outer top u k in
    let y : Low (entry_at inner k) top = entry-low inner top v k in
    record {
      whole_is = x.whole_is;
      first-is = x.first-is;
      second_is = x.second_is;
      flat = x.flat;
      narrow = x.narrow;
      along-is = λ n. ahead-kept old new top _ i _ kept o.whole-low y.along-low (x.along-is n);
      across-is = λ n m. ahead-kept old new top _ i _ kept o.one-low y.across-low (x.across-is n m);
    }

-- ---- copies, the last first

module _ (copy : ℕ → Tree) (old : List ℕ) (top fuel : ℕ) (room : Room old top (node_words * fuel)) where
  pub turned-begins : Turned copy old old top fuel 0 top fuel
  unfolding added
  turned-begins = record { spent = omega arith; above = omega arith; most = omega arith; kept = refl; means = λ m h. absurd (omega arith) }

  module _ (cur : List ℕ) (k list left : ℕ) (inv : Turned copy old cur top fuel k list left) where
    -- there is no fuel for a pair more, or for its head
    pub turned-over : (c : ℕ) → k < c → left < suc (size (copy k)) → fuel < added copy c
    turned-over c more h = omega (arith, inv.spent, added-among copy k c more)

    pub turned_none : (c : ℕ) → k < c → left ≡ 0 → fuel < added copy c
    turned_none c more z = turned-over c more (omega arith)

    module _ (some-fuel : left ≡ 0 → ⊥) (two : List ℕ) (h g : ℕ) (b : Paid (copy k) cur two list (left - 1) h g) where
      pub turned-room : length two ≡ length old → Room two h 3
      turned-room long = room-left old two top fuel h g 3 long (omega (arith, b.most, inv.most)) room

      module _ (new : List ℕ) (r : ℕ) (p : Grown (λ v. pair (tree_at two h v) (tree_at two list v)) two new h r) where
        pub kept-list : take list new ≡ take list cur
        kept-list = take_less new two list h b.above p.kept ∙ b.kept

        list-is : tree_at new r 0 ≡ pair (produce (copy k)) (tree_at cur list 0)
        list-is =
            p.means 0 (omega arith)
            ∙ ap₂ pair b.means (tree-kept cur two list list 0 (omega arith) (omega arith) b.kept)

        copies-are : (m : ℕ) → m < suc k → element m (tree_at new r 0) ≡ produce (copy (suc k - suc m))
        copies-are zero h' = ap (element 0) list-is ∙ element-first _ _ ∙ (let z : k ≡ suc k - 1 = omega arith in ap (λ (i : ℕ). produce (copy i)) z)
        copies-are (suc m) h' =
            let z : k - suc m ≡ suc k - suc (suc m) = omega arith in
            ap (element (suc m)) list-is ∙ element-later m _ _ ∙ inv.means m (omega arith) ∙ ap (λ (i : ℕ). produce (copy i)) z

        pub turned_more : Turned copy old new top fuel (suc k) r g
        unfolding added
        turned_more =
            record {
              spent = omega (arith, inv.spent, b.spent);
              above = omega (arith, inv.above, b.above, p.end);
              most = omega (arith, inv.most, b.most, p.end);
              kept = take_less new cur top list inv.above kept-list ∙ inv.kept;
              means = copies-are;
            }

-- ---- copies of an element

-- k of c copies are built, and the table stands before the next
pub record Turning (old cur : List ℕ) (top fuel : ℕ) (env : List ℕ) (w e c k list left : ℕ) (table : List ℕ) : Type 0 where
  pub turned : Turned (copy_at old env w e) old cur top fuel k list left
  pub agreed : CopiesAgreed old env w e k
  pub along : AlongAll cur env k table
  pub under : Under table list
  pub among : k ≤ c
  pub long : length cur ≡ length old

module _ (old : List ℕ) (top fuel : ℕ) (env : List ℕ) (w e c : ℕ) (ok : Buildable old top fuel env w e) where
  abbrev Copy : ℕ → Tree
  Copy = copy_at old env w e

  pub turning-begins : (table : List ℕ) → AlongAll old env 0 table → ((b : ℕ) → Under env b → Under table b) → Turning old old top fuel env w e c 0 top fuel table
  unfolding all_below
  turning-begins table a u =
      record { turned = turned-begins (copy_at old env w e) old top fuel ok.room; agreed = refl; along = a; under = u top ok.under; among = omega arith; long = refl }

  module _ (cur : List ℕ) (k list left : ℕ) (table : List ℕ) (inv : Turning old cur top fuel env w e c k list left table) (more : k < c) where
    pub copies-none : left ≡ 0 → CopiesStop old cur top fuel env w e c
    copies-none z = record { over = λ a. turned_none (copy_at old env w e) old top fuel ok.room cur k list left inv.turned c more z; kept = inv.turned.kept }

    module _ (some-fuel : left ≡ 0 → ⊥) (next : List ℕ) (enters : Enters cur table next) where
      copy_is : result_at cur next w e ≡ Copy k
      unfolding result_at copy_at
      copy_is =
          rw ((enters.goes env k inv.along).1 w)
          (copy-kept old cur top inv.turned.kept env w e k ok.wrap-below ok.template-below ok.under)

      agrees-is : agrees_at cur next w e ≡ copy_agrees old env w e k
      unfolding agrees_at copy_agrees
      agrees-is =
          rw ((enters.goes env k inv.along).1 w)
          (copy-agrees-kept old cur top inv.turned.kept env w e k ok.wrap-below ok.template-below ok.under)

      pub copy-buildable : Buildable cur list (left - 1) next w e
      copy-buildable =
          let b = buildable-left old cur top fuel list (left - 1) env w e ok inv.turned.kept inv.long inv.turned.above (omega (arith, inv.turned.most)) in
          record { room = b.room; plain = b.plain; under = enters.low list inv.under; wrap-below = b.wrap-below; template-below = b.template-below }

      pub copy-costly : (two : List ℕ) → Stops cur two list (left - 1) next w e → CopiesStop old two top fuel env w e c
      copy-costly two b =
          record {
            over = λ a.
                turned-over (copy_at old env w e) old top fuel ok.room cur k list left inv.turned c more
                (omega (arith, b.over (agrees-is ∙ below_at _ c k more a), ap size copy_is));
            kept = take_less two cur top list inv.turned.above b.kept ∙ inv.turned.kept;
          }

      module _ (two : List ℕ) (h g : ℕ) (b : Gives cur two list (left - 1) next w e h g) (far : length two ≡ length cur) where
        copy-paid : Paid (Copy k) cur two list (left - 1) h g
        copy-paid = pays-is _ _ cur two list (left - 1) copy_is (built h g) b.paid

        pub copy-room : Room two h 3
        copy-room = turned-room (copy_at old env w e) old top fuel ok.room cur k list left inv.turned some-fuel two h g copy-paid (far ∙ inv.long)

        module _ (new : List ℕ) (r : ℕ) (p : Grown (λ v. pair (tree_at two h v) (tree_at two list v)) two new h r) (end : length new ≡ length two) where
          kept_here : take list new ≡ take list cur
          kept_here = kept-list (copy_at old env w e) old top fuel ok.room cur k list left inv.turned some-fuel two h g copy-paid new r p

          pub turning-more : Turning old new top fuel env w e c (k + 1) r g next
          unfolding all_below
          turning-more =
              let s : k + 1 ≡ suc k = omega arith in
              rw s
              (record {
                turned = turned_more (copy_at old env w e) old top fuel ok.room cur k list left inv.turned some-fuel two h g copy-paid new r p;
                agreed = rw (inv.agreed, ← agrees-is, b.agrees) refl;
                along = along-kept cur new env list (suc k) next kept_here (λ i. omega (arith, ok.under i, inv.turned.above)) (enters.low list inv.under) (subst (λ (i : ℕ). AlongAll cur env i next) s (enters.goes env k inv.along).0);
                under = λ i. omega (arith, enters.low list inv.under i, b.paid.above, p.end);
                among = omega arith;
                long = end ∙ far ∙ inv.long;
              })

  pub turning-ends : (cur : List ℕ) (k list left : ℕ) (table : List ℕ) → Turning old cur top fuel env w e c k list left table → c ≤ k → Backwards old cur top fuel env w e c (built list left)
  turning-ends cur k list left table inv h =
      let z : k ≡ c = omega (arith, inv.among) in
      (subst (λ (n : ℕ). Turned (copy_at old env w e) old cur top fuel n list left) z inv.turned, subst (λ (n : ℕ). CopiesAgreed old env w e n) z inv.agreed)

-- ---- elements of a list

-- k of c elements are copied, and node is the list after them
pub record Going (old cur : List ℕ) (top fuel list w c k at node left : ℕ) : Type 0 where
  pub turned : Turned (elements_at old list w) old cur top fuel k at left
  pub ahead : Ahead old list k node
  pub node-low : node ≤ top
  pub among : k ≤ c
  pub long : length cur ≡ length old

module _ (old : List ℕ) (top fuel list w c : ℕ) (ok : Waiting old top fuel list w) where
  pub going-begins : Going old old top fuel list w c 0 top list fuel
  going-begins =
      record {
        turned = turned-begins (elements_at old list w) old top fuel ok.room;
        ahead = record { is = λ v m. let z : 0 + m ≡ m = omega arith in rw z refl };
        node-low = ok.node-below;
        among = omega arith;
        long = refl;
      }

  module _ (cur : List ℕ) (k at node left : ℕ) (inv : Going old cur top fuel list w c k at node left) where
    pub going-ends : c ≤ k → Turned (elements_at old list w) old cur top fuel c at left
    going-ends h = let z : k ≡ c = omega (arith, inv.among) in subst (λ (n : ℕ). Turned (elements_at old list w) old cur top fuel n at left) z inv.turned

    module _ (more : k < c) where
      pub elements-none : left ≡ 0 → ElementsUnpaid old cur top fuel list w c
      elements-none z = record { over = turned_none (elements_at old list w) old top fuel ok.room cur k at left inv.turned c more z; kept = inv.turned.kept }

      module _ (some-fuel : left ≡ 0 → ⊥) (first : ℕ) (means : Means cur node first (element 0)) where
        element-at : tree_at cur first w ≡ elements_at old list w k
        element-at =
            let z : k + 0 ≡ k = omega arith in
            means.is w ∙ ap (element 0) (tree-kept old cur top node w inv.node-low ok.wrap-below inv.turned.kept) ∙ sym (inv.ahead.is w 0) ∙ rw z refl

        pub element-waits : Waiting cur at (left - 1) first w
        element-waits =
            record {
              room = room-left old cur top fuel at (left - 1) (node_words * (left - 1)) inv.long (omega (arith, inv.turned.most)) ok.room;
              node-below = omega (arith, means.low, inv.node-low, inv.turned.above);
              wrap-below = omega (arith, ok.wrap-below, inv.turned.above);
            }

        pub element-costly : (two : List ℕ) → Unpaid (tree_at cur first w) cur two at (left - 1) → ElementsUnpaid old two top fuel list w c
        element-costly two b =
            record {
              over = turned-over (elements_at old list w) old top fuel ok.room cur k at left inv.turned c more (omega (arith, b.over, ap size element-at));
              kept = take_less two cur top at inv.turned.above b.kept ∙ inv.turned.kept;
            }

        module _ (two : List ℕ) (h g : ℕ) (b : Paid (tree_at cur first w) cur two at (left - 1) h g) (far : length two ≡ length cur) where
          element-paid : Paid (elements_at old list w k) cur two at (left - 1) h g
          element-paid = pays-is _ _ cur two at (left - 1) element-at (built h g) b

          pub element-room : Room two h 3
          element-room = turned-room (elements_at old list w) old top fuel ok.room cur k at left inv.turned some-fuel two h g element-paid (far ∙ inv.long)

          two-kept : take top two ≡ take top old
          two-kept = take_less two cur top at inv.turned.above b.kept ∙ inv.turned.kept

          pub going_more : (later : ℕ) → Means two node later tail → (new : List ℕ) (r : ℕ) → Grown (λ v. pair (tree_at two h v) (tree_at two at v)) two new h r → length new ≡ length two → Going old new top fuel list w c (k + 1) r later g
          going_more later goes new r p end =
              let s : k + 1 ≡ suc k = omega arith in
              rw s
              (record {
                turned = turned_more (elements_at old list w) old top fuel ok.room cur k at left inv.turned some-fuel two h g element-paid new r p;
                ahead = ahead_more old two top list k node later two-kept ok.node-below inv.node-low inv.ahead goes;
                node-low = omega (arith, goes.low, inv.node-low);
                among = omega arith;
                long = end ∙ far ∙ inv.long;
              })

-- ---- a list turned round before a tail

-- k of its first c elements stand before the tail, and node is the list after them
pub record Reversing (old cur : List ℕ) (top list tail c k at node rest : ℕ) : Type 0 where
  pub at-is : at ≡ top + 3 * k
  pub node-low : node ≤ top
  pub rest-low : rest ≤ at
  pub above : tail ≤ rest
  pub kept : take top cur ≡ take top old
  pub ahead : Ahead old list k node
  pub among : k ≤ c
  pub means : tree_at cur rest 0 ≡ copies (λ i. element (c - suc i) (tree_at old list 0)) (c - k) k (tree_at old tail 0)
  pub long : length cur ≡ length old

module _ (old : List ℕ) (top list behind c : ℕ) (room : Room old top (3 * c)) (list-low : list ≤ top) (tail-low : behind ≤ top) where
  pub reversing-begins : Reversing old old top list behind c 0 top list behind
  unfolding copies
  reversing-begins =
      record {
        at-is = omega arith;
        node-low = list-low;
        rest-low = tail-low;
        above = omega arith;
        kept = refl;
        ahead = record { is = λ w m. let z : 0 + m ≡ m = omega arith in rw z refl };
        among = omega arith;
        means = refl;
        long = refl;
      }

  module _ (cur : List ℕ) (k at node rest : ℕ) (inv : Reversing old cur top list behind c k at node rest) where
    pub reversing-ends : c ≤ k → Reversed old cur top list behind c rest
    reversing-ends h =
        let z : k ≡ c = omega (arith, inv.among) in
        record {
          above = inv.above;
          most = omega (arith, inv.rest-low, inv.at-is);
          kept = inv.kept;
          means =
              let y : c - k ≡ 0 = omega arith in
              inv.means ∙ rw (y, z) refl;
        }

    module _ (more : k < c) (first : ℕ) (means : Means cur node first (element 0)) where
      pub reversing-asks : (Room cur at 3) × (first ≤ at) × (rest ≤ at)
      reversing-asks = (
        record { fits = omega (arith, room.fits, inv.at-is, inv.long); small = omega (arith, room.small, inv.at-is) },
        omega (arith, means.low, inv.node-low, inv.at-is),
        inv.rest-low,
      )

      module _ (new : List ℕ) (r : ℕ) (p : Grown (λ v. pair (tree_at cur first v) (tree_at cur rest v)) cur new at r) (end : length new ≡ length cur) where
        kept_top : take top new ≡ take top cur
        kept_top = take_less new cur top at (omega (arith, inv.at-is)) p.kept

        first-is : tree_at cur first 0 ≡ element k (tree_at old list 0)
        first-is =
            let z : k + 0 ≡ k = omega arith in
            means.is 0 ∙ ap (element 0) (tree-kept old cur top node 0 inv.node-low (omega arith) inv.kept) ∙ sym (inv.ahead.is 0 0) ∙ rw z refl

        pub reversing-more : (later : ℕ) → Means new node later tail → Reversing old new top list behind c (k + 1) r later r
        unfolding copies
        reversing-more later goes =
            let s : k + 1 ≡ suc k = omega arith in
            rw s
            (record {
              at-is = omega (arith, inv.at-is, p.end);
              node-low = omega (arith, goes.low, inv.node-low);
              rest-low = omega arith;
              above = omega (arith, inv.above, inv.rest-low, p.end);
              kept = kept_top ∙ inv.kept;
              ahead = ahead_more old new top list k node later (kept_top ∙ inv.kept) list-low inv.node-low inv.ahead goes;
              among = omega arith;
              means =
                  let a : suc (c - suc k) ≡ c - k = omega arith in
                  let b : c - suc (c - suc k) ≡ k = omega arith in
                  p.means 0 (omega arith)
                  ∙ ap₂ pair
                  (first-is ∙ ap (λ (i : ℕ). element i (tree_at old list 0)) (sym b))
                  (inv.means ∙ ap (λ (i : ℕ). copies (λ j. element (c - suc j) (tree_at old list 0)) i k (tree_at old behind 0)) (sym a));
              long = end ∙ inv.long;
            })

-- ---- the copies before the rest of their list

module _ (old : List ℕ) (top fuel : ℕ) (env : List ℕ) (w e c : ℕ) (ok : Buildable old top fuel env w e) (mid : List ℕ) (list left : ℕ) (b : Backwards old mid top fuel env w e c (built list left)) (long : length mid ≡ length old) where
  pub reversed-asks : (Room mid list (3 * c)) × (list ≤ list) × (top ≤ list)
  reversed-asks = (room-left old mid top fuel list left (3 * c) long (omega (arith, b.0.most)) ok.room, omega arith, b.0.above)

  pub copied : (new : List ℕ) (r : ℕ) → Reversed mid new list list top c r → Copied old new top fuel env w e c (built r left)
  copied new r a =
      record {
        spent = b.0.spent;
        above = a.above;
        most = omega (arith, a.most, b.0.most);
        kept = take_less new mid top list b.0.above a.kept ∙ b.0.kept;
        means =
            a.means
            ∙ copies-below _ _ 0 c _ _
            (λ i h.
            let z : c - suc (c - suc i) ≡ i = omega arith in
            b.0.means (c - suc i) (omega arith) ∙ ap (λ (j : ℕ). produce (copy_at old env w e j)) z)
            (tree-kept old mid top top 0 (omega arith) (omega arith) b.0.kept);
        agreed = b.1;
      }

-- ---- a variable that takes a list's elements

module _ (old : List ℕ) (top fuel : ℕ) (env : List ℕ) (w e c : ℕ) (ok : Buildable old top fuel env w e) (listed : Listed old env e) (k list : ℕ) (k-is : k ≡ word_at old e 3) (list-is : list ≡ taken_in env k 0) where
  pub listed-waits : Waiting old top fuel list w
  unfolding taken_in field
  listed-waits = record { room = ok.room; node-below = rw list-is (ok.under _); wrap-below = ok.wrap-below }

  none-tag : word_at old 0 1 ≡ 1 → ⊥
  unfolding word_at within
  none-tag h = omega (arith, h)

  element-some : ellipsis_in old (field env k 3) ≡ some (variable_p (word_at old (reference_at old (field env k 3) 3) 2), word_at old (field env k 3) 4)
  unfolding ellipsis_in
  element-some =
      let x : ℕ = field env k 3 in
      let q : word_at old (reference_at old x 3) 1 ≡ 1 = rw k-is listed.element-is in
      let n : (x ≡ 0 → ⊥) = λ z. none-tag (subst (λ (y : ℕ). word_at old y 1 ≡ 1) (let l : reference_at old x 3 ≡ 0 = omega (arith, reference_at-most old x 3) in l) q) in
      rw (ne_eqb x 0 n, pattern_at-variable old (reference_at old x 3) q) refl

  pub listed-copy : (i : ℕ) → copy_at old env w e i ≡ elements_at old list w i
  unfolding copy_at result_by takes enter entering environment_at taking_of entry_at part taken_in level
  listed-copy i =
      rw (template_at-variable old e listed.variable, listed.once, ← k-is, list-is, element-some) refl

  listed-agrees : all_below (copy_agrees old env w e) c ≡ true
  unfolding copy_agrees
  listed-agrees = sym (below_true _ c (λ k. leaf-agrees old e _ refl (λ z. omega (arith, listed.variable)) (λ z. omega (arith, listed.variable)) _))

  pub listed-backwards : (new : List ℕ) (r : Option Built) → ElementsBackwards old new top fuel list w c r → Backwards old new top fuel env w e c r
  listed-backwards new (Some b) t = (
    record {
      spent = omega (arith, t.spent, added-cong _ _ c listed-copy);
      above = t.above;
      most = t.most;
      kept = t.kept;
      means = λ m n. t.means m n ∙ ap produce (sym (listed-copy (c - suc m)));
    },
    listed-agrees,
  )
  listed-backwards new None t = record { over = λ a. omega (arith, t.over, added-cong _ _ c listed-copy); kept = t.kept }
