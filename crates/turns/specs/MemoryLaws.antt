-- Laws of the tables: what was settled stays, words follow words, and what is ready stays ready.
use Rattle.std.specs.Prelude.{◌≡◌, ltb, length, take, drop, set}
use Rattle.std.proofs.Math.Path.{refl, ap, ap₂, sym}
use Rattle.std.proofs.Common.{subst, ◌∙◌, arith, add-one, ltb-true, ltb-false, length-append, length-drop, length-take-le}
use mathlib.Core.List.{List, [], ◌∷◌, ◌++◌}
use Prim.Native.Nat.{ℕ, zero, suc, ◌+◌, ◌*◌, ◌≤◌, ◌<◌}
use Rattle.std.proofs.Math.ListN.{get_or-append, get_or}
use Rattle.std.proofs.Math.Seq.{get_or-take, append_snoc, get_or-append_seam}
use Rattle.std.proofs.lemmas.List.{set_split}
use Rattle.words.specs.Limits.{core_rate}
use Rattle.core_term.specs.Node.{application_code}
use Rattle.expansion.specs.Rules.{Rule}
use Rattle.rule_cells.specs.Cells.{rules_at}
use Rattle.rule_cells.specs.CellLaws.{rules_at-below}
use Rattle.recipe.specs.Tree.{elements}
use Rattle.arena.specs.Arena.{tree_at}
use Rattle.words.specs.ListLaws.{either}
use Rattle.arena.specs.ArenaLaws.{take_less}
use Rattle.forms.specs.Quotes.{Written}
use Rattle.forms.specs.QuoteLaws.{written_then}
use Rattle.turns.specs.declared.answers.Reached.{Reached}
use Rattle.turns.specs.Numbers.{moved}
use Rattle.turns.specs.Memory.{Tables, tables, macros_at, state_at, Moved, work_need, core_need, variable_need, macro_need, Macros, Ready, Kept, HeaderMoved}

-- ---- words one after another

pub put_one : (at a : ℕ) (core : List ℕ) → at < length core → Written (a ∷ []) core (set core at a) at (at + 1)
put_one at a core h = record { end = refl; words = set_split core at a h ∙ rw add-one (sym (append_snoc (take at core) a (drop (suc at) core))) }

module _ {at p q : ℕ} {header words core core₁ core₂ : List ℕ} where
  pub put-after : Written header core core₁ at p → Written words core₁ core₂ p q → p ≤ length core → Written (header ++ words) core core₂ at q
  put-after a b room = written_then at core header words core₁ core₂ p q room a b

-- ---- the state depends on what is settled alone

module _ (work work' macros macros' : List ℕ) (top : ℕ) (arena : take top work' ≡ take top work) where
  pub macros_at-settled : (n : ℕ) → take n macros' ≡ take n macros → ((k : ℕ) → k < n → get_or macros k 0 ≤ top) → macros_at work' macros' n ≡ macros_at work macros n
  unfolding macros_at
  macros_at-settled zero known below = refl
  macros_at-settled (suc n) known below =
      let word : get_or macros' n 0 ≡ get_or macros n 0 =
      sym (get_or-take (suc n) macros' n 0 (omega arith)) ∙ ap (λ (l : List ℕ). get_or l n 0) known ∙ get_or-take (suc n) macros n 0 (omega arith) in
      ap₂ (λ (l : List (List Rule)) (r : List Rule). l ++ (r ∷ []))
      (macros_at-settled n (take_less macros' macros n (suc n) (omega arith) known) (λ k h. below k (omega arith)))
      (ap (rules_at work') word ∙ rules_at-below work' work (get_or macros n 0) (take_less work' work (get_or macros n 0) top (below n (omega arith)) arena))

-- the macros are what they were, and no others are
pub macros-kept : (r q : Reached) (a b : Tables) → Macros r a → r.top ≤ q.top → q.macros ≡ r.macros
    → take r.top b.work ≡ take r.top a.work → b.macros ≡ a.macros → Macros q b
macros-kept r q a b m h e arena same =
    record {
      below = λ k l. let g : get_or a.macros k 0 ≤ r.top = m.below k (omega arith) in rw same (omega arith);
      proper = rw (e, same) (rw (macros_at-settled a.work b.work a.macros a.macros r.top arena r.macros refl m.below) m.proper);
      sound = rw (e, same) (rw (macros_at-settled a.work b.work a.macros a.macros r.top arena r.macros refl m.below) m.sound);
    }

-- ---- one part of an expansion after another

module _ (fuel n m l : ℕ) (r q p : Reached) (a b d : Tables) where
  pub kept-both : Kept fuel n m r q a b → Kept fuel m l q p b d → Kept fuel n l r p a d
  kept-both x y =
      record {
        work-long = y.work-long ∙ x.work-long;
        core-long = y.core-long ∙ x.core-long;
        macros-long = y.macros-long ∙ x.macros-long;
        arena = take_less d.work b.work r.top q.top x.top-grows y.arena ∙ x.arena;
        known = take_less d.macros b.macros r.macros q.macros x.macros-grow y.known ∙ x.known;
        top-grows = omega (arith, x.top-grows, y.top-grows);
        macros-grow = omega (arith, x.macros-grow, y.macros-grow);
        sum-grows = omega (arith, x.sum-grows, y.sum-grows);
        spent = y.spent;
        stepped = y.stepped;
        work-spent = omega (arith, x.work-spent, y.work-spent);
        core-spent = omega (arith, x.core-spent, y.core-spent);
        variables-spent = omega (arith, x.variables-spent, y.variables-spent);
        macros-spent = omega (arith, x.macros-spent, y.macros-spent);
        macros-are = y.macros-are;
      }

  pub ready-after : Ready fuel n r a → Kept fuel n m r q a b → Ready fuel m q b
  ready-after x k =
      record {
        fuelled = x.fuelled;
        spent = k.spent;
        stepped = k.stepped;
        room = omega (arith, x.room, k.work-spent, k.work-long);
        core-room = omega (arith, x.core-room, k.core-spent, k.core-long);
        macro-room = omega (arith, x.macro-room, k.macros-spent, k.macros-long);
        small = omega (arith, x.small, k.work-spent);
        core-small = omega (arith, x.core-small, k.core-spent);
        few = omega (arith, x.few, k.variables-spent);
        macros-few = omega (arith, x.macros-few, k.macros-spent);
        macros-are = k.macros-are;
      }

-- ---- words written, and nothing else done

pub put-long : (words : List ℕ) (at : ℕ) (before after : List ℕ) (r : ℕ) → r ≤ length before → Written words before after at r → length after ≡ length before
put-long words at before after r h p =
    let e : length after ≡ length (take at before ++ words ++ drop r before) = ap length p.words in
    let k : at ≤ length before = omega (arith, p.end) in
    omega (arith, e, length-append (take at before ++ words) (drop r before), length-append (take at before) words, length-take-le at before k, length-drop r before, p.end)

module _ (r q : Reached) (work core core' macros words : List ℕ) (m : Moved words r core core' q) where
  pub state-moved : state_at (tables work core macros) r ≡ state_at (tables work core' macros) q
  unfolding state_at moved
  state-moved = ap (state_at (tables work core' macros)) (sym m.is)

pub kept-moved : (fuel n l : ℕ) (r q : Reached) (work core core' macros words : List ℕ) → Ready fuel n r (tables work core macros) → Moved words r core core' q → l ≤ n → length words + core_rate * l ≤ core_rate * n
    → Kept fuel n l r q (tables work core macros) (tables work core' macros)
unfolding work_need core_need variable_need macro_need moved
kept-moved fuel n l r q work core core' macros words x m less few =
    let top-is : q.top ≡ r.top = ap (λ (z : Reached). z.top) m.is in
    let steps-are : q.steps ≡ r.steps = ap (λ (z : Reached). z.steps) m.is in
    let sum_is : q.sum ≡ r.sum = ap (λ (z : Reached). z.sum) m.is in
    let variables-are : q.variables ≡ r.variables = ap (λ (z : Reached). z.variables) m.is in
    let macros-are : q.macros ≡ r.macros = ap (λ (z : Reached). z.macros) m.is in
    let at-is : q.at ≡ r.at + length words = m.put.end in
    record {
      work-long = refl;
      core-long = put-long words r.at core core' q.at (omega (arith, x.core-room)) m.put;
      macros-long = refl;
      arena = refl;
      known = refl;
      top-grows = omega arith;
      macros-grow = omega arith;
      sum-grows = omega arith;
      spent = omega (arith, x.spent);
      stepped = omega (arith, x.stepped);
      work-spent = rw (top-is, sum_is) (omega arith);
      core-spent = rw (at-is, sum_is) (omega arith);
      variables-spent = rw (variables-are, sum_is) (omega arith);
      macros-spent = rw (macros-are, sum_is) (omega arith);
      macros-are = macros-kept r q (tables work core macros) (tables work core' macros) x.macros-are (omega arith) macros-are refl refl;
    }

-- words that are written, and nothing else
pub moved_by : (words : List ℕ) (r q : Reached) (before after : List ℕ) (at : ℕ) → q ≡ moved at r → Written words before after r.at at → Moved words r before after q
unfolding moved
moved_by words r q before after at e p = subst (Moved words r before after) (sym e) (record { is = refl; put = p })

-- an application's header, by the count of its operands
pub header-moved : (list code number n at : ℕ) (r q : Reached) (work before after : List ℕ) → ((w : ℕ) → n ≡ length (elements (tree_at work list w)))
    → q ≡ moved at r → Written (application_code ∷ n ∷ code ∷ number ∷ []) before after r.at at → HeaderMoved list code number r work before after q
header-moved list code number n at r q work before after h e p w =
    moved_by _ r q before after at e (subst (λ (k : ℕ). Written (application_code ∷ k ∷ code ∷ number ∷ []) before after r.at at) (h w) p)

-- ---- the rules of one macro

pub macros_at-length : (work macros : List ℕ) (n : ℕ) → length (macros_at work macros n) ≡ n
unfolding macros_at
macros_at-length work macros zero = refl
macros_at-length work macros (suc n) = omega (arith, length-append (macros_at work macros n) (rules_at work (get_or macros n 0) ∷ []), macros_at-length work macros n)

pub macros_at-one : (work macros : List ℕ) (count n : ℕ) → n < count → get_or (macros_at work macros count) n [] ≡ rules_at work (get_or macros n 0)
unfolding macros_at
macros_at-one work macros zero n h = absurd (omega arith)
macros_at-one work macros (suc k) n h =
    let long : length (macros_at work macros k) ≡ k = macros_at-length work macros k in
    either (ltb n k)
    (λ t.
    let l : n < k = ltb-true n k t in
    get_or-append (macros_at work macros k) (rules_at work (get_or macros k 0) ∷ []) [] n (omega arith) ∙ macros_at-one work macros k n l)
    (λ t.
    let g : k ≤ n = ltb-false n k t in
    let e : n ≡ k = omega arith in
    let d : n ≡ length (macros_at work macros k) = omega arith in
    ap (λ (j : ℕ). get_or (macros_at work macros k ++ (rules_at work (get_or macros k 0) ∷ [])) j []) d
    ∙ get_or-append_seam (macros_at work macros k) (rules_at work (get_or macros k 0)) [] []
    ∙ ap (λ (j : ℕ). rules_at work (get_or macros j 0)) (sym e))

pub macros_at-past : (work macros : List ℕ) (count n : ℕ) → count ≤ n → get_or (macros_at work macros count) n [] ≡ []
macros_at-past work macros count n h = get_d_past (macros_at work macros count) n (omega (arith, macros_at-length work macros count))
  where
    get_d_past : (l : List (List Rule)) (n : ℕ) → length l ≤ n → get_or l n [] ≡ []
    get_d_past [] n h = refl
    get_d_past (x ∷ xs) zero h = absurd (omega arith)
    get_d_past (x ∷ xs) (suc n) h = get_d_past xs n (omega arith)
