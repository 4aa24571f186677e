-- A node that was opened: what it is, what opens it and what closes it.
use Rattle.std.specs.Prelude.{◌≡◌, ℕ, suc, ◌+◌, ◌-◌, ◌*◌, ◌<◌, ◌≤◌, Bool, true, false, List, [], ◌∷◌, ◌++◌, length, take, drop, nat_le, nat_lt, slice_index, slice_index_or}
use Rattle.std.proofs.Math.Path.{sym, ap, subst}
use Rattle.std.proofs.Common.{◌∙◌, arith, add-one, length-append}
use Rattle.std.proofs.Math.ListN.{length-drop}
use Rattle.std.proofs.Math.Seq.{length-take-le}
use borrow.Author.Tests.{leb-true, ltb-true}
use Rattle.words.specs.Lists.{within}
use Rattle.words.specs.TestLaws.{within-parts}
use Rattle.datum.specs.NameTable.{length_at, name_at, has_name}
use Rattle.datum.specs.Constant.{is_constant, constant_words, integer, boolean}
use Rattle.datum.specs.Constant as K
use Rattle.core_term.specs.Node.{Node, node_words, got, node_at, parts, is_node, variable_n, operation_n, constant_n, name_n, list_n, if_n, lambda_n, application_n}
use Rattle.core_term.specs.NodeLaws.{both, node-read}
use Rattle.core_term.specs.declared.nodes.Node as C
use Rattle.core_term.specs.declared.nodes.Node.TheVariants.{Variable, Operation, Integer, Boolean, Decimal, Name, List as Several, If, Lambda, Application}
use Rattle.core_term.specs.Code.Opened.{node_in, shape_in, shape_by, OpenedAs}
use Rattle.words.specs.Text.{bytes}
use Rattle.core_term.specs.Decimal.{decimal, integer_text, decimal_text}
use Rattle.core_term.specs.Text.{variable_text, operation_text, constant_text}
use Rattle.core_term.proofs.TextRoomLaws.{all-at}
use Rattle.writer.specs.Pieces.{formals_text, opening, closing}
use Rattle.writer.specs.Called.{Said, spell_of}
use Rattle.writer.specs.Opened.{spelled, named, Stands}

-- ---- names

-- a slot that exists, with length 1 to 63
pub record Slot (names : List ℕ) (n : ℕ) : Type 0 where
  pub few : n < 1024
  pub there : 64 * n + 64 ≤ length names
  pub short : slice_index_or names (64 * n) 0 ≤ 63

pub slot_of : (names : List ℕ) (n : ℕ) → has_name names n ≡ true → Slot names n
unfolding has_name within length_at
slot_of names n h =
    let a = both (nat_lt n 1024) _ h in
    let b = both (nat_le (64 * suc n) (length names)) _ a.1 in
    let c = both (nat_le 1 (slice_index names (64 * n))) (nat_le (slice_index names (64 * n)) 63) b.1 in
    record { few = ltb-true n 1024 a.0; there = omega (arith, leb-true (64 * suc n) (length names) b.0); short = leb-true (slice_index names (64 * n)) 63 c.1 }

-- its bytes, as code cuts them out
pub name-cut : (names : List ℕ) (n l : ℕ) → l ≡ slice_index names (64 * n) → take (64 * n + 1 + l - (64 * n + 1)) (drop (64 * n + 1) names) ≡ name_at names n
unfolding name_at length_at
name-cut names n l e = let h : 64 * n + 1 + l - (64 * n + 1) ≡ slice_index_or names (64 * n) 0 = omega arith in rw (h, add-one (64 * n))

-- so many variables have names
pub record Naming (said : Said) (count : ℕ) : Type 0 where
  pub many : count ≤ length said.called
  pub slots : spelled said ≡ true

-- ---- nodes

module _ (n : C.Node) (x : Node) (s : Stands n x) where
  reads : node_in s.words n ≡ got x s.left
  reads = s.opened.is ∙ s.is

  pub proper : is_node x ≡ true
  proper = (node-read s.words x s.left s.is).proper

  pub is-variable : (k : ℕ) → n ≡ Variable k → x ≡ variable_n k
  unfolding node_in
  is-variable k e = let h : node_in s.words (Variable k) ≡ got x s.left = sym (ap (node_in s.words) e) ∙ reads in cc

  pub is-operation : (k : ℕ) → n ≡ Operation k → x ≡ operation_n k
  unfolding node_in
  is-operation k e = let h : node_in s.words (Operation k) ≡ got x s.left = sym (ap (node_in s.words) e) ∙ reads in cc

  pub is-integer : (w : ℕ) → n ≡ Integer w → x ≡ constant_n (integer w)
  unfolding node_in
  is-integer w e = let h : node_in s.words (Integer w) ≡ got x s.left = sym (ap (node_in s.words) e) ∙ reads in cc

  pub is-boolean : (w : ℕ) → n ≡ Boolean w → x ≡ constant_n (boolean w)
  unfolding node_in
  is-boolean w e = let h : node_in s.words (Boolean w) ≡ got x s.left = sym (ap (node_in s.words) e) ∙ reads in cc

  pub is-decimal : (w p : ℕ) → n ≡ Decimal w p → x ≡ constant_n (K.decimal w p)
  unfolding node_in
  is-decimal w p e = let h : node_in s.words (Decimal w p) ≡ got x s.left = sym (ap (node_in s.words) e) ∙ reads in cc

  pub is_name : (k : ℕ) → n ≡ Name k → x ≡ name_n k
  unfolding node_in
  is_name k e = let h : node_in s.words (Name k) ≡ got x s.left = sym (ap (node_in s.words) e) ∙ reads in cc

  pub is-list : (k : ℕ) → n ≡ Several k → x ≡ list_n k
  unfolding node_in
  is-list k e = let h : node_in s.words (Several k) ≡ got x s.left = sym (ap (node_in s.words) e) ∙ reads in cc

  pub is-if : n ≡ If → x ≡ if_n
  unfolding node_in
  is-if e = let h : node_in s.words If ≡ got x s.left = sym (ap (node_in s.words) e) ∙ reads in cc

  pub is-application : (k : ℕ) → n ≡ Application k → x ≡ application_n k
  unfolding node_in
  is-application k e = let h : node_in s.words (Application k) ≡ got x s.left = sym (ap (node_in s.words) e) ∙ reads in cc

  module _ (first count : ℕ) (e : n ≡ Lambda first count) where
    abbrev bound : List ℕ
    bound = take count (drop 3 s.words)

    pub is-lambda : x ≡ lambda_n first bound
    unfolding node_in
    is-lambda = let h : node_in s.words (Lambda first count) ≡ got x s.left = sym (ap (node_in s.words) e) ∙ reads in cc

    pub bound-count : length bound ≡ count
    unfolding shape_in shape_by
    bound-count =
        let l : 3 + count ≤ length s.words = subst (λ (m : C.Node). (shape_in m).own ≤ length s.words) e s.opened.room in
        length-take-le count (drop 3 s.words) (omega (arith, length-drop 3 s.words))

  pub decimal-places : (w p : ℕ) → n ≡ Decimal w p → (1 ≤ p) × (p ≤ 4)
  unfolding is_node is_constant K.decimal
  decimal-places w p e = within-parts 1 4 p (sym (ap is_node (is-decimal w p e)) ∙ proper)

  -- ---- what opens and closes it

  module _ (said : Said) (inner : Bool) where
    pub opens-variable : (k : ℕ) → n ≡ Variable k → variable_text (spell_of said) said.called k ≡ opening said inner x
    unfolding opening
    opens-variable k e = rw (is-variable k e)

    pub opens-operation : (k : ℕ) → n ≡ Operation k → 111 ∷ decimal k ≡ opening said inner x
    unfolding opening operation_text
    opens-operation k e = rw (is-operation k e)

    pub opens-integer : (w : ℕ) → n ≡ Integer w → integer_text w ≡ opening said inner x
    unfolding opening constant_text integer
    opens-integer w e = rw (is-integer w e)

    pub opens-boolean : (w : ℕ) → n ≡ Boolean w → constant_text (boolean w) ≡ opening said inner x
    unfolding opening
    opens-boolean w e = rw (is-boolean w e)

    pub opens-decimal : (w p : ℕ) → n ≡ Decimal w p → decimal_text w p ≡ opening said inner x
    unfolding opening constant_text K.decimal
    opens-decimal w p e = rw (is-decimal w p e)

    pub opens-name : (k : ℕ) → n ≡ Name k → opening said inner (name_n k) ≡ opening said inner x
    opens-name k e = ap (opening said inner) (sym (is_name k e))

    pub opens-list : (k : ℕ) → n ≡ Several k → opening said inner (list_n k) ≡ opening said inner x
    opens-list k e = ap (opening said inner) (sym (is-list k e))

    pub opens-if : n ≡ If → 40 ∷ 105 ∷ 102 ∷ 32 ∷ [] ≡ opening said inner x
    unfolding opening bytes
    opens-if e = rw (is-if e)

    pub opens-lambda : (first count : ℕ) → n ≡ Lambda first count → bytes "(lambda (" ++ (formals_text said false first count ++ bytes ") ") ≡ opening said inner x
    unfolding opening
    opens-lambda first count e = rw (is-lambda first count e, bound-count first count e)

    pub opens-application : (k : ℕ) → n ≡ Application k → 40 ∷ [] ≡ opening said inner x
    unfolding opening bytes
    opens-application k e = rw (is-application k e)

  -- a variable that stands there has a name, and so have those that a lambda binds
  module _ (said : Said) (f : named said x ≡ true) where
    pub name-spelled : (k : ℕ) → n ≡ Name k → has_name said.table k ≡ true
    unfolding named
    name-spelled k e = subst (λ (y : Node). named said y ≡ true) (is_name k e) f

    pub variable-named : (k : ℕ) → n ≡ Variable k → Naming said (suc k)
    unfolding named
    variable-named k e =
        let h = both (nat_lt k (length said.called)) (spelled said) (subst (λ (y : Node). named said y ≡ true) (is-variable k e) f) in
        record { many = ltb-true k (length said.called) h.0; slots = h.1 }

    pub lambda-named : (first count : ℕ) → n ≡ Lambda first count → Naming said (first + count)
    unfolding named
    lambda-named first count e =
        let m = bound-count first count e in
        let h = both (nat_le (first + length (bound first count e)) (length said.called)) (spelled said) (subst (λ (y : Node). named said y ≡ true) (is-lambda first count e) f) in
        record { many = omega (arith, m, leb-true (first + length (bound first count e)) (length said.called) h.0); slots = h.1 }

  module _ (inner : Bool) where
    -- nothing closes a leaf
    pub closes-variable : (k : ℕ) → n ≡ Variable k → [] ≡ closing inner x
    unfolding closing
    closes-variable k e = rw (is-variable k e)

    pub closes-operation : (k : ℕ) → n ≡ Operation k → [] ≡ closing inner x
    unfolding closing
    closes-operation k e = rw (is-operation k e)

    pub closes-constant : (a : K.Constant) → x ≡ constant_n a → [] ≡ closing inner x
    unfolding closing
    closes-constant a e = rw e

    pub closes-name : (k : ℕ) → n ≡ Name k → [] ≡ closing inner x
    unfolding closing
    closes-name k e = rw (is_name k e)

    pub closes-list : (k : ℕ) → n ≡ Several k → closing inner (list_n k) ≡ closing inner x
    closes-list k e = ap (closing inner) (sym (is-list k e))

    pub closes_if : n ≡ If → 41 ∷ [] ≡ closing inner x
    unfolding closing bytes
    closes_if e = rw (is-if e)

    pub closes-lambda : (first count : ℕ) → n ≡ Lambda first count → 41 ∷ [] ≡ closing inner x
    unfolding closing bytes
    closes-lambda first count e = rw (is-lambda first count e)

    pub closes-application : (k : ℕ) → n ≡ Application k → 41 ∷ [] ≡ closing inner x
    unfolding closing bytes
    closes-application k e = rw (is-application k e)

-- ---- a node of which words tell, where a word stands behind a lambda's names

module _ (ws : List ℕ) (n : C.Node) (x : Node) (r : List ℕ) (h : node_in ws n ≡ node_at ws) (is : node_at ws ≡ got x r) (behind : 1 ≤ parts x → 1 ≤ length r) where
  by_size : (y : Node) (s : List ℕ) → got y s ≡ got x r → length (node_words y) ≤ length ws
  by_size y s e =
      let i : y ≡ x = cc in
      omega (arith, ap (λ (z : Node). length (node_words z)) i, ap length (node-read ws x r is).words, length-append (node_words x) r)

  room_of : (m : C.Node) → node_in ws m ≡ got x r → (shape_in m).own ≤ length ws
  unfolding node_in shape_in shape_by node_words constant_words integer boolean K.decimal parts
  room_of (Variable k) e = by_size _ _ e
  room_of (Operation k) e = by_size _ _ e
  room_of (Integer w) e = by_size _ _ e
  room_of (Boolean w) e = by_size _ _ e
  room_of (Decimal w p) e = by_size _ _ e
  room_of (Name k) e = by_size _ _ e
  room_of (Several k) e = by_size _ _ e
  room_of If e = by_size _ _ e
  room_of (Lambda first count) e =
      let i : lambda_n first (take count (drop 3 ws)) ≡ x = cc in
      let j : drop (3 + count) ws ≡ r = cc in
      omega (arith, behind (omega (arith, ap parts i)), ap length j, length-drop (3 + count) ws)
  room_of (Application k) e = by_size _ _ e

  pub opened-here : OpenedAs ws n
  opened-here = record { is = h; room = room_of n (h ∙ is) }

-- the slot of a variable's name
pub naming-slot : (said : Said) (count n : ℕ) → Naming said count → n < count → has_name said.table (slice_index said.called n) ≡ true
unfolding spelled
naming-slot said count n g h = all-at (has_name said.table) said.called n g.slots (omega (arith, g.many))

-- an equal lambda opens equally
pub lambda-same : (said : Said) (a b m n : ℕ) → a ≡ b → m ≡ n → bytes "(lambda (" ++ (formals_text said false a m ++ bytes ") ") ≡ bytes "(lambda (" ++ (formals_text said false b n ++ bytes ") ")
lambda-same said a b m n p q = rw (p, q)
