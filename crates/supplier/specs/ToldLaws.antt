-- Laws of what the code finds, one for each way through it.
use Rattle.std.specs.Prelude.{◌≡◌, Bool, true, ◌&&◌, List, [], ◌∷◌, ◌++◌, eqb, Option, Ok, Err, Some}
use Rattle.std.specs.Prelude as P
use Rattle.std.proofs.Math.Path.{refl, sym, ap, ap₂, subst}
use Rattle.std.proofs.Common.{◌∙◌, take_all}
use Rattle.std.proofs.Math.Bool.{false}
use Prim.Native.Nat.{ℕ, zero, suc, ◌+◌, ◌-◌, ◌≤◌, ◌<◌}
use native.Mathlib.Omega.{arith}
use Rattle.std.proofs.Math.ListN.{length, get_or, take, drop, length-drop, length-append}
use Rattle.std.proofs.Math.Seq.{drop-drop, length-take-le}
use borrow.Author.Tests.{eq-eqb, ne_eqb, lt-ltb, le-ltb}
use Rattle.std.specs.Result.{result_unwrap_or}
use Rattle.words.specs.Lists.{equal}
use Rattle.words.specs.ListLaws.{rest-is}
use Rattle.words.specs.TestLaws.{and_both, and-none-left, and-none-right}
use Rattle.datum.specs.Constant.{Constant, constant_words, integer, boolean, decimal}
use Rattle.datum.specs.NameTable.{name_at, has_name}
use Rattle.core_term.specs.Node as N
use Rattle.core_term.specs.Node.{Got, got, missing, node_at, node_words}
use Rattle.core_term.specs.NodeLaws.{node-read}
use Rattle.core_term.specs.Code.Opened.{node_in, opened_in}
use Rattle.core_term.specs.declared.nodes.Node.{Node}
use Rattle.core_term.specs.declared.nodes.Node.TheVariants.{Variable, Operation, Integer, Boolean, Decimal, Name, List as Several, If, Lambda, Application}
use Rattle.supplier.specs.declared.front.Difference.{Difference}
use Rattle.supplier.specs.declared.front.Difference.TheVariants.{Other, Open, Outside}
use Rattle.supplier.specs.declared.front.Front.{Front}
use Rattle.supplier.specs.declared.front.Sort.{Sort}
use Rattle.supplier.specs.declared.front.Sort.TheVariants as S
use Rattle.comparison.specs.Grammar.{is_free}
use Rattle.supplier.specs.Walk.{Found, outside, other, same, left_of, joined, met, Ours, our, ours_of, variable_sort, takes, constant_here, quoted_name, is_place, is_operation, free, reference, name_here}
use Rattle.supplier.specs.declared.scope.Formal.{Formal}
use Rattle.supplier.specs.Scope.{variable_in, scope_of, place_after, innermost}
use Rattle.supplier.specs.ScopeLaws.{innermost-most, meant-none, meant-some}
use Rattle.supplier.specs.Told.{Walked, found_of, Told, sort_number, ours_in, Fronted}

-- ---- findings

pub told-as : (ws : List ℕ) (f g : Found) (r : Walked) → f ≡ g → Told ws f r → Told ws g r
told-as ws f g r e t = subst (λ x. Told ws x r) e t

drop_past : (ws : List ℕ) (k : ℕ) → length ws ≤ k → drop k ws ≡ []
drop_past [] zero h = refl
drop_past [] (suc k) h = refl
drop_past (w ∷ ws) zero h = absurd (omega arith)
drop_past (w ∷ ws) (suc k) h = drop_past ws k (omega arith)

pub told_same : (ws : List ℕ) (n : ℕ) → n ≤ length ws → Told ws (same (drop n ws)) (Ok n)
unfolding found_of
told_same ws n h = record { is = refl; within = h }

told-other : (ws : List ℕ) → Told ws other (Err Other)
unfolding found_of
told-other ws = record { is = refl; within = tt }

pub told-outside : (ws : List ℕ) → Told ws outside (Err Outside)
unfolding found_of
told-outside ws = record { is = refl; within = tt }

-- ---- one thing found behind another

module _ (ws vs : List ℕ) where
  pub joined-then : (n : ℕ) (e : Difference) → Told ws (joined (found_of ws (Ok n)) (found_of vs (Err e))) (Err e)
  unfolding found_of joined
  joined-then n Other = record { is = refl; within = tt }
  joined-then n Open = record { is = refl; within = tt }
  joined-then n Outside = record { is = refl; within = tt }

  pub joined-first : (d : Difference) (m : ℕ) → Told ws (joined (found_of ws (Err d)) (found_of vs (Ok m))) (Err d)
  unfolding found_of joined
  joined-first Other m = record { is = refl; within = tt }
  joined-first Open m = record { is = refl; within = tt }
  joined-first Outside m = record { is = refl; within = tt }

pub joined-both : (ws : List ℕ) (n m : ℕ) → n ≤ length ws → m ≤ length (drop n ws)
    → Told ws (joined (found_of ws (Ok n)) (found_of (left_of (found_of ws (Ok n))) (Ok m))) (Ok (n + m))
unfolding found_of left_of joined
joined-both ws n m h l = record { is = ap same (sym (drop-drop m n ws)); within = omega (arith, length-drop n ws) }

-- the words that are left, behind those that were taken
pub words-behind : (ws : List ℕ) (f : Walked) (n : ℕ) → n ≡ result_unwrap_or f (length ws) → take (length ws - n) (drop n ws) ≡ left_of (found_of ws f)
unfolding found_of left_of
words-behind ws (Ok k) n e = rest-is n ws ∙ ap (λ x. drop x ws) e
words-behind ws (Err Other) n e = rest-is n ws ∙ drop_past ws n (omega (arith, e))
words-behind ws (Err Open) n e = rest-is n ws ∙ drop_past ws n (omega (arith, e))
words-behind ws (Err Outside) n e = rest-is n ws ∙ drop_past ws n (omega (arith, e))

-- ---- our node as numbers

pub opened-as : (ws : List ℕ) (r : Option Node) (n m : Node) → opened_in ws r ≡ node_at ws → r ≡ Some n → n ≡ m → node_in ws m ≡ node_at ws
unfolding opened_in
opened-as ws r n m h e f = ap (node_in ws) (sym f) ∙ ap (opened_in ws) (sym e) ∙ h

fronted : (ws : List ℕ) (x : N.Node) (k : ℕ) → got x (drop k ws) ≡ node_at ws → length (node_words x) ≡ k → (r : Front) → ours_in ws r ≡ ours_of (got x (drop k ws)) → r.size ≡ k → Fronted ws r
fronted ws x k h l r e s =
    record { is = e ∙ ap ours_of h; within = omega (arith, s, l, ap length (node-read ws x (drop k ws) (sym h)).words ∙ length-append (node_words x) (drop k ws)) }

module _ (ws : List ℕ) where
  abbrev by : Sort → (first second third size : ℕ) → Front
  by a b c d k = record { sort = a; first = b; second = c; third = d; size = k }

  pub front-variable : (n : ℕ) → node_in ws (Variable n) ≡ node_at ws → Fronted ws (by S.Variable n 0 0 2)
  unfolding node_in ours_in ours_of node_words
  front-variable n h = fronted ws (N.variable_n n) 2 h refl (by S.Variable n 0 0 2) refl refl

  pub front-operation : (n : ℕ) → node_in ws (Operation n) ≡ node_at ws → Fronted ws (by S.Operation n 0 0 2)
  unfolding node_in ours_in ours_of node_words
  front-operation n h = fronted ws (N.operation_n n) 2 h refl (by S.Operation n 0 0 2) refl refl

  pub front-integer : (w : ℕ) → node_in ws (Integer w) ≡ node_at ws → Fronted ws (by S.Constant 1 w 0 2)
  unfolding node_in ours_in ours_of node_words integer constant_words
  front-integer w h = fronted ws (N.constant_n (integer w)) 2 h refl (by S.Constant 1 w 0 2) refl refl

  pub front-boolean : (w : ℕ) → node_in ws (Boolean w) ≡ node_at ws → Fronted ws (by S.Constant 2 w 0 2)
  unfolding node_in ours_in ours_of node_words boolean constant_words
  front-boolean w h = fronted ws (N.constant_n (boolean w)) 2 h refl (by S.Constant 2 w 0 2) refl refl

  pub front-decimal : (w p : ℕ) → node_in ws (Decimal w p) ≡ node_at ws → Fronted ws (by S.Constant 5 w p 3)
  unfolding node_in ours_in ours_of node_words decimal constant_words
  front-decimal w p h = fronted ws (N.constant_n (decimal w p)) 3 h refl (by S.Constant 5 w p 3) refl refl

  pub front-name : (n : ℕ) → node_in ws (Name n) ≡ node_at ws → Fronted ws (by S.Name n 0 0 2)
  unfolding node_in ours_in ours_of node_words
  front-name n h = fronted ws (N.name_n n) 2 h refl (by S.Name n 0 0 2) refl refl

  pub front-list : (n : ℕ) → node_in ws (Several n) ≡ node_at ws → Fronted ws (by S.List n 0 0 2)
  unfolding node_in ours_in ours_of node_words
  front-list n h = fronted ws (N.list_n n) 2 h refl (by S.List n 0 0 2) refl refl

  pub front-if : node_in ws If ≡ node_at ws → Fronted ws (by S.If 0 0 0 1)
  unfolding node_in ours_in ours_of node_words
  front-if h = fronted ws N.if_n 1 h refl (by S.If 0 0 0 1) refl refl

  pub front-application : (n : ℕ) → node_in ws (Application n) ≡ node_at ws → Fronted ws (by S.Application n 0 0 2)
  unfolding node_in ours_in ours_of node_words
  front-application n h = fronted ws (N.application_n n) 2 h refl (by S.Application n 0 0 2) refl refl

  pub front-none : opened_in ws P.None ≡ node_at ws → Fronted ws (by S.None 0 0 0 (length ws))
  unfolding opened_in ours_in ours_of
  front-none h = record { is = ap (λ l. our 8 0 0 0 l) (drop_past ws (length ws) (omega arith)) ∙ ap ours_of h; within = omega arith }

  module _ (v count : ℕ) (h : node_in ws (Lambda v count) ≡ node_at ws) where
    pub lambda-three : 3 ≤ length ws
    unfolding node_in node_words
    lambda-three =
        let ns = take count (drop 3 ws) in
        omega (arith, ap length (node-read ws (N.lambda_n v ns) (drop (3 + count) ws) (sym h)).words ∙ length-append (node_words (N.lambda_n v ns)) (drop (3 + count) ws))

    pub front-lambda : count < length ws - 3 → (k : ℕ) → k ≡ count + 3 → Fronted ws (by S.Lambda count v 0 k)
    unfolding node_in ours_in ours_of
    front-lambda l k e =
        let many : length (take count (drop 3 ws)) ≡ count = length-take-le count (drop 3 ws) (omega (arith, l, length-drop 3 ws)) in
        let s : 3 + count ≡ k = omega (arith, e) in
        record { is = sym (ap₂ (λ n left. our 6 n v 0 (drop left ws)) many s) ∙ ap ours_of h; within = omega (arith, l, e) }

    pub front-names : length ws - 3 ≤ count → Fronted ws (by S.Lambda (length ws - 3) v 0 (length ws))
    unfolding node_in ours_in ours_of
    front-names l =
        let many : length (take count (drop 3 ws)) ≡ length ws - 3 = ap length (take_all count (drop 3 ws) (omega (arith, l, length-drop 3 ws))) ∙ length-drop 3 ws in
        let none' : drop (length ws) ws ≡ drop (3 + count) ws = drop_past ws (length ws) (omega arith) ∙ sym (drop_past ws (3 + count) (omega (arith, l))) in
        record { is = ap₂ (λ n left. our 6 n v 0 left) (sym many) none' ∙ ap ours_of h; within = omega arith }

-- ---- sorts by their numbers

sort_of : ℕ → Sort
sort_of zero = S.Constant
sort_of (suc zero) = S.Variable
sort_of (suc (suc zero)) = S.Operation
sort_of (suc (suc (suc zero))) = S.Name
sort_of (suc (suc (suc (suc zero)))) = S.List
sort_of (suc (suc (suc (suc (suc zero))))) = S.If
sort_of (suc (suc (suc (suc (suc (suc zero)))))) = S.Lambda
sort_of (suc (suc (suc (suc (suc (suc (suc zero))))))) = S.Application
sort_of (suc (suc (suc (suc (suc (suc (suc (suc n)))))))) = S.None

sort-back : (s : Sort) → sort_of (sort_number s) ≡ s
unfolding sort_of
sort-back S.Constant = refl
sort-back S.Variable = refl
sort-back S.Operation = refl
sort-back S.Name = refl
sort-back S.List = refl
sort-back S.If = refl
sort-back S.Lambda = refl
sort-back S.Application = refl
sort-back S.None = refl

-- ---- a node that the text wants: the test passes, or not

module _ (ws : List ℕ) (r : Front) (f : Fronted ws r) (test : Ours → Bool) where
  abbrev tested : Found
  tested = met (test (ours_of (node_at ws))) (ours_of (node_at ws)).left

  met-same : test (ours_in ws r) ≡ true → Told ws tested (Ok r.size)
  unfolding ours_in met
  met-same h = subst (λ o. Told ws (met (test o) o.left) (Ok r.size)) f.is (rw h (told_same ws r.size f.within))

  met-other : test (ours_in ws r) ≡ false → Told ws tested (Err Other)
  unfolding met
  met-other h = subst (λ o. Told ws (met (test o) o.left) (Err Other)) f.is (rw h (told-other ws))

-- a sort is the one that is wanted, or not
module _ (r : Front) (k : Sort) where
  sort_is : r.sort ≡ k → eqb (sort_number k) (sort_number r.sort) ≡ true
  sort_is h = eq-eqb (sort_number k) (sort_number r.sort) (ap sort_number (sym h))

  sort-ne : (r.sort ≡ k → ⊥) → eqb (sort_number k) (sort_number r.sort) ≡ false
  sort-ne h = ne_eqb (sort_number k) (sort_number r.sort) (λ e. h (sym (sort-back r.sort) ∙ ap sort_of (sym e) ∙ sort-back k))

module _ (ws : List ℕ) (r : Front) (f : Fronted ws r) where
  module _ (k : Sort) (n : ℕ) where
    abbrev wanted : Ours → Bool
    wanted o = eqb (sort_number k) o.sort && eqb n o.first

    pub takes-sort : (r.sort ≡ k → ⊥) → Told ws (takes (sort_number k) n (ours_of (node_at ws))) (Err Other)
    unfolding takes ours_in
    takes-sort h = met-other ws r f wanted (rw (sort-ne r k h))

    pub takes-number : (m : ℕ) → m ≡ r.first → (m ≡ n → ⊥) → Told ws (takes (sort_number k) n (ours_of (node_at ws))) (Err Other)
    unfolding takes ours_in
    takes-number m e h = met-other ws r f wanted (and-none-right (eqb (sort_number k) (sort_number r.sort)) _ (ne_eqb n r.first (λ q. h (e ∙ sym q))))

    pub takes_same : r.sort ≡ k → (m : ℕ) → m ≡ r.first → m ≡ n → Told ws (takes (sort_number k) n (ours_of (node_at ws))) (Ok r.size)
    unfolding takes ours_in
    takes_same h m e i = met-same ws r f wanted (and_both _ _ (sort_is r k h) (eq-eqb n r.first (sym i ∙ e)))

  module _ (a : Constant) where
    abbrev constant_is : Ours → Bool
    constant_is o = eqb 0 o.sort && (eqb a.kind o.first && (eqb a.first o.second && eqb a.second o.third))

    abbrev Here : Walked → Type 0
    Here w = Told ws (constant_here a (ours_of (node_at ws))) w

    pub constant-sort : (r.sort ≡ S.Constant → ⊥) → Here (Err Other)
    unfolding constant_here ours_in
    constant-sort h = met-other ws r f constant_is (rw (sort-ne r S.Constant h))

    pub constant-kind : (r.first ≡ a.kind → ⊥) → Here (Err Other)
    unfolding constant_here ours_in
    constant-kind h = met-other ws r f constant_is (and-none-right (eqb 0 (sort_number r.sort)) _ (and-none-left _ _ (ne_eqb a.kind r.first (λ e. h (sym e)))))

    pub constant-first : (m : ℕ) → m ≡ r.second → (m ≡ a.first → ⊥) → Here (Err Other)
    unfolding constant_here ours_in
    constant-first m e h =
        met-other ws r f constant_is
        (and-none-right (eqb 0 (sort_number r.sort)) _ (and-none-right (eqb a.kind r.first) _ (and-none-left _ _ (ne_eqb a.first r.second (λ q. h (e ∙ sym q))))))

    pub constant-second : (m : ℕ) → m ≡ r.third → (m ≡ a.second → ⊥) → Here (Err Other)
    unfolding constant_here ours_in
    constant-second m e h =
        met-other ws r f constant_is
        (and-none-right (eqb 0 (sort_number r.sort)) _ (and-none-right (eqb a.kind r.first) _ (and-none-right (eqb a.first r.second) _ (ne_eqb a.second r.third (λ q. h (e ∙ sym q))))))

    pub constant-same : r.sort ≡ S.Constant → r.first ≡ a.kind → (m : ℕ) → m ≡ r.second → m ≡ a.first → (k : ℕ) → k ≡ r.third → k ≡ a.second
        → Here (Ok r.size)
    unfolding constant_here ours_in
    constant-same s t m e i k g j =
        met-same ws r f constant_is
        (and_both _ _ (sort_is r S.Constant s) (and_both _ _ (eq-eqb a.kind r.first (sym t)) (and_both _ _ (eq-eqb a.first r.second (sym i ∙ e)) (eq-eqb a.second r.third (sym j ∙ g)))))

-- ---- names

module _ (theirs ours operations ws : List ℕ) (r : Front) (f : Fronted ws r) (n : ℕ) where
  abbrev spelled_so : Ours → Bool
  spelled_so o = eqb 3 o.sort && (has_name ours o.first && equal (name_at theirs n) (name_at ours o.first))

  abbrev Quoted : Walked → Type 0
  Quoted w = Told ws (quoted_name theirs ours operations n (ours_of (node_at ws))) w

  pub quoted-sort : (r.sort ≡ S.Name → ⊥) → Quoted (Err Other)
  unfolding quoted_name ours_in
  quoted-sort h = met-other ws r f spelled_so (rw (sort-ne r S.Name h))

  module _ (m : ℕ) (e : m ≡ r.first) where
    pub quoted-unnamed : has_name ours m ≡ false → Quoted (Err Other)
    unfolding quoted_name ours_in
    quoted-unnamed h = met-other ws r f spelled_so (and-none-right (eqb 3 (sort_number r.sort)) _ (and-none-left _ _ (ap (has_name ours) (sym e) ∙ h)))

    pub quoted-other : equal (name_at theirs n) (name_at ours m) ≡ false → Quoted (Err Other)
    unfolding quoted_name ours_in
    quoted-other h =
        met-other ws r f spelled_so (and-none-right (eqb 3 (sort_number r.sort)) _ (and-none-right (has_name ours r.first) _ (ap (λ k. equal (name_at theirs n) (name_at ours k)) (sym e) ∙ h)))

    pub quoted-same : r.sort ≡ S.Name → has_name ours m ≡ true → equal (name_at theirs n) (name_at ours m) ≡ true → Quoted (Ok r.size)
    unfolding quoted_name ours_in
    quoted-same s h i =
        met-same ws r f spelled_so
        (and_both _ _ (sort_is r S.Name s) (and_both _ _ (ap (has_name ours) (sym e) ∙ h) (ap (λ k. equal (name_at theirs n) (name_at ours k)) (sym e) ∙ i)))

  -- an operation's place
  abbrev Place : Bool → Type 0
  Place b = b ≡ is_place theirs ours operations n (ours_of (node_at ws))

  placed : (b : Bool) → b ≡ is_place theirs ours operations n (ours_in ws r) → Place b
  placed b e = e ∙ ap (is_place theirs ours operations n) f.is

  pub place-sort : (r.sort ≡ S.Operation → ⊥) → Place false
  unfolding is_place ours_in
  place-sort h = placed false (sym (rw (sort-ne r S.Operation h)))

  module _ (p : ℕ) (e : p ≡ r.first) where
    pub place-past : length operations ≤ p → Place false
    unfolding is_place ours_in
    place-past h = placed false (sym (and-none-right (eqb 2 (sort_number r.sort)) _ (and-none-left _ _ (le-ltb r.first (length operations) (omega (arith, e, h))))))

    pub place_is : r.sort ≡ S.Operation → p < length operations → (m : ℕ) → m ≡ get_or operations p 0 → (b : Bool) → b ≡ equal (name_at theirs n) (name_at ours m) → Place b
    unfolding is_place ours_in
    place_is s l m i b q =
        let u : m ≡ get_or operations r.first 0 = i ∙ ap (λ k. get_or operations k 0) e in
        placed b (sym (rw (sort_is r S.Operation s, lt-ltb r.first (length operations) (omega (arith, e, l)), sym u, sym q)))

  abbrev Free : Walked → Type 0
  Free w = Told ws (free theirs ours operations n (ours_of (node_at ws))) w

  pub free-same : (b : Bool) → Place b → b ≡ true → Free (Ok r.size)
  unfolding free ours_in
  free-same b e h =
      let l : drop r.size ws ≡ (ours_of (node_at ws)).left = ap (λ o. o.left) f.is in
      rw (sym e ∙ h) (told-as ws _ _ _ (ap same l) (told_same ws r.size f.within))

  module _ (b : Bool) (e : Place b) (h : b ≡ false) (d : Bool) (i : d ≡ is_operation theirs ours operations n) where
    pub free_other : d ≡ true → Free (Err Other)
    unfolding free
    free_other k = rw (sym e ∙ h, sym i ∙ k) (told-other ws)

    pub free_open : d ≡ false → Free (Err Open)
    unfolding free found_of
    free_open k = rw (sym e ∙ h, sym i ∙ k) (record { is = refl; within = tt })

-- a name as an expression
module _ (theirs ours operations ws : List ℕ) (scope : List Formal) (top n : ℕ) where
  abbrev Refers : Walked → Type 0
  Refers w = Told ws (name_here theirs ours operations false (scope_of scope top) n (ours_of (node_at ws))) w

  pub reference-outside : n < 3 → Refers (Err Outside)
  unfolding name_here is_free found_of
  reference-outside l = rw (le-ltb 2 n (omega arith)) (record { is = refl; within = tt })

  module _ (l : 3 ≤ n) (w : Walked) where
    pub reference-free : place_after P.None ≡ innermost n scope top → Told ws (free theirs ours operations n (ours_of (node_at ws))) w → Refers w
    unfolding name_here is_free reference place_after
    reference-free e t = rw (lt-ltb 2 n (omega arith), meant-none n scope top (sym e)) t

    pub reference-variable : (k : ℕ) → place_after (Some k) ≡ innermost n scope top → (v : ℕ) → v ≡ variable_in scope k → Told ws (takes variable_sort v (ours_of (node_at ws))) w → Refers w
    unfolding name_here is_free reference place_after
    reference-variable k e v i t =
        let s : suc k - 1 ≡ k = omega arith in
        let m = meant-some n scope top (suc k) (sym e) (λ z. omega (arith, z)) in
        rw (lt-ltb 2 n (omega arith), m, s, sym i) t

pub found-below : (scope : List Formal) (top n k : ℕ) → place_after (Some k) ≡ innermost n scope top → k < top
unfolding place_after
found-below scope top n k e = omega (arith, e, innermost-most n scope top)
