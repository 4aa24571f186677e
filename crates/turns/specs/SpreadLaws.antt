-- Laws of turns that leave operands: applications and if. Their header words are written, and the operands' words follow.
use Rattle.std.specs.Prelude.{◌≡◌, true, eqb, Ok, Err}
use Rattle.std.proofs.Math.Path.{refl, ap, ap₂, subst}
use Rattle.std.proofs.Common.{sym, ◌∙◌, eqb-true}
use mathlib.Core.List.{List, [], ◌∷◌, ◌++◌, append-nil}
use Prim.Native.Nat.{ℕ, suc, ◌+◌, ◌*◌, ◌-◌, ◌≤◌}
use native.Mathlib.Omega.{arith}
use Rattle.std.proofs.Math.ListN.{length}
use Rattle.words.specs.Limits.{core_rate}
use Rattle.words.specs.TestLaws.{and_parts}
use Rattle.recipe.specs.Name.{Name}
use Rattle.recipe.specs.Tree.{Tree, empty, constant, name, pair, size, is_list, is_list_of, elements, element}
use Rattle.recipe.specs.TreeLaws.{size-positive}
use Rattle.core_term.specs.Term.{Term, variable_c, if_c, application_c, Terms, none_c, more_c, count, on_formals}
use Rattle.core_term.specs.TermLaws.{on_formals-count}
use Rattle.core_term.specs.Node.{node_words, if_code, application_code}
use Rattle.core_term.specs.Words.{encode}
use Rattle.expansion.specs.Run.{words_of, words_of_all}
use Rattle.expansion.specs.Lookup.{form, if, lookup}
use Rattle.expansion.specs.Computation.{State, M, give}
use Rattle.expansion.specs.Forms.{expand_all, expand_operands, expand_application, expand_list, expand_pair, expand_tree}
use Rattle.arena.specs.Arena.{tree_at}
use Rattle.forms.specs.Quotes.{Written}
use Rattle.turns.specs.declared.answers.Reached.{Reached}
use Rattle.turns.specs.Answers.{Ended}
use Rattle.turns.specs.Ends.{End, finished, refused_end, halted, end_of, then, needs}
use Rattle.turns.specs.EndLaws.{expand_all-pair, if-end, operands_end, application-end}
use Rattle.turns.specs.Numbers.{moved}
use Rattle.turns.specs.Memory.{Tables, tables, state_at, Moved, core_need, Ready, Placed}
use Rattle.turns.specs.MemoryLaws.{put-after, kept-moved, state-moved}
use Rattle.turns.specs.Turns.{Left, turn_of, operands_of, Spreads}
use Rattle.turns.specs.LeafLaws.{headed}

-- ---- words that follow others

-- the words of what g makes are a header and the words before
module _ {A B : Type 0} (words : A → List ℕ) (words' : B → List ℕ) (g : A → B) (header : List ℕ) where
  abbrev pub Prefixed : End A → Type 0
  Prefixed (finished v s) = words' (g v) ≡ header ++ words v
  Prefixed (refused_end k s) = Unit {0}
  Prefixed halted = Unit {0}

  pub left_after : (r q : Reached) (core core₁ : List ℕ) (last : Tables) (e : End A) (a : Ended)
      → Prefixed e → Written header core core₁ r.at q.at → q.at ≤ length core
      → Left words q core₁ last e a → Left words' r core last (then (λ v s. finished (g v) s) e) a
  unfolding then
  left_after r q core core₁ last (finished v s) (Ok p) f h room l = (l.0, subst (λ (ws : List ℕ). Written ws core last.core r.at p.at) (sym f) (put-after h l.1 room))
  left_after r q core core₁ last (finished v s) (Err x) f h room l = l
  left_after r q core core₁ last (refused_end k s) (Ok p) f h room l = l
  left_after r q core core₁ last (refused_end k s) (Err x) f h room l = l
  left_after r q core core₁ last halted a f h room l = l

-- ---- operands are as many as elements

abbrev pub Counts : ℕ → End (Terms Name) → Type 0
Counts n (finished v s) = count v ≡ n
Counts n (refused_end k s) = Unit {0}
Counts n halted = Unit {0}

counts-more : (n : ℕ) (a : Term Name) (e : End (Terms Name)) → Counts n e → Counts (suc n) (then (λ b v. finished (more_c a b) v) e)
unfolding then count
counts-more n a (finished v s) h = ap suc h
counts-more n a (refused_end k s) h = tt
counts-more n a halted h = tt

counts-then : (n : ℕ) (f : State → End (Terms Name)) (e : End (Term Name)) → ((s : State) → Counts n (f s)) → Counts (suc n) (then (λ a u. then (λ b v. finished (more_c a b) v) (f u)) e)
unfolding then
counts-then n f (finished a u) h = counts-more n a (f u) (h u)
counts-then n f (refused_end k s) h = tt
counts-then n f halted h = tt

module _ (limit : ℕ) (operations : List ℕ) (fuel : ℕ) (expand : Tree → M (Term Name)) where
  pub operands-count : (t : Tree) (s : State) → Counts (length (elements t)) (operands_of limit operations fuel expand t s)
  unfolding expand_all elements give end_of count
  operands-count empty s = refl
  operands-count (constant a) s = refl
  operands-count (name x) s = refl
  operands-count (pair h t) s =
      subst (Counts (suc (length (elements t)))) (sym (expand_all-pair limit operations fuel expand h t s))
      (counts-then (length (elements t)) (λ u. operands_of limit operations fuel expand t u) (end_of (expand h s)) (λ u. operands-count t u))

-- ---- the turn, given its header

module _ (limit : ℕ) (operations : List ℕ) (fuel : ℕ) (tree : Tree) (r q : Reached) (work core core' macros header : List ℕ) (list w : ℕ)
    (ready : Ready fuel (size tree) r (tables work core macros)) (m : Moved header r core core' q) (placed : Placed work r.top list w) where
  pub spread-by : (g : Terms Name → Term Name) → size (tree_at work list w) ≤ size tree → length header + core_rate * (size (tree_at work list w) - 1) ≤ core_rate * size tree
      → ((expand : Tree → M (Term Name)) (s : State) → turn_of limit operations fuel expand tree s ≡ then (λ v u. finished (g v) u) (operands_of limit operations fuel expand (tree_at work list w) s))
      → ((expand : Tree → M (Term Name)) (s : State) → Prefixed words_of_all words_of g header (operands_of limit operations fuel expand (tree_at work list w) s))
      → Spreads limit operations fuel tree r (tables work core macros) (tables work core' macros) list w q
  unfolding core_need moved
  spread-by g less few turn prefixed =
      let top-is : q.top ≡ r.top = ap (λ (z : Reached). z.top) m.is in
      let sum_is : q.sum ≡ r.sum = ap (λ (z : Reached). z.sum) m.is in
      let s = state_at (tables work core macros) r in
      let same : s ≡ state_at (tables work core' macros) q = state-moved r q work core core' macros header m in
      record {
        kept = kept-moved fuel (size tree) (size (tree_at work list w) - 1) r q work core core' macros header ready m (omega arith) few;
        placed = subst (λ (n : ℕ). Placed work n list w) (sym top-is) placed;
        falls = omega arith;
        means = λ expand a last l.
            subst (λ (e : End (Term Name)). Left words_of r core last e a) (sym (turn expand s))
            (left_after words_of_all words_of g header r q core core' last (operands_of limit operations fuel expand (tree_at work list w) s) a (prefixed expand s) m.put
            (omega (arith, m.put.end, ready.core-room))
            (subst (λ (z : State). Left words_of_all q core' last (operands_of limit operations fuel expand (tree_at work list w) z) a) (sym same) l));
      }

-- ---- an application whose head is a variable or an operation

module _ (head : Term Name) (code number : ℕ) (words : words_of head ≡ code ∷ number ∷ []) where
  application-prefixed : (n : ℕ) (e : End (Terms Name)) → Counts n e → Prefixed words_of_all words_of (application_c head) (application_code ∷ n ∷ code ∷ number ∷ []) e
  unfolding on_formals encode node_words
  application-prefixed n (finished v s) h = ap₂ (λ (k : ℕ) (l : List ℕ). 8 ∷ k ∷ (l ++ words_of_all v)) (on_formals-count (λ x. x.number) v ∙ h) words
  application-prefixed n (refused_end k s) h = tt
  application-prefixed n halted h = tt

  module _ (limit : ℕ) (operations : List ℕ) (fuel : ℕ) (x : Name) (t : Tree) (r q : Reached) (work core core' macros : List ℕ) (list w : ℕ)
      (ready : Ready fuel (size (pair (name x) t)) r (tables work core macros)) (placed : Placed work r.top list w) (list-is : tree_at work list w ≡ t)
      (m : Moved (application_code ∷ length (elements t) ∷ code ∷ number ∷ []) r core core' q)
      (turn : (expand : Tree → M (Term Name)) (s : State) → turn_of limit operations fuel expand (pair (name x) t) s ≡ end_of (expand_operands limit operations fuel expand head t s)) where
    pub spread-named : Spreads limit operations fuel (pair (name x) t) r (tables work core macros) (tables work core' macros) list w q
    unfolding size
    spread-named =
        spread-by limit operations fuel (pair (name x) t) r q work core core' macros (application_code ∷ length (elements t) ∷ code ∷ number ∷ []) list w ready m placed (application_c head)
        (rw list-is (omega arith))
        (rw list-is (omega (arith, size-positive t)))
        (λ expand s. rw list-is (turn expand s ∙ operands_end limit operations fuel expand head t s))
        (λ expand s. rw list-is (application-prefixed (length (elements t)) (operands_of limit operations fuel expand t s) (operands-count limit operations fuel expand t s)))

-- ---- an application with another head: the head is the first of its operands

unfoldable pub application_of : Terms Name → Term Name
application_of none_c = variable_c 0
application_of (more_c a b) = application_c a b

applied-prefixed : (n : ℕ) (e : End (Terms Name)) → Counts (suc n) e → Prefixed words_of_all words_of application_of (application_code ∷ n ∷ []) e
unfolding on_formals encode node_words application_of count
applied-prefixed n (finished none_c s) h = absurd (omega arith)
applied-prefixed n (finished (more_c a b) s) h = let k : count b ≡ n = omega arith in ap (λ (k : ℕ). 8 ∷ k ∷ (words_of a ++ words_of_all b)) (on_formals-count (λ x. x.number) b ∙ k)
applied-prefixed n (refused_end k s) h = tt
applied-prefixed n halted h = tt

applied-inner : (a : Term Name) (e : End (Terms Name)) → then (λ b v. finished (application_c a b) v) e ≡ then (λ v u. finished (application_of v) u) (then (λ b v. finished (more_c a b) v) e)
unfolding then application_of
applied-inner a (finished b v) = refl
applied-inner a (refused_end k s) = refl
applied-inner a halted = refl

applied-then : (f : State → End (Terms Name)) (e : End (Term Name))
    → then (λ a u. then (λ b v. finished (application_c a b) v) (f u)) e ≡ then (λ v u. finished (application_of v) u) (then (λ a u. then (λ b v. finished (more_c a b) v) (f u)) e)
unfolding then
applied-then f (finished a u) = applied-inner a (f u)
applied-then f (refused_end k s) = refl
applied-then f halted = refl

module _ (limit : ℕ) (operations : List ℕ) (fuel : ℕ) where
  -- the head is no name
  other-head : (h t : Tree) → ((x : Name) → h ≡ name x → ⊥) → (expand : Tree → M (Term Name)) (s : State)
      → turn_of limit operations fuel expand (pair h t) s ≡ end_of (expand_application limit operations fuel expand h t s)
  unfolding expand_tree expand_pair
  other-head empty t unlike expand s = refl
  other-head (constant a) t unlike expand s = refl
  other-head (name x) t unlike expand s = absurd (unlike x refl)
  other-head (pair a b) t unlike expand s = refl

  applied-turn : (h t : Tree) → ((x : Name) → h ≡ name x → ⊥) → (expand : Tree → M (Term Name)) (s : State)
      → turn_of limit operations fuel expand (pair h t) s ≡ then (λ v u. finished (application_of v) u) (operands_of limit operations fuel expand (pair h t) s)
  applied-turn h t unlike expand s =
      other-head h t unlike expand s
      ∙ application-end limit operations fuel expand h t s
      ∙ applied-then (λ u. operands_of limit operations fuel expand t u) (end_of (expand h s))
      ∙ ap (then (λ v u. finished (application_of v) u)) (sym (expand_all-pair limit operations fuel expand h t s))

  module _ (h t : Tree) (r q : Reached) (work core core' macros : List ℕ) (list w : ℕ)
      (ready : Ready fuel (size (pair h t)) r (tables work core macros)) (placed : Placed work r.top list w) (list-is : tree_at work list w ≡ pair h t)
      (m : Moved (application_code ∷ length (elements t) ∷ []) r core core' q) (unlike : (x : Name) → h ≡ name x → ⊥) where
    pub spread-other : Spreads limit operations fuel (pair h t) r (tables work core macros) (tables work core' macros) list w q
    unfolding size elements
    spread-other =
        spread-by limit operations fuel (pair h t) r q work core core' macros (application_code ∷ length (elements t) ∷ []) list w ready m placed application_of
        (rw list-is (omega arith))
        (rw list-is (omega arith))
        (λ expand s. rw list-is (applied-turn h t unlike expand s))
        (λ expand s. rw list-is (applied-prefixed (length (elements t)) (operands_of limit operations fuel expand (pair h t) s) (operands-count limit operations fuel expand (pair h t) s)))

-- ---- if: three operands

unfoldable pub if_of : Terms Name → Term Name
if_of none_c = variable_c 0
if_of (more_c a none_c) = variable_c 0
if_of (more_c a (more_c b none_c)) = variable_c 0
if_of (more_c a (more_c b (more_c c d))) = if_c a b c

if-prefixed : (e : End (Terms Name)) → Counts 3 e → Prefixed words_of_all words_of if_of (if_code ∷ []) e
unfolding on_formals encode node_words if_of count
if-prefixed (finished none_c s) h = absurd (omega arith)
if-prefixed (finished (more_c a none_c) s) h = absurd (omega arith)
if-prefixed (finished (more_c a (more_c b none_c)) s) h = absurd (omega arith)
if-prefixed (finished (more_c a (more_c b (more_c c none_c))) s) h = ap (λ (l : List ℕ). 6 ∷ (words_of a ++ (words_of b ++ l))) (sym (append-nil (words_of c)))
if-prefixed (finished (more_c a (more_c b (more_c c (more_c d f)))) s) h = absurd (omega arith)
if-prefixed (refused_end k s) h = tt
if-prefixed halted h = tt

-- one operand, and two and three before it
if-third : (a b : Term Name) (e : End (Term Name)) → then (λ c w. finished (if_c a b c) w) e
    ≡ then (λ v u. finished (if_of v) u) (then (λ x v. finished (more_c a x) v) (then (λ x v. finished (more_c b x) v) (then (λ c u. then (λ x v. finished (more_c c x) v) (finished none_c u)) e)))
unfolding then if_of
if-third a b (finished c u) = refl
if-third a b (refused_end k s) = refl
if-third a b halted = refl

if-second : (a : Term Name) (f : State → End (Term Name)) (e : End (Term Name)) → then (λ b v. then (λ c w. finished (if_c a b c) w) (f v)) e
    ≡ then (λ v u. finished (if_of v) u) (then (λ x v. finished (more_c a x) v) (then (λ b u. then (λ x v. finished (more_c b x) v) (then (λ c u. then (λ x v. finished (more_c c x) v) (finished none_c u)) (f u))) e))
unfolding then
if-second a f (finished b u) = if-third a b (f u)
if-second a f (refused_end k s) = refl
if-second a f halted = refl

if-first : (f g : State → End (Term Name)) (e : End (Term Name)) → then (λ a u. then (λ b v. then (λ c w. finished (if_c a b c) w) (f v)) (g u)) e
    ≡ then (λ v u. finished (if_of v) u) (then (λ a u. then (λ x v. finished (more_c a x) v) (then (λ b u. then (λ x v. finished (more_c b x) v) (then (λ c u. then (λ x v. finished (more_c c x) v) (finished none_c u)) (f u))) (g u))) e)
unfolding then
if-first f g (finished a u) = if-second a f (g u)
if-first f g (refused_end k s) = refl
if-first f g halted = refl

-- a list that has a first element
pub record Cons (t : Tree) (n : ℕ) : Type 0 where
  pub first : Tree
  pub rest : Tree
  pub is : t ≡ pair first rest
  pub more : length (elements rest) ≡ n

pub cons : (t : Tree) (n : ℕ) → length (elements t) ≡ suc n → Cons t n
unfolding elements
cons empty n h = absurd (omega arith)
cons (constant a) n h = absurd (omega arith)
cons (name x) n h = absurd (omega arith)
cons (pair f r) n h = record { first = f; rest = r; is = refl; more = omega arith }

module _ (limit : ℕ) (operations : List ℕ) (fuel : ℕ) (expand : Tree → M (Term Name)) where
  -- the end of an operand, and what stands before the later ones
  abbrev on : Tree → State → End (Term Name)
  on t s = end_of (expand t s)

  abbrev before : Term Name → End (Terms Name) → End (Terms Name)
  before a e = then (λ b v. finished (more_c a b) v) e

  pub no-operands : (t : Tree) → length (elements t) ≡ 0 → (s : State) → operands_of limit operations fuel expand t s ≡ finished none_c s
  unfolding expand_all elements give end_of
  no-operands empty h s = refl
  no-operands (constant a) h s = refl
  no-operands (name x) h s = refl
  no-operands (pair f r) h s = absurd (omega arith)

  more-operands : (a t : Tree) (f : State → End (Terms Name)) → ((s : State) → operands_of limit operations fuel expand t s ≡ f s) → (s : State) → operands_of limit operations fuel expand (pair a t) s ≡ then (λ x u. before x (f u)) (on a s)
  more-operands a t f e s =
      expand_all-pair limit operations fuel expand a t s
      ∙ ap (λ (g : State → End (Terms Name)). then (λ x u. before x (g u)) (on a s)) (λ i. λ u. e u i)

  three-operands : (a b c d : Tree) → length (elements d) ≡ 0 → (s : State)
      → then (λ x u. then (λ y v. then (λ z w. finished (if_c x y z) w) (on c v)) (on b u)) (on a s) ≡ then (λ v u. finished (if_of v) u) (operands_of limit operations fuel expand (pair a (pair b (pair c d))) s)
  three-operands a b c d h s =
      if-first (on c) (on b) (on a s)
      ∙ ap (then (λ v u. finished (if_of v) u)) (sym (more-operands a (pair b (pair c d)) _ (more-operands b (pair c d) _ (more-operands c d _ (no-operands d h))) s))

  pub if-operands : (x : Name) (t : Tree) → length (elements t) ≡ 3 → (s : State)
      → then (λ a u. then (λ b v. then (λ c w. finished (if_c a b c) w) (on (element 3 (pair (name x) t)) v)) (on (element 2 (pair (name x) t)) u)) (on (element 1 (pair (name x) t)) s)
      ≡ then (λ v u. finished (if_of v) u) (operands_of limit operations fuel expand t s)
  unfolding element elements
  if-operands x t h s =
      let c1 = cons t 2 h in
      let c2 = cons c1.rest 1 c1.more in
      let c3 = cons c2.rest 0 c2.more in
      let e : t ≡ pair c1.first (pair c2.first (pair c3.first c3.rest)) = c1.is ∙ ap (pair c1.first) (c2.is ∙ ap (pair c2.first) c3.is) in
      rw e (three-operands c1.first c2.first c3.first c3.rest c3.more s)

pub listed : (n : ℕ) (t : Tree) → is_list_of n t ≡ true → length (elements t) ≡ n
unfolding is_list_of
listed n t e = eqb-true (length (elements t)) n (and_parts (is_list t) (eqb (length (elements t)) n) e).1

module _ (limit : ℕ) (operations : List ℕ) (fuel : ℕ) (x : Name) (t : Tree) (r q : Reached) (work core core' macros : List ℕ) (list w : ℕ)
    (ready : Ready fuel (size (pair (name x) t)) r (tables work core macros)) (placed : Placed work r.top list w) (list-is : tree_at work list w ≡ t)
    (m : Moved (if_code ∷ []) r core core' q) (shape : is_list_of 4 (pair (name x) t) ≡ true) (found : lookup operations x ≡ form if) where
  three : length (elements t) ≡ 3
  unfolding elements
  three = let e : suc (length (elements t)) ≡ 4 = listed 4 (pair (name x) t) shape in omega arith

  if-turn : (expand : Tree → M (Term Name)) (s : State) → turn_of limit operations fuel expand (pair (name x) t) s ≡ then (λ v u. finished (if_of v) u) (operands_of limit operations fuel expand t s)
  unfolding expand_list needs
  if-turn expand s =
      headed limit operations fuel x t (form if) found expand s
      ∙ if-end limit operations fuel expand (pair (name x) t) s
      ∙ rw shape (if-operands limit operations fuel expand x t three s)

  pub spread-if : Spreads limit operations fuel (pair (name x) t) r (tables work core macros) (tables work core' macros) list w q
  unfolding size
  spread-if =
      spread-by limit operations fuel (pair (name x) t) r q work core core' macros (if_code ∷ []) list w ready m placed if_of
      (rw list-is (omega arith))
      (rw list-is (omega (arith, size-positive t)))
      (λ expand s. rw list-is (if-turn expand s))
      (λ expand s. rw list-is (if-prefixed (operands_of limit operations fuel expand t s) (subst (λ (n : ℕ). Counts n (operands_of limit operations fuel expand t s)) three (operands-count limit operations fuel expand t s))))
