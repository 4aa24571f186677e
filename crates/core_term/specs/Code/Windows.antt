-- All windows together are ground 19: what passes it passes every window, and what passes windows over all its
-- variables passes it.
use Rattle.std.specs.Prelude.{◌≡◌, Bool, ◌&&◌, List, ℕ, ◌+◌, ◌-◌, ◌≤◌, ◌<◌, eqb, ltb, leb, get_or, replicate}
use Rattle.std.proofs.Math.Path.{refl, subst}
use Rattle.std.proofs.Common.{sym, ap, ◌∙◌, arith}
use Rattle.std.proofs.Math.Bool.{true, and-false}
use Rattle.std.proofs.lemmas.Bool.{false≢true}
use Rattle.std.proofs.Math.ListN.{length, get_or-eq_default}
use Rattle.std.proofs.lemmas.List.{length-replicate, get_or-replicate}
use borrow.Author.Tests.{lt-ltb, le-ltb, le-leb, lt-leb, eqb-true, ltb-true}
use Rattle.core_term.specs.Node.{Node, is_node, binds, variable_n, operation_n, constant_n, name_n, list_n, if_n, lambda_n, application_n}
use Rattle.core_term.specs.NodeLaws.{both}
use Rattle.core_term.specs.Term.{Plain, variables}
use Rattle.core_term.specs.Every.{Asked, every, proper, well_formed}
use Rattle.core_term.specs.EveryLaws.{every-from}
use Rattle.core_term.specs.Code.Shape.{Clear}
use Rattle.core_term.specs.Check.{Scope, outside, inside, variable_inside, first_number, known, asked, scoped, numbered, all_known}
use Rattle.core_term.specs.Code.Window.{marked, noted, allowed, window}
use Rattle.core_term.specs.Code.WindowLaws.{case, marked-length, marked-in, marked-out, noted-below, noted_in, noted-past}

-- the flags of a window of so many variables, where none is set
abbrev pub no_flags : ℕ → List ℕ
no_flags span = replicate span 0

pub no_flags-clear : (span : ℕ) (flags : List ℕ) → flags ≡ no_flags span → (base b : ℕ) → Clear base b flags
no_flags-clear span flags e base b k l m =
    ap (λ (z : List ℕ). get_or z (k - base) 0) e
    ∙ case (k - base) span
    (λ h. get_or-replicate {A = ℕ} span (k - base) 0 0 h)
    (λ h. let i : length (no_flags span) ≤ k - base = omega (arith, length-replicate {A = ℕ} span 0) in get_or-eq_default (no_flags span) 0 i)

-- ---- flags and scope

-- what is in scope inside a lambda
module _ (s : Scope) (b : ℕ) (names : List ℕ) (k : ℕ) where
  inside-own : b ≤ k → k < b + length names → inside s b (lambda_n b names) k ≡ true
  unfolding inside
  inside-own l m = rw (le-leb b k l, lt-ltb k (b + length names) m)

  inside-other : (b ≤ k → k < b + length names → ⊥) → inside s b (lambda_n b names) k ≡ s k
  unfolding inside
  inside-other h =
      case k b
      (λ l. rw (lt-leb b k l))
      (λ l. case k (b + length names) (λ m. absurd (h l m)) (λ m. rw (le-ltb k (b + length names) m, and-false)))

-- the flags are the scope, as far as the window goes, and only bound variables are in scope
record Agree (span base : ℕ) (s : Scope) (flags : List ℕ) (b : ℕ) : Type 0 where
  size : length flags ≡ span
  same : (k : ℕ) → base ≤ k → k - base < span → eqb (get_or flags (k - base) 1) 1 ≡ s k
  bound : (k : ℕ) → s k ≡ true → k < b

module _ (span base : ℕ) (s : Scope) (flags : List ℕ) (b : ℕ) (g : Agree span base s flags b) where
  agree-more : (n : ℕ) → Agree span base s flags (b + n)
  agree-more n = record { size = g.size; same = g.same; bound = λ k h. omega (arith, g.bound k h) }

  -- a variable in scope may stand in any window
  agree-noted : (n : ℕ) → s n ≡ true → (ltb n b && noted base flags n) ≡ true
  agree-noted n h = rw (lt-ltb n b (g.bound n h)) go
    where
      go : noted base flags n ≡ true
      go =
          case n base
          (λ l. noted-below base n flags l)
          (λ l. case (n - base) span
          (λ m. noted_in base n flags l ∙ g.same n l m ∙ h)
          (λ m. noted-past base n flags l (omega (arith, g.size))))

  -- one that may stand in its own window is in scope
  agree-scope : (n : ℕ) → base ≤ n → n - base < span → noted base flags n ≡ true → s n ≡ true
  agree-scope n l m h = sym (g.same n l m) ∙ sym (noted_in base n flags l) ∙ h

  -- a lambda's own variables
  agree-lambda : (names : List ℕ) → Agree span base (inside s b (lambda_n b names)) (marked base b (length names) 1 flags) (b + length names)
  agree-lambda names =
      record { size = marked-length base b (length names) 1 flags ∙ g.size; same = same; bound = bound }
    where
      own : (k : ℕ) → base ≤ k → k - base < span → b ≤ k → k < b + length names → eqb (get_or (marked base b (length names) 1 flags) (k - base) 1) 1 ≡ inside s b (lambda_n b names) k
      own k l m x y = rw (inside-own s b names k x y, marked-in base k 1 1 l b (length names) flags x y (omega (arith, g.size)))

      other : (k : ℕ) → base ≤ k → k - base < span → (b ≤ k → k < b + length names → ⊥) → eqb (get_or (marked base b (length names) 1 flags) (k - base) 1) 1 ≡ inside s b (lambda_n b names) k
      other k l m h = rw (inside-other s b names k h, marked-out base k 1 1 l b (length names) flags h) (g.same k l m)

      same : (k : ℕ) → base ≤ k → k - base < span → eqb (get_or (marked base b (length names) 1 flags) (k - base) 1) 1 ≡ inside s b (lambda_n b names) k
      same k l m = case k b (λ x. other k l m (λ y z. omega arith)) (λ x. case k (b + length names) (own k l m x) (λ y. other k l m (λ z w. omega arith)))

      bound : (k : ℕ) → inside s b (lambda_n b names) k ≡ true → k < b + length names
      bound k h = case k (b + length names) (λ l. l) (λ l. let i : k < b = g.bound k (sym (inside-other s b names k (λ x y. omega arith)) ∙ h) in omega arith)

  agree-enter : (x : Node) (z : Scope) → first_number z b x ≡ true → Agree span base (inside s b x) (marked base b (binds x) 1 flags) (b + binds x)
  unfolding inside binds marked first_number
  agree-enter (variable_n n) z h = agree-more 0
  agree-enter (operation_n n) z h = agree-more 0
  agree-enter (constant_n a) z h = agree-more 0
  agree-enter (name_n n) z h = agree-more 0
  agree-enter (list_n n) z h = agree-more 0
  agree-enter if_n z h = agree-more 0
  agree-enter (lambda_n first names) z h =
      subst (λ (i : ℕ). Agree span base (inside s b (lambda_n i names)) (marked base b (length names) 1 flags) (b + length names)) (sym (eqb-true first b h)) (agree-lambda names)
  agree-enter (application_n n) z h = agree-more 0

agree-none : (span base : ℕ) → Agree span base outside (no_flags span) 0
unfolding outside
agree-none span base =
    record {
      size = length-replicate {A = ℕ} span 0;
      same = λ k l m. rw (get_or-replicate {A = ℕ} span (k - base) 0 1 m);
      bound = λ k h. absurd (false≢true h);
    }

-- ---- ground 19, then a window

-- what ground 19 asks, one thing at a time
data Asking : Type 0 where
  scopes numbers knows shapes : Asking

module _ (span operations : ℕ) (name_good : ℕ → Bool) where
  shaped : Scope → ℕ → Node → Bool
  shaped s b x = is_node x

  asks : Asking → Asked Scope
  asks scopes = asked variable_inside
  asks numbers = asked first_number
  asks knows = asked (known operations name_good)
  asks shapes = asked shaped

  -- a node that passes all four passes the window
  four-allow : (base : ℕ) (e : Asking → Scope) (flags : List ℕ) (b : ℕ) (x : Node) → Agree span base (e scopes) flags b
      → ((i : Asking) → (asks i).test (e i) b x ≡ true) → allowed operations name_good base flags b x ≡ true
  unfolding asks asked shaped variable_inside first_number known is_node allowed
  four-allow base e flags b (variable_n n) g h = agree-noted span base (e scopes) flags b g n (h scopes)
  four-allow base e flags b (operation_n n) g h = h knows
  four-allow base e flags b (constant_n a) g h = h shapes
  four-allow base e flags b (name_n n) g h = h knows
  four-allow base e flags b (list_n n) g h = refl
  four-allow base e flags b if_n g h = refl
  four-allow base e flags b (lambda_n first names) g h = rw (h shapes, h numbers, h knows)
  four-allow base e flags b (application_n n) g h = refl

  four-enter : (base : ℕ) (e : Asking → Scope) (flags : List ℕ) (b : ℕ) (x : Node) → Agree span base (e scopes) flags b
      → ((i : Asking) → (asks i).test (e i) b x ≡ true) → Agree span base ((asks scopes).enter (e scopes) b x) (marked base b (binds x) 1 flags) (b + binds x)
  unfolding asks asked
  four-enter base e flags b x g h = agree-enter span base (e scopes) flags b g x (e numbers) (h numbers)

  module _ (t : Plain) where
    every-shaped : well_formed t ≡ true → every (asked shaped) outside 0 t ≡ true
    unfolding well_formed proper asked shaped
    every-shaped h =
        every-from (λ (i : Unit {0}). proper) (asked shaped) (variables t) (λ f g c. Unit {0})
        (λ f g c x r l k. k tt) (λ f g c x r k. tt) (λ f g c n r. tt) t (λ i. tt) outside 0 tt (omega arith) (λ i. h)

    pub window-passes : (base : ℕ) → well_formed t ≡ true → scoped t ≡ true → numbered t ≡ true → all_known operations name_good t ≡ true
        → every (window operations name_good base) (no_flags span) 0 t ≡ true
    unfolding window scoped numbered all_known asks
    window-passes base w s n k =
        every-from asks (window operations name_good base) (variables t) (λ e f b. Agree span base (e scopes) f b)
        (λ e f b x r l h. four-allow base e f b x r h) (λ e f b x r h. four-enter base e f b x r h) (λ e f b m r. agree-more span base (e scopes) f b r m)
        t (λ i. outside) (no_flags span) 0 (agree-none span base) (omega arith) all
      where
        all : (i : Asking) → every (asks i) outside 0 t ≡ true
        all scopes = s
        all numbers = n
        all knows = k
        all shapes = every-shaped w

  -- ---- windows, then ground 19

  module _ (base : ℕ) (flags : List ℕ) (b : ℕ) where
    allowed-first : (s : Scope) (x : Node) → allowed operations name_good base flags b x ≡ true → first_number s b x ≡ true
    unfolding allowed first_number
    allowed-first s (variable_n n) h = refl
    allowed-first s (operation_n n) h = refl
    allowed-first s (constant_n a) h = refl
    allowed-first s (name_n n) h = refl
    allowed-first s (list_n n) h = refl
    allowed-first s if_n h = refl
    allowed-first s (lambda_n first names) h = (both (eqb first b) _ (both (leb (length names) 8) _ h).1).0
    allowed-first s (application_n n) h = refl

    allowed-known : (s : Scope) (x : Node) → allowed operations name_good base flags b x ≡ true → known operations name_good s b x ≡ true
    unfolding allowed known
    allowed-known s (variable_n n) h = refl
    allowed-known s (operation_n n) h = h
    allowed-known s (constant_n a) h = refl
    allowed-known s (name_n n) h = h
    allowed-known s (list_n n) h = refl
    allowed-known s if_n h = refl
    allowed-known s (lambda_n first names) h = (both (eqb first b) _ (both (leb (length names) 8) _ h).1).1
    allowed-known s (application_n n) h = refl

  -- a window that a term passes, and one with variable n in it
  pub record Passed (t : Plain) : Type 0 where
    pub base : ℕ
    pub ran : every (window operations name_good base) (no_flags span) 0 t ≡ true

  pub record Covered (t : Plain) (n : ℕ) : Type 0 where
    pub in' : Passed t
    pub low : in'.base ≤ n
    pub high : n < in'.base + span

  module _ (t : Plain) (one : Passed t) where
    pub windows-numbered : numbered t ≡ true
    unfolding numbered asked window
    windows-numbered =
        every-from (λ (i : Unit {0}). window operations name_good one.base) (asked first_number) (variables t) (λ f g c. Unit {0})
        (λ f g c x r l k. allowed-first one.base (f tt) c g x (k tt)) (λ f g c x r k. tt) (λ f g c n r. tt) t (λ i. no_flags span) outside 0 tt (omega arith) (λ i. one.ran)

    pub windows-known : all_known operations name_good t ≡ true
    unfolding all_known asked window
    windows-known =
        every-from (λ (i : Unit {0}). window operations name_good one.base) (asked (known operations name_good)) (variables t) (λ f g c. Unit {0})
        (λ f g c x r l k. allowed-known one.base (f tt) c g x (k tt)) (λ f g c x r k. tt) (λ f g c n r. tt) t (λ i. no_flags span) outside 0 tt (omega arith) (λ i. one.ran)

    module _ (cover : (n : ℕ) → n < variables t → Covered t n) where
      variable-scope : (e : Passed t → List ℕ) (s : Scope) (b n : ℕ) → ((i : Passed t) → Agree span i.base s (e i) b) → b ≤ variables t
          → ((i : Passed t) → (ltb n b && noted i.base (e i) n) ≡ true) → s n ≡ true
      variable-scope e s b n g l h =
          let below : n < b = ltb-true n b (both (ltb n b) (noted one.base (e one) n) (h one)).0 in
          let c = cover n (omega arith) in
          let i = c.in' in
          agree-scope span i.base s (e i) b (g i) n c.low (omega (arith, c.high, c.low)) (both (ltb n b) (noted i.base (e i) n) (h i)).1

      node-scope : (e : Passed t → List ℕ) (s : Scope) (b : ℕ) (x : Node) → ((i : Passed t) → Agree span i.base s (e i) b) → b + binds x ≤ variables t
          → ((i : Passed t) → allowed operations name_good i.base (e i) b x ≡ true) → variable_inside s b x ≡ true
      unfolding allowed variable_inside
      node-scope e s b (variable_n n) g l h = variable-scope e s b n g (omega arith) h
      node-scope e s b (operation_n n) g l h = refl
      node-scope e s b (constant_n a) g l h = refl
      node-scope e s b (name_n n) g l h = refl
      node-scope e s b (list_n n) g l h = refl
      node-scope e s b if_n g l h = refl
      node-scope e s b (lambda_n first n) g l h = refl
      node-scope e s b (application_n n) g l h = refl

      pub windows-scoped : scoped t ≡ true
      unfolding scoped asked window
      windows-scoped =
          every-from (λ (i : Passed t). window operations name_good i.base) (asked variable_inside) (variables t) (λ e s b. (i : Passed t) → Agree span i.base s (e i) b)
          (λ e s b x g l h. node-scope e s b x g l h)
          (λ e s b x g h i. agree-enter span i.base s (e i) b (g i) x s (allowed-first i.base (e i) b s x (h i)))
          (λ e s b n g i. agree-more span i.base s (e i) b (g i) n)
          t (λ i. no_flags span) outside 0 (λ i. agree-none span i.base) (omega arith) (λ i. i.ran)
