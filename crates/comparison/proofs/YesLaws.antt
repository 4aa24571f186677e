-- What yes says of a text that was read, and which texts get it.
use Rattle.std.specs.Prelude.{◌≡◌, Bool, true, cond, ℕ, length}
use Rattle.std.proofs.Math.Path.{refl, ap}
use Rattle.std.proofs.Common.{sym, ap₂, ◌∙◌, arith}
use mathlib.Core.List.{List, [], ◌∷◌, ◌++◌}
use Rattle.std.proofs.Math.Option.{Option, none, some}
use Rattle.words.specs.ListLaws.{either}
use Rattle.words.specs.Lists.{all_of, any_of, equal}
use Rattle.words.specs.Text.{bytes}
use Rattle.datum.specs.Datum.{Datum, none_d, more_d}
use Rattle.datum.specs.NameTable.{slot, length_at, name_at}
use Rattle.reading.specs.Elements.{got}
use Rattle.reading.specs.Numbering.{base_names}
use Rattle.reading.specs.Read.{Recipe, elements_of, name_bytes}
use Rattle.core_term.specs.Term.{Plain}
use Rattle.core_term.specs.Check.{numbered, all_known}
use Rattle.comparison.specs.Expression.{Expression, reference_e, lambda_e, application_e, none_e, more_e}
use Rattle.comparison.specs.Grammar.{is_free, distinct, are_formals, the_one, after, expression_of}
use Rattle.comparison.specs.Closed.{closed}
use Rattle.comparison.specs.Agrees.{agrees}
use Rattle.comparison.specs.Compare.{Verdict, yes, no, refused_on, decided, held}
use Rattle.comparison.specs.Binders.{binders, our_binders}
use Rattle.comparison.proofs.BindersLaws.{yes-binders}
use Rattle.comparison.specs.Renamed.{pairs, bound, past, free, Renamed, reference', lambda', application', none', more'}
use Rattle.comparison.proofs.RenamedLaws.{agrees-renamed, closed-renamed}
use Rattle.comparison.specs.Rendering.{Choice, render, Uncaptured}
use Rattle.comparison.proofs.RenderingLaws.{rendering-agrees}
use Rattle.comparison.specs.Written.{name_data, written, is_expression}
use Rattle.comparison.proofs.WrittenLaws.{written_read}
use Rattle.comparison.proofs.ClosedLaws.{agrees-closed}
use Rattle.comparison.specs.Yes.{Told, code, theirs}

-- ---- verdicts differ

pub not_yes : {A : Type 0} {v : Verdict} → v ≡ yes → (code v ≡ 0 → ⊥) → A
not_yes e f = absurd (f (ap code e))

module _ (ours : ℕ → List ℕ) (operations : List (List ℕ)) (t : Plain) (r : Recipe) where
  -- the verdict of a text whose one element is an expression
  held-is : (d : Datum) (x : Expression) → r.elements ≡ more_d d none_d → expression_of d ≡ some x
      → held ours operations t (got r) ≡ decided (theirs ours operations t r) ours operations t (some x)
  unfolding held the_one after
  held-is d x e f = ap (λ ds. decided (theirs ours operations t r) ours operations t (after (the_one ds) expression_of)) e ∙ ap (decided (theirs ours operations t r) ours operations t) f

  -- ---- yes of a text whose element agrees

  module _ (name_good : ℕ → Bool) (h : all_known (length operations) name_good t ≡ true) where
    decided-yes : (x : Expression) → agrees (theirs ours operations t r) ours operations [] x t ≡ true → decided (theirs ours operations t r) ours operations t (some x) ≡ yes
    unfolding decided
    decided-yes x a = rw (agrees-closed (theirs ours operations t r) ours operations name_good x t h a, a)

    pub agrees-yes : (d : Datum) (x : Expression) → r.elements ≡ more_d d none_d → expression_of d ≡ some x → agrees (theirs ours operations t r) ours operations [] x t ≡ true
        → held ours operations t (got r) ≡ yes
    agrees-yes d x e f a = held-is d x e f ∙ decided-yes x a

    -- yes for every rendering of our term
    pub rendering-yes : (c : Choice) → is_expression (render c t) ≡ true → Uncaptured c (theirs ours operations t r) ours operations [] t
        → r.elements ≡ more_d (written (render c t)) none_d → held ours operations t (got r) ≡ yes
    rendering-yes c g u e = agrees-yes (written (render c t)) (render c t) e (written_read (render c t) g) (rendering-agrees c (theirs ours operations t r) ours operations t u)

  -- ---- what yes says

  decided-told : (d : Datum) (o : Option Expression) → the_one r.elements ≡ some d → expression_of d ≡ o → decided (theirs ours operations t r) ours operations t o ≡ yes → (Told ours operations t r)
  unfolding decided
  decided-told d none e f h = not_yes h (λ z. omega arith)
  decided-told d (some x) e f h =
      either (closed (λ n. any_of (equal ((theirs ours operations t r) n)) operations) [] x)
      (λ p. either (agrees (theirs ours operations t r) ours operations [] x t)
      (λ q. record { element = d; expression = x; is-element = e; is-expression = f; agreed = q })
      (λ q. not_yes (rw (p, q) at h) (λ z. omega arith)))
      (λ p. not_yes (rw p at h) (λ z. omega arith))

  one_told : (o : Option Datum) → the_one r.elements ≡ o → decided (theirs ours operations t r) ours operations t (after o expression_of) ≡ yes → (Told ours operations t r)
  unfolding after decided
  one_told none e h = not_yes h (λ z. omega arith)
  one_told (some d) e h = decided-told d (expression_of d) e refl h

  pub yes-told : held ours operations t (got r) ≡ yes → (Told ours operations t r)
  unfolding held
  yes-told h = one_told (the_one r.elements) refl h

  -- after yes, each reference has the same binder in both terms
  pub yes-same-binders : numbered t ≡ true → (h : held ours operations t (got r) ≡ yes) → binders [] (yes-told h).expression ≡ our_binders [] t
  yes-same-binders n h = let d = yes-told h in yes-binders (theirs ours operations t r) ours operations d.expression t n d.agreed

-- ---- the choice of bound names

-- two texts, each with its own name table, whose elements differ in the choice of bound names get one verdict
pub renamed-verdict : (ours : ℕ → List ℕ) (operations : List (List ℕ)) (t : Plain) (r s : Recipe) (x y : Expression)
    → is_expression x ≡ true → r.elements ≡ more_d (written x) none_d → is_expression y ≡ true → s.elements ≡ more_d (written y) none_d
    → Renamed (name_at (name_bytes r)) (name_at (name_bytes s)) [] x y → held ours operations t (got r) ≡ held ours operations t (got s)
unfolding decided
renamed-verdict ours operations t r s x y g e h f p =
    let here = name_at (name_bytes r) in
    let there = name_at (name_bytes s) in
    held-is ours operations t r (written x) x e (written_read x g)
    ∙ ap₂ (λ c a. cond c (cond a yes no) (refused_on 22)) (closed-renamed here there ours operations p) (agrees-renamed here there ours operations t p)
    ∙ sym (held-is ours operations t s (written y) y f (written_read y h))

-- two such texts: `_` is chosen for `a`, so that g has number 9 in the first table and 8 in the second
pub one-renamed : (ours : ℕ → List ℕ) (operations : List (List ℕ)) (t : Plain)
    → held ours operations t (elements_of 1 (bytes "(lambda (a) (g a))")) ≡ held ours operations t (elements_of 1 (bytes "(lambda (_) (g _))"))
unfolding elements_of bytes base_names name_data written is_expression is_free are_formals distinct all_of any_of name_at length_at slot name_bytes pairs
one-renamed ours operations t =
    let x = lambda_e (8 ∷ []) (application_e (reference_e 9) (more_e (reference_e 8) none_e)) in
    let y = lambda_e (7 ∷ []) (application_e (reference_e 8) (more_e (reference_e 7) none_e)) in
    let r : Recipe = record { elements = more_d (written x) none_d; names = base_names ++ (bytes "a" ∷ bytes "g" ∷ []) } in
    let s : Recipe = record { elements = more_d (written y) none_d; names = base_names ++ (bytes "g" ∷ []) } in
    renamed-verdict ours operations t r s x y refl refl refl refl
    (lambda' refl (application' (reference' (past (λ e. omega arith) (λ e. omega arith) (free refl))) (more' (reference' bound) none')))
