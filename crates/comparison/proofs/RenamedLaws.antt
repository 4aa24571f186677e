-- Neither ground 22 nor the answer depends on the choice of bound names.
use Rattle.std.specs.Prelude.{◌≡◌, Bool, ◌&&◌, ◌||◌, List, [], ◌∷◌, map, ℕ, suc, eqb, length, get_or}
use Rattle.std.proofs.Math.Path.{refl, ap}
use Rattle.std.proofs.Common.{sym, ap₂, ◌∙◌, arith}
use Rattle.std.proofs.Math.Bool.{false}
use borrow.Author.Tests.{eq-eqb, ne_eqb}
use Rattle.words.specs.Lists.{any_of, equal}
use Rattle.datum.specs.Datum.{Datum, constant_d, name_d, list_d, Data, none_d, more_d}
use Rattle.core_term.specs.Term.{none_c, more_c, Plain, Plains}
use Rattle.comparison.specs.Expression.{Expression, Expressions}
use Rattle.comparison.specs.Closed.{inside, closed, closed_all}
use Rattle.comparison.specs.Agrees.{Scope, meant, bind, on_operation, on_datum, on_if, on_lambda, on_application, same_datum, same_data, same_name, agrees, agree_all}
use Rattle.comparison.specs.Renamed.{Pairs, pairs, Meet, bound, past, free, Alike, AlikeAll, constant', name', list', no_data, more_data, Renamed, RenamedAll, reference', datum', if', lambda', application', none', more'}

-- two scopes of the same variables
data Scopes : Pairs → Scope → Scope → Type 0 where
  none_s : Scopes [] [] []
  more_s : {ps : Pairs} {s r : Scope} {n m v : ℕ} → Scopes ps s r → Scopes ((n, m) ∷ ps) ((n, v) ∷ s) ((m, v) ∷ r)

scopes-bind : (ns ms : List ℕ) (v : ℕ) {ps : Pairs} {s r : Scope} → length ns ≡ length ms → Scopes ps s r → Scopes (pairs ns ms ps) (bind ns v s) (bind ms v r)
unfolding pairs bind
scopes-bind [] [] v e a = a
scopes-bind [] (m ∷ ms) v e a = absurd (omega arith)
scopes-bind (n ∷ ns) [] v e a = absurd (omega arith)
scopes-bind (n ∷ ns) (m ∷ ms) v e a = scopes-bind ns ms (suc v) (omega arith) (more_s a)

-- the names of both, here and there
abbrev heres : Pairs → List ℕ
heres ps = map (λ p. p.0) ps

abbrev theres : Pairs → List ℕ
theres ps = map (λ p. p.1) ps

pairs-inside : (ns ms : List ℕ) (ps : Pairs) → length ns ≡ length ms
    → (heres (pairs ns ms ps) ≡ inside ns (heres ps)) × (theres (pairs ns ms ps) ≡ inside ms (theres ps))
unfolding pairs inside
pairs-inside [] [] ps e = (refl, refl)
pairs-inside [] (m ∷ ms) ps e = absurd (omega arith)
pairs-inside (n ∷ ns) [] ps e = absurd (omega arith)
pairs-inside (n ∷ ns) (m ∷ ms) ps e = pairs-inside ns ms ((n, m) ∷ ps) (omega arith)

module _ (here there ours : ℕ → List ℕ) (operations : List (List ℕ)) where
  -- ---- the answer

  same-name : {n m : ℕ} {ps : Pairs} {s r : Scope} → Meet here there n m ps → Scopes ps s r → (t : Plain)
      → same_name here ours operations n (meant n s) t ≡ same_name there ours operations m (meant m r) t
  unfolding meant same_name
  same-name (bound {n} {m}) (more_s a) t = rw (eq-eqb n n refl, eq-eqb m m refl)
  same-name (past {n} {m} {x} {y} f g k) (more_s a) t = rw (ne_eqb n x f, ne_eqb m y g) (same-name k a t)
  same-name (free e) none_s t = ap (λ cs. on_operation false (λ p. equal cs (get_or operations p [])) t) e

  mutual
    unfolding same_datum

    alike_same : {d e : Datum} → Alike here there d e → (f : Datum) → same_datum here ours operations d f ≡ same_datum there ours operations e f
    alike_same constant' (constant_d b) = refl
    alike_same constant' (name_d k) = refl
    alike_same constant' (list_d fs) = refl
    alike_same (name' e) (constant_d b) = refl
    alike_same (name' e) (name_d k) = ap (λ cs. equal cs (ours k)) e
    alike_same (name' e) (list_d fs) = refl
    alike_same (list' p) (constant_d b) = refl
    alike_same (list' p) (name_d k) = refl
    alike_same (list' p) (list_d fs) = all_same p fs

    all_same : {ds es : Data} → AlikeAll here there ds es → (fs : Data) → same_data here ours operations ds fs ≡ same_data there ours operations es fs
    all_same no_data none_d = refl
    all_same no_data (more_d f fs) = refl
    all_same (more_data p ps) none_d = refl
    all_same (more_data p ps) (more_d f fs) = ap₂ ◌&&◌ (alike_same p f) (all_same ps fs)

  mutual
    unfolding agrees

    renamed-agrees : {x y : Expression} {ps : Pairs} {s r : Scope} → Renamed here there ps x y → Scopes ps s r → (t : Plain)
        → agrees here ours operations s x t ≡ agrees there ours operations r y t
    renamed-agrees (reference' k) a t = same-name k a t
    renamed-agrees (datum' p) a t = ap (λ f. on_datum false f t) (λ i e. alike_same p e i)
    renamed-agrees (if' p q o) a t =
        ap (λ f. on_if false f t) (λ i u v w. (renamed-agrees p a u i) && ((renamed-agrees q a v i) && (renamed-agrees o a w i)))
    renamed-agrees (lambda' {ns = ns} {ms = ms} e p) a t =
        ap (λ f. on_lambda false f t) (λ i v k u. eqb (e i) k && (renamed-agrees p (scopes-bind ns ms v e a) u i))
    renamed-agrees (application' p ps) a t =
        ap (λ f. on_application false f t) (λ i g ts. (renamed-agrees p a g i) && (renamed-agree ps a ts i))

    renamed-agree : {xs ys : Expressions} {ps : Pairs} {s r : Scope} → RenamedAll here there ps xs ys → Scopes ps s r → (ts : Plains)
        → agree_all here ours operations s xs ts ≡ agree_all there ours operations r ys ts
    renamed-agree none' a none_c = refl
    renamed-agree none' a (more_c t ts) = refl
    renamed-agree (more' p ps) a none_c = refl
    renamed-agree (more' p ps) a (more_c t ts) = ap₂ ◌&&◌ (renamed-agrees p a t) (renamed-agree ps a ts)

  pub agrees-renamed : {x y : Expression} (t : Plain) → Renamed here there [] x y → agrees here ours operations [] x t ≡ agrees there ours operations [] y t
  agrees-renamed t p = renamed-agrees p none_s t

  -- ---- ground 22

  abbrev among : List ℕ → Bool
  among cs = any_of (equal cs) operations

  same-found : {n m : ℕ} {ps : Pairs} → Meet here there n m ps
      → (any_of (eqb n) (heres ps) || among (here n)) ≡ (any_of (eqb m) (theres ps) || among (there m))
  unfolding any_of
  same-found (bound {n} {m}) = rw (eq-eqb n n refl, eq-eqb m m refl)
  same-found (past {n} {m} {x} {y} f g k) = rw (ne_eqb n x f, ne_eqb m y g) (same-found k)
  same-found (free e) = ap among e

  mutual
    unfolding closed

    renamed-closed : {x y : Expression} {ps : Pairs} → Renamed here there ps x y
        → closed (λ n. among (here n)) (heres ps) x ≡ closed (λ n. among (there n)) (theres ps) y
    renamed-closed (reference' k) = same-found k
    renamed-closed (datum' p) = refl
    renamed-closed (if' p q o) = ap₂ ◌&&◌ (renamed-closed p) (ap₂ ◌&&◌ (renamed-closed q) (renamed-closed o))
    renamed-closed {ps = ps} (lambda' {ns = ns} {ms = ms} {x = x} {y = y} e p) =
        let i = pairs-inside ns ms ps e in
        ap (λ r. closed (λ n. among (here n)) r x) (sym i.0) ∙ renamed-closed p ∙ ap (λ r. closed (λ n. among (there n)) r y) i.1
    renamed-closed (application' p ps) = ap₂ ◌&&◌ (renamed-closed p) (renamed-all ps)

    renamed-all : {xs ys : Expressions} {ps : Pairs} → RenamedAll here there ps xs ys
        → closed_all (λ n. among (here n)) (heres ps) xs ≡ closed_all (λ n. among (there n)) (theres ps) ys
    renamed-all none' = refl
    renamed-all (more' p ps) = ap₂ ◌&&◌ (renamed-closed p) (renamed-all ps)

  pub closed-renamed : {x y : Expression} → Renamed here there [] x y → closed (λ n. among (here n)) [] x ≡ closed (λ n. among (there n)) [] y
  closed-renamed p = renamed-closed p
