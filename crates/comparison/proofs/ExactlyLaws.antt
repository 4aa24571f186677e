-- An expression that is our term is a rendering of it, where each of its names is the only one of its spelling.
use Rattle.std.specs.Prelude.{◌≡◌, true, ◌&&◌, ℕ, suc, ◌+◌, eqb, length, get_or}
use Rattle.std.proofs.Math.Path.{refl, ap₂, subst}
use Rattle.std.proofs.Common.{sym, ap, ◌∙◌, arith, length-append}
use mathlib.Core.List.{List, [], ◌∷◌, ◌++◌, map}
use Rattle.std.proofs.Math.Option.{none, some, some-injective, none-ne-some, some-ne-none}
use borrow.Author.Tests.{eqb-true, eqb-false}
use Rattle.words.specs.Each.{Each, none_of, also}
use Rattle.words.specs.ListLaws.{either, never, equal-true}
use Rattle.words.specs.TestLaws.{and_left, and_right}
use Rattle.datum.specs.Constant.{Constant, matches}
use Rattle.datum.specs.Datum.{Datum, constant_d, name_d, list_d, Data, none_d, more_d}
use Rattle.core_term.specs.Node.{if_n, lambda_n, application_n}
use Rattle.core_term.specs.Term.{count, variables, variables_all, Plain, Plains}
use Rattle.core_term.specs.Every.{every, every_term}
use Rattle.core_term.specs.Check as K
use Rattle.core_term.specs.Check.{outside, asked, first_number, numbered}
use Rattle.comparison.specs.Expression.{Expression, lambda_e, reference_e, datum_e, if_e, application_e, Expressions, more_e}
use Rattle.comparison.specs.Closed.{inside}
use Rattle.comparison.specs.Agrees.{Scope, meant, bind, same_datum, same_data, agrees}
use Rattle.comparison.specs.Same.{Same, SameAll, variable', operation', datum', if', lambda', application', none', more'}
use Rattle.comparison.proofs.SameLaws.{agrees-says}
use Rattle.comparison.specs.Binders.{numbers}
use Rattle.comparison.proofs.BindersLaws.{Numbers, lambda-part}
use Rattle.comparison.specs.Rendering as R
use Rattle.comparison.specs.Rendering.{Choice, render_datum, render_data, render, render_all, Seen, here, past, Spelled, SpelledAll, Uncaptured, UncapturedAll}
use Rattle.comparison.proofs.RenderingLaws.{scope, bind-scope}
use Rattle.comparison.specs.Written.{quotation, written, written_all}
use Rattle.comparison.specs.Exactly.{Rendered, formals_in, formals_in_all, chosen, formal_at, Named, NamedAll, name_of, list_of, more_of}

-- constants that match are the same
matches-same : (a b : Constant) → matches a b ≡ true → a ≡ b
unfolding matches
matches-same a b h =
    let k = and_right (eqb a.kind b.kind) (eqb a.first b.first && eqb a.second b.second) h in
    let p = eqb-true a.kind b.kind (and_left _ _ h) in
    let q = eqb-true a.first b.first (and_left _ _ k) in
    let r = eqb-true a.second b.second (and_right (eqb a.first b.first) _ k) in
    ap₂ (λ (x : ℕ) (y : ℕ × ℕ). record { kind = x; first = y.0; second = y.1 }) p (ap₂ (λ (x y : ℕ). (x, y)) q r)

-- ---- the names of an element and of its parts

module _ (P : ℕ → Type 0) where
  name-is : {n : ℕ} → Named P (name_d n) → P n
  name-is (name_of p) = p

  list-are : {ds : Data} → Named P (list_d ds) → NamedAll P ds
  list-are (list_of ps) = ps

  pub first-is : {d : Datum} {ds : Data} → NamedAll P (more_d d ds) → Named P d
  first-is (more_of p ps) = p

  rest-are : {d : Datum} {ds : Data} → NamedAll P (more_d d ds) → NamedAll P ds
  rest-are (more_of p ps) = ps

-- ---- formals, at the places of their variables

-- variables from b on are called so
data At (called : ℕ → ℕ) : ℕ → List ℕ → Type 0 where
  no_more : {b : ℕ} → At called b []
  one_more : {b n : ℕ} {ns : List ℕ} → called b ≡ n → At called (suc b) ns → At called b (n ∷ ns)

at-later : (f g : ℕ → ℕ) → ((v : ℕ) → f (suc v) ≡ g v) → {b : ℕ} {ns : List ℕ} → At g b ns → At f (suc b) ns
at-later f g h no_more = no_more
at-later f g h (one_more {b = b} e p) = one_more (h b ∙ e) (at-later f g h p)

at_all : (ns : List ℕ) → At (λ v. get_or ns v 0) 0 ns
at_all [] = no_more
at_all (n ∷ ns) = one_more refl (at-later (λ v. get_or (n ∷ ns) v 0) (λ v. get_or ns v 0) (λ v. refl) (at_all ns))

module _ (called : ℕ → ℕ) where
  at_left : (ns ms : List ℕ) {b : ℕ} → At called b (ns ++ ms) → At called b ns
  at_left [] ms p = no_more
  at_left (n ∷ ns) ms (one_more e p) = one_more e (at_left ns ms p)

  at_right : (ns ms : List ℕ) (b : ℕ) → At called b (ns ++ ms) → At called (b + length ns) ms
  at_right [] ms b p = let e : b ≡ b + 0 = omega arith in subst (λ k. At called k ms) e p
  at_right (n ∷ ns) ms b (one_more f p) = let e : suc b + length ns ≡ b + suc (length ns) = omega arith in subst (λ k. At called k ms) e (at_right ns ms (suc b) p)

  at_names : {ns : List ℕ} (b : ℕ) → At called b ns → ns ≡ map called (numbers b (length ns))
  unfolding numbers
  at_names b no_more = refl
  at_names b (one_more e p) = ap₂ ◌∷◌ (sym e) (at_names (suc b) p)

-- ---- how many formals

module _ (theirs ours : ℕ → List ℕ) (operations : List (List ℕ)) where
  mutual
    unfolding formals_in variables

    -- an expression that is our term has a formal for each of its variables
    same-many : {s : Scope} {x : Expression} {t : Plain} → Same theirs ours operations s x t → length (formals_in x) ≡ variables t
    same-many (variable' m) = refl
    same-many (operation' m h) = refl
    same-many (datum' h) = refl
    same-many (if' {x = x} {y = y} {z = z} p q r) =
        omega (arith, length-append (formals_in x) (formals_in y ++ formals_in z), length-append (formals_in y) (formals_in z), same-many p, same-many q, same-many r)
    same-many (lambda' {ns = ns} {x = x} l p) = omega (arith, length-append ns (formals_in x), l, same-many p)
    same-many (application' {h = h} {xs = xs} p ps) = omega (arith, length-append (formals_in h) (formals_in_all xs), same-many p, all-many ps)

    all-many : {s : Scope} {xs : Expressions} {ts : Plains} → SameAll theirs ours operations s xs ts → length (formals_in_all xs) ≡ variables_all ts
    all-many none' = refl
    all-many (more' {x = x} {xs = xs} p ps) = omega (arith, length-append (formals_in x) (formals_in_all xs), same-many p, all-many ps)

-- ---- a reference

module _ (c : Choice) where
  -- a name that means a variable is the variable's, and nothing nearer has it
  meant-seen : (n v : ℕ) (round : List ℕ) → meant n (scope c round) ≡ some v → (n ≡ c.called v) × Seen c v round
  unfolding meant
  meant-seen n v [] e = absurd (none-ne-some _ e)
  meant-seen n v (w ∷ round) e =
      either (eqb n (c.called w))
      (λ h. let f : w ≡ v = some-injective _ _ (rw h at e) in
      subst (λ u. (n ≡ c.called u) × Seen c u (w ∷ round)) f (eqb-true n (c.called w) h, here))
      (λ h. let q = meant-seen n v round (rw h at e) in
      (q.0, past (λ f. eqb-false n (c.called w) h (q.0 ∙ f)) q.1))

  -- a name that means none is no variable's
  meant-free : (n : ℕ) (round : List ℕ) → meant n (scope c round) ≡ none → Each (λ w. n ≡ c.called w → ⊥) round
  unfolding meant
  meant-free n [] e = none_of
  meant-free n (w ∷ round) e =
      either (eqb n (c.called w))
      (λ h. absurd (some-ne-none _ (rw h at e)))
      (λ h. also (eqb-false n (c.called w) h) (meant-free n round (rw h at e)))

-- ---- the rendering

-- `number` gives the name of a spelling, `called` that of a variable
module _ (theirs ours : ℕ → List ℕ) (operations : List (List ℕ)) (number : List ℕ → ℕ) (called : ℕ → ℕ) where
  abbrev c : Choice
  c = chosen number ours operations called

  abbrev Own : ℕ → Type 0
  Own n = number (theirs n) ≡ n

  mutual
    unfolding same_datum render_datum chosen

    datum-rendered : (d e : Datum) → same_datum theirs ours operations d e ≡ true → Named Own d → (d ≡ render_datum c e) × Spelled c theirs ours operations e
    datum-rendered (constant_d a) (constant_d b) h p = (ap constant_d (matches-same a b h), R.constant')
    datum-rendered (constant_d a) (name_d k) h p = never h refl
    datum-rendered (constant_d a) (list_d es) h p = never h refl
    datum-rendered (name_d n) (constant_d b) h p = never h refl
    datum-rendered (name_d n) (name_d k) h (name_of o) =
        let e = equal-true (theirs n) (ours k) h in
        let f : n ≡ number (ours k) = sym o ∙ ap number e in
        (ap name_d f, R.name' (ap theirs (sym f) ∙ e))
    datum-rendered (name_d n) (list_d es) h p = never h refl
    datum-rendered (list_d ds) (constant_d b) h p = never h refl
    datum-rendered (list_d ds) (name_d k) h p = never h refl
    datum-rendered (list_d ds) (list_d es) h (list_of ps) = let q = data-rendered ds es h ps in (ap list_d q.0, R.list' q.1)

    data-rendered : (ds es : Data) → same_data theirs ours operations ds es ≡ true → NamedAll Own ds → (ds ≡ render_data c es) × SpelledAll c theirs ours operations es
    data-rendered none_d none_d h p = (refl, R.no_data)
    data-rendered none_d (more_d e es) h p = never h refl
    data-rendered (more_d d ds) none_d h p = never h refl
    data-rendered (more_d d ds) (more_d e es) h (more_of p ps) =
        let q = datum-rendered d e (and_left _ _ h) p in
        let r = data-rendered ds es (and_right (same_datum theirs ours operations d e) _ h) ps in
        (ap₂ more_d q.0 r.0, R.more_data q.1 r.1)

  -- what is written in a quotation
  quoted-owned : (d : Datum) → Named Own (quotation d) → Named Own d
  unfolding quotation
  quoted-owned (constant_d a) p = p
  quoted-owned (name_d n) (list_of (more_of q (more_of p ps))) = p
  quoted-owned (list_d ds) (list_of (more_of q (more_of p ps))) = p

  mutual
    unfolding render every asked first_number formals_in written chosen

    same-rendered : {s : Scope} {x : Expression} {t : Plain} (round : List ℕ) → s ≡ scope c round → (e : K.Scope) (b : ℕ) → Same theirs ours operations s x t
        → Numbers theirs ours operations e b t → At called b (formals_in x) → Named Own (written x) → (x ≡ render c t) × Uncaptured c theirs ours operations round t
    same-rendered round is e b (variable' {n = n} {v = v} m) h a w = let q = meant-seen c n v round (ap (meant n) (sym is) ∙ m) in (ap reference_e q.0, R.variable' q.1)
    same-rendered round is e b (operation' {n = n} {p = p} m h) k a w =
        let o = name-is Own w in
        let i = equal-true (theirs n) (get_or operations p []) h in
        let f : n ≡ number (get_or operations p []) = sym o ∙ ap number i in
        (ap reference_e f, R.operation' (subst (λ j. Each (λ v. j ≡ called v → ⊥) round) f (meant-free c n round (ap (meant n) (sym is) ∙ m))) (ap theirs (sym f) ∙ i))
    same-rendered round is e b (datum' {d = d} {e = f} h) k a w = let q = datum-rendered d f h (quoted-owned d w) in (ap datum_e q.0, R.datum' q.1)
    same-rendered round is e b (if' {x = x} {y = y} {z = z} {a = s} {b = t} {c = u} p q r) h a w =
        let wx = rest-are Own (list-are Own w) in
        let wy = rest-are Own wx in
        let i = K.inside e b if_n in
        let k = and_right (every (asked first_number) i b s) (every (asked first_number) i (b + variables s) t && every (asked first_number) i (b + variables s + variables t) u) h in
        let ay = at_right called (formals_in x) (formals_in y ++ formals_in z) b a in
        let az = at_right called (formals_in y) (formals_in z) (b + length (formals_in x)) ay in
        let fx = same-rendered round is i b p (and_left _ _ h) (at_left called (formals_in x) _ a) (first-is Own wx) in
        let fy = same-rendered round is i (b + variables s) q (and_left _ _ k) (subst (λ m. At called (b + m) (formals_in y)) (same-many theirs ours operations p) (at_left called (formals_in y) _ ay)) (first-is Own wy) in
        let fz = same-rendered round is i (b + variables s + variables t) r (and_right (every (asked first_number) i (b + variables s) t) _ k)
        (subst (λ m. At called (b + m + variables t) (formals_in z)) (same-many theirs ours operations p) (subst (λ m. At called (b + length (formals_in x) + m) (formals_in z)) (same-many theirs ours operations q) az)) (first-is Own (rest-are Own wy)) in
        (ap₂ (λ v w. if_e v w z) fx.0 fy.0 ∙ ap (λ w. if_e (render c s) (render c t) w) fz.0, R.if' fx.1 fy.1 fz.1)
    same-rendered {s} round is e b (lambda' {ns = ns} {x = x} {v = v} {fs = fs} {a = t} l p) h a w =
        let k = lambda-part theirs ours operations e b v fs t h in
        let f : ns ≡ map called (numbers v (length fs)) =
        at_names called b (at_left called ns (formals_in x) a) ∙ ap₂ (λ j m. map called (numbers j m)) (sym k.0) l in
        let j : bind ns v s ≡ scope c (inside (numbers v (length fs)) round) =
        ap₂ (λ ms z. bind ms v z) f is ∙ bind-scope c v (length fs) round in
        let q = same-rendered (inside (numbers v (length fs)) round) j (K.inside e b (lambda_n v fs)) (b + length fs) p k.1
        (subst (λ m. At called (b + m) (formals_in x)) l (at_right called ns (formals_in x) b a)) (first-is Own (rest-are Own (rest-are Own (list-are Own w)))) in
        (ap₂ lambda_e f q.0, R.lambda' q.1)
    same-rendered round is e b (application' {h = g} {xs = xs} {g = s} {ts = ts} p ps) h a w =
        let ws = list-are Own w in
        let i = K.inside e b (application_n (count ts)) in
        let q = same-rendered round is i b p (and_left _ _ h) (at_left called (formals_in g) _ a) (first-is Own ws) in
        let r = all-rendered round is i (b + variables s) ps (and_right (every (asked first_number) i b s) _ h)
        (subst (λ m. At called (b + m) (formals_in_all xs)) (same-many theirs ours operations p) (at_right called (formals_in g) (formals_in_all xs) b a)) (rest-are Own ws) in
        (ap₂ application_e q.0 r.0, R.application' q.1 r.1)

    all-rendered : {s : Scope} {xs : Expressions} {ts : Plains} (round : List ℕ) → s ≡ scope c round → (e : K.Scope) (b : ℕ) → SameAll theirs ours operations s xs ts
        → every_term (asked first_number) e b ts ≡ true → At called b (formals_in_all xs) → NamedAll Own (written_all xs)
        → (xs ≡ render_all c ts) × UncapturedAll c theirs ours operations round ts
    all-rendered round is e b none' h a w = (refl, R.none')
    all-rendered round is e b (more' {x = x} {xs = xs} {t = t} p ps) h a ws =
        let q = same-rendered round is e b p (and_left _ _ h) (at_left called (formals_in x) _ a) (first-is Own ws) in
        let r = all-rendered round is e (b + variables t) ps (and_right (every (asked first_number) e b t) _ h)
        (subst (λ m. At called (b + m) (formals_in_all xs)) (same-many theirs ours operations p) (at_right called (formals_in x) (formals_in_all xs) b a)) (rest-are Own ws) in
        (ap₂ more_e q.0 r.0, R.more' q.1 r.1)

-- our term being numbered as ground 19 asks, and each name of the expression being the one that its spelling gives
pub agrees-rendered : (theirs ours : ℕ → List ℕ) (operations : List (List ℕ)) (number : List ℕ → ℕ) (x : Expression) (t : Plain) → numbered t ≡ true
    → Named (λ n. number (theirs n) ≡ n) (written x) → agrees theirs ours operations [] x t ≡ true → Rendered theirs ours operations t x
unfolding numbered formal_at
agrees-rendered theirs ours operations number x t n w a =
    let r = same-rendered theirs ours operations number (formal_at x) [] refl outside 0 (agrees-says theirs ours operations [] x t a) n (at_all (formals_in x)) w in
    record { choice = chosen number ours operations (formal_at x); is-rendered = r.0; uncaptured = r.1 }
