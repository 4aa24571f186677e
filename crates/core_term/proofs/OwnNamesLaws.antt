-- For a term past ground 19 its text is that by scope: each lambda prints its own names, and each variable that of its own lambda.
use Rattle.std.specs.Prelude.{◌≡◌, Bool, ◌&&◌, ◌||◌, eqb}
use Rattle.std.proofs.Math.Path.{refl, ap}
use Rattle.std.proofs.Common.{sym, ◌∙◌, length-append, get_or-drop, drop_at}
use Rattle.std.proofs.Math.Bool.{true, false, cond}
use Rattle.std.proofs.lemmas.Bool.{false≢true}
use mathlib.Core.List.{List, [], ◌∷◌, ◌++◌}
use Rattle.std.proofs.Math.Option.{some}
use Prim.Native.Nat.{ℕ, suc, ◌+◌, ◌-◌, ◌<◌}
use native.Mathlib.Omega.{arith}
use Rattle.std.proofs.Math.Dec.{leb, ltb}
use Rattle.std.proofs.Math.ListN.{length, get_or, get_or-append}
use borrow.Author.Tests.{eqb-true, leb-true, ltb-true}
use Rattle.core_term.specs.Node.{lambda_n}
use Rattle.core_term.specs.NodeLaws.{both}
use Rattle.core_term.specs.Term.{variable_c, operation_c, datum_c, if_c, lambda_c, application_c, none_c, more_c, Plain, Plains, variables, formals_of, formals_all}
use Rattle.core_term.specs.TermLaws.{formals-count}
use Rattle.core_term.specs.Decimal.{decimal}
use Rattle.core_term.specs.Every.{every, every_term}
use Rattle.core_term.specs.Check.{Scope, outside, inside, variable_inside, first_number, asked, scoped, numbered, term_of}
use Rattle.core_term.proofs.OfCode.CheckLaws.{accepted}
use Rattle.core_term.specs.Text.{variable_text, formal_texts, text_in, texts_in, text}
use Rattle.core_term.specs.OwnNames.{Names, none, bound, variable_as, formals_as, text_as, texts_as, own_text}

module _ (called : List ℕ) where
  -- these names are those of the variables from b on
  abbrev Holds : ℕ → List ℕ → Type 0
  Holds b names = (k : ℕ) → k < length names → get_or called (b + k) 0 ≡ get_or names k 0

  holds-first : (b : ℕ) (xs ys : List ℕ) → Holds b (xs ++ ys) → Holds b xs
  holds-first b xs ys h k l = h k (omega (arith, length-append xs ys)) ∙ get_or-append xs ys 0 k l

  holds-rest : (b n : ℕ) (xs ys : List ℕ) → length xs ≡ n → Holds b (xs ++ ys) → Holds (b + n) ys
  holds-rest b n xs ys e h k l =
      let i : b + n + k ≡ b + (n + k) = omega arith in
      ap (λ (m : ℕ). get_or called m 0) i ∙ h (n + k) (omega (arith, length-append xs ys))
      ∙ sym (get_or-drop n (xs ++ ys) k 0) ∙ ap (λ (z : List ℕ). get_or z k 0) (drop_at xs ys n e)

  -- the names in scope are those by number
  abbrev Agree : Scope → Names → Type 0
  Agree s e = (k : ℕ) → s k ≡ true → get_or called k 0 ≡ e k

  agree-lambda : (s : Scope) (e : Names) (b : ℕ) (names : List ℕ) → Agree s e → Holds b names → Agree (inside s b (lambda_n b names)) (bound e b names)
  unfolding inside bound
  agree-lambda s e b names a h k q = go (leb b k) (ltb k (b + length names)) refl refl q
    where
      go : (c d : Bool) → leb b k ≡ c → ltb k (b + length names) ≡ d → ((c && d) || s k) ≡ true → get_or called k 0 ≡ cond (c && d) (get_or names (k - b) 0) (e k)
      go true true x y r =
          let l = leb-true b k x in
          let m = ltb-true k (b + length names) y in
          let i : b + (k - b) ≡ k = omega (arith, l) in
          ap (λ (n : ℕ). get_or called n 0) (sym i) ∙ h (k - b) (omega (arith, l, m))
      go true false x y r = a k r
      go false d x y r = a k r

  module _ (spell : ℕ → List ℕ) where
    own-variable : (n name : ℕ) → get_or called n 0 ≡ name → variable_text spell called n ≡ variable_as spell n name
    unfolding variable_text variable_as
    own-variable n name e = ap (λ (m : ℕ). 118 ∷ (decimal n ++ (46 ∷ spell m))) e

    -- a lambda's formals have its own names
    own-formals : (names : List ℕ) (b : ℕ) → Holds b names → formal_texts spell called b (length names) ≡ formals_as spell b names
    unfolding formal_texts formals_as
    own-formals [] b h = refl
    own-formals (name ∷ names) b h =
        let z : b + 0 ≡ b = omega arith in
        let first : get_or called b 0 ≡ name = ap (λ (n : ℕ). get_or called n 0) (sym z) ∙ h 0 (omega arith) in
        let later : Holds (suc b) names = λ k l. let i : suc b + k ≡ b + suc k = omega arith in ap (λ (n : ℕ). get_or called n 0) i ∙ h (suc k) (omega arith) in
        rw (own-variable b name first, own-formals names (suc b) later)

    mutual
      unfolding text_in text_as every formals_of asked variable_inside first_number inside

      own_in : (t : Plain) (s : Scope) (e : Names) (b : ℕ) → Agree s e → Holds b (formals_of t) → every (asked variable_inside) s b t ≡ true → every (asked first_number) s b t ≡ true
          → text_in spell called t ≡ text_as spell e t
      own_in (variable_c n) s e b a h p q = own-variable n (e n) (a n p)
      own_in (operation_c n) s e b a h p q = refl
      own_in (datum_c d) s e b a h p q = refl
      own_in (if_c x y z) s e b a h p q =
          let p1 = both (every (asked variable_inside) s b x) _ p in
          let p2 = both (every (asked variable_inside) s (b + variables x) y) _ p1.1 in
          let q1 = both (every (asked first_number) s b x) _ q in
          let q2 = both (every (asked first_number) s (b + variables x) y) _ q1.1 in
          let h2 = holds-rest b (variables x) (formals_of x) (formals_of y ++ formals_of z) (formals-count x) h in
          rw (
            own_in x s e b a (holds-first b (formals_of x) (formals_of y ++ formals_of z) h) p1.0 q1.0,
            own_in y s e (b + variables x) a (holds-first (b + variables x) (formals_of y) (formals_of z) h2) p2.0 q2.0,
            own_in z s e (b + variables x + variables y) a (holds-rest (b + variables x) (variables y) (formals_of y) (formals_of z) (formals-count y) h2) p2.1 q2.1,
          )
      own_in (lambda_c first names body) s e b a h p q =
          let q1 = both (eqb first b) _ q in
          let i : first ≡ b = eqb-true first b q1.0 in
          let h1 : Holds first names = rw i (holds-first b names (formals_of body) h) in
          rw (
            own-formals names first h1,
            own_in body (inside s b (lambda_n first names)) (bound e first names) (b + length names) (agree-lambda s e first names a h1)
                (holds-rest b (length names) names (formals_of body) refl h) p q1.1,
          )
      own_in (application_c g ts) s e b a h p q =
          let p1 = both (every (asked variable_inside) s b g) _ p in
          let q1 = both (every (asked first_number) s b g) _ q in
          rw (
            own_in g s e b a (holds-first b (formals_of g) (formals_all ts) h) p1.0 q1.0,
            own-all ts s e (b + variables g) a (holds-rest b (variables g) (formals_of g) (formals_all ts) (formals-count g) h) p1.1 q1.1,
          )

      own-all : (ts : Plains) (s : Scope) (e : Names) (b : ℕ) → Agree s e → Holds b (formals_all ts) → every_term (asked variable_inside) s b ts ≡ true → every_term (asked first_number) s b ts ≡ true
          → texts_in spell called ts ≡ texts_as spell e ts
      own-all none_c s e b a h p q = refl
      own-all (more_c t ts) s e b a h p q =
          let p1 = both (every (asked variable_inside) s b t) _ p in
          let q1 = both (every (asked first_number) s b t) _ q in
          rw (
            own_in t s e b a (holds-first b (formals_of t) (formals_all ts) h) p1.0 q1.0,
            own-all ts s e (b + variables t) a (holds-rest b (variables t) (formals_of t) (formals_all ts) (formals-count t) h) p1.1 q1.1,
          )

-- past ground 19 a term's text has everywhere the names of its own lambdas
pub text-own : (operations : ℕ) (name_good : ℕ → Bool) (ws : List ℕ) (t : Plain) (spell : ℕ → List ℕ) → term_of operations name_good ws ≡ some t → text spell t ≡ own_text spell t
unfolding text own_text scoped numbered outside
text-own operations name_good ws t spell h =
    let g = accepted operations name_good ws t h in
    own_in (formals_of t) spell t outside none 0 (λ k q. absurd (false≢true q)) (λ k l. let z : 0 + k ≡ k = omega arith in ap (λ (n : ℕ). get_or (formals_of t) n 0) z) g.closed g.counted
