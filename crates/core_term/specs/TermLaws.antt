-- Laws of terms: what is said of variables changes neither counts nor the number of words.
use Rattle.std.specs.Prelude.{◌≡◌, ◌++◌, length}
use Rattle.std.proofs.Math.Path.{refl, ap}
use Rattle.std.proofs.Common.{arith, length-append}
use Prim.Native.Nat.{ℕ, suc}
use Rattle.std.proofs.lemmas.List.{length-map}
use Rattle.core_term.specs.Term.{Term, variable_c, operation_c, datum_c, if_c, lambda_c, application_c, Terms, none_c, more_c, count, variables, variables_all, formals_of, formals_all, on_formals, on_formals_all}
use Rattle.core_term.specs.Node.{node_words}
use Rattle.core_term.specs.Words.{encode, encode_all}

module _ {F : Type 0} where
  mutual
    unfolding variables formals_of

    -- every variable has its formal
    pub formals-count : (t : Term F) → length (formals_of t) ≡ variables t
    formals-count (variable_c n) = refl
    formals-count (operation_c n) = refl
    formals-count (datum_c d) = refl
    formals-count (if_c x y z) =
        omega (arith, formals-count x, formals-count y, formals-count z, length-append (formals_of x) (formals_of y ++ formals_of z), length-append (formals_of y) (formals_of z))
    formals-count (lambda_c first formals body) = omega (arith, formals-count body, length-append formals (formals_of body))
    formals-count (application_c h ts) = omega (arith, formals-count h, all-count ts, length-append (formals_of h) (formals_all ts))

    all-count : (ts : Terms F) → length (formals_all ts) ≡ variables_all ts
    all-count none_c = refl
    all-count (more_c t ts) = omega (arith, formals-count t, all-count ts, length-append (formals_of t) (formals_all ts))

module _ {F G : Type 0} (say : F → G) where
  pub on_formals-count : (ts : Terms F) → count (on_formals_all say ts) ≡ count ts
  unfolding count on_formals
  on_formals-count none_c = refl
  on_formals-count (more_c t ts) = ap suc (on_formals-count ts)

  mutual
    unfolding variables on_formals

    pub on_formals-variables : (t : Term F) → variables (on_formals say t) ≡ variables t
    on_formals-variables (variable_c n) = refl
    on_formals-variables (operation_c n) = refl
    on_formals-variables (datum_c d) = refl
    on_formals-variables (if_c x y z) = rw (on_formals-variables x, on_formals-variables y, on_formals-variables z)
    on_formals-variables (lambda_c first formals body) = rw (length-map formals say, on_formals-variables body)
    on_formals-variables (application_c h ts) = rw (on_formals-variables h, all-variables ts)

    all-variables : (ts : Terms F) → variables_all (on_formals_all say ts) ≡ variables_all ts
    all-variables none_c = refl
    all-variables (more_c t ts) = rw (on_formals-variables t, all-variables ts)

-- as many words, whatever is said
module _ {F : Type 0} (f g : F → ℕ) where
  mutual
    unfolding on_formals encode node_words

    pub on_formals-words : (t : Term F) → length (encode (on_formals f t)) ≡ length (encode (on_formals g t))
    on_formals-words (variable_c n) = refl
    on_formals-words (operation_c n) = refl
    on_formals-words (datum_c d) = refl
    on_formals-words (if_c x y z) = simp length-append (omega (arith, on_formals-words x, on_formals-words y, on_formals-words z))
    on_formals-words (lambda_c first formals body) = simp length-append (omega (arith, length-map formals f, length-map formals g, on_formals-words body))
    on_formals-words (application_c h ts) = simp length-append (omega (arith, on_formals-words h, all_words ts))

    all_words : (ts : Terms F) → length (encode_all (on_formals_all f ts)) ≡ length (encode_all (on_formals_all g ts))
    all_words none_c = refl
    all_words (more_c t ts) = simp length-append (omega (arith, on_formals-words t, all_words ts))
