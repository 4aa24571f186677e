-- Data and core terms of one shape: the numbers of quoted names are related, and so is what is said of the variables.
use Rattle.std.specs.Prelude.{◌≡◌, List, ℕ}
use Rattle.datum.specs.Constant.{Constant}
use Rattle.datum.specs.Datum.{Datum, constant_d, name_d, list_d, Data, none_d, more_d}
use Rattle.core_term.specs.Term.{Term, variable_c, operation_c, datum_c, if_c, lambda_c, application_c, Terms, none_c, more_c}
use Rattle.simulation.specs.Relations.{ListRel}

-- ---- data

mutual
  pub data DatumOf (N : ℕ → ℕ → Type 0) : Datum → Datum → Type 0 where
    constant_ds : {a : Constant} → DatumOf N (constant_d a) (constant_d a)
    name_ds : {n m : ℕ} → N n m → DatumOf N (name_d n) (name_d m)
    list_ds : {ds es : Data} → DataOf N ds es → DatumOf N (list_d ds) (list_d es)

  pub data DataOf (N : ℕ → ℕ → Type 0) : Data → Data → Type 0 where
    none_ds : DataOf N none_d none_d
    more_ds : {d e : Datum} {ds es : Data} → DatumOf N d e → DataOf N ds es → DataOf N (more_d d ds) (more_d e es)

-- ---- terms

mutual
  pub data TermOf {F : Type 0} (N : ℕ → ℕ → Type 0) (R : F → F → Type 0) : Term F → Term F → Type 0 where
    variable_cs : {n : ℕ} → TermOf N R (variable_c n) (variable_c n)
    operation_cs : {n : ℕ} → TermOf N R (operation_c n) (operation_c n)
    datum_cs : {d e : Datum} → DatumOf N d e → TermOf N R (datum_c d) (datum_c e)
    if_cs : {a a' b b' c c' : Term F} → TermOf N R a a' → TermOf N R b b' → TermOf N R c c' → TermOf N R (if_c a b c) (if_c a' b' c')
    lambda_cs : {n : ℕ} {xs ys : List F} {a b : Term F} → ListRel R xs ys → TermOf N R a b → TermOf N R (lambda_c n xs a) (lambda_c n ys b)
    application_cs : {a b : Term F} {ts us : Terms F} → TermOf N R a b → TermsOf N R ts us → TermOf N R (application_c a ts) (application_c b us)

  pub data TermsOf {F : Type 0} (N : ℕ → ℕ → Type 0) (R : F → F → Type 0) : Terms F → Terms F → Type 0 where
    none_cs : TermsOf N R none_c none_c
    more_cs : {a b : Term F} {ts us : Terms F} → TermOf N R a b → TermsOf N R ts us → TermsOf N R (more_c a ts) (more_c b us)
