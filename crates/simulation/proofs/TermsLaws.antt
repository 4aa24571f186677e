-- Data and core terms of one shape: the numbers of quoted names are related, and so is what is said of the variables.
use Rattle.std.specs.Prelude.{◌≡◌, refl, List, ℕ}
use Rattle.std.proofs.Common.{ap, ap₂, subst}
use Rattle.datum.specs.Datum.{Datum, name_d, list_d, Data, more_d}
use Rattle.core_term.specs.Term.{Term, datum_c, if_c, lambda_c, application_c, Terms, more_c, on_formals, on_formals_all}
use Rattle.simulation.specs.Relations.{ListRel, ends, joins}
use Rattle.simulation.proofs.RelationsLaws.{map-rel, list-eq}
use Rattle.simulation.specs.Terms.{DataOf, DatumOf, TermOf, TermsOf, application_cs, constant_ds, datum_cs, if_cs, lambda_cs, list_ds, more_cs, more_ds, name_ds, none_cs, none_ds, operation_cs, variable_cs}

-- ---- data

module _ {N : ℕ → ℕ → Type 0} (h : (n m : ℕ) → N n m → n ≡ m) where
  mutual
    pub datum-eq : {d e : Datum} → DatumOf N d e → d ≡ e
    datum-eq constant_ds = refl
    datum-eq (name_ds r) = ap name_d (h _ _ r)
    datum-eq (list_ds r) = ap list_d (data-eq r)

    pub data-eq : {ds es : Data} → DataOf N ds es → ds ≡ es
    data-eq none_ds = refl
    data-eq (more_ds r rs) = ap₂ more_d (datum-eq r) (data-eq rs)

-- ---- terms

module _ {F : Type 0} {N : ℕ → ℕ → Type 0} {R : F → F → Type 0} where
  pub lambda_cs-eq : {n m : ℕ} {xs ys : List F} {a b : Term F} → n ≡ m → ListRel R xs ys → TermOf N R a b → TermOf N R (lambda_c n xs a) (lambda_c m ys b)
  lambda_cs-eq {n} {m} {xs} {ys} {a} {b} p r q = subst (λ z. TermOf N R (lambda_c n xs a) (lambda_c z ys b)) p (lambda_cs r q)

  -- ---- what is told of related formals, where quoted names are one

  module _ {G : Type 0} (one : (n m : ℕ) → N n m → n ≡ m) (f g : F → G) (alike : (x y : F) → R x y → f x ≡ g y) where
    mutual
      unfolding on_formals

      pub told-rel : {a b : Term F} → TermOf N R a b → on_formals f a ≡ on_formals g b
      told-rel variable_cs = refl
      told-rel operation_cs = refl
      told-rel (datum_cs r) = ap datum_c (datum-eq one r)
      told-rel (if_cs a b c) = λ i. if_c (told-rel a i) (told-rel b i) (told-rel c i)
      told-rel (lambda_cs {n = n} r a) = ap₂ (lambda_c n) (list-eq (λ x y e. e) (map-rel f g alike r)) (told-rel a)
      told-rel (application_cs a ts) = ap₂ application_c (told-rel a) (told-all-rel ts)

      told-all-rel : {ts us : Terms F} → TermsOf N R ts us → on_formals_all f ts ≡ on_formals_all g us
      told-all-rel none_cs = refl
      told-all-rel (more_cs a ts) = ap₂ more_c (told-rel a) (told-all-rel ts)

-- ---- of the first of two related terms alone

first-list : {F : Type 0} {R : F → F → Type 0} (S : F → F → Type 0) → ((x y : F) → R x y → S x x) → {xs ys : List F} → ListRel R xs ys → ListRel S xs xs
first-list S first ends = ends
first-list S first (joins r rs) = joins (first _ _ r) (first-list S first rs)

module _ {N : ℕ → ℕ → Type 0} (M : ℕ → ℕ → Type 0) (number : (n m : ℕ) → N n m → M n n) where
  mutual
    first-datum : {d e : Datum} → DatumOf N d e → DatumOf M d d
    first-datum constant_ds = constant_ds
    first-datum (name_ds r) = name_ds (number _ _ r)
    first-datum (list_ds r) = list_ds (first-data r)

    first-data : {ds es : Data} → DataOf N ds es → DataOf M ds ds
    first-data none_ds = none_ds
    first-data (more_ds r rs) = more_ds (first-datum r) (first-data rs)

  module _ {F : Type 0} {R : F → F → Type 0} (S : F → F → Type 0) (first : (x y : F) → R x y → S x x) where
    mutual
      pub first-rel : {a b : Term F} → TermOf N R a b → TermOf M S a a
      first-rel variable_cs = variable_cs
      first-rel operation_cs = operation_cs
      first-rel (datum_cs r) = datum_cs (first-datum r)
      first-rel (if_cs a b c) = if_cs (first-rel a) (first-rel b) (first-rel c)
      first-rel (lambda_cs r a) = lambda_cs (first-list S first r) (first-rel a)
      first-rel (application_cs a ts) = application_cs (first-rel a) (first-all-rel ts)

      first-all-rel : {ts us : Terms F} → TermsOf N R ts us → TermsOf M S ts ts
      first-all-rel none_cs = none_cs
      first-all-rel (more_cs a ts) = more_cs (first-rel a) (first-all-rel ts)
