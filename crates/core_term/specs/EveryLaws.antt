-- Laws of tests of every node. What they say together: where A's tests, for each i, pass every node, B's does, if it follows node by
-- node. ρ relates the environments; most is at least the count of all variables.
use Rattle.std.specs.Prelude.{◌≡◌, refl, true, ◌&&◌, ℕ, ◌+◌, ◌≤◌, length}
use Rattle.std.proofs.Common.{ap, subst, ◌∙◌, arith, add-zero}
use Rattle.std.proofs.lemmas.List.{length-map}
use Rattle.datum.specs.Datum.{Datum, constant_d, name_d, list_d, Data, none_d, more_d}
use Rattle.datum.specs.Datum as D
use Rattle.core_term.specs.Node.{Node, is_node, binds, variable_n, operation_n, constant_n, name_n, list_n, if_n, lambda_n, application_n}
use Rattle.core_term.specs.NodeLaws.{both}
use Rattle.core_term.specs.Term.{Term, variable_c, operation_c, datum_c, if_c, lambda_c, application_c, Terms, none_c, more_c, Plain, Plains, count, variables, variables_all, on_formals, on_formals_all}
use Rattle.core_term.specs.TermLaws.{on_formals-variables}
use Rattle.core_term.specs.Every.{Asked, every, every_term, every_datum, every_data, proper, well_formed}

module _ {I E₁ E₂ : Type 0} (A : I → Asked E₁) (B : Asked E₂) (most : ℕ) (ρ : (I → E₁) → E₂ → ℕ → Type 0)
    (tests : (e : I → E₁) (f : E₂) (b : ℕ) (x : Node) → ρ e f b → b + binds x ≤ most → ((i : I) → (A i).test (e i) b x ≡ true) → B.test f b x ≡ true)
    (enters : (e : I → E₁) (f : E₂) (b : ℕ) (x : Node) → ρ e f b → ((i : I) → (A i).test (e i) b x ≡ true) → ρ (λ i. (A i).enter (e i) b x) (B.enter f b x) (b + binds x))
    (grows : (e : I → E₁) (f : E₂) (b n : ℕ) → ρ e f b → ρ e f (b + n)) where
  -- of a node that binds nothing
  same : (e : I → E₁) (f : E₂) (b : ℕ) (x : Node) → binds x ≡ 0 → ρ e f b → ((i : I) → (A i).test (e i) b x ≡ true) → ρ (λ i. (A i).enter (e i) b x) (B.enter f b x) b
  same e f b x h r t = subst (λ (n : ℕ). ρ (λ i. (A i).enter (e i) b x) (B.enter f b x) n) (ap (λ (n : ℕ). b + n) h ∙ add-zero b) (enters e f b x r t)

  mutual
    unfolding every_datum binds

    datum-from : (d : Datum) (e : I → E₁) (f : E₂) (b : ℕ) → ρ e f b → b ≤ most → ((i : I) → every_datum (A i) (e i) b d ≡ true) → every_datum B f b d ≡ true
    datum-from (constant_d a) e f b r l h = tests e f b (constant_n a) r (omega arith) h
    datum-from (name_d n) e f b r l h = tests e f b (name_n n) r (omega arith) h
    datum-from (list_d ds) e f b r l h =
        let x = list_n (D.count ds) in
        let t : (i : I) → (A i).test (e i) b x ≡ true = λ i. (both ((A i).test (e i) b x) _ (h i)).0 in
        let u : (i : I) → every_data (A i) ((A i).enter (e i) b x) b ds ≡ true = λ i. (both ((A i).test (e i) b x) _ (h i)).1 in
        rw (tests e f b x r (omega arith) t) (data-from ds (λ i. (A i).enter (e i) b x) (B.enter f b x) b (same e f b x refl r t) l u)

    data-from : (ds : Data) (e : I → E₁) (f : E₂) (b : ℕ) → ρ e f b → b ≤ most → ((i : I) → every_data (A i) (e i) b ds ≡ true) → every_data B f b ds ≡ true
    data-from none_d e f b r l h = refl
    data-from (more_d d ds) e f b r l h =
        rw (datum-from d e f b r l (λ i. (both (every_datum (A i) (e i) b d) _ (h i)).0))
        (data-from ds e f b r l (λ i. (both (every_datum (A i) (e i) b d) _ (h i)).1))

  mutual
    unfolding every variables binds

    pub every-from : (t : Plain) (e : I → E₁) (f : E₂) (b : ℕ) → ρ e f b → b + variables t ≤ most → ((i : I) → every (A i) (e i) b t ≡ true) → every B f b t ≡ true
    every-from (variable_c n) e f b r l h = tests e f b (variable_n n) r (omega arith) h
    every-from (operation_c n) e f b r l h = tests e f b (operation_n n) r (omega arith) h
    every-from (datum_c d) e f b r l h = datum-from d e f b r (omega arith) h
    every-from (if_c x y z) e f b r l h =
        let t : (i : I) → (A i).test (e i) b if_n ≡ true = λ i. (both ((A i).test (e i) b if_n) _ (h i)).0 in
        let e' : I → E₁ = λ i. (A i).enter (e i) b if_n in
        let q : (i : I) → (every (A i) (e' i) b x ≡ true) × ((every (A i) (e' i) (b + variables x) y && every (A i) (e' i) (b + variables x + variables y) z) ≡ true) =
        λ i. both (every (A i) (e' i) b x) _ (both ((A i).test (e i) b if_n) _ (h i)).1 in
        let w : (i : I) → (every (A i) (e' i) (b + variables x) y ≡ true) × (every (A i) (e' i) (b + variables x + variables y) z ≡ true) =
        λ i. both (every (A i) (e' i) (b + variables x) y) _ (q i).1 in
        let f' = B.enter f b if_n in
        let r' = same e f b if_n refl r t in
        rw (tests e f b if_n r (omega arith) t, every-from x e' f' b r' (omega arith) (λ i. (q i).0), every-from y e' f' (b + variables x) (grows e' f' b (variables x) r') (omega arith) (λ i. (w i).0))
        (every-from z e' f' (b + variables x + variables y) (grows e' f' (b + variables x) (variables y) (grows e' f' b (variables x) r')) (omega arith) (λ i. (w i).1))
    every-from (lambda_c first names body) e f b r l h =
        let x = lambda_n first names in
        let t : (i : I) → (A i).test (e i) b x ≡ true = λ i. (both ((A i).test (e i) b x) _ (h i)).0 in
        rw (tests e f b x r (omega arith) t)
        (every-from body (λ i. (A i).enter (e i) b x) (B.enter f b x) (b + length names) (enters e f b x r t) (omega arith) (λ i. (both ((A i).test (e i) b x) _ (h i)).1))
    every-from (application_c g ts) e f b r l h =
        let x = application_n (count ts) in
        let t : (i : I) → (A i).test (e i) b x ≡ true = λ i. (both ((A i).test (e i) b x) _ (h i)).0 in
        let e' : I → E₁ = λ i. (A i).enter (e i) b x in
        let f' = B.enter f b x in
        let q : (i : I) → (every (A i) (e' i) b g ≡ true) × (every_term (A i) (e' i) (b + variables g) ts ≡ true) =
        λ i. both (every (A i) (e' i) b g) _ (both ((A i).test (e i) b x) _ (h i)).1 in
        let r' = same e f b x refl r t in
        rw (tests e f b x r (omega arith) t, every-from g e' f' b r' (omega arith) (λ i. (q i).0))
        (terms-from ts e' f' (b + variables g) (grows e' f' b (variables g) r') (omega arith) (λ i. (q i).1))

    terms-from : (ts : Plains) (e : I → E₁) (f : E₂) (b : ℕ) → ρ e f b → b + variables_all ts ≤ most → ((i : I) → every_term (A i) (e i) b ts ≡ true) → every_term B f b ts ≡ true
    terms-from none_c e f b r l h = refl
    terms-from (more_c t ts) e f b r l h =
        rw (every-from t e f b r (omega arith) (λ i. (both (every (A i) (e i) b t) _ (h i)).0))
        (terms-from ts e f (b + variables t) (grows e f b (variables t) r) (omega arith) (λ i. (both (every (A i) (e i) b t) _ (h i)).1))

-- ---- what is said of variables makes no node less of one

module _ {F : Type 0} (f g : F → ℕ) where
  mutual
    unfolding every on_formals proper is_node

    formed-unnamed : (b : ℕ) (t : Term F) → every proper tt b (on_formals f t) ≡ every proper tt b (on_formals g t)
    formed-unnamed b (variable_c n) = refl
    formed-unnamed b (operation_c p) = refl
    formed-unnamed b (datum_c d) = refl
    formed-unnamed b (if_c x y z) =
        rw (on_formals-variables f x, on_formals-variables f y, on_formals-variables g x, on_formals-variables g y, formed-unnamed b x, formed-unnamed (b + variables x) y, formed-unnamed (b + variables x + variables y) z)
    formed-unnamed b (lambda_c first formals body) = rw (length-map formals f, length-map formals g, formed-unnamed (b + length formals) body)
    formed-unnamed b (application_c h ts) = rw (on_formals-variables f h, on_formals-variables g h, formed-unnamed b h, all-unnamed (b + variables h) ts)

    all-unnamed : (b : ℕ) (ts : Terms F) → every_term proper tt b (on_formals_all f ts) ≡ every_term proper tt b (on_formals_all g ts)
    all-unnamed b none_c = refl
    all-unnamed b (more_c t ts) = rw (on_formals-variables f t, on_formals-variables g t, formed-unnamed b t, all-unnamed (b + variables t) ts)

  pub well_formed-unnamed : (t : Term F) → well_formed (on_formals f t) ≡ well_formed (on_formals g t)
  unfolding well_formed
  well_formed-unnamed t = formed-unnamed 0 t
