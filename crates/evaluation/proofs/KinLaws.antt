-- What is kin by equality is equal; every code and value is kin to itself.
use Rattle.std.specs.Prelude.{◌≡◌, refl, ℕ}
use Rattle.std.proofs.Common.{ap, ap₂, ◌∙◌}
use Rattle.core_term.specs.Term.{variable_c, operation_c, datum_c, if_c, lambda_c, application_c, none_c, more_c, Plain, Plains}
use Rattle.datum.specs.Datum.{constant_d, name_d, list_d}
use Rattle.evaluation.specs.Code.{Code, variable_r, operation_r, constant_r, quoted_r, if_r, lambda_r, application_r, Codes, none_r, more_r, datum_code, code_at, codes_at}
use Rattle.evaluation.specs.Computation.{Answer, answer, ground_number}
use Rattle.evaluation.specs.Numbers.{Numbers}
use Rattle.evaluation.specs.Evaluate.{Value, number_v, boolean_v, datum_v, closure_v, operation_v, Environment, empty_e, bound_e}
use Rattle.evaluation.specs.Kin.{CodeKin, variable_k, operation_k, constant_k, quoted_k, if_k, lambda_k, application_k, CodesKin, none_k, more_k, ValueKin, number_k, boolean_k, datum_k, closure_k, operator_k, EnvironmentKin, empty_k, bound_k, Answers, answers, grounds, NumbersKin}
use Rattle.evaluation.specs.KinLaws.{Any, Same, tight}

mutual
  pub code-kin : (P : ℕ → ℕ → Type 0) (r : (n : ℕ) → P n n) (c : Code) → CodeKin P c c
  code-kin P r (variable_r n) = variable_k
  code-kin P r (operation_r p) = operation_k
  code-kin P r (constant_r a) = constant_k
  code-kin P r (quoted_r at) = quoted_k (r at)
  code-kin P r (if_r x y z) = if_k (code-kin P r x) (code-kin P r y) (code-kin P r z)
  code-kin P r (lambda_r first count b) = lambda_k (code-kin P r b)
  code-kin P r (application_r h cs) = application_k (code-kin P r h) (codes-kin P r cs)

  pub codes-kin : (P : ℕ → ℕ → Type 0) (r : (n : ℕ) → P n n) (cs : Codes) → CodesKin P cs cs
  codes-kin P r none_r = none_k
  codes-kin P r (more_r c cs) = more_k (code-kin P r c) (codes-kin P r cs)

mutual
  unfolding code_at datum_code

  pub moved-kin : (m n : ℕ) (t : Plain) → CodeKin Any (code_at m t) (code_at n t)
  moved-kin m n (variable_c k) = variable_k
  moved-kin m n (operation_c p) = operation_k
  moved-kin m n (datum_c (constant_d a)) = constant_k
  moved-kin m n (datum_c (name_d k)) = quoted_k tt
  moved-kin m n (datum_c (list_d ds)) = quoted_k tt
  moved-kin m n (if_c x y z) = if_k (moved-kin _ _ x) (moved-kin _ _ y) (moved-kin _ _ z)
  moved-kin m n (lambda_c first names body) = lambda_k (moved-kin _ _ body)
  moved-kin m n (application_c h ts) = application_k (moved-kin _ _ h) (moved_all _ _ ts)

  pub moved_all : (m n : ℕ) (ts : Plains) → CodesKin Any (codes_at m ts) (codes_at n ts)
  moved_all m n none_c = none_k
  moved_all m n (more_c t ts) = more_k (moved-kin m n t) (moved_all _ _ ts)

-- ---- from kin to equal

mutual
  code-equal : {c c' : Code} → CodeKin Same c c' → c ≡ c'
  code-equal variable_k = refl
  code-equal operation_k = refl
  code-equal constant_k = refl
  code-equal (quoted_k p) = ap quoted_r p
  code-equal (if_k x y z) = rw (code-equal x, code-equal y, code-equal z)
  code-equal (lambda_k {first = first} {count = count} b) = ap (lambda_r first count) (code-equal b)
  code-equal (application_k h cs) = ap₂ application_r (code-equal h) (codes_equal cs)

  codes_equal : {cs cs' : Codes} → CodesKin Same cs cs' → cs ≡ cs'
  codes_equal none_k = refl
  codes_equal (more_k c cs) = ap₂ more_r (code-equal c) (codes_equal cs)

answers-same : {A : Type 0} (o : Answer A) → Answers tight Same o o
answers-same (answer a) = answers refl
answers-same (ground_number g) = grounds

module _ {N : Type 0} where
  mutual
    pub value-equal : {v v' : Value N} → ValueKin Same Same v v' → v ≡ v'
    value-equal (number_k s) = ap number_v s
    value-equal boolean_k = refl
    value-equal (datum_k p) = ap datum_v p
    value-equal (closure_k {first = first} {count = count} c e) = ap₂ (closure_v first count) (code-equal c) (environment-equal e)
    value-equal operator_k = refl

    environment-equal : {e e' : Environment N} → EnvironmentKin Same Same e e' → e ≡ e'
    environment-equal empty_k = refl
    environment-equal (bound_k {n = n} v e) = ap₂ (bound_e n) (value-equal v) (environment-equal e)

  mutual
    pub value-kin : (v : Value N) → ValueKin Same Same v v
    value-kin (number_v n) = number_k refl
    value-kin (boolean_v b) = boolean_k
    value-kin (datum_v at) = datum_k refl
    value-kin (closure_v first count b e) = closure_k (code-kin Same (λ n. refl) b) (environment-kin e)
    value-kin (operation_v p) = operator_k

    pub environment-kin : (e : Environment N) → EnvironmentKin Same Same e e
    environment-kin empty_e = empty_k
    environment-kin (bound_e n v e) = bound_k (value-kin v) (environment-kin e)

  -- numbers beside themselves
  pub numbers-kin : (D : Numbers N) → NumbersKin tight Same D D
  numbers-kin D =
      record {
        of_word = λ w. refl;
        sum = λ a b a' b' r s. rw (r, s) (answers-same (D.sum a' b'));
        difference = λ a b a' b' r s. rw (r, s) (answers-same (D.difference a' b'));
        less = λ a b a' b' r s. rw (r, s) (answers-same (D.less a' b'));
        equal = λ a b a' b' r s. rw (r, s) (answers-same (D.equal a' b'));
      }
