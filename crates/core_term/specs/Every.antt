-- A test of every node of a term. The test is told how many variables are bound before the node, in the words' order,
-- and an environment: what `enter` makes of it at each node around, from the outside in.
use Rattle.std.specs.Prelude.{Bool, true, ◌&&◌, ℕ, ◌+◌, length}
use Rattle.datum.specs.Datum.{Datum, constant_d, name_d, list_d, Data, none_d, more_d}
use Rattle.datum.specs.Datum as D
use Rattle.core_term.specs.Node.{Node, is_node, variable_n, operation_n, constant_n, name_n, list_n, if_n, lambda_n, application_n}
use Rattle.core_term.specs.Term.{variable_c, operation_c, datum_c, if_c, lambda_c, application_c, none_c, more_c, Plain, Plains, count, variables}

-- what is asked of a node in its environment, and the environment of its parts
pub record Asked (E : Type 0) : Type 0 where
  pub test : E → ℕ → Node → Bool
  pub enter : E → ℕ → Node → E

module _ {E : Type 0} (A : Asked E) where
  unfoldable mutual
    pub every_datum : E → ℕ → Datum → Bool
    every_datum e b (constant_d a) = A.test e b (constant_n a)
    every_datum e b (name_d n) = A.test e b (name_n n)
    every_datum e b (list_d ds) = A.test e b (list_n (D.count ds)) && every_data (A.enter e b (list_n (D.count ds))) b ds

    pub every_data : E → ℕ → Data → Bool
    every_data e b none_d = true
    every_data e b (more_d d ds) = every_datum e b d && every_data e b ds

module _ {E : Type 0} (A : Asked E) where
  unfoldable mutual
    pub every : E → ℕ → Plain → Bool
    every e b (variable_c n) = A.test e b (variable_n n)
    every e b (operation_c n) = A.test e b (operation_n n)
    every e b (datum_c d) = every_datum A e b d
    every e b (if_c x y z) =
        let in' = A.enter e b if_n in
        A.test e b if_n && (every in' b x && (every in' (b + variables x) y && every in' (b + variables x + variables y) z))
    every e b (lambda_c first names body) =
        let x = lambda_n first names in
        A.test e b x && every (A.enter e b x) (b + length names) body
    every e b (application_c h ts) =
        let x = application_n (count ts) in
        A.test e b x && (every (A.enter e b x) b h && every_term (A.enter e b x) (b + variables h) ts)

    pub every_term : E → ℕ → Plains → Bool
    every_term e b none_c = true
    every_term e b (more_c t ts) = every e b t && every_term e (b + variables t) ts

-- every node is one
unfoldable pub proper : Asked (Unit {0})
proper = record { test = λ e b x. is_node x; enter = λ e b x. e }

unfoldable pub well_formed : Plain → Bool
well_formed t = every proper tt 0 t
