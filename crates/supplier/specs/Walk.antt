-- The walk: an element of the text against our words, in one recursion. It finds the element outside the grammar (21), open (22),
-- another than our term, or the same, with the words of ours that are left. After a difference it goes on with no words.
use Rattle.std.specs.Prelude.{Bool, true, false, cond, ◌&&◌, List, [], map, ℕ, zero, suc, eqb, ltb, length, get_or}
use Rattle.std.proofs.Math.Option.{Option, none, some}
use Rattle.words.specs.Lists.{any_of, equal}
use Rattle.words.specs.Options.{only_if}
use Rattle.datum.specs.Constant.{Constant}
use Rattle.datum.specs.Datum.{Datum, constant_d, name_d, list_d, Data, none_d, more_d}
use Rattle.datum.specs.Datum as D
use Rattle.datum.specs.NameTable.{name_at, has_name}
use Rattle.core_term.specs.Node.{Node, Got, got, missing, node_at, variable_n, operation_n, constant_n, name_n, list_n, if_n, lambda_n, application_n}
use Rattle.comparison.specs.Grammar.{is_free, first, after, formals}
use Rattle.comparison.specs.Agrees.{Scope, meant, bind}

-- ---- what is found

pub data Found : Type 0 where
  outside open' other : Found
  same : (left : List ℕ) → Found

-- of what stands behind
unfoldable pub left_of : Found → List ℕ
left_of outside = []
left_of open' = []
left_of other = []
left_of (same l) = l

-- one thing found behind another: 21 before 22 before no
unfoldable pub joined : Found → Found → Found
joined outside g = outside
joined open' outside = outside
joined open' open' = open'
joined open' other = open'
joined open' (same l) = open'
joined other outside = outside
joined other open' = open'
joined other other = other
joined other (same l) = other
joined (same l) g = g

unfoldable pub met : Bool → List ℕ → Found
met b l = cond b (same l) other

-- ---- our node

-- our node as numbers: of a constant its kind and two words, of a lambda how many variables and the first, of others their number
pub record Ours : Type 0 where
  pub sort : ℕ
  pub first : ℕ
  pub second : ℕ
  pub third : ℕ
  pub left : List ℕ

abbrev pub our : (sort first second third : ℕ) → List ℕ → Ours
our a b c d l = record { sort = a; first = b; second = c; third = d; left = l }

abbrev pub constant_sort : ℕ
constant_sort = 0

abbrev pub variable_sort : ℕ
variable_sort = 1

abbrev pub operation_sort : ℕ
operation_sort = 2

abbrev pub name_sort : ℕ
name_sort = 3

abbrev pub list_sort : ℕ
list_sort = 4

abbrev pub if_sort : ℕ
if_sort = 5

abbrev pub lambda_sort : ℕ
lambda_sort = 6

abbrev pub application_sort : ℕ
application_sort = 7

-- no node
abbrev pub no_sort : ℕ
no_sort = 8

unfoldable pub ours_of : Got Node → Ours
ours_of (got (variable_n n) l) = our variable_sort n 0 0 l
ours_of (got (operation_n n) l) = our operation_sort n 0 0 l
ours_of (got (constant_n a) l) = our constant_sort a.kind a.first a.second l
ours_of (got (name_n n) l) = our name_sort n 0 0 l
ours_of (got (list_n n) l) = our list_sort n 0 0 l
ours_of (got if_n l) = our if_sort 0 0 0 l
ours_of (got (lambda_n v ns) l) = our lambda_sort (length ns) v 0 l
ours_of (got (application_n n) l) = our application_sort n 0 0 l
ours_of missing = our no_sort 0 0 0 []

-- one of this sort and number
unfoldable pub takes : (sort number : ℕ) → Ours → Found
takes k n o = met (eqb k o.sort && eqb n o.first) o.left

unfoldable pub constant_here : Constant → Ours → Found
constant_here a o = met (eqb constant_sort o.sort && (eqb a.kind o.first && (eqb a.first o.second && eqb a.second o.third))) o.left

-- ---- lists

-- the form that an element heads: quote 0, if 1, lambda 2; 3 where it is none of them
unfoldable pub form_of : Datum → ℕ
form_of (constant_d a) = 3
form_of (name_d n) = cond (ltb n 3) n 3
form_of (list_d ds) = 3

-- one element that is no constant
unfoldable pub quotes : Data → Bool
quotes none_d = false
quotes (more_d (constant_d a) ds) = false
quotes (more_d (name_d n) none_d) = true
quotes (more_d (name_d n) (more_d e ds)) = false
quotes (more_d (list_d es) none_d) = true
quotes (more_d (list_d es) (more_d e ds)) = false

-- how a list is walked through: how many elements are passed over, whether the others are data, their scope, what was found before them
pub record Plan : Type 0 where
  pub skip : ℕ
  pub quoted : Bool
  pub scope : Scope
  pub state : Found

abbrev pub plan : ℕ → Bool → Scope → Found → Plan
plan k q s f = record { skip = k; quoted = q; scope = s; state = f }

unfoldable pub quote_plan : Scope → Bool → List ℕ → Plan
quote_plan s is ws = plan 1 true s (cond is (same ws) outside)

unfoldable pub if_plan : Scope → Bool → Ours → Plan
if_plan s is o = plan 1 false s (cond is (takes if_sort 0 o) outside)

unfoldable pub lambda_plan : Scope → Option (List ℕ) → Ours → Plan
lambda_plan s none o = plan 1 false s outside
lambda_plan s (some ns) o = plan 2 false (bind ns o.second s) (takes lambda_sort (length ns) o)

-- the formals of a lambda that has a body
unfoldable pub formals_of : Data → Option (List ℕ)
formals_of ds = only_if (eqb (D.count ds) 2) (after (first ds) formals)

unfoldable pub headed_plan : Scope → (form : ℕ) → Data → List ℕ → Ours → Plan
headed_plan s zero ds ws o = quote_plan s (quotes ds) ws
headed_plan s (suc zero) ds ws o = if_plan s (eqb (D.count ds) 3) o
headed_plan s (suc (suc zero)) ds ws o = lambda_plan s (formals_of ds) o
headed_plan s (suc (suc (suc k))) ds ws o = plan 0 false s (takes application_sort (D.count ds) o)

unfoldable pub plan_of : Bool → Scope → Data → List ℕ → Ours → Plan
plan_of true s ds ws o = plan 0 true s (takes list_sort (D.count ds) o)
plan_of false s none_d ws o = plan 0 false s outside
plan_of false s (more_d d ds) ws o = headed_plan s (form_of d) ds ws o

-- ---- the walk

-- the text's name table, ours, and the numbers of the operations in the order of their places
module _ (theirs ours operations : List ℕ) where
  -- the operation list has a name of this spelling
  unfoldable pub is_operation : ℕ → Bool
  is_operation n = any_of (equal (name_at theirs n)) (map (name_at ours) operations)

  unfoldable pub quoted_name : ℕ → Ours → Found
  quoted_name n o = met (eqb name_sort o.sort && (has_name ours o.first && equal (name_at theirs n) (name_at ours o.first))) o.left

  unfoldable pub is_place : ℕ → Ours → Bool
  is_place n o = eqb operation_sort o.sort && (ltb o.first (length operations) && equal (name_at theirs n) (name_at ours (get_or operations o.first 0)))

  unfoldable pub free : ℕ → Ours → Found
  free n o = cond (is_place n o) (same o.left) (cond (is_operation n) other open')

  unfoldable pub reference : ℕ → Option ℕ → Ours → Found
  reference n none o = free n o
  reference n (some v) o = takes variable_sort v o

  unfoldable pub name_here : Bool → Scope → ℕ → Ours → Found
  name_here true s n o = quoted_name n o
  name_here false s n o = cond (is_free n) (reference n (meant n s) o) outside

  unfoldable mutual
    -- `q`: the element is quoted
    pub walk : Datum → Bool → Scope → List ℕ → Found
    walk (constant_d a) q s ws = constant_here a (ours_of (node_at ws))
    walk (name_d n) q s ws = name_here q s n (ours_of (node_at ws))
    walk (list_d ds) q s ws =
        let p = plan_of q s ds ws (ours_of (node_at ws)) in
        walk_from ds p.skip p.quoted p.scope p.state

    -- the elements of a list but for the first k
    pub walk_from : Data → ℕ → Bool → Scope → Found → Found
    walk_from none_d k q s f = f
    walk_from (more_d d ds) zero q s f = walk_from ds zero q s (joined f (walk d q s (left_of f)))
    walk_from (more_d d ds) (suc k) q s f = walk_from ds k q s f
