-- What the claim says of recipes: each row is an instance of `PrivateNames` itself, at a fuel of its own and in tables just long enough
-- for it. All hypotheses hold by computing, and so both conclusions are the answers that the row has. A claim that says less, or that
-- asks for more, gives no such row.
use Rattle.std.specs.Prelude.{◌≡◌, Bool, not, ◌&&◌, cond, ℕ, ◌+◌, ◌*◌, eqb, ltb}
use Rattle.std.proofs.Common.{◌∙◌}
use mathlib.Core.List.{List, [], ◌∷◌}
use Rattle.words.specs.Limits.{base_name_count, work_rate, core_rate}
use Rattle.words.specs.Lists.{all_of}
use Rattle.recipe.specs.Table.{item_count, tree_of}
use Rattle.expansion.specs.Run.{Run, run}
use Rattle.private_names.specs.Statement.{Choice, is_old_item, renamed, hypotheses, Answer, answer_of, answer_with}
use Rattle.private_names.specs.Witnesses.{items_of, gives, refuses}

-- a recipe's items, the fuel, the choice, and the answers of the two runs
pub record Row : Type 0 where
  pub items : List ℕ
  pub fuel : ℕ
  pub choice : Choice
  pub first : Answer
  pub second : Answer

unfoldable pub row_of : List ℕ → (fuel form macro rule old new : ℕ) → (first second : Answer) → Row
row_of items fuel form macro rule old new first second = record {
  items = items;
  fuel = fuel;
  choice = record { form = form; macro = macro; rule = rule; old = old; new = new };
  first = first;
  second = second;
}

-- the first run of a row, or the second, in tables of the lengths that ground 9 asks for
unfoldable pub run_by : Row → List ℕ → Run
run_by r items = run items r.fuel (work_rate * (item_count r.items + r.fuel)) (core_rate * (item_count r.items + r.fuel))

abbrev pub first_run : Row → Run
first_run r = run_by r r.items

-- what the claim says of it
abbrev pub Says : Row → Type 0
Says r = (answer_of (first_run r) ≡ r.first) × (answer_of (run_by r (renamed r.items r.choice)) ≡ r.second)

-- whether all hypotheses hold, and the two answers that the claim gives, by the first run alone
unfoldable pub claimed : Row → Bool × Answer × Answer
claimed r =
    let x = first_run r in
    let C = is_old_item (tree_of r.items) r.choice in
    (all_of (λ h. h) (hypotheses r.items r.choice x.events), answer_with C r.choice.old x, answer_with C r.choice.new x)

-- ---- rows

-- the table with n added to the number of each name that is no base form's
unfoldable pub raised : ℕ → List ℕ → List ℕ
raised n [] = []
raised n (k ∷ []) = k ∷ []
raised n (k ∷ a ∷ []) = k ∷ a ∷ []
raised n (k ∷ a ∷ b ∷ ws) = k ∷ cond (eqb k 3 && not (ltb a base_name_count)) (n + a) a ∷ b ∷ raised n ws

-- the fourth rule of the third macro of a form behind 64 items, where names have numbers past 900: elements follow the ellipsis of its
-- pattern, a list is repeated beside each element of another, another name of the template is quoted; decimals and two operations
unfoldable pub links : List ℕ
unfolding items_of raised
links = raised 900 (items_of "(list near) (let-syntax ((skip (syntax-rules () ((_ a ...) 0.5)))) (list (skip 1 2 3 4 5 6 7 8 9 10 11 12 13 14 15) (let-syntax ((one (syntax-rules () ((_) 0.8))) (two (syntax-rules () ((_) 1))) (links (syntax-rules () ((_) 1) ((_ x) x) ((_ x y z) y) ((_ (year ...) coin ... last) (lambda (t) (list t (list coin year ...) ... (quote kept) (near last 0.80))))))) (links (410 405) 1 2 (one)))))")

-- its term, with n for the private t
abbrev links_with : ℕ → List ℕ
links_with n = 8 ∷ 2 ∷ 1 ∷ 0 ∷ 9 ∷ 5 ∷ 1 ∷ 7 ∷ 0 ∷ 1 ∷ n ∷ 8 ∷ 5 ∷ 1 ∷ 0 ∷ 0 ∷ 0 ∷ 8 ∷ 3 ∷ 1 ∷ 0 ∷ 2 ∷ 1 ∷ 2 ∷ 410 ∷ 2 ∷ 405 ∷ 8 ∷ 3 ∷ 1 ∷ 0 ∷ 2 ∷ 2 ∷ 2 ∷ 410 ∷ 2 ∷ 405 ∷ 4 ∷ 922 ∷ 8 ∷ 2 ∷ 1 ∷ 1 ∷ 9 ∷ 8 ∷ 1 ∷ 9 ∷ 80 ∷ 2 ∷ []

-- names of base forms, bound by the template
unfoldable pub forms : List ℕ
unfolding items_of
forms = items_of "() (let-syntax ((m (syntax-rules () ((_) (lambda (let-syntax letrec-syntax) (let-syntax letrec-syntax nowhere)))))) (m))"

-- a macro that makes a macro, five deep: the innermost names have five marks
unfoldable pub deep : List ℕ
unfolding items_of
deep = items_of "() (let-syntax ((n (syntax-rules () ((_) (let-syntax ((n (syntax-rules () ((_) (let-syntax ((n (syntax-rules () ((_) (let-syntax ((n (syntax-rules () ((_) (let-syntax ((n (syntax-rules () ((_) (letrec-syntax ((lambda (syntax-rules () ((_) 5)))) (lambda)))))) (n)))))) (n)))))) (n)))))) (n)))))) (n))"

unfoldable pub rows : List Row
unfolding row_of gives refuses
rows =
    -- the least number that may be new, at the least fuel that serves
    row_of links 51 72 2 3 921 8 (gives 3 51 (links_with 921)) (gives 3 51 (links_with 8)) ∷
    -- refused for one unit less: both runs
    row_of links 50 72 2 3 921 1023 (refuses 18 2 50) (refuses 18 2 50) ∷
    -- let-syntax renamed, the most fuel; refused behind the lookups of copies
    row_of forms 8192 4 0 0 3 10 (refuses 11 1 17) (refuses 11 1 17) ∷
    -- letrec-syntax renamed
    row_of forms 17 4 0 0 4 10 (refuses 11 1 17) (refuses 11 1 17) ∷
    -- lambda renamed
    row_of deep 396 4 0 0 2 9 (gives 6 396 (2 ∷ 5 ∷ [])) (gives 6 396 (2 ∷ 5 ∷ [])) ∷
    []
