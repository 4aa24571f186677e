-- Driving lists on cells: their lengths, the number of copies, and whether they are of one length (ground 17).
use Rattle.std.specs.Prelude.{◌≡◌, Option, Some, None, Result, Ok, Err, ℕ, suc, Bool, true, false, cond, List, [], ◌∷◌, ◌==◌, nat_eq}
use Rattle.words.specs.Lists.{all_of}
use Rattle.rule_cells.specs.Cells.{template_at}
use Rattle.environments.specs.Environment.{lengths_by, count_by, agree_by}
use Rattle.environments.specs.Entries.{environment_at}
use Rattle.environments.specs.declared.lengths.Differ.{Differ}

-- the lengths of the lists that drive an element; t is the part of it under j ellipses
unfoldable pub driving : (work env : List ℕ) (w j t : ℕ) → List ℕ
driving work env w j t = lengths_by (environment_at work env w) j (template_at work t)

-- what the lists that drive an element say: their length, none where there is no list; or that two differ in length
abbrev pub Driving : Type 0
Driving = Result (Option ℕ) Differ

-- one list more, of length l
unfoldable pub also : Driving → ℕ → Driving
also (Ok None) l = Ok (Some l)
also (Ok (Some c)) l = cond (c == l) (Ok (Some c)) (Err (record {}))
also (Err d) l = Err d

-- lists of these lengths, after others
unfoldable pub after : Driving → List ℕ → Driving
after x [] = x
after x (l ∷ ls) = after (also x l) ls

abbrev pub Drives : (work env : List ℕ) (j t : ℕ) → (before after : Driving) → Type 0
Drives work env j t x r = (w : ℕ) → r ≡ after x (driving work env w j t)

-- an element gets c copies, and the lists that drive it, if any, have c elements each
pub record Copies (work env : List ℕ) (e c : ℕ) : Type 0 where
  pub count : (w : ℕ) → c ≡ count_by (environment_at work env w) (template_at work e)
  pub same : (w : ℕ) → true ≡ all_of (nat_eq c) (driving work env w 0 e)

-- they differ in length
pub record Differs (work env : List ℕ) (e : ℕ) : Type 0 where
  pub differ : (w : ℕ) → false ≡ all_of (nat_eq (count_by (environment_at work env w) (template_at work e))) (driving work env w 0 e)

abbrev pub Counted : (work env : List ℕ) (e : ℕ) → Result ℕ Differ → Type 0
Counted work env e (Ok c) = Copies work env e c
Counted work env e (Err d) = Differs work env e

-- the ellipses round the first part of a cell: one more for an element
unfoldable pub deeper : ℕ → ℕ → ℕ
deeper tag j = cond (tag == 7) (suc j) j

-- ---- ground 17

-- driving lists are of one length in all of a template
abbrev pub LengthsAgree : (work env : List ℕ) (t : ℕ) → Bool → Type 0
LengthsAgree work env t r = (w : ℕ) → r ≡ agree_by (environment_at work env w) (template_at work t)
