-- Ground 17 in all copies of an element. The lists that drive an ellipsis depend on the index of the ellipsis next outside it alone,
-- since a variable lies under at most two of the pattern: they are compared in each copy that is reached there, and what they drive
-- is looked into at each index below the largest of their counts, so that no index is met twice (`reached-ellipsis`).
use Rattle.std.specs.Prelude.{◌≡◌, Option, Some, None, Result, Ok, Err, ℕ, zero, suc, Bool, true, false, cond, List, nat_eq, nat_lt}
use Rattle.words.specs.Lists.{all_of}
use Rattle.expansion.specs.Rules.{Template}
use Rattle.expansion.specs.Transcribe.{all_below}
use Rattle.rule_cells.specs.Cells.{template_at}
use Rattle.environments.specs.Environment.{Environment, enter, lengths_by, count_by, agree_by}
use Rattle.environments.specs.Entries.{environment_at}
use Rattle.environments.specs.declared.lengths.Differ.{Differ}

-- the lists that drive an element are of one length
unfoldable pub same_by : Environment → Template → Bool
same_by v e = all_of (nat_eq (count_by v e)) (lengths_by v 0 e)

-- they are in each of the first n copies of what is round it
unfoldable pub same_below : Environment → ℕ → Template → Bool
same_below v n e = all_below (λ i. same_by (enter i v) e) n

unfoldable pub larger : ℕ → ℕ → ℕ
larger a b = cond (nat_lt a b) b a

-- the largest number of copies that it gets there
unfoldable pub most_below : Environment → ℕ → Template → ℕ
most_below v zero e = 0
most_below v (suc n) e = larger (most_below v n e) (count_by (enter n v) e)

-- ground 17 in each of the first n copies
unfoldable pub agree_below : Environment → ℕ → Template → Bool
agree_below v n t = all_below (λ i. agree_by (enter i v) t) n

-- ---- the same where nothing is round a part of a template, or the first n copies of an element

unfoldable pub same_in : Option ℕ → Environment → Template → Bool
same_in None v e = same_by v e
same_in (Some n) v e = same_below v n e

unfoldable pub most_in : Option ℕ → Environment → Template → ℕ
most_in None v e = count_by v e
most_in (Some n) v e = most_below v n e

unfoldable pub agree_in : Option ℕ → Environment → Template → Bool
agree_in None v t = agree_by v t
agree_in (Some n) v t = agree_below v n t

-- ---- on cells

abbrev pub AgreesIn : (work env : List ℕ) (t : ℕ) → Option ℕ → Bool → Type 0
AgreesIn work env t round r = (w : ℕ) → r ≡ agree_in round (environment_at work env w) (template_at work t)

-- wherever the element is reached, the lists that drive it are of one length, of which c is the largest
pub record Reached (work env : List ℕ) (e : ℕ) (round : Option ℕ) (c : ℕ) : Type 0 where
  pub same : (w : ℕ) → true ≡ same_in round (environment_at work env w) (template_at work e)
  pub most : (w : ℕ) → c ≡ most_in round (environment_at work env w) (template_at work e)

-- somewhere they differ in length
pub record DiffersIn (work env : List ℕ) (e : ℕ) (round : Option ℕ) : Type 0 where
  pub differ : (w : ℕ) → false ≡ same_in round (environment_at work env w) (template_at work e)

abbrev pub CountedIn : (work env : List ℕ) (e : ℕ) → Option ℕ → Result ℕ Differ → Type 0
CountedIn work env e round (Ok c) = Reached work env e round c
CountedIn work env e round (Err d) = DiffersIn work env e round
