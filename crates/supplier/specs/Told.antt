-- What the code answers: a walk's finding by how many words of ours were taken or the difference, and our node by numbers.
use Rattle.std.specs.Prelude.{◌≡◌, ⊤, List, ℕ, ◌≤◌, length, drop, Result, Ok, Err}
use Rattle.core_term.specs.Node.{node_at}
use Rattle.supplier.specs.declared.front.Difference.{Difference}
use Rattle.supplier.specs.declared.front.Difference.TheVariants.{Other, Open, Outside}
use Rattle.supplier.specs.declared.front.Front.{Front}
use Rattle.supplier.specs.declared.front.Sort.{Sort}
use Rattle.supplier.specs.declared.front.Sort.TheVariants as S
use Rattle.supplier.specs.Walk.{Found, outside, open', other, same, Ours, our, constant_sort, variable_sort, operation_sort, name_sort, list_sort, if_sort, lambda_sort, application_sort, no_sort, ours_of}

abbrev pub Walked : Type 0
Walked = Result ℕ Difference

unfoldable pub found_of : List ℕ → Walked → Found
found_of ws (Ok n) = same (drop n ws)
found_of ws (Err Other) = other
found_of ws (Err Open) = open'
found_of ws (Err Outside) = outside

-- no more words were taken than there are
abbrev pub Within : List ℕ → Walked → Type 0
Within ws (Ok n) = n ≤ length ws
Within ws (Err d) = ⊤

pub record Told (ws : List ℕ) (f : Found) (r : Walked) : Type 0 where
  pub is : found_of ws r ≡ f
  pub within : Within ws r

abbrev pub sort_number : Sort → ℕ
sort_number S.Constant = constant_sort
sort_number S.Variable = variable_sort
sort_number S.Operation = operation_sort
sort_number S.Name = name_sort
sort_number S.List = list_sort
sort_number S.If = if_sort
sort_number S.Lambda = lambda_sort
sort_number S.Application = application_sort
sort_number S.None = no_sort

unfoldable pub ours_in : List ℕ → Front → Ours
ours_in ws r = our (sort_number r.sort) r.first r.second r.third (drop r.size ws)

pub record Fronted (ws : List ℕ) (r : Front) : Type 0 where
  pub is : ours_in ws r ≡ ours_of (node_at ws)
  pub within : r.size ≤ length ws
