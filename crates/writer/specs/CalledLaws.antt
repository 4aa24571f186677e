-- Laws of the names of variables: in a table of their own, or in the words.
use Rattle.std.specs.Prelude.{◌≡◌, ℕ, ◌+◌, ◌-◌, ◌<◌, ◌≤◌, List, ◌++◌, length, take, drop, slice_index}
use Rattle.std.proofs.Common.{sym, ap, ◌∙◌, arith, take-add, get_or-take, get_or-drop}
use Rattle.std.proofs.Math.Seq.{take-length, paste}
use Rattle.std.proofs.lemmas.List.Edits.{take-paste}
use Rattle.core_term.specs.Code.Scan.{called_in}

-- ---- the table

-- the names seen are noted
abbrev pub Notes : List ℕ → ℕ → List ℕ → Type 0
Notes ws seen table = take seen table ≡ take seen (called_in ws)

pub notes-more : (ws table names : List ℕ) (seen count : ℕ) → Notes ws seen table → seen + count ≤ length table → seen + count ≤ length (called_in ws) → length names ≡ count
    → names ≡ take count (drop seen (called_in ws)) → Notes ws (seen + count) (paste table seen names (length names))
notes-more ws table names seen count n h l c e =
    let m : length names ≡ count = c in
    ap (λ (k : ℕ). take (seen + k) (paste table seen names (length names))) (sym m)
    ∙ take-paste table seen names (length names) (omega arith) (omega arith)
    ∙ ap (λ (z : List ℕ). take seen table ++ z) (take-length names)
    ∙ ap (λ (z : List ℕ). z ++ names) n ∙ ap (λ (z : List ℕ). take seen (called_in ws) ++ z) e
    ∙ sym (take-add seen count (called_in ws))

pub notes-all : (ws table : List ℕ) (seen : ℕ) → Notes ws seen table → seen ≡ length (called_in ws) → take seen table ≡ called_in ws
notes-all ws table seen n e = n ∙ ap (λ (k : ℕ). take k (called_in ws)) e ∙ take-length (called_in ws)

-- ---- one name

pub name-here : (ws : List ℕ) (at seen size count n : ℕ) → take (at + size - (at + size - count)) (drop (at + size - count) ws) ≡ take count (drop seen (called_in ws))
    → seen ≤ n → n - seen < count → count ≤ size → slice_index ws (at + size - count + (n - seen)) ≡ slice_index (called_in ws) n
name-here ws at seen size count n e h l c =
    let i = n - seen in
    let w : at + size - (at + size - count) ≡ count = omega arith in
    let m : seen + i ≡ n = omega arith in
    sym (get_or-drop (at + size - count) ws i 0)
    ∙ sym (get_or-take count (drop (at + size - count) ws) i 0 l)
    ∙ ap (λ (z : List ℕ). slice_index z i) (ap (λ (k : ℕ). take k (drop (at + size - count) ws)) (sym w) ∙ e)
    ∙ get_or-take count (drop seen (called_in ws)) i 0 l
    ∙ get_or-drop seen (called_in ws) i 0 ∙ ap (λ (k : ℕ). slice_index (called_in ws) k) m
