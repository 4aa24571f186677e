-- The lines that open an output, as they are laid.
use Rattle.std.specs.Prelude.{◌≡◌, refl, List, [], ◌∷◌, ◌++◌, ℕ}
use Rattle.std.proofs.Common.{append_assoc}
use Rattle.words.specs.Text.{bytes}
use Rattle.core_term.specs.Decimal.{decimal}
use Rattle.core_term.specs.Text.{spaced_after, spaced}
use Rattle.output.specs.Output.{line, refusal, header}

-- the two counts, each after a space, and LF
unfoldable pub counts_text : (steps sum : ℕ) → List ℕ
counts_text steps sum = (32 ∷ decimal steps) ++ ((32 ∷ decimal sum) ++ (10 ∷ []))

pub counts-laid : (steps sum : ℕ) → (32 ∷ decimal steps) ++ ((32 ∷ decimal sum) ++ (10 ∷ [])) ≡ counts_text steps sum
unfolding counts_text
counts-laid steps sum = refl

pub refusal-laid : (ground_number steps sum : ℕ) → (114 ∷ 101 ∷ 102 ∷ 117 ∷ 115 ∷ 101 ∷ 100 ∷ []) ++ ((32 ∷ decimal ground_number) ++ counts_text steps sum) ≡ refusal ground_number steps sum
unfolding refusal line spaced spaced_after counts_text bytes
refusal-laid ground_number steps sum = simp append_assoc

pub header-laid : (steps sum : ℕ) → (97 ∷ 99 ∷ 99 ∷ 101 ∷ 112 ∷ 116 ∷ 101 ∷ 100 ∷ []) ++ counts_text steps sum ≡ header steps sum
unfolding header line spaced spaced_after counts_text bytes
header-laid steps sum = simp append_assoc
