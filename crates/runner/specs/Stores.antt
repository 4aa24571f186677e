-- Rows of the lent table as the code reads and writes them: a value, a frame, a cell. Each is a run of words that are stored one
-- behind the other.
use Rattle.std.specs.Prelude.{◌≡◌, refl, true, false, cond, List, [], ◌∷◌, ℕ, zero, suc, ◌+◌, ◌*◌, ◌/◌, ◌%◌, ◌≤◌, ◌<◌, length, get_or, set}
use Rattle.std.proofs.Common.{ap, ◌∙◌, arith, add-zero, length-set, get_or-set_same, get_or-set_other}
use Rattle.words.specs.Code.Packed.{packed}
use Rattle.runner.specs.declared.rows.Value.{Value}
use Rattle.runner.specs.declared.rows.Value.TheVariants.{Number, Boolean, Datum, Closure, Operation}
use Rattle.runner.specs.declared.rows.Frame.{Frame}
use Rattle.runner.specs.declared.rows.Frame.TheVariants as F
use Rattle.runner.specs.declared.rows.Branches.{Branches}
use Rattle.runner.specs.declared.rows.Parts.{Parts}
use Rattle.runner.specs.Rows.{value_word, frame_word, cell_word, value_of, value_at, bound_at}

-- ---- reading

-- the branches, or the parts, that a row's frame is of
abbrev pub branches_at : List ℕ → (row : ℕ) → Branches
branches_at t row = record { next = packed (frame_word t row 2) (frame_word t row 1); environment = frame_word t row 5 }

abbrev pub parts_at : List ℕ → (row : ℕ) → Parts
parts_at t row =
    record { next = packed (frame_word t row 2) (frame_word t row 1); left = frame_word t row 3; base = frame_word t row 4; environment = frame_word t row 5 }

-- which of them, by the first word
abbrev pub frame_of : ℕ → Branches → Parts → Frame
frame_of zero b p = F.Parts p
frame_of (suc zero) b p = F.Test b
frame_of (suc (suc k)) b p = F.Parts p

abbrev pub frame_at : List ℕ → (row : ℕ) → Frame
frame_at t row = frame_of (frame_word t row 0) (branches_at t row) (parts_at t row)

-- a value's first word stands at its row's start, a frame's at its column's; a place comes from its two words
pub value_read : (t : List ℕ) (row : ℕ) → value_of (get_or t (16 * row) 0) (value_word t row 1) (value_word t row 2) (value_word t row 3) ≡ value_at t row
value_read t row = rw (add-zero (16 * row))

pub frame-read : (t : List ℕ) (row : ℕ) → frame_of (get_or t (16 * row + 4) 0) (branches_at t row) (parts_at t row) ≡ frame_at t row
frame-read t row = rw (add-zero (16 * row + 4))

-- what a frame says of its first word
module _ (k : ℕ) (b : Branches) (p : Parts) where
  pub frame-one : k ≡ 1 → frame_of k b p ≡ F.Test b
  frame-one h = rw h

  pub frame-other : (k ≡ 1 → ⊥) → frame_of k b p ≡ F.Parts p
  frame-other h = go k h
    where
      go : (k : ℕ) → (k ≡ 1 → ⊥) → frame_of k b p ≡ F.Parts p
      go zero h = refl
      go (suc zero) h = absurd (h refl)
      go (suc (suc k)) h = refl

  pub frame-test : (f : Branches) → frame_of k b p ≡ F.Test f → (k ≡ 1) × (b ≡ f)
  frame-test f h = go k h
    where
      go : (k : ℕ) → frame_of k b p ≡ F.Test f → (k ≡ 1) × (b ≡ f)
      go zero h = cc
      go (suc zero) h = (refl, cc)
      go (suc (suc k)) h = cc

  pub frame-parts : (f : Parts) → frame_of k b p ≡ F.Parts f → (k ≡ 1 → ⊥) × (p ≡ f)
  frame-parts f h = go k h
    where
      go : (k : ℕ) → frame_of k b p ≡ F.Parts f → (k ≡ 1 → ⊥) × (p ≡ f)
      go zero h = (λ e. omega (arith, e), cc)
      go (suc zero) h = cc
      go (suc (suc k)) h = (λ e. omega (arith, e), cc)

-- ---- writing

-- words stored one behind the other, from a place on
unfoldable pub stored : List ℕ → ℕ → List ℕ → List ℕ
stored t at [] = t
stored t at (w ∷ ws) = stored (set t at w) (at + 1) ws

-- the words of a value, a frame and a cell; a place takes two, the low one first
abbrev pub kind_of : Value → ℕ
kind_of (Number w) = 1
kind_of (Boolean b) = 2
kind_of (Datum at) = 3
kind_of (Closure at e) = 4
kind_of (Operation p) = 5

abbrev pub first_of : Value → ℕ
first_of (Number w) = w
first_of (Boolean b) = cond b 1 0
first_of (Datum at) = at % 4294967296
first_of (Closure at e) = at % 4294967296
first_of (Operation p) = p

abbrev pub second_of : Value → ℕ
second_of (Number w) = 0
second_of (Boolean b) = 0
second_of (Datum at) = at / 4294967296
second_of (Closure at e) = at / 4294967296
second_of (Operation p) = 0

abbrev pub environment_of : Value → ℕ
environment_of (Number w) = 0
environment_of (Boolean b) = 0
environment_of (Datum at) = 0
environment_of (Closure at e) = e
environment_of (Operation p) = 0

abbrev pub value_words : Value → List ℕ
value_words v = kind_of v ∷ first_of v ∷ second_of v ∷ environment_of v ∷ []

abbrev pub what_of : Frame → ℕ
what_of (F.Test b) = 1
what_of (F.Parts p) = 2

abbrev pub next_of : Frame → ℕ
next_of (F.Test b) = b.next
next_of (F.Parts p) = p.next

abbrev pub left_of : Frame → ℕ
left_of (F.Test b) = 0
left_of (F.Parts p) = p.left

abbrev pub base_of : Frame → ℕ
base_of (F.Test b) = 0
base_of (F.Parts p) = p.base

abbrev pub frame_environment : Frame → ℕ
frame_environment (F.Test b) = b.environment
frame_environment (F.Parts p) = p.environment

abbrev pub frame_words : Frame → List ℕ
frame_words f = what_of f ∷ next_of f % 4294967296 ∷ next_of f / 4294967296 ∷ left_of f ∷ base_of f ∷ frame_environment f ∷ []

abbrev pub cell_words : (number : ℕ) → Value → (link : ℕ) → List ℕ
cell_words n v link = n ∷ kind_of v ∷ first_of v ∷ second_of v ∷ environment_of v ∷ link ∷ []

abbrev pub value_set : List ℕ → (row : ℕ) → Value → List ℕ
value_set t row v = stored t (16 * row) (value_words v)

abbrev pub frame_set : List ℕ → (row : ℕ) → Frame → List ℕ
frame_set t row f = stored t (16 * row + 4) (frame_words f)

abbrev pub cell_set : List ℕ → (row number : ℕ) → Value → (link : ℕ) → List ℕ
cell_set t row n v link = stored t (16 * row + 10) (cell_words n v link)

-- ---- laws

pub length-stored : (t : List ℕ) (at : ℕ) (ws : List ℕ) → length (stored t at ws) ≡ length t
unfolding stored
length-stored t at [] = refl
length-stored t at (w ∷ ws) = length-stored (set t at w) (at + 1) ws ∙ length-set t at w

-- a word that is none of them
pub stored_other : (t : List ℕ) (at j : ℕ) (ws : List ℕ) → ((i : ℕ) → i < length ws → j ≡ at + i → ⊥) → get_or (stored t at ws) j 0 ≡ get_or t j 0
unfolding stored
stored_other t at j [] h = refl
stored_other t at j (w ∷ ws) h =
    stored_other (set t at w) (at + 1) j ws (λ i l e. h (suc i) (omega arith) (omega (arith, e)))
    ∙ get_or-set_other t at j w 0 (λ e. h 0 (omega arith) (omega (arith, e)))

-- the words themselves
pub stored-own : (t : List ℕ) (at i : ℕ) (ws : List ℕ) → i < length ws → at + length ws ≤ length t → get_or (stored t at ws) (at + i) 0 ≡ get_or ws i 0
unfolding stored
stored-own t at i [] h k = absurd (omega arith)
stored-own t at zero (w ∷ ws) h k =
    ap (λ (j : ℕ). get_or (stored (set t at w) (at + 1) ws) j 0) (add-zero at)
    ∙ stored_other (set t at w) (at + 1) at ws (λ i l e. omega (arith, e)) ∙ get_or-set_same t at w 0 (omega arith)
stored-own t at (suc i) (w ∷ ws) h k =
    let e : at + suc i ≡ at + 1 + i = omega arith in
    ap (λ (j : ℕ). get_or (stored (set t at w) (at + 1) ws) j 0) e
    ∙ stored-own (set t at w) (at + 1) i ws (omega arith) (omega (arith, length-set t at w))

-- four words and six, each at its own distance
pub stored-four : (t : List ℕ) (at a b c d : ℕ) → set (set (set (set t at a) (at + 1) b) (at + 2) c) (at + 3) d ≡ stored t at (a ∷ b ∷ c ∷ d ∷ [])
unfolding stored
stored-four t at a b c d =
    let two : at + 1 + 1 ≡ at + 2 = omega arith in
    let three : at + 2 + 1 ≡ at + 3 = omega arith in
    rw (two, three)

pub stored-six : (t : List ℕ) (at a b c d e f : ℕ)
    → set (set (set (set (set (set t at a) (at + 1) b) (at + 2) c) (at + 3) d) (at + 4) e) (at + 5) f ≡ stored t at (a ∷ b ∷ c ∷ d ∷ e ∷ f ∷ [])
unfolding stored
stored-six t at a b c d e f =
    let two : at + 1 + 1 ≡ at + 2 = omega arith in
    let three : at + 2 + 1 ≡ at + 3 = omega arith in
    let four : at + 3 + 1 ≡ at + 4 = omega arith in
    let five : at + 4 + 1 ≡ at + 5 = omega arith in
    rw (two, three, four, five)

-- a place from its two words
pub packed-parts : (p : ℕ) → packed (p / 4294967296) (p % 4294967296) ≡ p
packed-parts p = omega arith

-- a value from its four
value-again : (v : Value) → value_of (kind_of v) (first_of v) (second_of v) (environment_of v) ≡ v
value-again (Number w) = refl
value-again (Boolean true) = refl
value-again (Boolean false) = refl
value-again (Datum at) = ap (λ (p : ℕ). Datum p) (packed-parts at)
value-again (Closure at e) = ap (λ (p : ℕ). Closure p e) (packed-parts at)
value-again (Operation p) = refl

-- a row's words read back
module _ (t : List ℕ) (row i : ℕ) (room : 16 * (row + 1) ≤ length t) where
  pub value-own : (v : Value) → i < 4 → value_word (value_set t row v) row i ≡ get_or (value_words v) i 0
  value-own v h = stored-own t (16 * row) i (value_words v) h (omega arith)

  pub frame-own : (f : Frame) → i < 6 → frame_word (frame_set t row f) row i ≡ get_or (frame_words f) i 0
  frame-own f h = stored-own t (16 * row + 4) i (frame_words f) h (omega arith)

  pub cell-own : (n : ℕ) (v : Value) (link : ℕ) → i < 6 → cell_word (cell_set t row n v link) row i ≡ get_or (cell_words n v link) i 0
  cell-own n v link h = stored-own t (16 * row + 10) i (cell_words n v link) h (omega arith)

-- what is put is read back
module _ (t : List ℕ) (row : ℕ) (room : 16 * (row + 1) ≤ length t) where
  pub value-back : (v : Value) → value_at (value_set t row v) row ≡ v
  value-back v =
      let own : (i : ℕ) → i < 4 → value_word (value_set t row v) row i ≡ get_or (value_words v) i 0 = λ i h. value-own t row i room v h in
      rw (own 0 (omega arith), own 1 (omega arith), own 2 (omega arith), own 3 (omega arith)) (value-again v)

  pub bound-back : (n : ℕ) (v : Value) (link : ℕ) → bound_at (cell_set t row n v link) row ≡ v
  bound-back n v link =
      let own : (i : ℕ) → i < 6 → cell_word (cell_set t row n v link) row i ≡ get_or (cell_words n v link) i 0 = λ i h. cell-own t row i room n v link h in
      rw (own 1 (omega arith), own 2 (omega arith), own 3 (omega arith), own 4 (omega arith)) (value-again v)
