-- What the services promise, as the calls for C and Rust tell it.
use Rattle.std.specs.Prelude.{◌≡◌, refl, Bool, true, false, Result, Ok, List, [], ◌∷◌, ◌++◌, ℕ, ◌≤◌, ◌<◌, length, drop}
use Rattle.std.proofs.Common.{ap, sym, ◌∙◌, lt-ltb, le-ltb}
use Rattle.std.proofs.Math.Option.{Option}
use Rattle.reading.specs.Elements.{Answer}
use Rattle.reading.specs.Read.{Recipe, Numbers, read_numbers, items_after, names_after}
use Rattle.words.specs.declared.ground.Ground.{Ground}
use Rattle.reader.specs.declared.Counts.{Counts}
use Rattle.reader.specs.Served as R
use Rattle.writer.specs.Writing as W
use Rattle.writer.specs.Wrote.{Wrote}
use Rattle.expansion.specs.Run.{run}
use Rattle.expander.specs.Service as E
use Rattle.comparison.specs.Compare.{Reply, items_left, names_left}
use Rattle.supplier.specs.Service as C
use mir.Val.{bool_byte}
use Rattle.runner.specs.declared.Outcome.{Outcome}
use Rattle.runner.specs.declared.Value.{Value}
use Rattle.runner.specs.declared.Value.TheVariants as V
use Rattle.runner.specs.Service as M
use Rattle.recipe_runner.specs.Service as S
use Rattle.grebetallboy.specs.Calls.{RunCalled, RecipeRunCalled, told, told_numbers, tells_read, tells_run, tells_verdict, verdict_ground}

-- three numbers are told as any are
pub told-numbers : (a b c : ℕ) (t : List ℕ) → told_numbers (a ∷ b ∷ c ∷ []) t ≡ told a b c t
unfolding told told_numbers
told-numbers a b c t = refl

-- a table too short
pub told_numbers-short : (ns t : List ℕ) → length t < length ns → t ≡ told_numbers ns t
unfolding told_numbers
told_numbers-short ns t h = rw (lt-ltb (length t) (length ns) h)

-- one that is not
pub told_numbers-long : (ns t : List ℕ) → length ns ≤ length t → ns ++ drop (length ns) t ≡ told_numbers ns t
unfolding told_numbers
told_numbers-long ns t h = rw (le-ltb (length t) (length ns) h)

-- reading: ground, both tables, counts; q is the answer as it was taken apart
module _ {a : Answer Recipe} {words words' bytes bytes' counts' : List ℕ} {r q : Result Counts Ground} (counts : List ℕ) where
  pub read_told : R.Gives a words words' bytes bytes' r → r ≡ q → counts' ≡ tells_read (R.numbers_of q) counts
      → ((R.numbers_of q).ground_number ≡ (read_numbers a).ground_number) × (words' ≡ items_after a words) × (bytes' ≡ names_after a bytes) × (counts' ≡ tells_read (read_numbers a) counts)
  read_told served e told-counts =
      let numbers = ap R.numbers_of (sym e) ∙ served.numbers in
      (ap (λ (n : Numbers). n.ground_number) numbers, served.items, served.names, told-counts ∙ ap (λ n. tells_read n counts) numbers)

-- expansion: ground, both tables, counts
module _ {items work work' core core' counts' : List ℕ} {fuel : ℕ} {r q : E.Expansion} (counts : List ℕ) where
  pub expand-told : E.Served items fuel work work' core core' r → r ≡ q → counts' ≡ tells_run (E.numbers_of q) counts
      → ((E.numbers_of q).ground_number ≡ (E.run_numbers (run items fuel (length work) (length core))).ground_number)
      × (work' ≡ E.work_after (run items fuel (length work) (length core)) work)
      × (core' ≡ E.core_after (run items fuel (length work) (length core)) core)
      × (counts' ≡ tells_run (E.run_numbers (run items fuel (length work) (length core))) counts)
  expand-told served e told-counts =
      let numbers = ap E.numbers_of (sym e) ∙ served.numbers in
      (ap (λ (n : E.Numbers). n.ground_number) numbers, served.work-after, served.core-after, told-counts ∙ ap (λ n. tells_run n counts) numbers)

-- writing: ground, output, length
module _ {x : Option (List ℕ)} {out out' counts' : List ℕ} {r q : Result ℕ Ground} (counts : List ℕ) where
  pub write-told : Wrote x out out' r → r ≡ q → counts' ≡ told (W.length_of q) 0 0 counts → (W.ground_of q ≡ W.ground_number (W.outcome out x)) × (out' ≡ W.after (W.outcome out x) out) × (counts' ≡ told (W.size (W.outcome out x)) 0 0 counts)
  write-told wrote e told-counts = (ap W.ground_of (sym e) ∙ wrote.number, wrote.left, told-counts ∙ ap (λ (n : ℕ). told n 0 0 counts) (ap W.length_of (sym e) ∙ wrote.value))

-- comparing: ground, the text's two tables, answer
module _ {v : Reply} {a : Answer Recipe} {words words' bytes bytes' counts' : List ℕ} {r q : Result Bool Ground} (counts : List ℕ) where
  pub compare-told : C.Gives v a words words' bytes bytes' r → r ≡ q → counts' ≡ tells_verdict (C.verdict_of q) counts
      → (verdict_ground (C.verdict_of q) ≡ verdict_ground v.verdict) × (words' ≡ items_left v a words) × (bytes' ≡ names_left v a bytes) × (counts' ≡ tells_verdict v.verdict counts)
  compare-told served e told-counts =
      let verdict = ap C.verdict_of (sym e) ∙ served.verdict in
      (ap verdict_ground verdict, served.items, served.names, told-counts ∙ ap (λ w. tells_verdict w counts) verdict)

-- comparing that ends with yes or no
module _ {v : Reply} {a : Answer Recipe} {words words' bytes bytes' counts' : List ℕ} {r : Result Bool Ground} (counts : List ℕ) where
  pub same-told : C.Gives v a words words' bytes bytes' r → (b : Bool) → r ≡ Ok b → (n : ℕ) → n ≡ bool_byte b → counts' ≡ told n 0 0 counts
      → (0 ≡ verdict_ground v.verdict) × (words' ≡ items_left v a words) × (bytes' ≡ names_left v a bytes) × (counts' ≡ tells_verdict v.verdict counts)
  unfolding C.verdict_of tells_verdict verdict_ground
  same-told served true e n h t = compare-told counts served e (t ∙ ap (λ (k : ℕ). told k 0 0 counts) h)
  same-told served false e n h t = compare-told counts served e (t ∙ ap (λ (k : ℕ). told k 0 0 counts) h)

-- ---- a value

pub value-accepted : (v : Value) (u : ℕ) → 0 ≡ (M.value_numbers v u).ground_number
unfolding M.value_numbers
value-accepted (V.Integer w) u = refl
value-accepted (V.Boolean b) u = refl
value-accepted (V.Datum at) u = refl
value-accepted V.Closure u = refl
value-accepted V.Operation u = refl

pub byte-bit : (b : Bool) → bool_byte b ≡ M.bit b
byte-bit true = refl
byte-bit false = refl

-- running: ground, table, counts
module _ {words table table' counts' : List ℕ} {budget ground_number : ℕ} {r : Result Outcome Ground} (counts : List ℕ) where
  pub ran-told : M.Ran words budget table table' r → (ground_number ≡ (M.numbers_of r).ground_number) × (counts' ≡ told_numbers (S.of_running (M.numbers_of r)) counts)
      → RunCalled words budget table table' counts counts' ground_number
  ran-told x t = (t.0 ∙ ap (λ (n : M.Numbers). n.ground_number) x.numbers, x.table-after, t.1 ∙ ap (λ (n : M.Numbers). told_numbers (S.of_running n) counts) x.numbers)

-- a recipe: ground, three tables, counts; q is the answer as it was taken apart
module _ {items work work' core core' table table' counts' : List ℕ} {fuel budget ground_number : ℕ} {r : S.RecipeRunning} (counts : List ℕ) where
  pub recipe-told : (q : S.RecipeRunning) → S.RecipeRan items fuel work work' core core' budget table table' r → r ≡ q
      → (ground_number ≡ (S.told_of q).ground_number) × (counts' ≡ told_numbers (S.told_of q).numbers counts)
      → RecipeRunCalled items fuel work work' core core' budget table table' counts counts' ground_number
  recipe-told q x e t =
      let numbers = ap S.told_of (sym e) ∙ x.told in
      (t.0 ∙ ap (λ (n : S.Told). n.ground_number) numbers, x.work-after, x.core-after, x.table-after, t.1 ∙ ap (λ (n : S.Told). told_numbers n.numbers counts) numbers)
