-- Laws of numbers of names and of the words of items.
use Rattle.std.specs.Prelude.{◌≡◌, refl, get_or}
use Rattle.std.proofs.Common.{sym, ap, arith, length-append}
use mathlib.Core.List.{List, [], ◌∷◌, ◌++◌}
use Prim.Native.Nat.{ℕ, zero, suc, ◌+◌, ◌*◌, ◌≤◌, ◌<◌}
use Rattle.std.proofs.Math.ListN.{length}
use Rattle.words.specs.Lists.{equal}
use Rattle.words.specs.ListLaws.{either, equal-refl, equal-true}
use Rattle.datum.specs.Datum.{Datum, Data, constant_d, name_d, list_d, none_d, more_d, datum_items, data_items}
use Rattle.reading.specs.Numbering.{number_of, datum_words, data_words}

-- ---- names

-- a number past the names is the next one
pub number-most : (cs : List ℕ) (names : List (List ℕ)) → number_of cs names ≤ length names
unfolding number_of
number-most cs [] = omega arith
number-most cs (x ∷ xs) =
    either (equal cs x) (λ e. rw e (omega arith)) (λ e. rw e (omega (arith, number-most cs xs)))

-- a number below is that of a name, which it spells
pub number_spelled : (cs : List ℕ) (names : List (List ℕ)) → number_of cs names < length names → get_or names (number_of cs names) [] ≡ cs
unfolding number_of
number_spelled cs [] h = absurd (omega arith)
number_spelled cs (x ∷ xs) h =
    either (equal cs x) (λ e. rw e (sym (equal-true cs x e)))
    (λ e. let k : number_of cs xs < length xs = omega (arith, rw e at h) in rw e (number_spelled cs xs k))

-- a name's number is that of the first equal one
pub number-first : (names : List (List ℕ)) (n : ℕ) → n < length names → number_of (get_or names n []) names ≤ n
unfolding number_of
number-first [] n h = absurd (omega arith)
number-first (x ∷ xs) zero h = rw (equal-refl x) (omega arith)
number-first (x ∷ xs) (suc n) h =
    either (equal (get_or xs n []) x) (λ e. rw e (omega arith)) (λ e. rw e (omega (arith, number-first xs n (omega arith))))

module _ (cs : List ℕ) where
  -- a name keeps its number when others come
  pub number-kept : (names more : List (List ℕ)) → number_of cs names < length names → number_of cs (names ++ more) ≡ number_of cs names
  unfolding number_of
  number-kept [] more h = absurd (omega arith)
  number-kept (x ∷ xs) more h =
      either (equal cs x) (λ e. rw e)
      (λ e. let k : number_of cs xs < length xs = omega (arith, rw e at h) in rw e (ap suc (number-kept xs more k)))

  -- a new name's number is the next one
  pub number-new : (names : List (List ℕ)) → length names ≤ number_of cs names → number_of cs (names ++ (cs ∷ [])) ≡ length names
  unfolding number_of
  number-new [] h = rw (equal-refl cs)
  number-new (x ∷ xs) h =
      either (equal cs x) (λ e. absurd (omega (arith, rw e at h)))
      (λ e. let k : length xs ≤ number_of cs xs = omega (arith, rw e at h) in rw e (ap suc (number-new xs k)))

-- ---- three words an item

mutual
  unfolding datum_items data_items datum_words data_words

  pub datum-length : (i : ℕ) (d : Datum) → length (datum_words i d) ≡ 3 * datum_items d
  datum-length i (constant_d a) = refl
  datum-length i (name_d n) = refl
  datum-length i (list_d ds) = data-length i ds

  pub data-length : (i : ℕ) (ds : Data) → length (data_words i ds) ≡ 3 * data_items ds
  data-length i none_d = refl
  data-length i (more_d d ds) =
      let j = suc i + datum_items d in
      omega (arith, length-append (datum_words (suc i) d) (data_words j ds), datum-length (suc i) d, data-length j ds)
