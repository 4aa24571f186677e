-- The index of names, by buckets: entry b is bucket b's, and the entries after those of the buckets are the names'. An entry is 0, or one
-- more than a name's number: a bucket's is its latest name, a name's the latest before it in its bucket. Of equal names the first alone
-- is entered, so that a later one is never found.
use Rattle.std.specs.Prelude.{◌≡◌, Bool, true, ◌&&◌, cond, List, [], ◌∷◌, ℕ, zero, suc, ◌+◌, ◌*◌, ◌%◌, ◌≤◌, ◌<◌, eqb, length, get_or, set}
use Rattle.words.specs.Limits.{names_most}
use Rattle.reading.specs.Numbering.{number_of}

abbrev pub bucket_count : ℕ
bucket_count = 256

-- an entry for each bucket and each name
abbrev pub index_size : ℕ
index_size = bucket_count + names_most

-- the bucket after the bytes that are left, from the one so far
unfoldable pub bucket_from : ℕ → List ℕ → ℕ
bucket_from b [] = b
bucket_from b (x ∷ xs) = bucket_from ((9 * b + x) % bucket_count) xs

-- a word's bucket
unfoldable pub bucket_of : List ℕ → ℕ
unfolding bucket_from
bucket_of word = bucket_from 0 word

-- name n is the first of those that are equal to it
unfoldable pub is_first : List (List ℕ) → ℕ → Bool
is_first names n = eqb (number_of (get_or names n []) names) n

-- and entered in bucket b
unfoldable pub is_in : List (List ℕ) → ℕ → ℕ → Bool
unfolding is_first
is_in names b n = eqb (bucket_of (get_or names n [])) b && is_first names n

-- the entry for the latest of the first n names that is in bucket b
unfoldable pub latest : List (List ℕ) → ℕ → ℕ → ℕ
unfolding is_in
latest names b zero = 0
latest names b (suc n) = let k = latest names b n in cond (is_in names b n) (suc n) k

-- the index of names
pub record Indexed (names : List (List ℕ)) (index : List ℕ) : Type 0 where
  pub size : length index ≡ index_size
  pub heads : (b : ℕ) → b < bucket_count → get_or index b 0 ≡ latest names b (length names)
  pub links : (n : ℕ) → n < length names → is_first names n ≡ true → get_or index (bucket_count + n) 0 ≡ latest names (bucket_of (get_or names n [])) n

-- an index with name n as the latest of bucket b
abbrev pub linked : List ℕ → ℕ → ℕ → List ℕ
linked index n b = set (set index (bucket_count + n) (get_or index b 0)) b (n + 1)

-- a walk along a word's bucket has come to an entry: the word's number is not there or further on
pub record Walked (names : List (List ℕ)) (word : List ℕ) (entry : ℕ) : Type 0 where
  pub high : entry ≤ length names
  pub entered : (n : ℕ) → entry ≡ suc n → is_in names (bucket_of word) n ≡ true
  pub passed : entry ≤ number_of word names → length names ≤ number_of word names
