-- Laws of the name table: what stands in the slots of names of at most 63 bytes.
use Rattle.std.specs.Prelude.{◌≡◌, Bool, true, List, [], ◌∷◌, ◌++◌, leb, get_or, take, replicate}
use Rattle.std.proofs.Math.Path.{refl, ap}
use Rattle.std.proofs.Common.{sym, ◌∙◌, append_assoc, arith, length-append, get_or-append-add, leb-true}
use Prim.Native.Nat.{ℕ, zero, suc, ◌+◌, ◌*◌, ◌-◌, ◌≤◌, ◌<◌}
use Rattle.std.proofs.Math.ListN.{length}
use Rattle.std.proofs.lemmas.List.{length-replicate}
use Rattle.std.proofs.Math.Seq.{take_at, drop-append-add}
use Rattle.words.specs.Limits.{name_length_most}
use Rattle.words.specs.Lists.{all_of}
use Rattle.words.specs.TestLaws.{and_left, and_right}
use Rattle.datum.specs.NameTable.{slot, slots, length_at, name_at}

-- at most 63 bytes
unfoldable pub is_short : List ℕ → Bool
is_short cs = leb (length cs) name_length_most

-- ---- lengths

pub length-slot : (cs : List ℕ) → length cs ≤ 63 → length (slot cs) ≡ 64
unfolding slot
length-slot cs h = omega (arith, length-append cs (replicate (63 - length cs) 0), length-replicate {A = ℕ} (63 - length cs) 0)

pub length-slots : (names : List (List ℕ)) → all_of is_short names ≡ true → length (slots names) ≡ 64 * length names
unfolding slots all_of is_short
length-slots [] h = refl
length-slots (cs ∷ names) h =
    let k = leb-true (length cs) 63 (and_left (is_short cs) (all_of is_short names) h) in
    length-append (slot cs) (slots names)
    ∙ omega (arith, length-slot cs k, length-slots names (and_right (is_short cs) (all_of is_short names) h))

pub slots-append : (a b : List (List ℕ)) → slots (a ++ b) ≡ slots a ++ slots b
unfolding slots
slots-append [] b = refl
slots-append (cs ∷ a) b = ap (λ l. slot cs ++ l) (slots-append a b) ∙ sym (append_assoc (slot cs) (slots a) (slots b))

-- ---- what a slot spells

-- the first slot
module _ (cs rest : List ℕ) (h : length cs ≤ 63) where
  first-length : length_at (slot cs ++ rest) 0 ≡ length cs
  unfolding length_at slot
  first-length = refl

  first-name : name_at (slot cs ++ rest) 0 ≡ cs
  unfolding name_at length_at slot
  first-name = ap (take (length cs)) (append_assoc cs (replicate (63 - length cs) 0) rest) ∙ take_at cs _ (length cs) refl

  -- the others
  later-length : (n : ℕ) → length_at (slot cs ++ rest) (suc n) ≡ length_at rest n
  unfolding length_at
  later-length n =
      let e : 64 * suc n ≡ length (slot cs) + 64 * n = omega (arith, length-slot cs h) in
      rw e (get_or-append-add (slot cs) rest (64 * n) 0)

  later-name : (n : ℕ) → name_at (slot cs ++ rest) (suc n) ≡ name_at rest n
  unfolding name_at
  later-name n =
      let e : suc (64 * suc n) ≡ length (slot cs) + suc (64 * n) = omega (arith, length-slot cs h) in
      rw (later-length n, e) (ap (take (length_at rest n)) (drop-append-add (slot cs) rest (suc (64 * n))))

pub name-at : (names : List (List ℕ)) (rest : List ℕ) (n : ℕ) → all_of is_short names ≡ true → n < length names
    → name_at (slots names ++ rest) n ≡ get_or names n []
unfolding slots all_of is_short
name-at [] rest n h l = absurd (omega arith)
name-at (cs ∷ names) rest zero h l =
    let k = leb-true (length cs) 63 (and_left (is_short cs) (all_of is_short names) h) in
    rw (append_assoc (slot cs) (slots names) rest) (first-name cs (slots names ++ rest) k)
name-at (cs ∷ names) rest (suc n) h l =
    let k = leb-true (length cs) 63 (and_left (is_short cs) (all_of is_short names) h) in
    rw (append_assoc (slot cs) (slots names) rest)
    (later-name cs (slots names ++ rest) k n ∙ name-at names rest n (and_right (is_short cs) (all_of is_short names) h) (omega arith))

pub length-at : (names : List (List ℕ)) (rest : List ℕ) (n : ℕ) → all_of is_short names ≡ true → n < length names
    → length_at (slots names ++ rest) n ≤ 63
unfolding slots all_of is_short
length-at [] rest n h l = absurd (omega arith)
length-at (cs ∷ names) rest zero h l =
    let k = leb-true (length cs) 63 (and_left (is_short cs) (all_of is_short names) h) in
    rw (append_assoc (slot cs) (slots names) rest, first-length cs (slots names ++ rest) k) k
length-at (cs ∷ names) rest (suc n) h l =
    let k = leb-true (length cs) 63 (and_left (is_short cs) (all_of is_short names) h) in
    rw (append_assoc (slot cs) (slots names) rest, later-length cs (slots names ++ rest) k n)
    (length-at names rest n (and_right (is_short cs) (all_of is_short names) h) (omega arith))
