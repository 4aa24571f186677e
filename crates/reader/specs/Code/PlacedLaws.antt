-- Laws of the words that are placed: lengths, an element more, a list opened and a list closed.
use Rattle.std.specs.Prelude.{◌≡◌, refl, get_or, replicate}
use Rattle.std.proofs.Math.Path.{sym, ap}
use Rattle.std.proofs.Common.{◌∙◌, length-set}
use mathlib.Core.List.{List, [], ◌∷◌, ◌++◌, append_assoc, append-nil}
use Prim.Native.Nat.{ℕ, suc, ◌+◌, ◌*◌, ◌-◌, ◌≤◌}
use native.Mathlib.Omega.{arith}
use Rattle.std.proofs.Math.ListN.{length, set, length-append}
use Rattle.std.proofs.Math.Seq.{set_at}
use Rattle.std.proofs.lemmas.List.{get_or_at}
use Rattle.datum.specs.Datum.{Datum, Data, list_d, none_d, more_d, datum_items, data_items}
use Rattle.reading.specs.Numbering.{datum_words, data_words}
use Rattle.reading.specs.NumberingLaws.{datum-length}
use Rattle.reading.specs.Elements.{Reading, onto}
use Rattle.words.specs.Tables.{filled}
use Rattle.reader.specs.Code.Placed.{put3, items_of, words_of, items_around, open_pair, words_around, next_item, placed}

-- ---- three words an item

pub length-words : (i : ℕ) (l : List Datum) → length (words_of i l) ≡ 3 * items_of l
unfolding words_of items_of
length-words i [] = refl
length-words i (d ∷ l) =
    let k = i + items_of l in
    omega (
      arith,
      length-append (words_of i l) (4 ∷ suc k ∷ (suc k + datum_items d) ∷ datum_words (suc k) d),
      length-words i l,
      datum-length (suc k) d,
    )

pub length-around : (ls : List (List Datum)) → length (words_around ls) ≡ 3 * items_around ls
unfolding words_around items_around
length-around [] = refl
length-around (l ∷ ls) =
    let a = words_around ls in
    let b = words_of (items_around ls) l in
    let c : List ℕ = 4 ∷ suc (items_around ls + items_of l) ∷ open_pair ls ∷ [] in
    omega (arith, length-append (a ++ b) c, length-append a b, length-around ls, length-words (items_around ls) l)

pub length-placed : (r : Reading) → length (placed r) ≡ 3 * next_item r
unfolding placed next_item
length-placed r =
    let a = words_around r.around in
    let b = words_of (items_around r.around) r.here in
    omega (arith, length-append a b, length-around r.around, length-words (items_around r.around) r.here)

-- ---- a list closed

pub onto-items : (l : List Datum) (ds : Data) → data_items (onto l ds) ≡ items_of l + data_items ds
unfolding onto items_of data_items
onto-items [] ds = omega arith
onto-items (d ∷ l) ds = omega (arith, onto-items l (more_d d ds))

pub onto-words : (i : ℕ) (l : List Datum) (ds : Data) → data_words i (onto l ds) ≡ words_of i l ++ data_words (i + items_of l) ds
unfolding onto words_of items_of data_words
onto-words i [] ds = let e : i + 0 ≡ i = omega arith in rw e
onto-words i (d ∷ l) ds =
    let k = i + items_of l in
    let e : i + (items_of l + suc (datum_items d)) ≡ suc k + datum_items d = omega arith in
    onto-words i l (more_d d ds)
    ∙ rw e (sym (append_assoc (words_of i l) (4 ∷ suc k ∷ (suc k + datum_items d) ∷ datum_words (suc k) d) (data_words (suc k + datum_items d) ds)))

-- ---- readings

-- an element that is one item
pub token-placed : (d : Datum) (h : List Datum) (a : List (List Datum)) → datum_items d ≡ 1
    → words_around a ++ words_of (items_around a) (d ∷ h)
    ≡ words_around a ++ words_of (items_around a) h
    ++ (4 ∷ suc (items_around a + items_of h) ∷ suc (suc (items_around a + items_of h)) ∷ datum_words (suc (items_around a + items_of h)) d)
unfolding words_of
token-placed d h a e =
    let k = items_around a + items_of h in
    let f : suc k + datum_items d ≡ suc (suc k) = omega arith in
    rw f (sym (append_assoc (words_around a) (words_of (items_around a) h) (4 ∷ suc k ∷ suc (suc k) ∷ datum_words (suc k) d)))

-- a list opened
pub open-placed : (h : List Datum) (a : List (List Datum))
    → words_around (h ∷ a) ++ words_of (items_around (h ∷ a)) []
    ≡ words_around a ++ words_of (items_around a) h ++ (4 ∷ suc (items_around a + items_of h) ∷ open_pair a ∷ [])
unfolding words_of words_around
open-placed h a = append-nil _

-- a list closed: its elements, and the empty list that ends it
pub close-placed : (h l : List Datum) (ls : List (List Datum))
    → words_around ls ++ words_of (items_around ls) (list_d (onto h none_d) ∷ l)
    ≡ words_around ls ++ words_of (items_around ls) l
    ++ (4 ∷ suc (open_pair (l ∷ ls)) ∷ suc (items_around (l ∷ ls) + items_of h) ∷ [])
    ++ words_of (items_around (l ∷ ls)) h
    ++ (0 ∷ 0 ∷ 0 ∷ [])
unfolding words_of items_around open_pair datum_words data_words datum_items data_items
close-placed h l ls =
    let k = items_around ls + items_of l in
    let a = words_around ls in
    let b = words_of (items_around ls) l in
    let e : suc k + data_items (onto h none_d) ≡ suc (suc k + items_of h) = omega (arith, onto-items h none_d) in
    rw (e, onto-words (suc k) h none_d) (simp append_assoc)

-- ---- lent tables

-- three words in place of three zeros
three : (ws z : List ℕ) (a b c : ℕ) → set (set (set (ws ++ 0 ∷ 0 ∷ 0 ∷ z) (length ws) a) (suc (length ws)) b) (suc (suc (length ws))) c ≡ ws ++ a ∷ b ∷ c ∷ z
three [] z a b c = refl
three (w ∷ ws) z a b c = ap (λ l. w ∷ l) (three ws z a b c)

-- an item's three words put at word i
pub put-length : (t : List ℕ) (i a b c : ℕ) → length (put3 t i a b c) ≡ length t
put-length t i a b c =
    length-set (set (set t i a) (i + 1) b) (i + 2) c ∙ length-set (set t i a) (i + 1) b ∙ length-set t i a

-- three zeros of a table that is filled
pub zeros : (ws t : List ℕ) → length ws + 3 ≤ length t → filled ws t ≡ ws ++ 0 ∷ 0 ∷ 0 ∷ replicate (length t - (length ws + 3)) 0
unfolding filled
zeros ws t h = let e : length t - length ws ≡ suc (suc (suc (length t - (length ws + 3)))) = omega arith in rw e

pub refill : (ws vs t : List ℕ) (n : ℕ) → n ≡ length (ws ++ vs) → ws ++ (vs ++ replicate (length t - n) 0) ≡ filled (ws ++ vs) t
unfolding filled
refill ws vs t n e = rw e (sym (append_assoc ws vs _))

pub put-filled : (ws t : List ℕ) (i a b c : ℕ) → i ≡ length ws → t ≡ filled ws t → i + 3 ≤ length t
    → put3 t i a b c ≡ filled (ws ++ (a ∷ b ∷ c ∷ [])) t
put-filled ws t i a b c e f h =
    let k : length ws + 3 ≤ length t = omega arith in
    let g : t ≡ ws ++ 0 ∷ 0 ∷ 0 ∷ replicate (length t - (length ws + 3)) 0 = f ∙ zeros ws t k in
    let e1 : i + 1 ≡ suc (length ws) = omega arith in
    let e2 : i + 2 ≡ suc (suc (length ws)) = omega arith in
    let n : length ws + 3 ≡ length (ws ++ (a ∷ b ∷ c ∷ [])) = omega (arith, length-append ws (a ∷ b ∷ c ∷ [])) in
    rw (e1, e2, e)
    (ap (λ l. set (set (set l (length ws) a) (suc (length ws)) b) (suc (suc (length ws))) c) g
    ∙ three ws _ a b c
    ∙ refill ws (a ∷ b ∷ c ∷ []) t (length ws + 3) n)

-- ---- the tail of the open pair

module _ (h l : List Datum) (ls : List (List Datum)) (t : List ℕ) (p n : ℕ) (at_pair : p ≡ open_pair (l ∷ ls))
    (at_next : n ≡ items_around (l ∷ ls) + items_of h) (f : t ≡ filled (words_around (l ∷ ls) ++ words_of (items_around (l ∷ ls)) h) t)
    (room : 3 * n + 3 ≤ length t) where
  -- what stands before the open tail, and after it
  head : List ℕ
  head = words_around ls ++ words_of (items_around ls) l ++ (4 ∷ suc (open_pair (l ∷ ls)) ∷ [])

  tail : List ℕ
  tail = words_of (items_around (l ∷ ls)) h ++ 0 ∷ 0 ∷ 0 ∷ replicate (length t - (3 * n + 3)) 0

  head-length : length head ≡ 3 * p + 2
  unfolding head open_pair
  head-length =
      let a = words_around ls in
      let b = words_of (items_around ls) l in
      let c : List ℕ = 4 ∷ suc (open_pair (l ∷ ls)) ∷ [] in
      omega (arith, at_pair, length-append (a ++ b) c, length-append a b, length-around ls, length-words (items_around ls) l)

  all-length : length (words_around (l ∷ ls) ++ words_of (items_around (l ∷ ls)) h) ≡ 3 * n
  all-length =
      let a = words_around (l ∷ ls) in
      let b = words_of (items_around (l ∷ ls)) h in
      omega (arith, at_next, length-append a b, length-around (l ∷ ls), length-words (items_around (l ∷ ls)) h)

  table : t ≡ head ++ open_pair ls ∷ tail
  unfolding head tail words_around open_pair
  table =
      let k : length (words_around (l ∷ ls) ++ words_of (items_around (l ∷ ls)) h) + 3 ≤ length t = omega (arith, all-length) in
      f ∙ zeros (words_around (l ∷ ls) ++ words_of (items_around (l ∷ ls)) h) t k ∙ rw all-length (simp append_assoc)

  pub tail-read : get_or t (3 * p + 2) 0 ≡ open_pair ls
  tail-read = ap (λ u. get_or u (3 * p + 2) 0) table ∙ get_or_at head (open_pair ls) tail 0 (3 * p + 2) head-length

  closed_words : List ℕ
  closed_words = words_around ls ++ words_of (items_around ls) (list_d (onto h none_d) ∷ l)

  closed-length : length closed_words ≡ 3 * n + 3
  unfolding closed_words items_of items_around datum_items data_items
  closed-length =
      let a = words_around ls in
      let b = words_of (items_around ls) (list_d (onto h none_d) ∷ l) in
      omega (
        arith,
        at_next,
        length-append a b,
        length-around ls,
        length-words (items_around ls) (list_d (onto h none_d) ∷ l),
        onto-items h none_d,
      )

  closed-words : closed_words ++ replicate (length t - (3 * n + 3)) 0 ≡ head ++ (n + 1) ∷ tail
  unfolding closed_words head tail
  closed-words =
      let e : suc (items_around (l ∷ ls) + items_of h) ≡ n + 1 = omega (arith, at_next) in
      rw (close-placed h l ls, e) (simp append_assoc)

  pub tail-closed : set t (3 * p + 2) (n + 1) ≡ filled (words_around ls ++ words_of (items_around ls) (list_d (onto h none_d) ∷ l)) t
  unfolding filled closed_words
  tail-closed =
      ap (λ u. set u (3 * p + 2) (n + 1)) table
      ∙ set_at head (open_pair ls) tail (n + 1) (3 * p + 2) head-length
      ∙ sym closed-words
      ∙ rw closed-length
