-- Laws of finding and storing names, in the shape of the code's loops.
use Rattle.std.specs.Prelude.{◌≡◌, refl, Bool, true, false, ◌&&◌, leb, List, [], ◌∷◌, ◌++◌, take, drop, set, replicate}
use Rattle.std.proofs.Common.{sym, ap₂, subst, ◌∙◌, append_assoc, append-nil, length-set, length-append, take-suc, take_at}
use Rattle.std.proofs.Math.Path.{ap}
use Prim.Native.Nat.{ℕ, zero, suc, ◌+◌, ◌*◌, ◌-◌, ◌≤◌, ◌<◌}
use native.Mathlib.Omega.{arith}
use Rattle.std.proofs.Math.ListN.{length, get_or, replicate-append-replicate}
use Rattle.std.proofs.Math.Seq.{length-take-le, append_snoc, get_or-append_seam, take-length, drop-append-add}
use Rattle.std.proofs.lemmas.List.Edits.{length-paste}
use Rattle.std.proofs.lemmas.List.{set_at}
use Rattle.std.proofs.lemmas.Bool.Decides.{Decides-eqb}
use Rattle.std.proofs.lemmas.Slice.Eq.{slice_eq-Decides}
use Rattle.std.specs.List.{between}
use Rattle.std.specs.Str.{bytes_eq}
use borrow.Author.Tests.{le-leb, leb-true}
use Rattle.words.specs.Lists.{equal, all_of, any_of}
use Rattle.words.specs.ListLaws.{equal-refl, equal-true, all_append, valued, valued-at}
use Rattle.words.specs.TestLaws.{and_left, and_right, iff-eq}
use Rattle.words.specs.Text.{bytes}
use Rattle.datum.specs.NameTable.{slot, slots, length_at, name_at}
use Rattle.datum.specs.NameTableLaws.{is_short, length-slots, slots-append, name-at}
use Rattle.words.specs.Tables.{filled}
use Rattle.reading.specs.Numbering.{base_names, number_of}
use Rattle.reader.specs.Code.Index.{bucket_count, bucket_of, Indexed, linked, Walked}
use Rattle.reader.proofs.OfCode.IndexLaws.{walked_on, walked_all, walked-found, link-falls, indexed-more}
use Rattle.reader.specs.Code.Stored.{names_in, stored, NameTable, Entered}

-- ---- comparing

-- a comparison with a slot's bytes is one with the name
pub spelled-same : (table : List ℕ) (n : ℕ) (word : List ℕ) (r : Bool) → (to : ℕ) → to ≡ 64 * n + 1 + length_at table n
    → r ≡ bytes_eq word (between (64 * n + 1) to table) → r ≡ equal word (name_at table n)
unfolding name_at
spelled-same table n word r to e h =
    let p : to - (64 * n + 1) ≡ length_at table n = omega arith in
    let q : 64 * n + 1 ≡ suc (64 * n) = omega arith in
    let name = take (length_at table n) (drop (suc (64 * n)) table) in
    let d = slice_eq-Decides Decides-eqb word name r (rw (p, q) at h) in
    iff-eq r (equal word name) (λ u. rw (d.0 u) (equal-refl name)) (λ u. d.1 (equal-true word name u))

-- ---- finding

pub length-names-in : (table : List ℕ) (n k : ℕ) → length (names_in table n k) ≡ k
unfolding names_in
length-names-in table n zero = refl
length-names-in table n (suc k) = ap suc (length-names-in table (suc n) k)

-- what a slot spells, among the names
name_in : (table : List ℕ) (from known n : ℕ) → n < known → get_or (names_in table from known) n [] ≡ name_at table (from + n)
unfolding names_in
name_in table from zero n h = absurd (omega arith)
name_in table from (suc k) zero h = let e : from + 0 ≡ from = omega arith in rw e
name_in table from (suc k) (suc n) h =
    let e : from + suc n ≡ suc from + n = omega arith in
    name_in table (suc from) k n (omega arith) ∙ ap (name_at table) (sym e)

-- a walk along the word's bucket comes to an entry
module _ (word table index : List ℕ) (known : ℕ) (i : Indexed (names_in table 0 known) index) where
  abbrev names : List (List ℕ)
  names = names_in table 0 known

  -- it ends
  pub find-end : Walked names word 0 → known ≡ number_of word names
  find-end w = sym (length-names-in table 0 known) ∙ walked_all names word w

  -- or the entry is a name's
  module _ (entry : ℕ) (w : Walked names word entry) (some : entry ≡ 0 → ⊥) where
    abbrev number : ℕ
    number = entry - 1

    pub entry_known : number < known
    entry_known = omega (arith, w.high, length-names-in table 0 known)

    among : number < length names
    among = omega (arith, w.high)

    -- which is compared with the word in its slot
    module _ (r t : Bool) (e : r ≡ equal word (name_at table number)) (f : r ≡ t) where
      compared : equal word (get_or names number []) ≡ t
      compared =
          let z : 0 + number ≡ number = omega arith in
          ap (equal word) (name_in table 0 known number entry_known ∙ ap (name_at table) z) ∙ sym e ∙ f

    pub find-here : (r : Bool) → r ≡ equal word (name_at table number) → r ≡ true → number ≡ number_of word names
    find-here r e f = walked-found names word index i entry number (omega arith) w (compared r true e f)

    pub find-on : (r : Bool) → r ≡ equal word (name_at table number) → r ≡ false → Walked names word (get_or index (bucket_count + number) 0)
    find-on r e f = walked_on names word index i entry number (omega arith) w (compared r false e f)

    pub find-falls : get_or index (bucket_count + number) 0 < entry
    find-falls = omega (arith, link-falls names word index i entry number (omega arith) w)

-- the slots of names spell them
names-in-from : (more names : List (List ℕ)) (rest : List ℕ) → all_of is_short (names ++ more) ≡ true
    → names_in (slots (names ++ more) ++ rest) (length names) (length more) ≡ more
unfolding names_in
names-in-from [] names rest h = refl
names-in-from (cs ∷ more) names rest h =
    let e : names ++ (cs ∷ []) ++ more ≡ names ++ cs ∷ more = append_snoc names cs more in
    let l : length (names ++ (cs ∷ [])) ≡ suc (length names) = omega (arith, length-append names (cs ∷ [])) in
    let k : length names < length (names ++ cs ∷ more) = omega (arith, length-append names (cs ∷ more)) in
    let a = name-at (names ++ cs ∷ more) rest (length names) h k ∙ get_or-append_seam names cs more [] in
    let b = names-in-from more (names ++ (cs ∷ [])) rest (subst (λ ks. all_of is_short ks ≡ true) (sym e) h) in
    let b' : names_in (slots (names ++ cs ∷ more) ++ rest) (suc (length names)) (length more) ≡ more = rw (e, l) at b in
    ap₂ ◌∷◌ a b'

pub names_in_lem : (names : List (List ℕ)) (rest : List ℕ) → all_of is_short names ≡ true → names_in (slots names ++ rest) 0 (length names) ≡ names
names_in_lem names rest h = names-in-from names [] rest h

-- ---- storing

drop-zeros : (k n : ℕ) → drop {A = ℕ} k (replicate n 0) ≡ replicate (n - k) 0
drop-zeros zero n = let e : n - 0 ≡ n = omega arith in rw e
drop-zeros (suc k) zero = let e : 0 - suc k ≡ 0 = omega arith in rw e
drop-zeros (suc k) (suc n) = let e : suc n - suc k ≡ n - k = omega arith in rw e (drop-zeros k n)

-- a name in the slot after those of the names before it
module _ (names : List (List ℕ)) (word t : List ℕ) (n : ℕ) (at : n ≡ length names) (s : all_of is_short names ≡ true) (w : length word ≤ 63)
    (f : t ≡ filled (slots names) t) (room : 64 * n + 64 ≤ length t) where
  start : length (slots names) ≡ 64 * n
  start = omega (arith, length-slots names s)

  -- the zeros after the length byte
  after : ℕ
  after = length t - (64 * n + 1)

  table : t ≡ slots names ++ 0 ∷ replicate after 0
  unfolding filled after
  table = let e : length t - length (slots names) ≡ suc (length t - (64 * n + 1)) = omega (arith, start) in f ∙ rw e

  with-length : set t (64 * n) (length word) ≡ slots names ++ (length word ∷ []) ++ replicate after 0
  with-length =
      ap (λ l. set l (64 * n) (length word)) table
      ∙ set_at (slots names) 0 (replicate after 0) (length word) (64 * n) start
      ∙ sym (append_snoc (slots names) (length word) (replicate after 0))

  head-length : length (slots names ++ (length word ∷ [])) ≡ 64 * n + 1
  head-length = omega (arith, start, length-append (slots names) (length word ∷ []))

  -- the whole of it
  all-of : stored t n word ≡ slots names ++ (length word ∷ []) ++ word ++ replicate (after - length word) 0
  all-of =
      let u = set t (64 * n) (length word) in
      let head = slots names ++ (length word ∷ []) in
      let a : take (64 * n + 1) u ≡ head = ap (take (64 * n + 1)) with-length ∙ take_at head (replicate after 0) (64 * n + 1) head-length in
      let i : 64 * n + 1 + length word ≡ length head + length word = omega (arith, head-length) in
      let b : drop (64 * n + 1 + length word) u ≡ replicate (after - length word) 0 =
      ap (drop (64 * n + 1 + length word)) with-length ∙ rw i (drop-append-add head (replicate after 0) (length word) ∙ drop-zeros (length word) after) in
      rw (a, b, take-length word)

  pub short-more : all_of is_short (names ++ (word ∷ [])) ≡ true
  unfolding is_short all_of
  short-more = all_append is_short names (word ∷ []) s (rw (le-leb _ _ w))

  slots_length : length (slots (names ++ (word ∷ []))) ≡ 64 * n + 64
  slots_length = omega (arith, length-slots (names ++ (word ∷ [])) short-more, length-append names (word ∷ []))

  pub stored-filled : stored t n word ≡ filled (slots (names ++ (word ∷ []))) t
  unfolding filled slots slot after
  stored-filled =
      let k = length t - (64 * n + 64) in
      let e : length t - (64 * n + 1) - length word ≡ 63 - length word + k = omega arith in
      all-of
      ∙ rw (slots_length, slots-append names (word ∷ []), e, ← replicate-append-replicate {A = ℕ} (63 - length word) k 0)
      (simp (append_assoc, append-nil))

  pub stored-length : length (stored t n word) ≡ length t
  stored-length =
      let u = set t (64 * n) (length word) in
      let l = length-set t (64 * n) (length word) in
      let h : 64 * n + 1 + length word ≤ length u = omega (arith, l) in
      length-paste u (64 * n + 1) word (length word) h (omega arith) ∙ l

-- a name more, in the table and in its index
pub table_more : (word t u index index' : List ℕ) (n b : ℕ) → length word ≤ 63 → n < 1024 → b ≡ bucket_of word
    → (u ≡ stored t n word) × (index' ≡ linked index n b) → Entered t u index index' n word
unfolding filled
table_more word t u index index' n b w l k s names h e new =
    let room : 64 * n + 64 ≤ length t = omega (arith, h.room) in
    let same : length u ≡ length t = ap length s.0 ∙ stored-length names word t n e h.short w h.bytes room in
    let f = stored-filled names word t n e h.short w h.bytes room in
    record {
      short = short-more names word t n e h.short w h.bytes room;
      bytes = s.0 ∙ f ∙ rw same;
      room = omega (arith, same, h.room);
      indexed = rw (s.1, k) (indexed-more names word index h.indexed n e l new);
    }

base-long : length base_names ≡ 8
unfolding base_names bytes
base-long = refl

-- a fixed name is short, and none of those before it
is_fresh : ℕ → Bool
is_fresh n = leb n (number_of (get_or base_names n []) (take n base_names)) && leb (length (get_or base_names n [])) 63

fresh : (n : ℕ) → n < 8 → true ≡ is_fresh n
unfolding is_fresh valued base_names bytes number_of any_of
fresh n l = valued-at is_fresh true [] 0 8 refl n (omega arith) (omega arith) refl

pub base_short : (n : ℕ) → n < 8 → length (get_or base_names n []) ≤ 63
unfolding is_fresh
base_short n l =
    leb-true (length (get_or base_names n [])) 63 (and_right (leb n (number_of (get_or base_names n []) (take n base_names))) (leb (length (get_or base_names n [])) 63) (sym (fresh n l)))

-- a fixed name more
pub base_more : (n : ℕ) (word t u index index' : List ℕ) (b : ℕ) → n < 8 → word ≡ get_or base_names n [] → b ≡ bucket_of word
    → (u ≡ stored t n word) × (index' ≡ linked index n b) → NameTable (take n base_names) t index → NameTable (take (n + 1) base_names) u index'
unfolding is_fresh
base_more n word t u index index' b l w k s h =
    let new : n ≤ number_of (get_or base_names n []) (take n base_names) =
    leb-true n (number_of (get_or base_names n []) (take n base_names)) (and_left (leb n (number_of (get_or base_names n []) (take n base_names))) (leb (length (get_or base_names n [])) 63) (sym (fresh n l))) in
    let long : length (take n base_names) ≡ n = length-take-le n base_names (omega (arith, base-long)) in
    let short : length word ≤ 63 = subst (λ x. length x ≤ 63) (sym w) (base_short n l) in
    let later : length (take n base_names) ≤ number_of word (take n base_names) = rw (long, w) new in
    let one : n + 1 ≡ suc n = omega arith in
    let more = table_more word t u index index' n b short (omega arith) k s (take n base_names) h (sym long) later in
    subst (λ names. NameTable names u index') (ap (λ x. take n base_names ++ (x ∷ [])) w ∙ sym (take-suc base_names n [] (omega (arith, base-long))) ∙ ap (λ m. take m base_names) (sym one)) more
