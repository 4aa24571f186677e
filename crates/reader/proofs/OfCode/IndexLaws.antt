-- Laws of the index: a word's bucket, a walk along it, and a name more.
use Rattle.std.specs.Prelude.{◌≡◌, true, false, List, [], ◌∷◌, ◌++◌, eqb, ltb, get_or, drop, set, replicate}
use Rattle.std.proofs.Math.Path.{refl, ap}
use Rattle.std.proofs.Common.{sym, ◌∙◌, add-one, length-append, drop-cons, get_or-set_same, get_or-set_other}
use Rattle.std.proofs.Math.Bool.{and-true, and-false, false≢true}
use Prim.Native.Nat.{ℕ, zero, suc, ◌+◌, ◌*◌, ◌%◌, ◌≤◌, ◌<◌}
use native.Mathlib.Omega.{arith}
use Rattle.std.proofs.Math.ListN.{length, length-set, get_or-append}
use Rattle.std.proofs.lemmas.List.{get_or-replicate, length-replicate, get_or_at}
use Rattle.std.proofs.Math.Seq.{drop-length}
use borrow.Author.Tests.{eqb-true, eqb-false, eq-eqb, ne_eqb, ltb-true, ltb-false}
use Rattle.words.specs.Limits.{names_most}
use Rattle.words.specs.Lists.{equal}
use Rattle.words.specs.ListLaws.{either, equal-refl, equal-true}
use Rattle.words.specs.TestLaws.{and_left, and_right}
use Rattle.reading.specs.Numbering.{number_of}
use Rattle.reading.specs.NumberingLaws.{number-most, number_spelled, number-first, number-kept, number-new}
use Rattle.reader.specs.Code.Index.{bucket_count, index_size, bucket_from, bucket_of, is_first, is_in, latest, Indexed, linked, Walked}

-- ---- a word's bucket

bucket-from-below : (b : ℕ) (word : List ℕ) → b < bucket_count → bucket_from b word < bucket_count
unfolding bucket_from
bucket-from-below b [] h = h
bucket-from-below b (x ∷ xs) h = bucket-from-below ((9 * b + x) % bucket_count) xs (omega arith)

pub bucket-below : (word : List ℕ) → bucket_of word < bucket_count
unfolding bucket_of
bucket-below word = bucket-from-below 0 word (omega arith)

pub bucket-step : (word : List ℕ) (i b : ℕ) → i < length word
    → bucket_from b (drop i word) ≡ bucket_from ((9 * b + get_or word i 0) % bucket_count) (drop (i + 1) word)
unfolding bucket_from
bucket-step word i b h = rw (drop-cons word i 0 h, add-one)

pub bucket-end : (word : List ℕ) (i b : ℕ) → i ≡ length word → bucket_from b (drop i word) ≡ b
unfolding bucket_from
bucket-end word i b e = rw (e, drop-length)

-- ---- the first of equal names

-- a name is the first where it is its own
first-is : (names : List (List ℕ)) (n : ℕ) → is_first names n ≡ true → number_of (get_or names n []) names ≡ n
unfolding is_first
first-is names n e = eqb-true _ _ e

in-bucket : (names : List (List ℕ)) (b n : ℕ) → is_in names b n ≡ true → bucket_of (get_or names n []) ≡ b
unfolding is_in
in-bucket names b n e = eqb-true _ _ (and_left (eqb (bucket_of (get_or names n [])) b) (is_first names n) e)

in-first : (names : List (List ℕ)) (b n : ℕ) → is_in names b n ≡ true → is_first names n ≡ true
unfolding is_in
in-first names b n e = and_right (eqb (bucket_of (get_or names n [])) b) (is_first names n) e

-- a word's number is entered in the word's bucket
number_in : (names : List (List ℕ)) (word : List ℕ) → number_of word names < length names → is_in names (bucket_of word) (number_of word names) ≡ true
unfolding is_in is_first
number_in names word h = rw (number_spelled word names h, eq-eqb (bucket_of word) (bucket_of word) refl, eq-eqb (number_of word names) (number_of word names) refl)

-- more names change nothing for those before
first-append : (names more : List (List ℕ)) (n : ℕ) → n < length names → is_first (names ++ more) n ≡ is_first names n
unfolding is_first
first-append names more n h =
    rw (get_or-append names more [] n h, number-kept (get_or names n []) names more (omega (arith, number-first names n h)))

in-append : (names more : List (List ℕ)) (b n : ℕ) → n < length names → is_in (names ++ more) b n ≡ is_in names b n
unfolding is_in
in-append names more b n h = rw (first-append names more n h, get_or-append names more [] n h)

-- ---- the latest name of a bucket

module _ (names : List (List ℕ)) (b : ℕ) where
  latest-most : (n : ℕ) → latest names b n ≤ n
  unfolding latest
  latest-most zero = omega arith
  latest-most (suc n) = either (is_in names b n) (λ e. rw e (omega arith)) (λ e. rw e (omega (arith, latest-most n)))

  -- it is in the bucket
  latest-in : (n m : ℕ) → latest names b n ≡ suc m → is_in names b m ≡ true
  unfolding latest
  latest-in zero m h = absurd (omega arith)
  latest-in (suc n) m h =
      either (is_in names b n)
      (λ e. let k : n ≡ m = omega (arith, rw e at h) in rw (← k) e)
      (λ e. latest-in n m (rw e at h))

  -- and none after it is
  latest-last : (n m : ℕ) → latest names b n ≤ m → m < n → is_in names b m ≡ true → ⊥
  unfolding latest
  latest-last zero m h l k = omega arith
  latest-last (suc n) m h l k =
      either (is_in names b n)
      (λ e. omega (arith, rw e at h))
      (λ e. either (eqb m n)
      (λ d. false≢true (sym e ∙ ap (is_in names b) (sym (eqb-true m n d)) ∙ k))
      (λ d. latest-last n m (rw e at h) (omega (arith, eqb-false m n d)) k))

  latest-append : (more : List (List ℕ)) (n : ℕ) → n ≤ length names → latest (names ++ more) b n ≡ latest names b n
  unfolding latest
  latest-append more zero h = refl
  latest-append more (suc n) h =
      let k : n < length names = omega arith in
      rw (in-append names more b n k, latest-append more n (omega arith))

-- ---- a walk

module _ (names : List (List ℕ)) (word : List ℕ) where
  abbrev number : ℕ
  number = number_of word names

  -- it comes to the latest of the first k names, where the word's number is not among the others
  walked_to : (k entry : ℕ) → k ≤ length names → entry ≡ latest names (bucket_of word) k → (k ≤ number → length names ≤ number) → Walked names word entry
  walked_to k entry h e p = record {
    high = omega (arith, latest-most names (bucket_of word) k);
    entered = λ n l. latest-in names (bucket_of word) k n (sym e ∙ l);
    passed = λ l.
        either (ltb number k)
        (λ t. absurd (latest-last names (bucket_of word) k number (omega arith) (ltb-true number k t) (number_in names word (omega (arith, ltb-true number k t)))))
        (λ t. p (ltb-false number k t));
  }

  module _ (index : List ℕ) (i : Indexed names index) where
    -- it begins at the entry of the bucket
    pub walked-first : Walked names word (get_or index (bucket_of word) 0)
    walked-first = walked_to (length names) _ (omega arith) (i.heads (bucket_of word) (bucket-below word)) (λ l. l)

    module _ (entry n : ℕ) (s : entry ≡ suc n) (w : Walked names word entry) where
      here : is_in names (bucket_of word) n ≡ true
      here = w.entered n s

      -- it comes to the word
      pub walked-found : equal word (get_or names n []) ≡ true → n ≡ number
      walked-found e = sym (ap (λ cs. number_of cs names) (equal-true word (get_or names n []) e) ∙ first-is names n (in-first names (bucket_of word) n here))

      link-is : get_or index (bucket_count + n) 0 ≡ latest names (bucket_of word) n
      link-is = i.links n (omega (arith, w.high)) (in-first names (bucket_of word) n here) ∙ ap (λ b. latest names b n) (in-bucket names (bucket_of word) n here)

      -- or goes on to the entry of a name that is not the word
      pub walked_on : equal word (get_or names n []) ≡ false → Walked names word (get_or index (bucket_count + n) 0)
      walked_on e =
          walked_to n _ (omega (arith, w.high)) link-is
          (λ l. either (eqb number n)
          (λ t. absurd (false≢true (sym e ∙ rw (sym (eqb-true number n t)) (ap (equal word) (number_spelled word names (omega (arith, eqb-true number n t, w.high))) ∙ equal-refl word))))
          (λ t. w.passed (omega (arith, eqb-false number n t))))

      pub link-falls : get_or index (bucket_count + n) 0 ≤ n
      link-falls = omega (arith, link-is, latest-most names (bucket_of word) n)

  -- it ends: the word is new
  pub walked_all : Walked names word 0 → length names ≡ number
  walked_all w = omega (arith, number-most word names, w.passed (omega arith))

-- ---- a name more

pub indexed-none : (index : List ℕ) → index ≡ replicate index_size 0 → Indexed [] index
unfolding latest
indexed-none index e = record {
  size = rw e (length-replicate {A = ℕ} index_size 0);
  heads = λ b h. rw e (get_or-replicate {A = ℕ} index_size b 0 0 (omega arith));
  links = λ n h f. absurd (omega arith);
}

-- a name more is not the first where it was among those before
again-is : (names : List (List ℕ)) (word : List ℕ) → number_of word names < length names → is_first (names ++ (word ∷ [])) (length names) ≡ false
unfolding is_first
again-is names word h = rw (get_or_at names word [] [] (length names) refl, number-kept word names (word ∷ []) h) (ne_eqb (number_of word names) (length names) (λ z. omega arith))

-- else it is
new_is : (names : List (List ℕ)) (word : List ℕ) → length names ≤ number_of word names → is_first (names ++ (word ∷ [])) (length names) ≡ true
unfolding is_first
new_is names word h = rw (get_or_at names word [] [] (length names) refl) (eq-eqb _ _ (number-new word names h))

module _ (names : List (List ℕ)) (word index : List ℕ) (i : Indexed names index) where
  abbrev more : List (List ℕ)
  more = names ++ (word ∷ [])

  length_more : length more ≡ suc (length names)
  length_more = omega (arith, length-append names (word ∷ []))

  name-is : get_or more (length names) [] ≡ word
  name-is = get_or_at names word [] [] (length names) refl

  latest-before : (b m : ℕ) → m ≤ length names → latest more b m ≡ latest names b m
  latest-before b m h = latest-append names b (word ∷ []) m h

  -- the link of a name before
  link-before : (m : ℕ) → m < length names → is_first more m ≡ true → get_or index (bucket_count + m) 0 ≡ latest more (bucket_of (get_or more m [])) m
  link-before m l f = rw (get_or-append names (word ∷ []) [] m l, latest-before (bucket_of (get_or names m [])) m (omega arith)) (i.links m l (sym (first-append names (word ∷ []) m l) ∙ f))

  -- a name that was among those before changes nothing
  pub indexed-again : number_of word names < length names → Indexed more index
  unfolding latest is_in
  indexed-again old = record {
    size = i.size;
    heads = λ b h. rw (length_more, again-is names word old, and-false (eqb (bucket_of (get_or more (length names) [])) b), latest-before b (length names) (omega arith)) (i.heads b h);
    links = λ m h f. link-before m (either (eqb m (length names)) (λ t. absurd (false≢true (sym (again-is names word old) ∙ rw (← eqb-true m (length names) t) f))) (λ t. omega (arith, eqb-false m (length names) t, length_more))) f;
  }

  module _ (n : ℕ) (at : n ≡ length names) (room : n < names_most) (new : length names ≤ number_of word names) where
    -- the name's bucket and its entry
    abbrev bucket : ℕ
    bucket = bucket_of word

    abbrev place : ℕ
    place = bucket_count + n

    below : bucket < bucket_count
    below = bucket-below word

    -- an entry that is neither is as before
    other-entry : (k : ℕ) → (k ≡ bucket → ⊥) → (k ≡ place → ⊥) → get_or (linked index n bucket) k 0 ≡ get_or index k 0
    other-entry k p q =
        get_or-set_other (set index place (get_or index bucket 0)) bucket k (n + 1) 0 p ∙ get_or-set_other index place k (get_or index bucket 0) 0 q

    head_more : (b : ℕ) → b < bucket_count → get_or (linked index n bucket) b 0 ≡ latest more b (length more)
    unfolding latest is_in
    head_more b h =
        rw (length_more, new_is names word new, and-true (eqb (bucket_of (get_or more (length names) [])) b), name-is, latest-before b (length names) (omega arith))
        (either (eqb bucket b)
        (λ e. rw e (rw (← eqb-true bucket b e) (get_or-set_same (set index place (get_or index bucket 0)) bucket (n + 1) 0 (omega (arith, length-set index place (get_or index bucket 0), i.size, below)) ∙ omega arith)))
        (λ e. rw e (other-entry b (λ k. eqb-false bucket b e (sym k)) (λ k. omega arith) ∙ i.heads b h)))

    link-more : (m : ℕ) → m < length more → is_first more m ≡ true → get_or (linked index n bucket) (bucket_count + m) 0 ≡ latest more (bucket_of (get_or more m [])) m
    link-more m h f =
        either (ltb m n)
        (λ t. other-entry (bucket_count + m) (λ k. omega (arith, below)) (λ k. omega (arith, ltb-true m n t)) ∙ link-before m (omega (arith, ltb-true m n t)) f)
        (λ t. let e : m ≡ length names = omega (arith, ltb-false m n t, length_more) in
        let a = get_or-set_other (set index place (get_or index bucket 0)) bucket place (n + 1) 0 (λ k. omega (arith, below)) in
        let b = get_or-set_same index place (get_or index bucket 0) 0 (omega (arith, i.size)) in
        rw (e, name-is, latest-before bucket (length names) (omega arith), ← at) (a ∙ b ∙ i.heads bucket below ∙ ap (latest names bucket) (sym at)))

    pub indexed-more : Indexed more (linked index n bucket)
    indexed-more = record {
      size = length-set (set index place (get_or index bucket 0)) bucket (n + 1) ∙ length-set index place (get_or index bucket 0) ∙ i.size;
      heads = head_more;
      links = link-more;
    }
