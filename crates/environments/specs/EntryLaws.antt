-- Laws of the table of an environment, one for each way through the code. Words are spoken of where an entry is read or stored, and
-- entries everywhere else.
use Rattle.std.specs.Prelude.{◌≡◌, ℕ, zero, suc, ◌+◌, ◌*◌, ◌/◌, ◌%◌, ◌<◌, ◌≤◌, true, List, [], ◌∷◌, length, ◌==◌, ◌≢◌, nat_lt, slice_index, slice_set}
use Rattle.std.proofs.Math.Path.{refl, sym, subst, fun_ext}
use Rattle.std.proofs.Common.{ap, ◌∙◌, get_or-set_same, below_more}
use Rattle.std.proofs.Math.Option.{none, some}
use native.Mathlib.Omega.{arith}
use Rattle.std.proofs.Math.ListN.{length-set, get_or-eq_default}
use Rattle.std.proofs.Math.Seq.{get_or-set_other}
use borrow.Author.Tests.{ltb-true, ltb-false, eqb-true, eqb-false, ne_eqb}
use Rattle.words.specs.Limits.{pattern_variables_most}
use Rattle.recipe.specs.Tree.{element, tail}
use Rattle.recipe.specs.TreeLaws.{element-tail}
use Rattle.expansion.specs.Match.{part}
use Rattle.arena.specs.Arena.{word_at, reference_at, tree_at}
use Rattle.words.specs.ListLaws.{either}
use Rattle.arena.specs.Lists.{Means}
use Rattle.rule_cells.specs.Cells.{pattern_at}
use Rattle.environments.specs.declared.environment.Entry.{Entry}
use Rattle.environments.specs.Environment.{share_of, counts, within, entering, enter}
use Rattle.environments.specs.Parts.{Part, Shares}
use Rattle.environments.specs.Entries.{entry_words, table_words, field, entry_at, ellipsis_in, taking_of, environment_at, level, next_level, taken_in, Listed, Under, CountsCopies, Low, Stored, Moving, Ahead, begun, Along, AlongAll, Within, Next, Enters}

-- ---- words of an entry

-- what holds of each of the seven holds of every one
sevenfold : (P : ℕ → Type 0) → P 0 → P 1 → P 2 → P 3 → P 4 → P 5 → P 6 → (f : ℕ) → f < entry_words → P f
sevenfold P p0 p1 p2 p3 p4 p5 p6 zero l = p0
sevenfold P p0 p1 p2 p3 p4 p5 p6 (suc zero) l = p1
sevenfold P p0 p1 p2 p3 p4 p5 p6 (suc (suc zero)) l = p2
sevenfold P p0 p1 p2 p3 p4 p5 p6 (suc (suc (suc zero))) l = p3
sevenfold P p0 p1 p2 p3 p4 p5 p6 (suc (suc (suc (suc zero)))) l = p4
sevenfold P p0 p1 p2 p3 p4 p5 p6 (suc (suc (suc (suc (suc zero))))) l = p5
sevenfold P p0 p1 p2 p3 p4 p5 p6 (suc (suc (suc (suc (suc (suc zero)))))) l = p6
sevenfold P p0 p1 p2 p3 p4 p5 p6 (suc (suc (suc (suc (suc (suc (suc f))))))) l = absurd (omega arith)

-- word f of an entry
unfoldable pub word_of : Entry → ℕ → ℕ
word_of x f = slice_index (x.whole ∷ x.one ∷ x.two ∷ x.first ∷ x.second ∷ x.along ∷ x.across ∷ []) f

same-entry : (x y : Entry) → ((f : ℕ) → f < entry_words → word_of x f ≡ word_of y f) → x ≡ y
unfolding word_of
same-entry x y e =
    λ i.
    record {
      whole = e 0 (omega arith) i;
      one = e 1 (omega arith) i;
      two = e 2 (omega arith) i;
      first = e 3 (omega arith) i;
      second = e 4 (omega arith) i;
      along = e 5 (omega arith) i;
      across = e 6 (omega arith) i;
    }

word-field : (env : List ℕ) (k f : ℕ) → f < entry_words → word_of (entry_at env k) f ≡ field env k f
unfolding word_of entry_at
word-field env k f l = sevenfold (λ f. word_of (entry_at env k) f ≡ field env k f) refl refl refl refl refl refl refl f l

-- nothing stands past the table
pub field_out : (env : List ℕ) (k f : ℕ) → length env ≡ table_words → pattern_variables_most ≤ k → field env k f ≡ 0
unfolding field
field_out env k f e h = get_or-eq_default env 0 (omega arith)

-- an entry with nothing in it
unfoldable blank : Entry
blank = record { whole = 0; one = 0; two = 0; first = 0; second = 0; along = 0; across = 0 }

blank-first : blank.first ≡ 0
unfolding blank
blank-first = refl

entry-out : (env : List ℕ) (k : ℕ) → length env ≡ table_words → pattern_variables_most ≤ k → entry_at env k ≡ blank
unfolding word_of blank
entry-out env k e h =
    same-entry (entry_at env k) blank (λ f l. word-field env k f l ∙ field_out env k f e h ∙ sevenfold (λ f. 0 ≡ word_of blank f) refl refl refl refl refl refl refl f l)

-- no word is above b where no word of an entry is
module _ (env : List ℕ) (b : ℕ) where
  pub entry-low : Under env b → (k : ℕ) → Low (entry_at env k) b
  unfolding entry_at field
  entry-low u k = record { whole-low = u _; one-low = u _; two-low = u _; first-low = u _; second-low = u _; along-low = u _; across-low = u _ }

  under_low : ((k : ℕ) → Low (entry_at env k) b) → Under env b
  unfolding entry_at field
  under_low h i =
      let l = h (i / entry_words) in
      subst (λ (n : ℕ). slice_index env n ≤ b) (omega arith)
      (sevenfold (λ f. field env (i / entry_words) f ≤ b) l.whole-low l.one-low l.two-low l.first-low l.second-low l.along-low l.across-low (i % entry_words) (omega arith))

-- ---- reading and storing an entry

pub entry-is : (env : List ℕ) (k : ℕ) → record { whole = slice_index env (7 * k); one = slice_index env (7 * k + 1); two = slice_index env (7 * k + 2); first = slice_index env (7 * k + 3); second = slice_index env (7 * k + 4); along = slice_index env (7 * k + 5); across = slice_index env (7 * k + 6) } ≡ entry_at env k
unfolding entry_at field
entry-is env k = let e : 7 * k + 0 ≡ 7 * k = omega arith in rw e

-- where word f of entry k stands, as the code says it
unfoldable pub place : (k f : ℕ) → ℕ
place k zero = entry_words * k
place k (suc f) = entry_words * k + suc f

place_is : (k f : ℕ) → place k f ≡ entry_words * k + f
unfolding place
place_is k zero = omega arith
place_is k (suc f) = refl

-- the table after n words of an entry are stored
unfoldable pub storing : (k : ℕ) (x : Entry) (env : List ℕ) (n : ℕ) → List ℕ
storing k x env zero = env
storing k x env (suc n) = slice_set (storing k x env n) (place k n) (word_of x n)

module _ (k : ℕ) (x : Entry) (env : List ℕ) where
  storing-length : (n : ℕ) → length (storing k x env n) ≡ length env
  unfolding storing
  storing-length zero = refl
  storing-length (suc n) = length-set (storing k x env n) _ _ ∙ storing-length n

  storing-other : (n m f : ℕ) → n ≤ entry_words → f < entry_words → (m ≡ k → n ≤ f) → field (storing k x env n) m f ≡ field env m f
  unfolding storing field
  storing-other zero m f h l o = refl
  storing-other (suc n) m f h l o =
      get_or-set_other (storing k x env n) (place k n) (entry_words * m + f) _ 0 (λ z. let e : m ≡ k = omega (arith, place_is k n) in omega (arith, o e, place_is k n))
      ∙ storing-other n m f (omega arith) l (λ e. omega (arith, o e))

  module _ (room : entry_words * k + entry_words ≤ length env) where
    storing-here : (n f : ℕ) → n ≤ entry_words → f < n → field (storing k x env n) k f ≡ word_of x f
    unfolding storing field
    storing-here zero f h l = absurd (omega arith)
    storing-here (suc n) f h l =
        either (f == n)
        (λ t. rw (eqb-true f n t, ← place_is k n) (get_or-set_same (storing k x env n) (place k n) _ 0 (omega (arith, storing-length n, place_is k n))))
        (λ t.
        get_or-set_other (storing k x env n) (place k n) (entry_words * k + f) _ 0 (λ z. eqb-false f n t (omega (arith, place_is k n)))
        ∙ storing-here n f (omega arith) (omega (arith, eqb-false f n t)))

-- the low of an entry that is another
low_same : (x y : Entry) (b : ℕ) → x ≡ y → Low y b → Low x b
low_same x y b e l = rw e l

-- the seven words are stored
module _ (k : ℕ) (x : Entry) (env : List ℕ) (some-entry : k < pattern_variables_most) (room : length env ≡ table_words) where
  stored_here : entry_at (storing k x env entry_words) k ≡ x
  stored_here = same-entry _ x (λ f l. word-field _ k f l ∙ storing-here k x env (omega arith) entry_words f (omega arith) l)

  stored_other : (m : ℕ) → (m ≢ k) → entry_at (storing k x env entry_words) m ≡ entry_at env m
  stored_other m o = same-entry _ _ (λ f l. word-field _ m f l ∙ storing-other k x env entry_words m f (omega arith) l (λ e. absurd (o e)) ∙ sym (word-field _ m f l))

  pub stored : Stored k x env (storing k x env entry_words)
  stored =
      record {
        here = stored_here;
        other = stored_other;
        low = λ b h u.
            under_low _ b (λ m.
            either (m == k)
            (λ t. low_same _ x b (ap (entry_at (storing k x env entry_words)) (eqb-true m k t) ∙ stored_here) h)
            (λ t. low_same _ _ b (stored_other m (eqb-false m k t)) (entry-low env b u m)));
      }

-- ---- what a variable takes

pub level-small : (d : ℕ) → d < 2 → d ≡ level d
unfolding level
level-small zero h = refl
level-small (suc zero) h = refl
level-small (suc (suc d)) h = absurd (omega arith)

pub level-more : (d : ℕ) → 2 ≤ d → 2 ≡ level d
unfolding level
level-more zero h = absurd (omega arith)
level-more (suc zero) h = absurd (omega arith)
level-more (suc (suc d)) h = refl

pub level-most : (d : ℕ) → level d ≤ 2
unfolding level
level-most zero = omega arith
level-most (suc zero) = omega arith
level-most (suc (suc d)) = omega arith

pub taken_out : (env : List ℕ) (k d : ℕ) → length env ≡ table_words → pattern_variables_most ≤ k → 0 ≡ taken_in env k d
unfolding taken_in
taken_out env k d e h = sym (field_out env k (level d) e h)

pub taken_in_lem : (env : List ℕ) (k d f : ℕ) → f ≡ level d → slice_index env (7 * k + f) ≡ taken_in env k d
unfolding taken_in field
taken_in_lem env k d f e = rw e

-- ---- the table before the first copy

begun-along : (work : List ℕ) (o : Entry) → Along work o 0 (begun o)
unfolding begun
begun-along work o =
    record {
      whole_is = refl;
      first-is = refl;
      second_is = refl;
      flat = λ e. refl;
      narrow = λ e. refl;
      along-is = λ h. record { is = λ w m. rw (let e : 0 + m ≡ m = omega arith in e) };
      across-is = λ h g. record { is = λ w m. rw (let e : 0 + m ≡ m = omega arith in e) };
    }

begun-low : (x : Entry) (b : ℕ) → Low x b → Low (begun x) b
unfolding begun
begun-low x b l =
    record {
      whole-low = l.whole-low;
      one-low = l.whole-low;
      two-low = l.one-low;
      first-low = l.first-low;
      second-low = l.second-low;
      along-low = l.whole-low;
      across-low = l.one-low;
    }

begun-blank : begun blank ≡ blank
unfolding begun blank
begun-blank = refl

-- the entries below k are begun
abbrev pub BegunBelow : (outer : List ℕ) (k : ℕ) (inner : List ℕ) → Type 0
BegunBelow outer k inner = (m : ℕ) → m < k → entry_at inner m ≡ begun (entry_at outer m)

module _ (outer : List ℕ) where
  pub begins : (inner : List ℕ) → BegunBelow outer 0 inner
  begins inner m l = absurd (omega arith)

  pub begins-more : (k : ℕ) (x y : Entry) (old new : List ℕ) → x ≡ entry_at outer k → y ≡ begun x → Stored k y old new → BegunBelow outer k old → BegunBelow outer (k + 1) new
  begins-more k x y old new p q s h =
      below_more (λ m. entry_at new m ≡ begun (entry_at outer m)) k
      (λ m l. s.other m (λ z. omega arith) ∙ h m l)
      (s.here ∙ q ∙ ap begun p)

  module _ (n : ℕ) (inner : List ℕ) (p : length outer ≡ table_words) (q : length inner ≡ table_words) (past : pattern_variables_most ≤ n) (h : BegunBelow outer n inner) where
    all-begun : (k : ℕ) → entry_at inner k ≡ begun (entry_at outer k)
    all-begun k =
        either (nat_lt k n)
        (λ t. h k (ltb-true k n t))
        (λ t. let l : pattern_variables_most ≤ k = omega (arith, ltb-false k n t) in entry-out inner k q l ∙ sym begun-blank ∙ ap begun (sym (entry-out outer k p l)))

    pub begun_all : ((work : List ℕ) → AlongAll work outer 0 inner) × ((b : ℕ) → Under outer b → Under inner b)
    begun_all = (
      λ work k. subst (λ x. Along work (entry_at outer k) 0 x) (sym (all-begun k)) (begun-along work (entry_at outer k)),
      λ b u. under_low inner b (λ k. low_same _ _ b (all-begun k) (begun-low _ b (entry-low outer b u k))),
    )

-- ---- entries that go along lists

-- of the entries below k, only those below n do
pub record MovingBelow (env : List ℕ) (k n : ℕ) : Type 0 where
  pub among : n ≤ k
  pub others : (m : ℕ) → m < k → n ≤ m → (entry_at env m).first ≡ 0

module _ (env : List ℕ) where
  pub moving-all : (k : ℕ) → MovingBelow env k k
  moving-all k = record { among = omega arith; others = λ m l h. absurd (omega arith) }

  pub moving-less : (k n : ℕ) (x : Entry) → x ≡ entry_at env k → x.first ≡ 0 → MovingBelow env k n → MovingBelow env (k + 1) n
  moving-less k n x x-is e f =
      record {
        among = omega (arith, f.among);
        others = below_more (λ m. n ≤ m → (entry_at env m).first ≡ 0) k f.others (λ h. ap (λ z. z.first) (sym x-is) ∙ e);
      }

  pub moving-ends : (k n : ℕ) → length env ≡ table_words → k ≤ pattern_variables_most → pattern_variables_most ≤ k → MovingBelow env k n → Moving env n
  moving-ends k n room low past f =
      record {
        among = omega (arith, f.among);
        others = λ m h.
            either (nat_lt m k)
            (λ t. f.others m (ltb-true m k t) h)
            (λ t. ap (λ x. x.first) (entry-out env m room (omega (arith, ltb-false m k t))) ∙ blank-first);
      }

-- they are the same in every copy
pub moving-along : (work outer inner : List ℕ) (i n : ℕ) → AlongAll work outer i inner → Moving outer n → Moving inner n
moving-along work outer inner i n a f = record { among = f.among; others = λ k h. (a k).first-is ∙ f.others k h }

-- ---- the next copy

module _ (work : List ℕ) (q k list before : ℕ) where
  pub within-flat : q ≡ 0 → Within work q k list before before
  within-flat e = record { flat = λ z. refl; is = λ h. absurd (h e); low = λ b l m. m }

  pub within-part : (inner first r : ℕ) → (q ≢ 0) → inner ≡ reference_at work q 3 → Means work list first (element 0) → Part work inner k first r → Within work q k list before r
  within-part inner first r h i m c =
      record {
        flat = λ e. absurd (h e);
        is = λ z w. c.is-part w ∙ rw i (ap (part (pattern_at work (reference_at work q 3)) k []) (m.is w));
        low = λ b l n. omega (arith, c.low, m.low);
      }

ahead_more : (work : List ℕ) (list i node r : ℕ) → Means work node r tail → Ahead work list i node → Ahead work list (i + 1) r
ahead_more work list i node r t a =
    record {
      is = λ w m.
          ap (λ (n : ℕ). element n (tree_at work list w)) (let e : (i + 1) + m ≡ i + suc m = omega arith in e)
          ∙ a.is w (suc m)
          ∙ sym (element-tail m _)
          ∙ ap (element m) (sym (t.is w));
    }

ahead-first : (work : List ℕ) (list i node : ℕ) → Ahead work list i node → (w : ℕ) → element 0 (tree_at work node w) ≡ element i (tree_at work list w)
ahead-first work list i node a w = sym (a.is w 0) ∙ ap (λ (n : ℕ). element n (tree_at work list w)) (let e : i + 0 ≡ i = omega arith in e)

ellipsis_in-none : (work : List ℕ) (q : ℕ) → q ≡ 0 → ellipsis_in work q ≡ none
unfolding ellipsis_in
ellipsis_in-none work q e = rw e

pub ellipsis_in-some : (work : List ℕ) (q : ℕ) → (q ≢ 0) → ellipsis_in work q ≡ some (pattern_at work (reference_at work q 3), word_at work q 4)
unfolding ellipsis_in
ellipsis_in-some work q h = rw (ne_eqb q 0 h)

-- the next entry, by what its words are
unfoldable pub next_of : Entry → (one two along across : ℕ) → Entry
next_of x one two along across = record { whole = x.whole; one = one; two = two; first = x.first; second = x.second; along = along; across = across }

module _ (work : List ℕ) (k : ℕ) (x : Entry) (one two along across : ℕ) (some_pattern : x.first ≡ 0 → ⊥) (one-is : Within work x.first k x.along x.one one) (two_is : Within work x.second k x.across x.two two) (along-rest : Means work x.along along tail) (across-rest : Means work x.across across tail) where
  module _ (o : Entry) (i : ℕ) (a : Along work o i x) where
    next-first : o.first ≡ 0 → ⊥
    next-first e = some_pattern (a.first-is ∙ e)

    next-narrow : o.second ≡ 0 → two ≡ o.one
    next-narrow e = two_is.flat (a.second_is ∙ e) ∙ a.narrow e

    next-along : Along work o (i + 1) (next_of x one two along across)
    unfolding next_of
    next-along =
        record {
          whole_is = a.whole_is;
          first-is = a.first-is;
          second_is = a.second_is;
          flat = λ e. absurd (next-first e);
          narrow = next-narrow;
          along-is = λ h. ahead_more work o.whole i x.along along along-rest (a.along-is h);
          across-is = λ h g. ahead_more work o.one i x.across across across-rest (a.across-is h g);
        }

    module _ (w : ℕ) where
      next_one : tree_at work one w ≡ part (pattern_at work (reference_at work o.first 3)) k [] (element i (tree_at work o.whole w))
      next_one = one-is.is some_pattern w ∙ rw a.first-is (ap (part (pattern_at work (reference_at work o.first 3)) k []) (ahead-first work o.whole i x.along (a.along-is next-first) w))

      next-two : tree_at work two w ≡ within k i (ellipsis_in work o.second) (tree_at work o.one w)
      unfolding within
      next-two =
          either (o.second == 0)
          (λ t. let e = eqb-true o.second 0 t in rw (ellipsis_in-none work o.second e, next-narrow e))
          (λ t.
          let h = eqb-false o.second 0 t in
          rw (ellipsis_in-some work o.second h)
          (two_is.is (λ z. h (sym a.second_is ∙ z)) w
          ∙ rw a.second_is (ap (part (pattern_at work (reference_at work o.second 3)) k []) (ahead-first work o.one i x.across (a.across-is next-first h) w))))

      next-taking : taking_of work w (next_of x one two along across) ≡ entering k i (ellipsis_in work o.first) (taking_of work w o)
      unfolding next_of taking_of entering
      next-taking = rw (a.whole_is, a.first-is, a.second_is, next_one, next-two, ellipsis_in-some work o.first next-first)

  pub next-is : Next work k x (next_of x one two along across)
  unfolding next_of
  next-is =
      record {
        goes = λ o i a. (next-along o i a, λ w. next-taking o i a w);
        low = λ b l.
            record {
              whole-low = l.whole-low;
              one-low = one-is.low b l.along-low l.one-low;
              two-low = two_is.low b l.across-low l.two-low;
              first-low = l.first-low;
              second-low = l.second-low;
              along-low = omega (arith, along-rest.low, l.along-low);
              across-low = omega (arith, across-rest.low, l.across-low);
            };
      }

-- ---- the table of the next copy

-- y follows x in the table: where there is no pattern it is the same
pub record Follows (work : List ℕ) (k : ℕ) (x y : Entry) : Type 0 where
  pub flat : x.first ≡ 0 → y ≡ x
  pub next : (x.first ≢ 0) → Next work k x y

follows-low : (work : List ℕ) (k : ℕ) (x y : Entry) (b : ℕ) → Follows work k x y → Low x b → Low y b
follows-low work k x y b f l =
    either (x.first == 0)
    (λ t. low_same y x b (f.flat (eqb-true _ 0 t)) l)
    (λ t. (f.next (eqb-false _ 0 t)).low b l)

-- an entry without a pattern is the same before and in every copy
flat_goes : (work : List ℕ) (k : ℕ) (x : Entry) (o : Entry) (i : ℕ) → x.first ≡ 0 → Along work o i x
    → (Along work o (i + 1) x) × ((w : ℕ) → taking_of work w x ≡ entering k i (ellipsis_in work o.first) (taking_of work w o))
unfolding taking_of entering begun
flat_goes work k x o i e a =
    let z : o.first ≡ 0 = sym a.first-is ∙ e in (
      record {
        whole_is = a.whole_is;
        first-is = a.first-is;
        second_is = a.second_is;
        flat = a.flat;
        narrow = a.narrow;
        along-is = λ h. absurd (h z);
        across-is = λ h g. absurd (h z);
      },
      λ w. rw (a.flat z, ellipsis_in-none work o.first z),
    )

follows-goes : (work : List ℕ) (k : ℕ) (x y : Entry) → Follows work k x y → (o : Entry) (i : ℕ) → Along work o i x
    → (Along work o (i + 1) y) × ((w : ℕ) → taking_of work w y ≡ entering k i (ellipsis_in work o.first) (taking_of work w o))
follows-goes work k x y f o i a =
    either (x.first == 0)
    (λ t. let e = eqb-true _ 0 t in rw (f.flat e) (flat_goes work k x o i e a))
    (λ t. (f.next (eqb-false _ 0 t)).goes o i a)

-- the entries below k follow the old ones, and the others are they
pub record Entering (work old : List ℕ) (k : ℕ) (new : List ℕ) : Type 0 where
  pub done : (m : ℕ) → m < k → Follows work m (entry_at old m) (entry_at new m)
  pub left : (m : ℕ) → k ≤ m → entry_at new m ≡ entry_at old m

module _ (work old : List ℕ) where
  pub enter-begins : Entering work old 0 old
  enter-begins = record { done = λ m l. absurd (omega arith); left = λ m l. refl }

  module _ (k : ℕ) (env : List ℕ) (x : Entry) (so_far : Entering work old k env) (x-is : x ≡ entry_at env k) where
    x-old : x ≡ entry_at old k
    x-old = x-is ∙ so_far.left k (omega arith)

    pub enter-flat : x.first ≡ 0 → Entering work old (k + 1) env
    enter-flat e =
        record {
          done = below_more (λ m. Follows work m (entry_at old m) (entry_at env m)) k so_far.done
              (subst (λ z. Follows work k z (entry_at env k)) x-old (subst (λ z. Follows work k x z) x-is (record { flat = λ z. refl; next = λ h. absurd (h e) })));
          left = λ m l. so_far.left m (omega arith);
        }

    pub enter-next : (y : Entry) (new : List ℕ) → (x.first ≢ 0) → Next work k x y → Stored k y env new → Entering work old (k + 1) new
    enter-next y new h n s =
        record {
          done = below_more (λ m. Follows work m (entry_at old m) (entry_at new m)) k
              (λ m l. subst (λ z. Follows work m (entry_at old m) z) (sym (s.other m (λ z. omega arith))) (so_far.done m l))
              (subst (λ z. Follows work k z (entry_at new k)) x-old (subst (λ z. Follows work k x z) (sym s.here) (record { flat = λ e. absurd (h e); next = λ z. n })));
          left = λ m l. s.other m (λ z. omega arith) ∙ so_far.left m (omega arith);
        }

  module _ (moving n : ℕ) (new : List ℕ) (still : Moving old moving) (past : moving ≤ n) (all : Entering work old n new) where
    all-follow : (k : ℕ) → Follows work k (entry_at old k) (entry_at new k)
    all-follow k =
        either (nat_lt k n)
        (λ t. all.done k (ltb-true k n t))
        (λ t.
        let l = ltb-false k n t in
        record { flat = λ e. all.left k l; next = λ h. absurd (h (still.others k (omega arith))) })

    pub entered_all : Enters work old new
    unfolding environment_at enter taking_of
    entered_all =
        record {
          goes = λ outer i a. (
            λ k. (follows-goes work k _ _ (all-follow k) (entry_at outer k) i (a k)).0,
            λ w. fun_ext (λ k. (follows-goes work k _ _ (all-follow k) (entry_at outer k) i (a k)).1 w),
          );
          low = λ b u. under_low new b (λ k. follows-low work k _ _ b (all-follow k) (entry-low old b u k));
        }

-- ---- a variable that takes a list's elements

pub listed-is : (work env : List ℕ) (e a b k inner g : ℕ) → a ≡ word_at work e 1 → a ≡ 1 → b ≡ word_at work e 2 → b ≡ 1 → k ≡ word_at work e 3 → inner ≡ reference_at work (slice_index env (entry_words * k + 3)) 3 → g ≡ word_at work inner 1 → (g == 1) ≡ true → Listed work env e
unfolding field
listed-is work env e a b k inner g a-is a1 b-is b1 k-is inner-is g-is g1 =
    record { variable = sym a-is ∙ a1; once = sym b-is ∙ b1; element-is = rw (← k-is, ← inner-is) (sym g-is ∙ eqb-true g 1 g1) }

-- ---- how many copies a list drives

pub level-first : (d : ℕ) → d ≡ 0 → 0 ≡ next_level d
unfolding next_level
level-first zero e = refl
level-first (suc d) e = absurd (omega arith)

pub next-most : (d : ℕ) → next_level d ≤ 1
unfolding next_level
next-most zero = omega arith
next-most (suc d) = omega arith

pub level-second : (d : ℕ) → (d ≢ 0) → 1 ≡ next_level d
unfolding next_level
level-second zero n = absurd (n refl)
level-second (suc d) n = refl

module _ (work env : List ℕ) (k d : ℕ) where
  pub copies-out : length env ≡ table_words → pattern_variables_most ≤ k → CountsCopies work env k d 0
  unfolding environment_at taking_of counts share_of ellipsis_in blank
  copies-out e h w = rw (entry-out env k e h) (go d)
    where
      go : (n : ℕ) → 0 ≡ counts n (taking_of work w blank)
      go zero = refl
      go (suc n) = refl

  module _ (o q : ℕ) (o_is : o ≡ next_level d) (q-is : q ≡ slice_index env (entry_words * k + o + 3)) where
    counts-are : (w : ℕ) → counts d (environment_at work env w k) ≡ share_of (ellipsis_in work q) (tree_at work (slice_index env (entry_words * k + o)) w)
    unfolding environment_at taking_of counts entry_at field next_level
    counts-are w = rw q-is (go d o_is)
      where
        go : (n : ℕ) → o ≡ next_level n
            → counts n (environment_at work env w k) ≡ share_of (ellipsis_in work (slice_index env (entry_words * k + o + 3))) (tree_at work (slice_index env (entry_words * k + o)) w)
        go zero f = rw f (let z : entry_words * k + 0 + 3 ≡ entry_words * k + 3 = omega arith in rw z refl)
        go (suc n) f = rw f (let z : entry_words * k + 1 + 3 ≡ entry_words * k + 4 = omega arith in rw z refl)

    pub copies-flat : q ≡ 0 → CountsCopies work env k d 0
    unfolding share_of ellipsis_in
    copies-flat e w = sym (counts-are w ∙ rw e refl)

    pub copies-in : (q ≢ 0) → (r : ℕ) → Shares work q (slice_index env (entry_words * k + o)) r → CountsCopies work env k d r
    unfolding share_of ellipsis_in
    copies-in n r c w = c w ∙ sym (counts-are w ∙ rw (ne_eqb q 0 n) refl)
