-- Laws of quoting, one for each way through the code.
use Rattle.std.specs.Prelude.{◌≡◌, true, List, [], ◌∷◌, ◌++◌, ℕ, suc, ◌+◌, ◌≤◌, ◌<◌, length, take, drop, set}
use Rattle.std.proofs.Math.Path.{refl, sym}
use Rattle.std.proofs.Common.{ap, ap₂, subst, ◌∙◌, append_assoc, append-nil, arith, add-one, length-append, take-append-drop, take_at, drop_at, drop-drop, length-take-le}
use Rattle.std.proofs.lemmas.List.Edits.{sets-eq}
use Rattle.datum.specs.Constant.{Constant, decimal_kind, constant_words}
use Rattle.datum.specs.ConstantLaws.{made, kind-most, words-decimal, words-other}
use Rattle.datum.specs.Datum as D
use Rattle.recipe.specs.Name.{Name}
use Rattle.recipe.specs.Tree.{Tree, empty, constant, name, pair, is_list, elements, strip, strip_tail, on_names}
use Rattle.recipe.specs.Tidy.{tidy_constant, tidy_name, tidy_pair, on_names-is_list}
use Rattle.core_term.specs.Node.{node_words, list_code}
use Rattle.core_term.specs.Words.{datum_words, data_words}
use Rattle.arena.specs.Arena.{word_at, reference_at, wrap_at, constant_at, tree_at, number_of}
use Rattle.arena.specs.ArenaLaws.{wrap_at-number, word_at-some, reference_at-falls}
use Rattle.arena.specs.NodeLaws.{tree_at-wrap, tree_at-empty, tree_at-name, tree_at-constant, name_at-number}
use Rattle.arena.specs.Lists.{Counts}
use Rattle.arena.specs.ListLaws.{no-pair, a_pair}
use Rattle.forms.specs.Quotes.{quoted_at, elements_at, Quotable, Written, Walked}

-- ---- words in the table

module _ (at : ℕ) (d c : List ℕ) (h : at + length c ≤ length d) where
  head-length : length (take at d ++ c) ≡ at + length c
  head-length = let k : at ≤ length d = omega arith in length-append (take at d) c ∙ ap (λ (n : ℕ). n + length c) (length-take-le at d k)

  head-is : take (at + length c) (take at d ++ c ++ drop (at + length c) d) ≡ take at d ++ c
  head-is = take_at (take at d ++ c) _ (at + length c) head-length

  tail-is : (k : ℕ) → drop (at + length c + k) (take at d ++ c ++ drop (at + length c) d) ≡ drop (at + length c + k) d
  tail-is k =
      sym (drop-drop k (at + length c) (take at d ++ c ++ drop (at + length c) d))
      ∙ ap (drop k) (drop_at (take at d ++ c) (drop (at + length c) d) (at + length c) head-length)
      ∙ drop-drop k (at + length c) d

pub written_none : (d : List ℕ) (at : ℕ) → Written [] d d at at
written_none d at = record { end = omega arith; words = sym (ap (λ (l : List ℕ). l ++ drop at d) (append-nil (take at d)) ∙ take-append-drop at d) }

-- b after c
pub written_then : (at : ℕ) (d c b e g : List ℕ) (n r : ℕ) → n ≤ length d → Written c d e at n → Written b e g n r → Written (c ++ b) d g at r
written_then at d c b e g n r l p q =
    let h : at + length c ≤ length d = omega (arith, p.end) in
    let x : e ≡ take at d ++ c ++ drop (at + length c) d = p.words ∙ ap (λ (k : ℕ). take at d ++ c ++ drop k d) p.end in
    let e1 : take n e ≡ take at d ++ c = rw (p.end, x) (head-is at d c h) in
    let e2 : drop r e ≡ drop r d = rw (q.end, p.end, x) (tail-is at d c h (length b)) in
    record {
      end = omega (arith, p.end, q.end, length-append c b);
      words = q.words ∙ rw (e1, e2) (simp append_assoc);
    }

pub written-two : (d : List ℕ) (at a b : ℕ) → at + 2 ≤ length d → Written (a ∷ b ∷ []) d (set (set d at a) (at + 1) b) at (at + 2)
written-two d at a b h = record { end = refl; words = rw (add-one at) (sets-eq (a ∷ b ∷ []) d at h) }

-- a constant's words, with its places where it is a decimal
module _ (d : List ℕ) (at kind first second : ℕ) (h : at + length (constant_words (made kind first second)) ≤ length d) where
  pub decimal-room : kind ≡ decimal_kind → at + 3 ≤ length d
  decimal-room e = omega (arith, ap length (words-decimal (made kind first second) e))

  pub other-room : (kind ≡ decimal_kind → ⊥) → at + 2 ≤ length d
  other-room n = omega (arith, ap length (words-other (made kind first second) n))

  pub decimal-stored : kind ≡ decimal_kind → Written (constant_words (made kind first second)) d (set (set (set d at 9) (at + 1) first) (at + 2) second) at (at + 3)
  decimal-stored e =
      let w = words-decimal (made kind first second) e in
      let two : at + 2 ≡ suc (suc at) = omega arith in
      rw w (record { end = refl; words = rw (add-one at, two) (sets-eq (9 ∷ first ∷ second ∷ []) d at (decimal-room e)) })

  pub written-decimal : kind ≡ decimal_kind → (e : List ℕ) (r : ℕ) → Written (9 ∷ first ∷ second ∷ []) d e at r → Written (constant_words (made kind first second)) d e at r
  written-decimal k e r w = rw (words-decimal (made kind first second) k) w

  pub written-other : (kind ≡ decimal_kind → ⊥) → (e : List ℕ) (r : ℕ) → Written ((kind + 1) ∷ first ∷ []) d e at r → Written (constant_words (made kind first second)) d e at r
  written-other n e r w = rw (words-other (made kind first second) n) (subst (λ (k : ℕ). Written (k ∷ first ∷ []) d e at r) (add-one kind) w)

pub written_as : (ws vs d e : List ℕ) (at r : ℕ) → ws ≡ vs → Written ws d e at r → Written vs d e at r
written_as ws vs d e at r h w = subst (λ (l : List ℕ). Written l d e at r) h w

-- ---- waiting does not change what is quoted

module _ (f : Name → Name) (same : (x : Name) → (f x).number ≡ x.number) where
  mutual
    unfolding strip on_names

    strip-on_names : (t : Tree) → strip (on_names f t) ≡ strip t
    strip-on_names empty = refl
    strip-on_names (constant a) = refl
    strip-on_names (name x) = ap D.name_d (same x)
    strip-on_names (pair h t) = ap₂ (λ (d : D.Datum) (ds : D.Data). D.list_d (D.more_d d ds)) (strip-on_names h) (tail-on_names t)

    tail-on_names : (t : Tree) → strip_tail (on_names f t) ≡ strip_tail t
    tail-on_names empty = refl
    tail-on_names (constant a) = refl
    tail-on_names (name x) = refl
    tail-on_names (pair h t) = ap₂ D.more_d (strip-on_names h) (tail-on_names t)

pub quoted-any : (work : List ℕ) (node w : ℕ) → datum_words (strip (tree_at work node w)) ≡ quoted_at work node
unfolding quoted_at
quoted-any work node w = ap datum_words (ap strip (tree_at-wrap work node w) ∙ strip-on_names (wrap_at work w) (wrap_at-number work w) (tree_at work node 0))

-- ---- the parts of what may be quoted

pair_parts : {h t : Tree} → Quotable (pair h t) → (Quotable h) × (Quotable t) × (is_list t ≡ true)
pair_parts (tidy_pair p q l) = (p, q, l)

quotable-on_names : (f : Name → Name) (t : Tree) → Quotable (on_names f t) → Quotable t
unfolding on_names
quotable-on_names f empty q = q
quotable-on_names f (constant a) q = q
quotable-on_names f (name x) q = tidy_name tt
quotable-on_names f (pair h t) q =
    let g = pair_parts q in
    tidy_pair (quotable-on_names f h g.0) (quotable-on_names f t g.1) (sym (on_names-is_list f t) ∙ g.2)

-- whatever waits on it
pub quotable-any : (work : List ℕ) (node w : ℕ) → Quotable (tree_at work node w) → Quotable (tree_at work node 0)
quotable-any work node w q = quotable-on_names (wrap_at work w) (tree_at work node 0) (subst Quotable (tree_at-wrap work node w) q)

constant-kind : {a : Constant} → Quotable (constant a) → a.kind ≤ decimal_kind
constant-kind {a} (tidy_constant c) = kind-most a c

-- ---- a node's words

count-elements : (t : Tree) → D.count (strip_tail t) ≡ length (elements t)
unfolding strip_tail elements D.count
count-elements empty = refl
count-elements (constant a) = refl
count-elements (name x) = refl
count-elements (pair h t) = ap suc (count-elements t)

module _ (work : List ℕ) (node kind : ℕ) (kind-is : kind ≡ word_at work node 3) where
  pub quoted-empty : kind ≡ 0 → 5 ∷ 0 ∷ [] ≡ quoted_at work node
  unfolding quoted_at strip datum_words node_words D.count
  quoted-empty e = rw (tree_at-empty work node 0 (sym kind-is ∙ e))

  pub quoted-name : kind ≡ 3 → (number : ℕ) → number ≡ number_of work node → 4 ∷ number ∷ [] ≡ quoted_at work node
  unfolding quoted_at strip datum_words node_words
  quoted-name e number n = rw (tree_at-name work node 0 (sym kind-is ∙ e), name_at-number work node 0, n)

  module _ (not-empty : kind ≡ 0 → ⊥) (not-name : kind ≡ 3 → ⊥) (not-pair : kind ≡ 4 → ⊥) where
    constant-is : tree_at work node 0 ≡ constant (constant_at work node)
    constant-is = tree_at-constant work node 0 (λ z. not-empty (kind-is ∙ z)) (λ z. not-name (kind-is ∙ z)) (λ z. not-pair (kind-is ∙ z))

    pub quoted-constant : (first second : ℕ) → first ≡ word_at work node 2 → second ≡ word_at work node 1 → constant_words (made kind first second) ≡ quoted_at work node
    unfolding quoted_at strip datum_words node_words constant_at
    quoted-constant first second e f = rw (constant-is, kind-is, e, f)

    pub constant-small : Quotable (tree_at work node 0) → kind ≤ decimal_kind
    unfolding constant_at
    constant-small q = rw kind-is (constant-kind (subst Quotable constant-is q))

  pub quoted-pair : kind ≡ 4 → (count : ℕ) → Counts work node count → (list_code ∷ count ∷ []) ++ elements_at work node ≡ quoted_at work node
  unfolding quoted_at elements_at strip datum_words node_words D.count elements
  quoted-pair e count c =
      let t = a_pair work node kind kind-is e 0 in
      let n : count ≡ D.count (strip_tail (tree_at work node 0)) = c.is 0 ∙ sym (count-elements (tree_at work node 0)) in
      rw (n, t)

  pub quoted-list : kind ≡ 4 → (count : ℕ) → Counts work node count → (d e g : List ℕ) (at n r : ℕ) → at + length (quoted_at work node) ≤ length d
      → Written (list_code ∷ count ∷ []) d e at n → Written (elements_at work node) e g n r → Written (quoted_at work node) d g at r
  quoted-list h count c d e g at n r room p q =
      let same = quoted-pair h count c in
      written_as _ (quoted_at work node) d g at r same
      (written_then at d (list_code ∷ count ∷ []) (elements_at work node) e g n r (omega (arith, ap length same, p.end, q.end)) p q)

  -- ---- a list's elements

  pub elements-none : (kind ≡ 4 → ⊥) → elements_at work node ≡ []
  unfolding elements_at strip datum_words
  elements-none other = no-pair work node kind kind-is (λ t. data_words (strip_tail t) ≡ []) refl (λ x. refl) (λ a. refl) other 0

  module _ (a-list : kind ≡ 4) (first rest : ℕ) (first-is : first ≡ reference_at work node 2) (rest-is : rest ≡ reference_at work node 1) where
    pub elements-more : elements_at work node ≡ quoted_at work first ++ elements_at work rest
    unfolding elements_at quoted_at strip datum_words
    elements-more = rw (a_pair work node kind kind-is a-list 0, first-is, rest-is)

    parts-of : Quotable (tree_at work node 0) → (Quotable (tree_at work first 0)) × (Quotable (tree_at work rest 0))
    parts-of q =
        let g = pair_parts (subst Quotable (a_pair work node kind kind-is a-list 0) q) in
        (rw first-is g.0, rw rest-is g.1)

    pub first_good : Quotable (tree_at work node 0) → Quotable (tree_at work first 0)
    first_good q = (parts-of q).0

    pub rest-good : Quotable (tree_at work node 0) → Quotable (tree_at work rest 0)
    rest-good q = (parts-of q).1

-- ---- the loop over elements

pub walked_none : (work : List ℕ) (list at : ℕ) (d : List ℕ) → Quotable (tree_at work list 0) → Walked work list at d list at d
walked_none work list at d q = record { sofar = []; whole = refl; written = written_none d at; low = omega arith; good = q; same = refl }

module _ (work : List ℕ) (list at : ℕ) (d : List ℕ) (rest n : ℕ) (e : List ℕ) (walked : Walked work list at d rest n e)
    (kind : ℕ) (kind-is : kind ≡ word_at work rest 3) where
  pub walked_end : (kind ≡ 4 → ⊥) → Written (elements_at work list) d e at n
  walked_end other =
      subst (λ (ws : List ℕ). Written ws d e at n) (sym (walked.whole ∙ ap (λ (l : List ℕ). walked.sofar ++ l) (elements-none work rest kind kind-is other) ∙ append-nil walked.sofar))
      walked.written

  module _ (a-list : kind ≡ 4) (first : ℕ) (first-is : first ≡ reference_at work rest 2) where
    abbrev after : ℕ
    after = reference_at work rest 1

    some_word : 0 < rest
    some_word = word_at-some work rest 3 (omega arith) (λ z. omega (arith, kind-is ∙ z))

    pub after-falls : (next : ℕ) → next ≡ after → next < rest
    after-falls next e' = omega (arith, e', reference_at-falls work rest 1 some_word)

    pub first-low : first < list
    first-low = omega (arith, walked.low, first-is, reference_at-falls work rest 2 some_word)

    pub first-quotable : Quotable (tree_at work first 0)
    first-quotable = first_good work rest kind kind-is a-list first after first-is refl walked.good

    whole_length : length (elements_at work list) ≡ length walked.sofar + (length (quoted_at work first) + length (elements_at work after))
    whole_length =
        ap length (walked.whole ∙ ap (λ (l : List ℕ). walked.sofar ++ l) (elements-more work rest kind kind-is a-list first after first-is refl))
        ∙ length-append walked.sofar _ ∙ ap (λ (k : ℕ). length walked.sofar + k) (length-append (quoted_at work first) (elements_at work after))

    pub walked-room : at + length (elements_at work list) ≤ length d → n + length (quoted_at work first) ≤ length e
    walked-room h = omega (arith, whole_length, walked.written.end, walked.same)

    pub walked_more : at + length (elements_at work list) ≤ length d → (next : ℕ) → next ≡ after → (g : List ℕ) (r : ℕ) → length g ≡ length e → Written (quoted_at work first) e g n r → Walked work list at d next r g
    walked_more h next e' g r l v =
        record {
          sofar = walked.sofar ++ quoted_at work first;
          whole = walked.whole ∙ ap (λ (ws : List ℕ). walked.sofar ++ ws) (elements-more work rest kind kind-is a-list first next first-is e') ∙ sym (append_assoc walked.sofar (quoted_at work first) (elements_at work next));
          written = written_then at d walked.sofar (quoted_at work first) e g n r (omega (arith, whole_length, walked.written.end, v.end)) walked.written v;
          low = omega (arith, walked.low, e', reference_at-falls work rest 1 some_word);
          good = rest-good work rest kind kind-is a-list first next first-is e' walked.good;
          same = l ∙ walked.same;
        }
