-- Laws of ground 19: what a term that passes is, and what the checker's walks through the windows say of it.
use Rattle.std.proofs.Math.Path.{◌≡◌, refl, sym, ap, subst}
use Rattle.std.proofs.Common.{◌∙◌, arith, length-drop, length-append}
use Rattle.std.specs.Prelude.{Bool, ◌&&◌, ℕ, ◌+◌, ◌-◌, ◌≤◌, ◌<◌, leb, length}
use Rattle.std.proofs.Math.Bool.{true, false, cond}
use Rattle.std.proofs.lemmas.Bool.{false≢true}
use mathlib.Core.List.{List, [], ◌++◌, append-nil}
use Rattle.std.proofs.Math.Option.{Option, none, some}
use Rattle.std.proofs.Math.ListN.{drop}
use Rattle.std.proofs.lemmas.List.{length-replicate}
use Rattle.std.proofs.Math.Seq.{drop-length}
use borrow.Author.Tests.{le-leb, leb-true}
use Rattle.core_term.specs.Term.{Plain, variables}
use Rattle.core_term.specs.Words.{encode}
use Rattle.core_term.specs.Decode.{decode}
use Rattle.core_term.specs.NodeLaws.{both}
use Rattle.core_term.proofs.DecodeLaws.{decode-encode, encode-decode, encode-unique}
use Rattle.core_term.specs.Every.{every, well_formed}
use Rattle.core_term.specs.Check.{scoped, numbered, all_known, passes, passing, term_of, is_some, is_term}
use Rattle.std.specs.Prelude.{Some}
use Rattle.core_term.specs.Code.Counted.{counted_of}
use Rattle.core_term.specs.Code.Window.{window}
use Rattle.core_term.specs.Code.WindowLaws.{case, allowed-node}
use Rattle.core_term.specs.Code.Shape.{Whole, NoWhole, Clear}
use Rattle.core_term.proofs.OfCode.ShapeLaws.{every-proper, only}
use Rattle.core_term.specs.Code.Windows.{no_flags, no_flags-clear, window-passes, Passed, Covered, windows-numbered, windows-known, windows-scoped}

module _ (operations : ℕ) (name_good : ℕ → Bool) where
  -- the words are exactly this term, and ground 19 lets it pass
  pub record Accepted (ws : List ℕ) (t : Plain) : Type 0 where
    pub words : encode t ≡ ws
    pub formed : well_formed t ≡ true
    pub few : operations ≤ 256
    pub closed : scoped t ≡ true
    pub counted : numbered t ≡ true
    pub known' : all_known operations name_good t ≡ true

  pub accepted : (ws : List ℕ) (t : Plain) → term_of operations name_good ws ≡ some t → Accepted ws t
  unfolding term_of passing passes
  accepted ws t h = go (decode ws) refl h
    where
      one : (u : Plain) → decode ws ≡ some u → (c : Bool) → (leb operations 256 && passes operations name_good u) ≡ c → cond c (some u) none ≡ some t → Accepted ws t
      one u d true p k =
          let e : u ≡ t = cc in
          let q = both (leb operations 256) (passes operations name_good u) p in
          let r = both (scoped u) (numbered u && all_known operations name_good u) q.1 in
          let s = both (numbered u) (all_known operations name_good u) r.1 in
          let w = encode-decode ws u d in
          subst (λ (z : Plain). Accepted ws z) e
          (record { words = w.0; formed = w.1; few = leb-true operations 256 q.0; closed = r.0; counted = s.0; known' = s.1 })
      one u d false p k = let z : ◌≡◌ {A = ℕ} 0 1 = cc in absurd (omega arith)

      go : (o : Option Plain) → decode ws ≡ o → passing operations name_good o ≡ some t → Accepted ws t
      go none d k = let z : ◌≡◌ {A = ℕ} 0 1 = cc in absurd (omega arith)
      go (some u) d k = one u d (leb operations 256 && passes operations name_good u) refl k

  pub term_of-is : (ws : List ℕ) (t : Plain) → Accepted ws t → term_of operations name_good ws ≡ some t
  unfolding term_of passing passes
  term_of-is ws t a =
      let d : decode ws ≡ some t = ap decode (sym a.words) ∙ decode-encode t a.formed in
      rw (d, le-leb operations 256 a.few, a.closed, a.counted, a.known')

  -- a term that passes is what its words are
  pub term_of-encode : (t : Plain) → operations ≤ 256 → well_formed t ≡ true → passes operations name_good t ≡ true → term_of operations name_good (encode t) ≡ some t
  unfolding passes
  term_of-encode t few w p =
      let q = both (scoped t) (numbered t && all_known operations name_good t) p in
      let k = both (numbered t) (all_known operations name_good t) q.1 in
      term_of-is (encode t) t (record { words = refl; formed = w; few = few; closed = q.0; counted = k.0; known' = k.1 })

  -- ---- whether there is one

  pub term_of-none : (ws : List ℕ) → ((t : Plain) → Accepted ws t → ⊥) → term_of operations name_good ws ≡ none
  term_of-none ws h = go (term_of operations name_good ws) refl
    where
      go : (o : Option Plain) → term_of operations name_good ws ≡ o → o ≡ none
      go none e = refl
      go (some t) e = absurd (h t (accepted ws t e))

  pub is_term-some : (ws : List ℕ) → is_term operations name_good ws ≡ true → (t : Plain) × (term_of operations name_good ws ≡ some t)
  unfolding is_term is_some
  is_term-some ws h = go (term_of operations name_good ws) refl h
    where
      go : (o : Option Plain) → term_of operations name_good ws ≡ o → is_some o ≡ true → (t : Plain) × (term_of operations name_good ws ≡ some t)
      go none e k = let z : ◌≡◌ {A = Bool} false true = k in absurd (let y : ◌≡◌ {A = ℕ} 0 1 = cc in omega arith)
      go (some t) e k = (t, e)

  -- ---- from the walks

  pub many-no : (ws : List ℕ) → 256 < operations → term_of operations name_good ws ≡ none
  many-no ws h = term_of-none ws (λ t a. omega (arith, a.few))

  module _ (span : ℕ) (ws : List ℕ) where
    -- a walk that begins with no flag set
    module _ (base : ℕ) (flags : List ℕ) (e : flags ≡ no_flags span) where
      pub clean-whole : (m n : ℕ) → Whole (window operations name_good base) false flags 0 ws m n → Whole (window operations name_good base) false (no_flags span) 0 ws m n
      clean-whole m n w = subst (λ (z : List ℕ). Whole (window operations name_good base) false z 0 ws m n) e w

      -- it finds no term
      pub none-no : NoWhole (window operations name_good base) false flags 0 ws → term_of operations name_good ws ≡ none
      none-no n = term_of-none ws (λ t a.
          let p = window-passes span operations name_good t base a.formed a.closed a.counted a.known' in
          n t [] (λ h. absurd (false≢true h)) (rw e p) (sym a.words ∙ sym (append-nil (encode t))))

    module _ (used after : ℕ) (w : Whole (window operations name_good 0) false (no_flags span) 0 ws used after) where
      -- words left over
      pub left-no : (used ≡ length ws → ⊥) → term_of operations name_good ws ≡ none
      left-no h = term_of-none ws (λ t a.
          let p = window-passes span operations name_good t 0 a.formed a.closed a.counted a.known' in
          let z = only (window operations name_good 0) (allowed-node operations name_good 0) t w.term [] (drop used ws) (no_flags span) (no_flags span) 0 0 p w.fine
          (append-nil (encode t) ∙ a.words ∙ w.words) in
          h (omega (arith, ap length z.1, length-drop used ws, w.size, ap length w.words ∙ length-append (encode w.term) (drop used ws))))

      -- another window's walk finds the same term
      pub same-passed : (base m n : ℕ) → Whole (window operations name_good base) false (no_flags span) 0 ws m n → every (window operations name_good base) (no_flags span) 0 w.term ≡ true
      same-passed base m n v =
          let z = encode-unique v.term w.term (drop m ws) (drop used ws) 0 0
          (every-proper (window operations name_good base) (allowed-node operations name_good base) v.term (no_flags span) 0 v.fine)
          (every-proper (window operations name_good 0) (allowed-node operations name_good 0) w.term (no_flags span) 0 w.fine)
          (sym v.words ∙ w.words) in
          subst (λ (t : Plain). every (window operations name_good base) (no_flags span) 0 t ≡ true) z.0 v.fine

      -- every window passed
      pub whole-yes : used ≡ length ws → operations ≤ 256 → ((n : ℕ) → n < variables w.term → Covered span operations name_good w.term n) → term_of operations name_good ws ≡ some w.term
      unfolding well_formed
      whole-yes e f c =
          let t = w.term in
          let one : Passed span operations name_good t = record { base = 0; ran = w.fine } in
          let d : drop used ws ≡ [] = ap (λ (n : ℕ). drop n ws) e ∙ drop-length ws in
          term_of-is ws t
          (record {
            words = sym (w.words ∙ ap (λ (z : List ℕ). encode t ++ z) d ∙ append-nil (encode t));
            formed = every-proper (window operations name_good 0) (allowed-node operations name_good 0) t (no_flags span) 0 w.fine;
            few = f;
            closed = windows-scoped span operations name_good t one c;
            counted = windows-numbered span operations name_good t one;
            known' = windows-known span operations name_good t one;
          })

  -- ---- from one window to the next

  -- every window of span variables up to base has been walked through
  pub record Walked (span : ℕ) (ws : List ℕ) (used after base : ℕ) (flags : List ℕ) : Type 0 where
    pub whole : Whole (window operations name_good 0) false (no_flags span) 0 ws used after
    pub clean : flags ≡ no_flags span
    pub some' : base ≤ after
    pub cover : (n : ℕ) → n < base + span → Covered span operations name_good whole.term n

  pub walked-first : (ws : List ℕ) (used after : ℕ) (lent flags : List ℕ) → lent ≡ no_flags (length lent) → Whole (window operations name_good 0) false lent 0 ws used after → flags ≡ lent
      → Walked (length flags) ws used after 0 flags
  walked-first ws used after lent flags e v h =
      let w = clean-whole (length lent) ws 0 lent e used after v in
      subst (λ (z : List ℕ). Walked (length z) ws used after 0 z) (sym h)
      (record { whole = w; clean = e; some' = omega arith; cover = λ n l. record { in' = record { base = 0; ran = w.fine }; low = omega arith; high = l } })

  module _ (span : ℕ) (ws : List ℕ) (used after base : ℕ) (flags : List ℕ) (k : Walked span ws used after base flags) where
    pub walked_more : (m n : ℕ) (flags' : List ℕ) → span < after - base → Whole (window operations name_good (base + span)) false flags 0 ws m n → flags' ≡ flags
        → Walked span ws used after (base + span) flags'
    walked_more m n flags' l v e =
        let u = clean-whole span ws (base + span) flags k.clean m n v in
        record {
          whole = k.whole;
          clean = e ∙ k.clean;
          some' = omega arith;
          cover = λ i h. case i (base + span) (k.cover i)
              (λ g. record { in' = record { base = base + span; ran = same-passed span ws used after k.whole (base + span) m n u }; low = g; high = h });
        }

    pub walked_none : NoWhole (window operations name_good (base + span)) false flags 0 ws → term_of operations name_good ws ≡ none
    walked_none = none-no span ws (base + span) flags k.clean

    pub walked-length : length flags ≡ span
    walked-length = ap length k.clean ∙ length-replicate {A = ℕ} span 0

    pub walked-clear : (low b : ℕ) → Clear low b flags
    walked-clear = no_flags-clear span flags k.clean

    pub walked_all : after - base ≤ span → used ≡ length ws → operations ≤ 256 → counted_of (term_of operations name_good ws) ≡ Some after
    unfolding counted_of
    walked_all l e f =
        let b : variables k.whole.term ≡ after = omega (arith, k.whole.bound) in
        ap counted_of (whole-yes span ws used after k.whole e f (λ n h. k.cover n (omega (arith, k.whole.bound)))) ∙ ap (λ (n : ℕ). Some n) b
