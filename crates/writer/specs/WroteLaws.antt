-- Laws of writing's promise: each way through the call, and what an answer says.
use Rattle.std.specs.Prelude.{◌≡◌, ℕ, ◌*◌, ◌<◌, ◌≤◌, Bool, true, false, cond, ◌&&◌, List, [], ◌++◌, length, drop, nat_le}
use Rattle.std.proofs.Math.Path.{refl, sym, ap, subst}
use Rattle.std.proofs.Common.{◌∙◌, append-nil}
use Rattle.std.proofs.lemmas.Bool.{false≢true}
use Rattle.std.proofs.Math.Option.{Option, none, some}
use native.Mathlib.Omega.{arith}
use borrow.Author.Tests.{leb-true, leb-false, le-leb, lt-leb}
use Rattle.words.specs.Lists.{all_of}
use Rattle.words.specs.Tables.{testing}
use Rattle.words.specs.TestLaws.{and_parts}
use Rattle.datum.specs.NameTable.{name_at, has_name}
use Rattle.core_term.specs.Node.{Node, is_node, variable_n, operation_n, constant_n, name_n, list_n, if_n, lambda_n, application_n}
use Rattle.core_term.specs.Term.{Plain, variables, formals_of}
use Rattle.core_term.specs.Words.{encode}
use Rattle.core_term.specs.Decode.{decode}
use Rattle.core_term.proofs.DecodeLaws.{decode-encode}
use Rattle.core_term.specs.Every.{every}
use Rattle.core_term.specs.EveryLaws.{every-from}
use Rattle.core_term.specs.Check.{outside, all_known, term_of, is_term}
use Rattle.core_term.specs.Code.Counted.{counted_of, counted-some, counted-yes}
use Rattle.core_term.specs.TermLaws.{formals-count}
use Rattle.core_term.proofs.OfCode.CheckLaws.{Accepted, accepted, is_term-some}
use Rattle.core_term.specs.Text as T
use Rattle.core_term.specs.Text.{text}
use Rattle.core_term.specs.TextRoom.{text_rate, text_words_most, narrow_node, narrow}
use Rattle.core_term.proofs.TextRoomLaws.{formals-known, all-narrow, text-room}
use Rattle.std.specs.declared.option.Option as O
use Rattle.std.specs.Prelude.{Some, None, Ok, Err}
use Rattle.std.specs.Option.{is_some}
use Rattle.words.specs.declared.ground.Ground.TheVariants.{NoTerm, NoRoom}
use Rattle.writer.specs.declared.term.Step.{Step}
use Rattle.writer.specs.Laid.{Left}
use Rattle.writer.specs.LaidLaws.{laid-dry, laid-first, done-is, full_is, left-done}
use Rattle.writer.specs.Pieces.{text_in}
use Rattle.core_term.specs.Code.Scan.{names_from, called_in, IsTerm}
use Rattle.writer.specs.Called.{said}
use Rattle.writer.specs.Opened.{spelled, named}
use Rattle.writer.specs.Walk.{spelling, Fits, Begins, Walked}
use Rattle.writer.specs.WalkLaws.{walked_by, stopped_by}
use Rattle.writer.specs.Writing.{ground_of, length_of, text_for, text_of, Outcome, laid, refused_on, outcome, ground_number, size, after}
use Rattle.writer.specs.Wrote.{has_room, Measured, Wrote}

-- ---- no term

pub no-term : (ws : List ℕ) (operations : ℕ) (names out : List ℕ) → term_of operations (has_name names) ws ≡ none → Wrote (text_of ws operations names) out out (Err NoTerm)
unfolding text_of text_for ground_of length_of outcome ground_number size after
no-term ws operations names out h = rw h (record { number = refl; value = refl; left = refl })

-- ---- a text

module _ (x out : List ℕ) where
  pub wrote-all : length x ≤ length out → (n : ℕ) (out' : List ℕ) → n ≡ length x → out' ≡ x ++ drop (length x) out → Wrote (some x) out out' (Ok n)
  unfolding ground_of length_of outcome ground_number size after
  wrote-all h n out' e l = let k = le-leb (length x) (length out) h in record { number = rw k; value = rw k e; left = rw k l }

  pub wrote_none : length out < length x → (out' : List ℕ) → out' ≡ out → Wrote (some x) out out' (Err NoRoom)
  unfolding ground_of length_of outcome ground_number size after
  wrote_none h out' l = let k = lt-leb (length x) (length out) h in record { number = rw k; value = rw k; left = rw k l }

-- ---- what an answer says

pub written-fits : (o : Option (List ℕ)) (out out' : List ℕ) (n : ℕ) → Wrote o out out' (Ok n) → n ≤ length out
unfolding length_of outcome size
written-fits none out out' n w = omega (arith, w.value)
written-fits (some x) out out' n w = go (nat_le (length x) (length out)) refl w.value
  where
    go : (b : Bool) → nat_le (length x) (length out) ≡ b → n ≡ size (cond b (laid x) (refused_on testing 20)) → n ≤ length out
    go true k v = omega (arith, leb-true (length x) (length out) k)
    go false k v = omega arith

module _ (x out out' : List ℕ) where
  -- by whether it fits
  abbrev by : Bool → Outcome
  by fits = cond fits (laid x) (refused_on testing 20)

  pub written_is : (n : ℕ) → Wrote (some x) out out' (Ok n) → (n ≡ length x) × (length x ≤ length out) × (out' ≡ x ++ drop (length x) out)
  unfolding ground_of length_of outcome ground_number size after
  written_is n w = go (nat_le (length x) (length out)) refl w.number w.value w.left
    where
      go : (b : Bool) → nat_le (length x) (length out) ≡ b → ◌≡◌ {A = ℕ} 0 (ground_number (by b)) → n ≡ size (by b) → out' ≡ after (by b) out
          → (n ≡ length x) × (length x ≤ length out) × (out' ≡ x ++ drop (length x) out)
      go true k g v l = (v, leb-true (length x) (length out) k, l)
      go false k g v l = absurd (omega arith)

  pub no-room-is : Wrote (some x) out out' (Err NoRoom) → (length out < length x) × (out' ≡ out)
  unfolding ground_of outcome ground_number after
  no-room-is w = go (nat_le (length x) (length out)) refl w.number w.left
    where
      go : (b : Bool) → nat_le (length x) (length out) ≡ b → ◌≡◌ {A = ℕ} 20 (ground_number (by b)) → out' ≡ after (by b) out → (length out < length x) × (out' ≡ out)
      go true k g l = absurd (omega arith)
      go false k g l = (leb-false (length x) (length out) k, l)

  pub not-no-term : Wrote (some x) out out' (Err NoTerm) → ⊥
  unfolding ground_of outcome ground_number
  not-no-term w = go (nat_le (length x) (length out)) w.number
    where
      go : (b : Bool) → ◌≡◌ {A = ℕ} 19 (ground_number (by b)) → ⊥
      go true g = omega arith
      go false g = omega arith

-- ---- a text that fits, laid from the beginning

module _ (x out : List ℕ) (fits : length x ≤ length out) (f : List ℕ) (s : O.Option ℕ) (wet : Left true x 0 out f s) where
  fitting-never-full : s ≡ None → Wrote (some x) out f (Err NoRoom)
  fitting-never-full g = let k = full_is (subst (Left true x 0 out f) g wet) in absurd (omega arith)

  fitting-wrote : (to : ℕ) → s ≡ Some to → Wrote (some x) out f (Ok to)
  fitting-wrote to g = let k = done-is (left-done wet to g) in wrote-all x out fits to f (omega arith) (k.2 ∙ laid-first x out)

-- ---- a text that is measured, then laid

module _ (x out e : List ℕ) (r : O.Option ℕ) (dry : Left false x 0 out e r) where
  pub measured-full : r ≡ None → Wrote (some x) out e (Err NoRoom)
  measured-full h = let k = full_is (subst (Left false x 0 out e) h dry) in wrote_none x out (omega arith) e (k.1 refl)

  module _ (n : ℕ) (h : r ≡ Some n) where
    -- it fits, and the output is as it was
    pub measured-is : (n ≡ length x) × (length x ≤ length out) × (e ≡ out)
    measured-is = let k = done-is (left-done dry n h) in (omega arith, omega arith, k.2 ∙ laid-dry false x 0 out refl)

    module _ (f : List ℕ) (s : O.Option ℕ) (wet : Left true x 0 e f s) where
      abbrev wet-out : Left true x 0 out f s
      wet-out = subst (λ (d : List ℕ). Left true x 0 d f s) measured-is.2 wet

      pub laid-never-full : s ≡ None → Wrote (some x) out f (Err NoRoom)
      laid-never-full g = fitting-never-full x out measured-is.1 f s wet-out g

      pub laid-wrote : (to : ℕ) → s ≡ Some to → Wrote (some x) out f (Ok to)
      laid-wrote to g = fitting-wrote x out measured-is.1 f s wet-out to g

-- ---- the term

-- its nodes are ones, and all their names have slots
narrow-named : (names called : List ℕ) → all_of (has_name names) called ≡ true → (x : Node) → narrow_node names called x ≡ true → (is_node x && named (said names called) x) ≡ true
unfolding narrow_node is_node named spelled
narrow-named names called g (variable_n n) h = rw (h, g)
narrow-named names called g (operation_n n) h = refl
narrow-named names called g (constant_n a) h = rw h
narrow-named names called g (name_n n) h = h
narrow-named names called g (list_n n) h = refl
narrow-named names called g if_n h = refl
narrow-named names called g (lambda_n first ns) h = let p = and_parts (nat_le (length ns) 8) _ h in rw (p.0, p.1, g)
narrow-named names called g (application_n n) h = refl

module _ (ws : List ℕ) (operations : ℕ) (names : List ℕ) where
  spelled-fine : (t : Plain) → Accepted operations (has_name names) ws t → every (spelling (said names (formals_of t))) tt 0 t ≡ true
  unfolding spelling narrow all_known
  spelled-fine t a =
      let g = formals-known operations (has_name names) t outside 0 a.known' in
      every-from (λ (i : Unit {0}). narrow names (formals_of t)) (spelling (said names (formals_of t))) (variables t) (λ f h c. Unit {0})
      (λ f h c x r l k. narrow-named names (formals_of t) g x (k tt)) (λ f h c x r k. tt) (λ f h c n r. tt) t (λ i. tt) tt 0 tt (omega arith) (λ i. all-narrow operations names ws t a)

  -- what a walk of the words promises
  abbrev Walk : List ℕ → Bool → List ℕ → List ℕ → O.Option Step → Type 0
  Walk called ink d e s =
      (t : Plain) (r : List ℕ) → Fits (said names called) false t → ws ≡ encode t ++ r → Walked ink (text_in (said names called) false t) (length (encode t)) 0 d e s

  -- ---- one that passes

  module _ (t : Plain) (k : term_of operations (has_name names) ws ≡ some t) where
    passes : Accepted operations (has_name names) ws t
    passes = accepted operations (has_name names) ws t k

    -- the names of its variables
    pub called-are : called_in ws ≡ formals_of t
    unfolding called_in names_from
    called-are = ap names_from (ap decode (sym passes.words) ∙ decode-encode t passes.formed)

    fitting : (called : List ℕ) → called ≡ called_in ws → Fits (said names called) false t
    fitting called e =
        subst (λ (z : List ℕ). Fits (said names z) false t) (sym (e ∙ called-are)) (record { before = 0; fine = spelled-fine t passes; datum = λ k. absurd (false≢true k) })

    all_words : ws ≡ encode t ++ []
    all_words = sym passes.words ∙ sym (append-nil (encode t))

    abbrev Text : List ℕ
    Text = text (name_at names) t

    text-is : some Text ≡ text_of ws operations names
    unfolding text_of text_for
    text-is = sym (ap (text_for names) k)

    pub room-measured : (out : List ℕ) → has_room (length ws) (length out) ≡ true → Measured Text out out true
    unfolding has_room
    room-measured out room =
        let p = and_parts (nat_le (length ws) text_words_most) (nat_le (text_rate * length ws) (length out)) room in
        let few = leb-true (length ws) text_words_most p.0 in
        let enough = leb-true (text_rate * length ws) (length out) p.1 in
        let h : length Text ≤ length out = omega (arith, text-room operations names ws t passes few) in
        record { told = sym (le-leb (length Text) (length out) h); left = refl }

    module _ (called : List ℕ) (same : called ≡ called_in ws) {ink : Bool} {d e : List ℕ} {s : O.Option Step} (c : Walk called ink d e s) where
      walk : Walked ink Text (length (encode t)) 0 d e s
      unfolding text_in text
      walk = subst (λ (z : List ℕ). Walked ink (T.text_in (name_at names) z t) (length (encode t)) 0 d e s) (same ∙ called-are) (c t [] (fitting called same) all_words)

      walk-done : (c : Step) → s ≡ Some c → Left ink Text 0 d e (Some c.end)
      walk-done c q = (walked_by walk c q).1

      walk-full : s ≡ None → Left ink Text 0 d e None
      walk-full q = stopped_by walk q

  -- what the checker's count says: there is a term, and it has as many names of variables
  pub counted-term : (n : ℕ) → counted_of (term_of operations (has_name names) ws) ≡ Some n → is_term operations (has_name names) ws ≡ true
  unfolding is_term
  counted-term n h = counted-yes (term_of operations (has_name names) ws) n h

  pub counted-names : (n : ℕ) → counted_of (term_of operations (has_name names) ws) ≡ Some n → n ≡ length (called_in ws)
  counted-names n h =
      let t = counted-some (term_of operations (has_name names) ws) n h in
      omega (arith, t.2, formals-count t.0, ap length (called-are t.0 t.1))

  -- the walk that measures
  module _ (called : List ℕ) (same : called ≡ called_in ws) {out e : List ℕ} {s : O.Option Step} (c : Walk called false out e s) where
    pub walk-short : s ≡ None → (t : Plain) → term_of operations (has_name names) ws ≡ some t → Measured (text (name_at names) t) out e false
    walk-short q t k =
        let l = full_is (walk-full t k called same c q) in
        let x = text (name_at names) t in
        record { told = sym (lt-leb (length x) (length out) (omega arith)); left = l.1 refl }

    pub walk-fits : (step : Step) → s ≡ Some step → (t : Plain) → term_of operations (has_name names) ws ≡ some t → Measured (text (name_at names) t) out e true
    walk-fits step q t k =
        let x = text (name_at names) t in
        let l = measured-is x out e (Some step.end) (walk-done t k called same c step q) step.end refl in
        record { told = sym (le-leb (length x) (length out) l.1); left = l.2 }

    -- whether it did not stop
    pub walk-told : {b : Bool} → b ≡ is_some s → (t : Plain) → term_of operations (has_name names) ws ≡ some t → Measured (text (name_at names) t) out e b
    walk-told {b} h t k = rw h (go s refl)
      where
        go : (o : O.Option Step) → s ≡ o → Measured (text (name_at names) t) out e (is_some s)
        go None q = rw (ap is_some q) (walk-short q t k)
        go (Some step) q = rw (ap is_some q) (walk-fits step q t k)

  module _ (h : is_term operations (has_name names) ws ≡ true) where
    abbrev it : Plain
    it = (is_term-some operations (has_name names) ws h).0

    it-is : term_of operations (has_name names) ws ≡ some it
    it-is = (is_term-some operations (has_name names) ws h).1

    pub is-told : IsTerm ws
    is-told = (it, ap decode (sym (passes it it-is).words) ∙ decode-encode it (passes it it-is).formed)

    -- the words begin with it
    pub term-begins : (called : List ℕ) → called ≡ called_in ws → Begins (said names called) false ws
    term-begins called same = record { term = it; rest = []; fits = fitting it it-is called same; words = all_words it it-is }

    module _ {out e : List ℕ} {fits : Bool} (m : (operations : ℕ) (t : Plain) → term_of operations (has_name names) ws ≡ some t → Measured (text (name_at names) t) out e fits) where
      abbrev measure : Measured (Text it it-is) out e fits
      measure = m operations it it-is

      pub no_room : fits ≡ false → Wrote (text_of ws operations names) out e (Err NoRoom)
      no_room k =
          let x = Text it it-is in
          subst (λ (o : Option (List ℕ)). Wrote o out e (Err NoRoom)) (text-is it it-is)
          (wrote_none x out (leb-false (length x) (length out) (sym measure.told ∙ k)) e measure.left)

      -- the walk that lays the bytes
      module _ (k : fits ≡ true) (called : List ℕ) (same : called ≡ called_in ws) {f : List ℕ} {u : O.Option Step} (d : Walk called true e f u) where
        room : length (Text it it-is) ≤ length out
        room = leb-true (length (Text it it-is)) (length out) (sym measure.told ∙ k)

        on_out : {p : O.Option ℕ} → Left true (Text it it-is) 0 e f p → Left true (Text it it-is) 0 out f p
        on_out {p} l = subst (λ (z : List ℕ). Left true (Text it it-is) 0 z f p) measure.left l

        pub no_second : u ≡ None → Wrote (text_of ws operations names) out f (Err NoRoom)
        no_second q =
            subst (λ (o : Option (List ℕ)). Wrote o out f (Err NoRoom)) (text-is it it-is)
            (fitting-never-full (Text it it-is) out room f None (on_out (walk-full it it-is called same d q)) refl)

        pub wrote-text : (step : Step) → u ≡ Some step → Wrote (text_of ws operations names) out f (Ok step.end)
        wrote-text step q =
            subst (λ (o : Option (List ℕ)). Wrote o out f (Ok step.end)) (text-is it it-is)
            (fitting-wrote (Text it it-is) out room f (Some step.end) (on_out (walk-done it it-is called same d step q)) step.end refl)
