-- Laws of the walk: a node, then its parts one after another.
use Rattle.std.specs.Prelude.{◌≡◌, ℕ, suc, ◌+◌, ◌-◌, ◌<◌, ◌≤◌, Bool, true, false, ◌&&◌, List, [], ◌++◌, length, take, drop, refl, Some, None}
use Rattle.std.proofs.Math.Path.{sym, ap}
use Rattle.std.proofs.Common.{subst, ◌∙◌, arith, length-drop, drop_at, drop-drop}
use Rattle.std.proofs.lemmas.Bool.{false≢true}
use mathlib.Core.List.{append_assoc, append-nil}
use Rattle.std.proofs.Math.ListN.{length-append}
use Rattle.std.proofs.Math.Seq.{drop-append_seam}
use Rattle.core_term.specs.Node.{got, node_at, node_words, parts, binds, is_node, is_list_node}
use Rattle.core_term.specs.NodeLaws.{both, node-round, node-some, node-read}
use Rattle.core_term.specs.Term.{none_c, more_c, Plain, Plains, count, variables}
use Rattle.core_term.specs.Words.{encode, encode_all}
use Rattle.core_term.proofs.DecodeLaws.{encode-unique}
use Rattle.core_term.specs.Every.{every, every_term, proper}
use Rattle.core_term.specs.EveryLaws.{every-from}
use Rattle.core_term.specs.Parts.{node, parts_of, is_datum, are_data}
use Rattle.core_term.specs.PartsLaws.{encode-parts, encode-two, every-parts, count-parts, list-data}
use Rattle.words.specs.ListLaws.{rest-is}
use Rattle.std.specs.declared.option.Option.{Option}
use Rattle.writer.specs.declared.term.Step.{Step}
use Rattle.core_term.specs.declared.nodes.Shape.{Shape}
use Rattle.core_term.specs.declared.nodes.Node as C
use Rattle.core_term.specs.Code.Opened.{node_in, shape_in, Shaped, ShapedAt, OpenedAs}
use Rattle.core_term.specs.Code.OpenedLaws.{shaped-opened}
use Rattle.writer.specs.Laid.{Left}
use Rattle.writer.specs.LaidLaws.{left-done, left-full, left-room, left-then, left_is, left-none}
use Rattle.writer.specs.Pieces.{gap_text, opening, closing, text_in, parts_text, row_text}
use Rattle.writer.specs.PiecesLaws.{pieces}
use Rattle.writer.specs.Called.{Said}
use Rattle.writer.specs.Opened.{named, Stands, Opened}
use Rattle.writer.specs.OpenedLaws.{opened-here}
use Rattle.writer.specs.Walk.{spelling, Fits, Begins, Walked, walked, stopped}

-- ---- answers and rows of terms

module _ {ink : Bool} {x : List ℕ} {n at : ℕ} {d e : List ℕ} where
  walked-is : {c : Step} → Walked ink x n at d e (Some c) → (c.used ≡ n) × Left ink x at d e (Some c.end)
  walked-is (walked h l) = (h, l)

  stopped-is : Walked ink x n at d e None → Left ink x at d e None
  stopped-is (stopped l) = l

  pub walked_by : {s : Option Step} → Walked ink x n at d e s → (c : Step) → s ≡ Some c → (c.used ≡ n) × Left ink x at d e (Some c.end)
  walked_by w c h = walked-is (subst (λ (z : Option Step). Walked ink x n at d e z) h w)

  pub stopped_by : {s : Option Step} → Walked ink x n at d e s → s ≡ None → Left ink x at d e None
  stopped_by w h = stopped-is (subst (λ (z : Option Step). Walked ink x n at d e z) h w)

-- a text that is laid is walked through with its words
module _ {ink : Bool} {x : List ℕ} {n at : ℕ} {d e : List ℕ} {r : Option ℕ} (l : Left ink x at d e r) where
  pub close-stops : r ≡ None → {s : Option Step} → s ≡ None → Walked ink x n at d e s
  close-stops h {s} k = rw k (stopped (subst (λ (z : Option ℕ). Left ink x at d e z) h l))

  pub close-walked : (to : ℕ) → r ≡ Some to → Walked ink x n at d e (Some (record { used = n; end = to }))
  close-walked to h = walked refl (left-done l to h)

-- a row that has a first
record Row (ts : Plains) : Type 0 where
  first : Plain
  rest : Plains
  is : ts ≡ more_c first rest

next_of : (ts : Plains) (n : ℕ) → count ts ≡ n → 0 < n → Row ts
unfolding count
next_of none_c n h l = absurd (omega arith)
next_of (more_c t ts) n h l = record { first = t; rest = ts; is = refl }

none_left : (ts : Plains) → count ts ≡ 0 → ts ≡ none_c
unfolding count
none_left none_c h = refl
none_left (more_c t ts) h = absurd (omega arith)

some_word : (ts : Plains) → 1 ≤ count ts → 1 ≤ length (encode_all ts)
unfolding count encode
some_word none_c h = absurd (omega arith)
some_word (more_c t ts) h = omega (arith, encode-two t, length-append (encode t) (encode_all ts))

-- ---- the term that words begin with

module _ (names : Said) where
  spelling-proper : (t : Plain) (b : ℕ) → every (spelling names) tt b t ≡ true → every proper tt b t ≡ true
  unfolding spelling proper
  spelling-proper t b h =
      every-from (λ (i : Unit {0}). spelling names) proper (b + variables t) (λ f g c. Unit {0})
      (λ f g c x r l k. (both (is_node x) (named names x) (k tt)).0) (λ f g c x r k. tt) (λ f g c n r. tt) t (λ i. tt) tt b tt (omega arith) (λ i. h)

  -- it is the only one
  module _ (inner : Bool) (ws : List ℕ) (t u : Plain) (r s : List ℕ) (f : Fits names inner t) (g : Fits names inner u) (v : ws ≡ encode t ++ r) (w : ws ≡ encode u ++ s) where
    same-term : t ≡ u
    same-term = (encode-unique t u r s f.before g.before (spelling-proper t f.before f.fine) (spelling-proper u g.before g.fine) (sym v ∙ w)).0

  -- what is said of one term is said of each
  pub for-any : (text : Plain → List ℕ) (inner ink : Bool) (ws : List ℕ) (b : Begins names inner ws) (at : ℕ) (d e : List ℕ) (s : Option Step)
      → Walked ink (text b.term) (length (encode b.term)) at d e s
      → (t : Plain) (r : List ℕ) → Fits names inner t → ws ≡ encode t ++ r → Walked ink (text t) (length (encode t)) at d e s
  for-any text inner ink ws b at d e s k t r f w =
      subst (λ (u : Plain). Walked ink (text u) (length (encode u)) at d e s) (same-term inner ws b.term t b.rest r b.fits f b.words w) k

  -- ---- its node

  module _ (inner : Bool) (ws : List ℕ) (b : Begins names inner ws) where
    node-fine : ((spelling names).test tt b.fits.before (node b.term) && every_term (spelling names) tt (b.fits.before + binds (node b.term)) (parts_of b.term)) ≡ true
    unfolding spelling
    node-fine = sym (every-parts (spelling names) tt b.fits.before b.term) ∙ b.fits.fine

    pub begins-node : node_at ws ≡ got (node b.term) (encode_all (parts_of b.term) ++ b.rest)
    unfolding spelling
    begins-node =
        let x = node b.term in
        let p : is_node x ≡ true = (both (is_node x) (named names x) (both (is_node x && named names x) _ node-fine).0).0 in
        ap node_at (b.words ∙ ap (λ (z : List ℕ). z ++ b.rest) (encode-parts b.term) ∙ append_assoc (node_words x) (encode_all (parts_of b.term)) b.rest)
        ∙ node-round x (encode_all (parts_of b.term) ++ b.rest) p

    -- parts are words that stand behind it
    behind-node : 1 ≤ parts (node b.term) → 1 ≤ length (encode_all (parts_of b.term) ++ b.rest)
    behind-node h = omega (arith, length-append (encode_all (parts_of b.term)) b.rest, some_word (parts_of b.term) (omega (arith, count-parts b.term)))

    begins-as : (n : C.Node) → node_in ws n ≡ node_at ws → OpenedAs ws n
    begins-as n h = opened-here ws n (node b.term) (encode_all (parts_of b.term) ++ b.rest) h begins-node behind-node

    pub begins-stands : (n : C.Node) → node_in ws n ≡ node_at ws → Stands n (node b.term)
    begins-stands n h = record { words = ws; left = encode_all (parts_of b.term) ++ b.rest; opened = begins-as n h; is = begins-node }

    pub begins-opened : (n : C.Node) → node_in ws n ≡ node_at ws → Opened names n
    unfolding spelling
    begins-opened n h =
        let x = node b.term in
        record { it = x; stands = begins-stands n h; fits = (both (is_node x) (named names x) (both (is_node x && named names x) _ node-fine).0).1 }

    pub begins-shaped : (n : C.Node) → node_in ws n ≡ node_at ws → (s : Shape) → s ≡ shape_in n → ShapedAt ws s
    begins-shaped n h s e = shaped-opened ws n (begins-as n h) s e

    -- as a term outside quote
    pub begins-loose : Begins names false ws
    begins-loose = record { term = b.term; rest = b.rest; fits = record { before = b.fits.before; fine = b.fits.fine; datum = λ h. absurd (false≢true h) }; words = b.words }

  -- ---- its parts

  module _ (ink quoted : Bool) (ws : List ℕ) (opened : ℕ) (d : List ℕ) where
    -- parts laid from `opened` into d, up to `to` in e; those left stand at `from`
    pub record Going (from left to : ℕ) (wanted : Bool) (e : List ℕ) : Type 0 where
      pub whole : Begins names false ws
      pub inner' : quoted ≡ is_list_node (node whole.term)
      pub todo : Plains
      pub many : count todo ≡ left
      pub before : ℕ
      pub fine : every_term (spelling names) tt before todo ≡ true
      pub data' : quoted ≡ true → are_data todo ≡ true
      pub place : drop from ws ≡ encode_all todo ++ whole.rest
      pub size : from + length (encode_all todo) ≡ length (encode whole.term)
      pub begun : 1 ≤ from
      pub sofar : List ℕ
      pub text : parts_text names quoted false (parts_of whole.term) ≡ sofar ++ parts_text names quoted wanted todo
      pub laid : Left ink sofar opened d e (Some to)

    pub going_start : (b : Begins names false ws) (s : Shape) → quoted ≡ s.quoted → ShapedAt ws s → opened ≤ length d → Going s.own s.parts opened false d
    unfolding spelling
    going_start b s q k l =
        let x = node b.term in
        let h : Shaped x s = k x (encode_all (parts_of b.term) ++ b.rest) (begins-node false ws b) in
        let n : length (node_words x) + length (encode_all (parts_of b.term)) ≡ length (encode b.term) = sym (ap length (encode-parts b.term) ∙ length-append (node_words x) (encode_all (parts_of b.term))) in
        let w : drop (length (node_words x)) ws ≡ encode_all (parts_of b.term) ++ b.rest =
        ap (drop (length (node_words x))) (node-read ws x (encode_all (parts_of b.term) ++ b.rest) (begins-node false ws b)).words
        ∙ drop-append_seam (node_words x) (encode_all (parts_of b.term) ++ b.rest) in
        record {
          whole = b;
          inner' = q ∙ h.inner;
          todo = parts_of b.term;
          many = count-parts b.term ∙ sym h.rest;
          before = b.fits.before + binds x;
          fine = (both (is_node x && named names x) _ (node-fine false ws b)).1;
          data' = λ z. list-data b.term (sym (q ∙ h.inner) ∙ z);
          place = ap (λ (i : ℕ). drop i ws) h.own ∙ w;
          size = omega (arith, h.own);
          begun = omega (arith, h.own, node-some x);
          sofar = [];
          text = refl;
          laid = left-none ink opened d l;
        }

    module _ (from left to : ℕ) (wanted : Bool) (e : List ℕ) (g : Going from left to wanted e) where
      pub going-inside : from ≤ length ws
      going-inside = omega (arith, g.size, ap length g.whole.words ∙ length-append (encode g.whole.term) g.whole.rest)

      pub going-shorter : length (take (length ws - from) (drop from ws)) < length ws
      going-shorter = omega (arith, ap length (rest-is from ws) ∙ length-drop from ws, g.begun, going-inside)

      -- no part is left
      pub going_end : left ≡ 0 → (from ≡ length (encode g.whole.term)) × Left ink (parts_text names quoted false (parts_of g.whole.term)) opened d e (Some to)
      unfolding encode parts_text count
      going_end h =
          let z : g.todo ≡ none_c = none_left g.todo (g.many ∙ h) in (
            omega (arith, g.size, ap (λ (ts : Plains). length (encode_all ts)) z),
            left_is (sym (g.text ∙ ap (λ (ts : Plains). g.sofar ++ parts_text names quoted wanted ts) z ∙ append-nil g.sofar)) g.laid,
          )

      module _ (h : 0 < left) where
        next : Row g.todo
        next = next_of g.todo left g.many h

        next-fine : (every (spelling names) tt g.before next.first && every_term (spelling names) tt (g.before + variables next.first) next.rest) ≡ true
        unfolding every
        next-fine = sym (ap (every_term (spelling names) tt g.before) next.is) ∙ g.fine

        next-data : quoted ≡ true → (is_datum next.first && are_data next.rest) ≡ true
        unfolding are_data
        next-data q = sym (ap are_data next.is) ∙ g.data' q

        next_place : drop from ws ≡ encode next.first ++ (encode_all next.rest ++ g.whole.rest)
        unfolding encode
        next_place = g.place ∙ ap (λ (ts : Plains). encode_all ts ++ g.whole.rest) next.is ∙ append_assoc (encode next.first) (encode_all next.rest) g.whole.rest

        next-length : length (encode_all g.todo) ≡ length (encode next.first) + length (encode_all next.rest)
        unfolding encode
        next-length = ap (λ (ts : Plains). length (encode_all ts)) next.is ∙ length-append (encode next.first) (encode_all next.rest)

        next-count : left ≡ suc (count next.rest)
        unfolding count
        next-count = sym g.many ∙ ap count next.is

        next-text : parts_text names quoted false (parts_of g.whole.term)
            ≡ g.sofar ++ (gap_text wanted ++ (text_in names quoted next.first ++ parts_text names quoted true next.rest))
        unfolding parts_text
        next-text = g.text ∙ ap (λ (ts : Plains). g.sofar ++ parts_text names quoted wanted ts) next.is

        next_fits : Fits names quoted next.first
        next_fits = record { before = g.before; fine = (both (every (spelling names) tt g.before next.first) _ next-fine).0; datum = λ q. (both (is_datum next.first) (are_data next.rest) (next-data q)).0 }

        -- the next part
        pub going_next : Begins names quoted (take (length ws - from) (drop from ws))
        going_next = record { term = next.first; rest = encode_all next.rest ++ g.whole.rest; fits = next_fits; words = rest-is from ws ∙ next_place }

        module _ (f : List ℕ) (r : Option ℕ) (k : Left ink (gap_text wanted) to e f r) where
          -- no room for the space before it
          pub gap-full : r ≡ None → Left ink (parts_text names quoted false (parts_of g.whole.term)) opened d f None
          gap-full q = left_is (sym next-text) (left-then g.laid to refl (left-full k _ q))

          module _ (m : ℕ) (q : r ≡ Some m) (f' : List ℕ) (s : Option Step)
              (c : (t : Plain) (z : List ℕ) → Fits names quoted t → take (length ws - from) (drop from ws) ≡ encode t ++ z → Walked ink (text_in names quoted t) (length (encode t)) m f f' s) where
            child : Walked ink (text_in names quoted next.first) (length (encode next.first)) m f f' s
            child = c next.first (encode_all next.rest ++ g.whole.rest) next_fits (rest-is from ws ∙ next_place)

            -- nor for the part itself
            pub part-full : s ≡ None → Left ink (parts_text names quoted false (parts_of g.whole.term)) opened d f' None
            part-full u = left_is (sym next-text) (left-then g.laid to refl (left-then k m q (left-full (stopped_by child u) (parts_text names quoted true next.rest) refl)))

            module _ (step : Step) (u : s ≡ Some step) where
              laid-child : (step.used ≡ length (encode next.first)) × Left ink (text_in names quoted next.first) m f f' (Some step.end)
              laid-child = walked_by child step u

              pub part-inside : from + step.used ≤ length ws
              part-inside =
                  let l : length (encode_all g.todo) ≡ length (encode next.first) + length (encode_all next.rest) = next-length in
                  omega (arith, g.size, laid-child.0, ap length g.whole.words ∙ length-append (encode g.whole.term) g.whole.rest)

              pub going_on : Going (from + step.used) (left - 1) step.end true f'
              going_on =
                  let p = text_in names quoted next.first in
                  record {
                    whole = g.whole;
                    inner' = g.inner';
                    todo = next.rest;
                    many = omega (arith, next-count);
                    before = g.before + variables next.first;
                    fine = (both (every (spelling names) tt g.before next.first) _ next-fine).1;
                    data' = λ z. (both (is_datum next.first) (are_data next.rest) (next-data z)).1;
                    place = sym (drop-drop step.used from ws) ∙ ap (drop step.used) next_place ∙ drop_at (encode next.first) (encode_all next.rest ++ g.whole.rest) step.used (sym laid-child.0);
                    size = omega (arith, g.size, laid-child.0, next-length);
                    begun = omega (arith, g.begun);
                    sofar = g.sofar ++ (gap_text wanted ++ p);
                    text = next-text ∙ simp append_assoc;
                    laid = left-then g.laid to refl (left-then k m q laid-child.1);
                  }

      -- the whole row
      abbrev Row' : List ℕ
      Row' = row_text names g.whole.term

      row_is : parts_text names quoted false (parts_of g.whole.term) ≡ Row'
      row_is = ap (λ (z : Bool). parts_text names z false (parts_of g.whole.term)) g.inner'

      pub row-stops : (f : List ℕ) → Left ink (parts_text names quoted false (parts_of g.whole.term)) opened d f None → {s : Option Step} → s ≡ None → Walked ink Row' (length (encode g.whole.term)) opened d f s
      row-stops f l {s} k = rw k (stopped (left_is row_is l))

      pub row_walked : left ≡ 0 → Walked ink Row' (length (encode g.whole.term)) opened d e (Some (record { used = from; end = to }))
      row_walked h = walked (going_end h).0 (left_is row_is (going_end h).1)

  -- ---- the whole

  module _ (inner ink : Bool) (ws : List ℕ) (b : Begins names inner ws) (at : ℕ) (d₀ d : List ℕ) (r : Option ℕ) (o : Left ink (opening names inner (node b.term)) at d₀ d r) where
    abbrev Parts : List ℕ
    Parts = row_text names b.term

    abbrev Text : List ℕ
    Text = text_in names inner b.term

    abbrev size : ℕ
    size = length (encode b.term)

    all-text : opening names inner (node b.term) ++ (Parts ++ closing inner (node b.term)) ≡ Text
    all-text = sym (pieces names inner b.term b.fits.datum)

    pub open-stops : r ≡ None → {s : Option Step} → s ≡ None → Walked ink Text size at d₀ d s
    open-stops h {s} k = rw k (stopped (left_is all-text (left-full o _ h)))

    module _ (begun : ℕ) (h : r ≡ Some begun) where
      after-parts : (to used : ℕ) (e f : List ℕ) (s : Option Step) → Left ink Parts begun d e (Some to) → used ≡ size → Walked ink (closing inner (node b.term)) used to e f s → Walked ink Text size at d₀ f s
      after-parts to used e f s l n (walked m k) = walked (m ∙ n) (left_is all-text (left-then o begun h (left-then l to refl k)))
      after-parts to used e f s l n (stopped k) = stopped (left_is all-text (left-then o begun h (left-then l to refl k)))

      -- a node without parts
      pub alone-walked : (shape : Shape) → ShapedAt ws shape → shape.parts ≡ 0 → begun ≤ length d → (f : List ℕ) (s : Option Step)
          → Walked ink (closing inner (node b.term)) shape.own begun d f s → Walked ink Text size at d₀ f s
      unfolding parts_text encode
      alone-walked shape k z l f s w =
          let x = node b.term in
          let i : Shaped x shape = k x (encode_all (parts_of b.term) ++ b.rest) (begins-node inner ws b) in
          let none : parts_of b.term ≡ none_c = none_left (parts_of b.term) (count-parts b.term ∙ sym i.rest ∙ z) in
          let n : shape.own ≡ size = i.own ∙ sym (ap length (encode-parts b.term ∙ ap (λ (ts : Plains). node_words x ++ encode_all ts) none ∙ append-nil (node_words x))) in
          after-parts begun shape.own d f s (left_is (sym (ap (parts_text names (is_list_node x) false) none)) (left-none ink begun d l)) n w

      module _ (e : List ℕ) (s : Option Step) (c : (t : Plain) (z : List ℕ) → Fits names false t → ws ≡ encode t ++ z → Walked ink (row_text names t) (length (encode t)) begun d e s) where
        row : Walked ink Parts size begun d e s
        unfolding begins-loose
        row = let l = begins-loose inner ws b in c b.term b.rest l.fits b.words

        pub parts-stop : s ≡ None → {s' : Option Step} → s' ≡ None → Walked ink Text size at d₀ e s'
        parts-stop k {s'} i = rw i (stopped (left_is all-text (left-then o begun h (left-full (stopped_by row k) _ refl))))

        module _ (step : Step) (k : s ≡ Some step) where
          pub parts-room : step.end ≤ length e
          parts-room = left-room (walked_by row step k).1 step.end refl

          pub all-walked : (f : List ℕ) (s' : Option Step) → Walked ink (closing inner (node b.term)) step.used step.end e f s' → Walked ink Text size at d₀ f s'
          all-walked f s' w = after-parts step.end step.used e f s' (walked_by row step k).1 (walked_by row step k).0 w
