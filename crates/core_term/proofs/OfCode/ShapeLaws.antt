-- Laws of the checker's walk: a node, then its parts in a row.
use Rattle.std.proofs.Math.Path.{◌≡◌, refl, sym, ap, subst}
use Rattle.std.proofs.Common.{◌∙◌, length-drop, drop_at, drop-drop}
use Rattle.std.specs.Prelude.{Bool, ◌&&◌, ◌||◌, ℕ, ◌+◌, ◌-◌, ◌≤◌, ◌<◌, length, drop}
use Rattle.std.proofs.Math.Bool.{true, false, not}
use mathlib.Core.List.{List, ◌++◌, append_assoc}
use native.Mathlib.Omega.{arith}
use Rattle.std.proofs.Math.ListN.{length-append}
use Rattle.std.proofs.Math.Seq.{drop-append_seam}
use Rattle.std.specs.Prelude.{Some, None}
use Rattle.std.specs.Bool.{then_some}
use Rattle.core_term.specs.Node.{Node, Got, got, missing, node_words, node_at, parts, binds, is_node, is_datum_node, is_list_node}
use Rattle.core_term.specs.NodeLaws.{both, node-round, node-read}
use Rattle.core_term.specs.Term.{none_c, more_c, Plain, Plains, count, variables, variables_all}
use Rattle.core_term.specs.Words.{encode, encode_all}
use Rattle.core_term.proofs.DecodeLaws.{encode-unique}
use Rattle.core_term.specs.Every.{Asked, every, every_term, proper}
use Rattle.core_term.specs.EveryLaws.{every-from}
use Rattle.core_term.specs.Parts.{node, parts_of, is_datum, are_data}
use Rattle.core_term.specs.PartsLaws.{encode-parts, every-parts, variables-parts, count-parts, list-data, Built, built}
use Rattle.core_term.specs.declared.nodes.Shape.{Shape}
use Rattle.core_term.specs.Code.Opened.{Shaped}
use Rattle.core_term.specs.Code.Window.{head_of}
use Rattle.core_term.specs.Code.Shape.{Whole, NoWhole, Row, NoRow}

-- what a wanted datum asks of a node
wanted-yes : (q d : Bool) → (q ≡ true → d ≡ true) → (d || not q) ≡ true
wanted-yes q true h = refl
wanted-yes true false h = h refl
wanted-yes false false h = refl

wanted-no : (q d : Bool) → (d || not q) ≡ true → q ≡ true → d ≡ true
wanted-no q true h e = refl
wanted-no true false h e = h
wanted-no false false h e = e

module _ (A : Asked (List ℕ)) (sane : (e : List ℕ) (b : ℕ) (x : Node) → A.test e b x ≡ true → is_node x ≡ true) where
  -- what passes is well-formed
  pub every-proper : (t : Plain) (e : List ℕ) (b : ℕ) → every A e b t ≡ true → every proper tt b t ≡ true
  unfolding proper
  every-proper t e b h =
      every-from (λ (i : Unit {0}). A) proper (b + variables t) (λ f g c. Unit {0})
      (λ f g c x r l k. sane (f tt) c x (k tt)) (λ f g c x r k. tt) (λ f g c n r. tt) t (λ i. e) tt b tt (omega arith) (λ i. h)

  -- words begin with one term only
  pub only : (t u : Plain) (r s : List ℕ) (e f : List ℕ) (b c : ℕ) → every A e b t ≡ true → every A f c u ≡ true → encode t ++ r ≡ encode u ++ s → (t ≡ u) × (r ≡ s)
  only t u r s e f b c p q h = encode-unique t u r s b c (every-proper t e b p) (every-proper u f c q) h

  module _ (q : Bool) (e : List ℕ) (b : ℕ) (ws : List ℕ) where
    -- ---- a node that may stand

    pub record Found (next : ℕ) : Type 0 where
      pub it : Node
      pub left : List ℕ
      pub is : node_at ws ≡ got it left
      pub fits : (is_datum_node it || not q) ≡ true
      pub fine : A.test e b it ≡ true
      pub then : next ≡ b + binds it

    pub found : (next : ℕ) → Some next ≡ head_of A q e b (node_at ws) → Found next
    unfolding head_of
    found next h = go (node_at ws) refl h
      where
        one : (x : Node) (r : List ℕ) → node_at ws ≡ got x r → (c : Bool) → ((is_datum_node x || not q) && A.test e b x) ≡ c → Some next ≡ then_some c (b + binds x) → Found next
        one x r i true c k =
            let z = both (is_datum_node x || not q) (A.test e b x) c in
            record { it = x; left = r; is = i; fits = z.0; fine = z.1; then = cc }
        one x r i false c k = let z : ◌≡◌ {A = ℕ} 0 1 = cc in absurd (omega arith)

        go : (g : Got Node) → node_at ws ≡ g → Some next ≡ head_of A q e b g → Found next
        go missing i k = let z : ◌≡◌ {A = ℕ} 0 1 = cc in absurd (omega arith)
        go (got x r) i k = one x r i ((is_datum_node x || not q) && A.test e b x) refl k

    -- the node of a term that the words begin with
    begins : (t : Plain) (r : List ℕ) → every A e b t ≡ true → ws ≡ encode t ++ r → node_at ws ≡ got (node t) (encode_all (parts_of t) ++ r)
    begins t r h w =
        let k : is_node (node t) ≡ true = sane e b (node t) (both (A.test e b (node t)) _ (sym (every-parts A e b t) ∙ h)).0 in
        ap node_at (w ∙ ap (λ (z : List ℕ). z ++ r) (encode-parts t) ∙ append_assoc (node_words (node t)) (encode_all (parts_of t)) r)
        ∙ node-round (node t) (encode_all (parts_of t) ++ r) k

    pub not_found : None ≡ head_of A q e b (node_at ws) → NoWhole A q e b ws
    unfolding head_of is_datum
    not_found h t r d f w =
        let x = node t in
        let p : A.test e b x ≡ true = (both (A.test e b x) _ (sym (every-parts A e b t) ∙ f)).0 in
        let o : (is_datum_node x || not q) ≡ true = wanted-yes q (is_datum_node x) d in
        let g : head_of A q e b (got x (encode_all (parts_of t) ++ r)) ≡ Some (b + binds x) = rw (o, p) in
        let k : None ≡ Some (b + binds x) = h ∙ ap (head_of A q e b) (begins t r f w) ∙ g in
        let z : ◌≡◌ {A = ℕ} 0 1 = cc in
        omega arith

    -- ---- a term by its node and parts

    whole-term : (t : Plain) (r : List ℕ) → (q ≡ true → is_datum t ≡ true) → A.test e b (node t) ≡ true → every_term A (A.enter e b (node t)) (b + binds (node t)) (parts_of t) ≡ true
        → ws ≡ node_words (node t) ++ (encode_all (parts_of t) ++ r)
        → Whole A q e b ws (length (node_words (node t)) + length (encode_all (parts_of t))) (b + binds (node t) + variables_all (parts_of t))
    whole-term t r d p f w =
        let n = length (node_words (node t)) + length (encode_all (parts_of t)) in
        let v : ws ≡ encode t ++ r = w ∙ sym (append_assoc (node_words (node t)) (encode_all (parts_of t)) r) ∙ ap (λ (z : List ℕ). z ++ r) (sym (encode-parts t)) in
        let l : n ≡ length (encode t) = sym (ap length (encode-parts t) ∙ length-append (node_words (node t)) (encode_all (parts_of t))) in
        let u : drop n ws ≡ r = ap (drop n) v ∙ drop_at (encode t) r n (sym l) in
        record {
          term = t;
          datum = d;
          fine = every-parts A e b t ∙ rw (p, f);
          words = v ∙ ap (λ (z : List ℕ). encode t ++ z) (sym u);
          size = l;
          bound = omega (arith, variables-parts t);
        }

    module _ (next : ℕ) (g : Found next) (s : Shape) (h : Shaped g.it s) where
      abbrev x : Node
      x = g.it

      start-words : ws ≡ node_words x ++ g.left
      start-words = (node-read ws x g.left g.is).words

      start-drop : drop s.own ws ≡ g.left
      start-drop = ap (λ (i : ℕ). drop i ws) h.own ∙ ap (drop (length (node_words x))) start-words ∙ drop-append_seam (node_words x) g.left

      abbrev Start : Node → Plains → Type 0
      Start y us = Whole A q e b ws (length (node_words y) + length (encode_all us)) (b + binds y + variables_all us)

      start-whole : (ts : Plains) (r : List ℕ) → Built x ts → every_term A (A.enter e b x) (b + binds x) ts ≡ true → g.left ≡ encode_all ts ++ r → Start x ts
      unfolding is_datum
      start-whole ts r m f w =
          let t = m.term in
          let d : q ≡ true → is_datum t ≡ true = λ h. ap is_datum_node m.is ∙ wanted-no q (is_datum_node x) g.fits h in
          let p : A.test e b (node t) ≡ true = ap (A.test e b) m.is ∙ g.fine in
          let k : every_term A (A.enter e b (node t)) (b + binds (node t)) (parts_of t) ≡ true = rw (m.is, m.has) f in
          let v : ws ≡ node_words (node t) ++ (encode_all (parts_of t) ++ r) = rw (m.is, m.has) (start-words ∙ ap (λ (z : List ℕ). node_words x ++ z) w) in
          subst (λ (y : Node). Start y ts) m.is (subst (λ (us : Plains). Start (node t) us) m.has (whole-term t r d p k v))

      -- what its parts are, it is
      pub row-whole : (used after : ℕ) → Row A s.quoted (A.enter e b x) next ws s.own s.parts used after → Whole A q e b ws used after
      row-whole used after k =
          let ts = k.terms in
          let m : length (node_words x) + length (encode_all ts) ≡ used = omega (arith, k.size, h.own) in
          let n : b + binds x + variables_all ts ≡ after = omega (arith, k.bound, g.then) in
          let f : every_term A (A.enter e b x) (b + binds x) ts ≡ true = subst (λ (i : ℕ). every_term A (A.enter e b x) i ts ≡ true) g.then k.fine in
          let w = start-whole ts (drop used ws) (built x ts (k.many ∙ h.rest) (λ z. k.data' (h.inner ∙ z))) f (sym start-drop ∙ k.words) in
          subst (λ (i : ℕ). Whole A q e b ws used i) n (subst (λ (i : ℕ). Whole A q e b ws i (b + binds x + variables_all ts)) m w)

      pub row-none : NoRow A s.quoted (A.enter e b x) next ws s.own s.parts → NoWhole A q e b ws
      row-none never t r d f w = refuted (begins t r f w) (sym (every-parts A e b t) ∙ f)
        where
          refuted : node_at ws ≡ got (node t) (encode_all (parts_of t) ++ r) → (A.test e b (node t) && every_term A (A.enter e b (node t)) (b + binds (node t)) (parts_of t)) ≡ true → ⊥
          refuted i y =
              let a : node t ≡ x = let z = sym i ∙ g.is in cc in
              let v : encode_all (parts_of t) ++ r ≡ g.left = let z = sym i ∙ g.is in cc in
              let u : every_term A (A.enter e b x) (b + binds x) (parts_of t) ≡ true = subst (λ (z : Node). every_term A (A.enter e b z) (b + binds z) (parts_of t) ≡ true) a (both (A.test e b (node t)) _ y).1 in
              never (parts_of t) r (count-parts t ∙ ap parts a ∙ sym h.rest) (λ z. list-data t (ap is_list_node a ∙ sym h.inner ∙ z))
              (subst (λ (i : ℕ). every_term A (A.enter e b x) i (parts_of t) ≡ true) (sym g.then) u) (start-drop ∙ sym v)

  -- ---- terms in a row

  module _ (d : Bool) (flags : List ℕ) (ws : List ℕ) where
    pub row-end : (c at : ℕ) → Row A d flags c ws at 0 at c
    unfolding count are_data encode_all every_term variables_all
    row-end c at = record { terms = none_c; many = refl; data' = λ h. refl; fine = refl; words = refl; size = omega arith; bound = omega arith }

    module _ (c at left : ℕ) (h : 0 < left) where
      -- the next is none
      pub row-stops : NoWhole A d flags c (drop at ws) → NoRow A d flags c ws at left
      unfolding count are_data encode_all every_term
      row-stops n none_c r k a f w = omega arith
      row-stops n (more_c t ts) r k a f w =
          n t (encode_all ts ++ r) (λ z. (both (is_datum t) (are_data ts) (a z)).0) (both (every A flags c t) _ f).0 (w ∙ append_assoc (encode t) (encode_all ts) r)

      -- the next takes so many words
      module _ (used after : ℕ) (t : Whole A d flags c (drop at ws) used after) where
        at_next : drop (at + used) ws ≡ drop used (drop at ws)
        at_next = sym (drop-drop used at ws)

        pub next-inside : at ≤ length ws → at + used ≤ length ws
        next-inside l =
            let m : length (drop at ws) ≡ length (encode t.term) + length (drop used (drop at ws)) = ap length t.words ∙ length-append (encode t.term) (drop used (drop at ws)) in
            omega (arith, length-drop at ws, t.size)

        pub row_more : (end last : ℕ) → Row A d flags after ws (at + used) (left - 1) end last → Row A d flags c ws at left end last
        unfolding count are_data encode_all every_term variables_all
        row_more end last k =
            let u = t.term in
            let ts = k.terms in
            record {
              terms = more_c u ts;
              many = omega (arith, k.many);
              data' = λ z. rw (t.datum z) (k.data' z);
              fine = rw (t.fine, sym t.bound) k.fine;
              words = t.words ∙ ap (λ (z : List ℕ). encode u ++ z) (sym at_next ∙ k.words) ∙ sym (append_assoc (encode u) (encode_all ts) (drop end ws));
              size = omega (arith, length-append (encode u) (encode_all ts), t.size, k.size);
              bound = omega (arith, t.bound, k.bound);
            }

        pub row-less : NoRow A d flags after ws (at + used) (left - 1) → NoRow A d flags c ws at left
        unfolding count are_data encode_all every_term variables_all
        row-less n none_c r k a f w = omega arith
        row-less n (more_c u ts) r k a f w =
            let y = both (every A flags c u) (every_term A flags (c + variables u) ts) f in
            let z = only u t.term (encode_all ts ++ r) (drop used (drop at ws)) flags flags c c y.0 t.fine (sym (append_assoc (encode u) (encode_all ts) r) ∙ sym w ∙ t.words) in
            let o : c + variables u ≡ after = ap (λ (v : Plain). c + variables v) z.0 ∙ sym t.bound in
            n ts r (omega arith) (λ h. (both (is_datum u) (are_data ts) (a h)).1) (subst (λ (i : ℕ). every_term A flags i ts ≡ true) o y.1) (at_next ∙ sym z.1)
