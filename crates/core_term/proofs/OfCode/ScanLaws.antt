-- Going through the words of a term node by node, with the names that its lambdas hold one after another.
use Rattle.std.specs.Prelude.{◌≡◌, true, ℕ, suc, ◌+◌, ◌-◌, ◌≤◌, ◌<◌, take, drop}
use Rattle.std.proofs.Math.Path.{refl, ap}
use Rattle.std.proofs.Common.{sym, subst, ◌∙◌, arith, add-zero, length-append, drop_at, drop-drop, take_at, length-take-le}
use mathlib.Core.List.{List, [], ◌++◌, append_assoc, append-nil}
use Rattle.std.proofs.Math.ListN.{length, length-drop}
use Rattle.std.proofs.Math.Seq.{drop-length}
use Rattle.std.proofs.lemmas.List.{drop-append-le}
use Rattle.words.specs.ListLaws.{rest-is}
use Rattle.datum.specs.Constant.{constant_words}
use Rattle.datum.specs.Datum.{constant_d, name_d, list_d, Data, none_d, more_d}
use Rattle.core_term.specs.Node.{Node, got, node_at, node_words, is_node, binds, variable_n, operation_n, constant_n, name_n, list_n, if_n, lambda_n, application_n}
use Rattle.core_term.specs.NodeLaws.{both, node-round, node-some}
use Rattle.core_term.specs.declared.nodes.Shape.{Shape}
use Rattle.core_term.specs.Code.Opened.{Shaped, ShapedAt}
use Rattle.core_term.specs.Term.{variable_c, operation_c, datum_c, if_c, lambda_c, application_c, none_c, more_c, Plain, Plains, variables, variables_all, formals_of, formals_all}
use Rattle.core_term.specs.Term as T
use Rattle.core_term.specs.Words.{encode, encode_all}
use Rattle.core_term.proofs.DecodeLaws.{encode-decode}
use Rattle.core_term.specs.Every.{every, every_term, proper, well_formed}
use Rattle.core_term.specs.Parts.{node, parts_of, quoted, datum_node, datum_parts}
use Rattle.core_term.specs.PartsLaws.{encode-parts, encode-two, every-parts, count-parts, variables-parts}
use Rattle.core_term.specs.Code.WindowLaws.{case}
use Rattle.core_term.specs.Code.Walk.{rest}
use Rattle.core_term.specs.Code.Scan.{IsTerm, NodeHere, Scan, called_in, join, names_from, node_names}

-- ---- rows of terms, one behind the other

pub join-words : (ts us : Plains) → encode_all (join ts us) ≡ encode_all ts ++ encode_all us
unfolding join encode
join-words none_c us = refl
join-words (more_c t ts) us = ap (λ (z : List ℕ). encode t ++ z) (join-words ts us) ∙ sym (append_assoc (encode t) (encode_all ts) (encode_all us))

join-formals : (ts us : Plains) → formals_all (join ts us) ≡ formals_all ts ++ formals_all us
unfolding join formals_of
join-formals none_c us = refl
join-formals (more_c t ts) us = ap (λ (z : List ℕ). formals_of t ++ z) (join-formals ts us) ∙ sym (append_assoc (formals_of t) (formals_all ts) (formals_all us))

pub join-count : (ts us : Plains) → T.count (join ts us) ≡ T.count ts + T.count us
unfolding join T.count
join-count none_c us = omega arith
join-count (more_c t ts) us = omega (arith, join-count ts us)

pub join-fine : (ts us : Plains) (b : ℕ) → every_term proper tt b ts ≡ true → every_term proper tt (b + variables_all ts) us ≡ true → every_term proper tt b (join ts us) ≡ true
unfolding join every variables
join-fine none_c us b f g = subst (λ (n : ℕ). every_term proper tt n us ≡ true) (add-zero b) g
join-fine (more_c t ts) us b f g =
    let p = both (every proper tt b t) _ f in
    let e : b + (variables t + variables_all ts) ≡ b + variables t + variables_all ts = omega arith in
    rw p.0 (join-fine ts us (b + variables t) p.1 (subst (λ (n : ℕ). every_term proper tt n us ≡ true) e g))

-- ---- a term's names, by its node and parts

names-quoted : (ds : Data) → formals_all (quoted ds) ≡ []
unfolding formals_of quoted
names-quoted none_d = refl
names-quoted (more_d d ds) = names-quoted ds

names-parts : (t : Plain) → formals_of t ≡ node_names (node t) ++ formals_all (parts_of t)
unfolding formals_of node_names node parts_of datum_node datum_parts
names-parts (variable_c n) = refl
names-parts (operation_c n) = refl
names-parts (datum_c (constant_d a)) = refl
names-parts (datum_c (name_d n)) = refl
names-parts (datum_c (list_d ds)) = sym (names-quoted ds)
names-parts (if_c x y z) = rw (append-nil (formals_of z))
names-parts (lambda_c first names body) = rw (append-nil (formals_of body))
names-parts (application_c h ts) = refl

names-bound : (x : Node) → length (node_names x) ≡ binds x
unfolding node_names binds
names-bound (variable_n n) = refl
names-bound (operation_n n) = refl
names-bound (constant_n a) = refl
names-bound (name_n n) = refl
names-bound (list_n n) = refl
names-bound if_n = refl
names-bound (lambda_n first names) = refl
names-bound (application_n n) = refl

-- they are the last of its words
names-last : (x : Node) → (binds x ≤ length (node_words x)) × (drop (length (node_words x) - binds x) (node_words x) ≡ node_names x)
unfolding node_names binds node_words
names-last (variable_n n) = (omega arith, refl)
names-last (operation_n n) = (omega arith, refl)
names-last (constant_n a) = (omega arith, let e : length (constant_words a) - 0 ≡ length (constant_words a) = omega arith in rw e (drop-length (constant_words a)))
names-last (name_n n) = (omega arith, refl)
names-last (list_n n) = (omega arith, refl)
names-last if_n = (omega arith, refl)
names-last (lambda_n first names) = (omega arith, let e : suc (suc (suc (length names))) - length names ≡ 3 = omega arith in rw e)
names-last (application_n n) = (omega arith, refl)

-- ---- from node to node

pub scan-start : (ws : List ℕ) → IsTerm ws → Scan ws 0 0
unfolding called_in names_from well_formed every encode formals_of
scan-start ws (t, e) =
    let d = encode-decode ws t e in
    record {
      todo = more_c t none_c;
      before = 0;
      fine = rw d.1;
      inside = omega arith;
      place = sym d.0 ∙ sym (append-nil (encode t));
      known = omega arith;
      names = rw e (sym (append-nil (formals_of t)));
    }

-- nothing is left at the end
no-todo : (ts : Plains) → encode_all ts ≡ [] → formals_all ts ≡ []
unfolding encode formals_of
no-todo none_c e = refl
no-todo (more_c t ts) e = absurd (omega (arith, encode-two t, ap length e, length-append (encode t) (encode_all ts)))

module _ (ws : List ℕ) (at seen : ℕ) (s : Scan ws at seen) where
  pub scan-end : at ≡ length ws → seen ≡ length (called_in ws)
  scan-end h =
      let e : encode_all s.todo ≡ [] = sym s.place ∙ ap (λ (n : ℕ). drop n ws) h ∙ drop-length ws in
      let l : length (drop seen (called_in ws)) ≡ 0 = ap length (s.names ∙ no-todo s.todo e) in
      omega (arith, l, length-drop seen (called_in ws), s.known)

  -- while names are left, so are words
  pub scan-more : seen < length (called_in ws) → at < length ws
  scan-more h = case at (length ws) (λ l. l) (λ l. let e : at ≡ length ws = omega (arith, s.inside) in absurd (omega (arith, scan-end e)))

  -- the term whose node comes next
  record Next : Type 0 where
    first : Plain
    later : Plains
    is : s.todo ≡ more_c first later

  module _ (h : at < length ws) where
    next : Next
    unfolding encode
    next = go s.todo refl
      where
        go : (ts : Plains) → s.todo ≡ ts → Next
        go none_c e = absurd (omega (arith, length-drop at ws, ap length (s.place ∙ ap encode_all e)))
        go (more_c t ts) e = record { first = t; later = ts; is = e }

    abbrev term : Plain
    term = next.first

    abbrev then : Plains
    then = join (parts_of term) next.later

    next-fine : (every proper tt s.before term ≡ true) × (every_term proper tt (s.before + variables term) next.later ≡ true)
    unfolding every
    next-fine = both (every proper tt s.before term) _ (sym (ap (every_term proper tt s.before) next.is) ∙ s.fine)

    parts-fine : (is_node (node term) ≡ true) × (every_term proper tt (s.before + binds (node term)) (parts_of term) ≡ true)
    unfolding proper
    parts-fine = both (is_node (node term)) _ (sym (every-parts proper tt s.before term) ∙ next-fine.0)

    next-words : drop at ws ≡ node_words (node term) ++ encode_all then
    unfolding encode
    next-words =
        s.place ∙ ap encode_all next.is
        ∙ ap (λ (z : List ℕ). z ++ encode_all next.later) (encode-parts term)
        ∙ append_assoc (node_words (node term)) (encode_all (parts_of term)) (encode_all next.later)
        ∙ ap (λ (z : List ℕ). node_words (node term) ++ z) (sym (join-words (parts_of term) next.later))

    next-names : drop seen (called_in ws) ≡ node_names (node term) ++ formals_all then
    unfolding formals_of
    next-names =
        s.names ∙ ap formals_all next.is
        ∙ ap (λ (z : List ℕ). z ++ formals_all next.later) (names-parts term)
        ∙ append_assoc (node_names (node term)) (formals_all (parts_of term)) (formals_all next.later)
        ∙ ap (λ (z : List ℕ). node_names (node term) ++ z) (sym (join-formals (parts_of term) next.later))

    scan-node : node_at (rest at ws) ≡ got (node term) (encode_all then)
    scan-node = ap node_at (rest-is at ws ∙ next-words) ∙ node-round (node term) (encode_all then) parts-fine.0

    pub scan-here : NodeHere (rest at ws)
    scan-here = record { it = node term; left = encode_all then; is = scan-node }

    -- by its shape
    module _ (shape : Shape) (told : ShapedAt (rest at ws) shape) where
      abbrev size : ℕ
      size = shape.own

      abbrev count : ℕ
      count = shape.names

      shaped : Shaped (node term) shape
      shaped = told (node term) (encode_all then) scan-node

      size_is : size ≡ length (node_words (node term))
      size_is = shaped.own

      count-is : count ≡ length (node_names (node term))
      count-is = shaped.names ∙ sym (names-bound (node term))

      pub scan-sizes : (1 ≤ size) × (count ≤ size) × (at + size ≤ length ws) × (seen + count ≤ length (called_in ws))
      scan-sizes =
          let l = ap length next-words ∙ length-append (node_words (node term)) (encode_all then) in
          let m = ap length next-names ∙ length-append (node_names (node term)) (formals_all then) in (
            omega (arith, size_is, node-some (node term)),
            omega (arith, size_is, count-is, names-bound (node term), (names-last (node term)).0),
            omega (arith, size_is, l, length-drop at ws, s.inside),
            omega (arith, count-is, m, length-drop seen (called_in ws), s.known),
          )

      pub scan-next : Scan ws (at + size) (seen + count)
      scan-next =
          let p = parts-fine.1 in
          let e : s.before + variables term ≡ s.before + binds (node term) + variables_all (parts_of term) = omega (arith, variables-parts term) in
          record {
            todo = then;
            before = s.before + binds (node term);
            fine = join-fine (parts_of term) next.later (s.before + binds (node term)) p (subst (λ (n : ℕ). every_term proper tt n next.later ≡ true) e next-fine.1);
            inside = scan-sizes.2;
            place = sym (drop-drop size at ws) ∙ ap (drop size) next-words ∙ drop_at (node_words (node term)) (encode_all then) size (sym size_is);
            known = scan-sizes.3;
            names = sym (drop-drop count seen (called_in ws)) ∙ ap (drop count) next-names ∙ drop_at (node_names (node term)) (formals_all then) count (sym count-is);
          }

      -- how many terms are still to come; the term at a place ends where there is one less than at its beginning
      pub scan-left : suc (T.count scan-next.todo) ≡ T.count s.todo + shape.parts
      unfolding scan-next T.count
      scan-left = omega (arith, ap T.count next.is, join-count (parts_of term) next.later, count-parts term, shaped.rest)

      -- its names stand at the end of its words, and next among all
      pub scan-names : take (at + size - (at + size - count)) (drop (at + size - count) ws) ≡ take count (drop seen (called_in ws))
      scan-names =
          let z = scan-sizes in
          let x = node term in
          let n : at + size - (at + size - count) ≡ count = omega (arith, z) in
          let m : at + size - count ≡ at + (size - count) = omega (arith, z) in
          let k : size - count ≡ length (node_words x) - binds x = omega (arith, size_is, count-is, names-bound x) in
          let d : drop (at + (size - count)) ws ≡ node_names x ++ encode_all then =
          sym (drop-drop (size - count) at ws) ∙ ap (drop (size - count)) next-words
          ∙ drop-append-le (size - count) (node_words x) (encode_all then) (omega (arith, size_is))
          ∙ ap (λ (i : ℕ). drop i (node_words x) ++ encode_all then) k ∙ ap (λ (l : List ℕ). l ++ encode_all then) (names-last x).1 in
          rw (n, m, d, next-names) (take_at (node_names x) (encode_all then) count (sym count-is) ∙ sym (take_at (node_names x) (formals_all then) count (sym count-is)))

      pub scan-count : length (take (at + size - (at + size - count)) (drop (at + size - count) ws)) ≡ count
      scan-count = ap length scan-names ∙ length-take-le count (drop seen (called_in ws)) (omega (arith, scan-sizes, length-drop seen (called_in ws)))
