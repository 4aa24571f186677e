-- Laws of opening: in the code's shape, then what the shape of an opened node says.
use Rattle.std.proofs.Math.Path.{◌≡◌, refl, sym, subst}
use Rattle.std.proofs.Common.{ap, ◌∙◌}
use Rattle.std.specs.declared.option.Option.{Option}
use Rattle.std.specs.Prelude.{Some, None, false, List, ℕ, zero, suc, ◌+◌, ◌≤◌, ◌<◌, take, drop}
use native.Mathlib.Omega.{arith}
use Rattle.std.proofs.Math.Numerals.{add-one}
use Rattle.std.proofs.Math.ListN.{length, get_or, length-drop}
use Rattle.std.proofs.Math.Seq.{length-take-le}
use borrow.Author.Tests.{lt-ltb, le-ltb, le-leb, lt-leb}
use Rattle.words.specs.Limits.{places_most, formals_most}
use Rattle.words.specs.Lists.{within}
use Rattle.words.specs.TestLaws.{within-is}
use Rattle.datum.specs.Constant.{is_constant, constant_words, integer, boolean, decimal}
use Rattle.core_term.specs.Node as N
use Rattle.core_term.specs.Node.{got, missing, sound, is_node, node_at, node_words, parts, binds, is_list_node, variable_code, operation_code, integer_code, boolean_code, name_code, list_code, if_code, lambda_code, application_code, decimal_code}
use Rattle.core_term.specs.CodeLaws.{at-past, variable-at, operation-at, integer-at, boolean-at, name-at, list_at, if-at, names_at, lambda-at, application-at, decimal-at}
use Rattle.core_term.specs.declared.nodes.Node.{Node}
use Rattle.core_term.specs.declared.nodes.Shape.{Shape}
use Rattle.core_term.specs.declared.nodes.Node.TheVariants.{Variable, Operation, Integer, Boolean, Decimal, Name, List as Several, If, Lambda, Application}
use Rattle.core_term.specs.Code.Opened.{node_in, opened_in, shape_in, Shaped, ShapedAt, ShapeAt, OpenedAs, ReadAs}

-- ---- laws in the code's shape

module _ (ws : List ℕ) where
  pub opened-if : 1 ≤ length ws → get_or ws 0 0 ≡ if_code → OpenedAs ws If
  unfolding node_in shape_in
  opened-if l e = record { is = sym (if-at ws l e); room = l }

  module _ (l : 2 ≤ length ws) where
    pub opened-variable : get_or ws 0 0 ≡ variable_code → OpenedAs ws (Variable (get_or ws 1 0))
    unfolding node_in shape_in
    opened-variable e = record { is = sym (variable-at ws l e); room = l }

    pub opened-operation : get_or ws 0 0 ≡ operation_code → OpenedAs ws (Operation (get_or ws 1 0))
    unfolding node_in shape_in
    opened-operation e = record { is = sym (operation-at ws l e); room = l }

    pub opened-integer : get_or ws 0 0 ≡ integer_code → OpenedAs ws (Integer (get_or ws 1 0))
    unfolding node_in shape_in
    opened-integer e = record { is = sym (integer-at ws l e); room = l }

    pub opened-name : get_or ws 0 0 ≡ name_code → OpenedAs ws (Name (get_or ws 1 0))
    unfolding node_in shape_in
    opened-name e = record { is = sym (name-at ws l e); room = l }

    pub opened-list : get_or ws 0 0 ≡ list_code → OpenedAs ws (Several (get_or ws 1 0))
    unfolding node_in shape_in
    opened-list e = record { is = sym (list_at ws l e); room = l }

    pub opened-application : get_or ws 0 0 ≡ application_code → OpenedAs ws (Application (get_or ws 1 0))
    unfolding node_in shape_in
    opened-application e = record { is = sym (application-at ws l e); room = l }

    pub opened-boolean : get_or ws 0 0 ≡ boolean_code → get_or ws 1 0 ≤ 1 → OpenedAs ws (Boolean (get_or ws 1 0))
    unfolding node_in shape_in sound is_node is_constant boolean
    opened-boolean e h = let k : get_or ws 1 0 < 2 = omega arith in record { is = sym (boolean-at ws l e ∙ rw (lt-ltb _ _ k)); room = l }

    pub opened-no-boolean : get_or ws 0 0 ≡ boolean_code → 1 < get_or ws 1 0 → ReadAs ws None
    unfolding sound is_node is_constant boolean
    opened-no-boolean e h = let k : 2 ≤ get_or ws 1 0 = omega arith in boolean-at ws l e ∙ rw (le-ltb _ _ k)

  module _ (l : 3 ≤ length ws) (e : get_or ws 0 0 ≡ decimal_code) where
    pub opened-decimal : 1 ≤ get_or ws 2 0 → get_or ws 2 0 ≤ places_most → OpenedAs ws (Decimal (get_or ws 1 0) (get_or ws 2 0))
    unfolding node_in shape_in sound is_node is_constant decimal
    opened-decimal a b = record { is = sym (decimal-at ws l e ∙ rw (within-is 1 places_most (get_or ws 2 0) a b)); room = l }

    pub opened-no-decimal : within 1 places_most (get_or ws 2 0) ≡ false → ReadAs ws None
    unfolding sound is_node is_constant decimal
    opened-no-decimal a = decimal-at ws l e ∙ rw a

  module _ (l : 3 + get_or ws 2 0 ≤ length ws) (e : get_or ws 0 0 ≡ lambda_code) where
    count-is : length (names_at ws) ≡ get_or ws 2 0
    count-is = length-take-le (get_or ws 2 0) (drop 3 ws) (omega (arith, length-drop 3 ws))

    pub opened-lambda : get_or ws 2 0 ≤ formals_most → OpenedAs ws (Lambda (get_or ws 1 0) (get_or ws 2 0))
    unfolding node_in shape_in sound is_node
    opened-lambda h = record { is = sym (lambda-at ws l e ∙ rw (count-is, le-leb _ _ h)); room = l }

    pub opened-no-lambda : formals_most < get_or ws 2 0 → ReadAs ws None
    unfolding sound is_node
    opened-no-lambda h = lambda-at ws l e ∙ rw (count-is, lt-leb _ _ h)

-- none of the codes
pub past-codes : (w : ℕ) → (w ≡ 0 → ⊥) → (w ≡ 1 → ⊥) → (w ≡ 2 → ⊥) → (w ≡ 3 → ⊥) → (w ≡ 4 → ⊥) → (w ≡ 5 → ⊥) → (w ≡ 6 → ⊥) → (w ≡ 7 → ⊥) → (w ≡ 8 → ⊥) → (w ≡ 9 → ⊥) → decimal_code < w
past-codes zero a b c d e f g h i j = absurd (a refl)
past-codes (suc zero) a b c d e f g h i j = absurd (b refl)
past-codes (suc (suc zero)) a b c d e f g h i j = absurd (c refl)
past-codes (suc (suc (suc zero))) a b c d e f g h i j = absurd (d refl)
past-codes (suc (suc (suc (suc zero)))) a b c d e f g h i j = absurd (e refl)
past-codes (suc (suc (suc (suc (suc zero))))) a b c d e f g h i j = absurd (f refl)
past-codes (suc (suc (suc (suc (suc (suc zero)))))) a b c d e f g h i j = absurd (g refl)
past-codes (suc (suc (suc (suc (suc (suc (suc zero))))))) a b c d e f g h i j = absurd (h refl)
past-codes (suc (suc (suc (suc (suc (suc (suc (suc zero)))))))) a b c d e f g h i j = absurd (i refl)
past-codes (suc (suc (suc (suc (suc (suc (suc (suc (suc zero))))))))) a b c d e f g h i j = absurd (j refl)
past-codes (suc (suc (suc (suc (suc (suc (suc (suc (suc (suc w)))))))))) a b c d e f g h i j = omega arith

pub opened-past : (ws : List ℕ) → decimal_code < get_or ws 0 0 → ReadAs ws None
opened-past ws h = at-past ws h

-- ---- the shape of an opened node

same_shape : (n : Node) (y : N.Node) (s : List ℕ) (x : N.Node) (r : List ℕ) → Shaped y (shape_in n) → got y s ≡ got x r → Shaped x (shape_in n)
same_shape n y s x r h e = let k : y ≡ x = cc in subst (λ (z : N.Node). Shaped z (shape_in n)) k h

module _ (ws : List ℕ) where
  -- where a lambda's names are all there
  by_names : (n : Node) (x : N.Node) (r : List ℕ) → node_in ws n ≡ got x r → ((first count : ℕ) → n ≡ Lambda first count → 3 + count ≤ length ws) → Shaped x (shape_in n)
  unfolding node_in shape_in node_words constant_words integer boolean decimal binds parts is_list_node
  by_names (Variable n) x r e l = same_shape (Variable n) _ _ x r (record { own = refl; names = refl; rest = refl; inner = refl }) e
  by_names (Operation n) x r e l = same_shape (Operation n) _ _ x r (record { own = refl; names = refl; rest = refl; inner = refl }) e
  by_names (Integer w) x r e l = same_shape (Integer w) _ _ x r (record { own = refl; names = refl; rest = refl; inner = refl }) e
  by_names (Boolean w) x r e l = same_shape (Boolean w) _ _ x r (record { own = refl; names = refl; rest = refl; inner = refl }) e
  by_names (Decimal w p) x r e l = same_shape (Decimal w p) _ _ x r (record { own = refl; names = refl; rest = refl; inner = refl }) e
  by_names (Name n) x r e l = same_shape (Name n) _ _ x r (record { own = refl; names = refl; rest = refl; inner = refl }) e
  by_names (Several n) x r e l = same_shape (Several n) _ _ x r (record { own = refl; names = refl; rest = refl; inner = refl }) e
  by_names If x r e l = same_shape If _ _ x r (record { own = refl; names = refl; rest = refl; inner = refl }) e
  by_names (Lambda first count) x r e l =
      let c : length (take count (drop 3 ws)) ≡ count = length-take-le count (drop 3 ws) (omega (arith, length-drop 3 ws, l first count refl)) in
      same_shape (Lambda first count) _ _ x r (record { own = omega (arith, c); names = sym c; rest = refl; inner = refl }) e
  by_names (Application n) x r e l = same_shape (Application n) _ _ x r (record { own = refl; names = refl; rest = add-one n; inner = refl }) e

  pub shaped-opened : (n : Node) → OpenedAs ws n → (s : Shape) → s ≡ shape_in n → ShapedAt ws s
  unfolding shape_in
  shaped-opened n o s i x r e =
      subst (λ (z : Shape). Shaped x z) (sym i)
      (by_names n x r (o.is ∙ e) (λ first count h. subst (λ (m : Node). (shape_in m).own ≤ length ws) h o.room))

-- ---- an answer that may be none

module _ (ws : List ℕ) (o : Option Node) where
  pub read-opened : ReadAs ws o → opened_in ws o ≡ node_at ws
  unfolding opened_in
  read-opened h = go o h
    where
      go : (p : Option Node) → ReadAs ws p → opened_in ws p ≡ node_at ws
      go None h = sym h
      go (Some n) h = h.is

  pub read-some : ReadAs ws o → (n : Node) → o ≡ Some n → OpenedAs ws n
  read-some h n e = subst (ReadAs ws) e h

  pub read-none : ReadAs ws o → o ≡ None → node_at ws ≡ missing
  read-none h e = subst (ReadAs ws) e h

  module _ (h : opened_in ws o ≡ node_at ws) where
    -- the node that was opened
    pub opened-some : (n : Node) → o ≡ Some n → node_in ws n ≡ node_at ws
    unfolding opened_in
    opened-some n e = sym (ap (opened_in ws) e) ∙ h

    -- none was: none is there
    pub opened-none : o ≡ None → node_at ws ≡ missing
    unfolding opened_in
    opened-none e = sym h ∙ ap (opened_in ws) e

    pub opened-here : (x : N.Node) (r : List ℕ) → node_at ws ≡ got x r → o ≡ None → ⊥
    opened-here x r i e = let z : missing ≡ got x r = sym (opened-none e) ∙ i in let y : ◌≡◌ {A = ℕ} 0 1 = cc in omega arith

module _ (ws : List ℕ) (o : Option Shape) (h : ShapeAt ws o) where
  pub shape-some : (s : Shape) → o ≡ Some s → ShapedAt ws s
  shape-some s e = subst (ShapeAt ws) e h

  pub shape-none : o ≡ None → node_at ws ≡ missing
  shape-none e = subst (ShapeAt ws) e h

  -- where a node is, its shape is told
  pub shape-here : (x : N.Node) (r : List ℕ) → node_at ws ≡ got x r → o ≡ None → ⊥
  shape-here x r i e = let z : missing ≡ got x r = sym (shape-none e) ∙ i in let y : ◌≡◌ {A = ℕ} 0 1 = cc in omega arith
