-- What an opened node says of the term that stands at its place.
use Rattle.std.proofs.Math.Path.{◌≡◌, ap, subst}
use Rattle.std.specs.Prelude.{refl, ℕ, ◌+◌, ◌≤◌, take}
use Rattle.std.proofs.Common.{◌∙◌, arith}
use mathlib.Core.List.{List, [], ◌++◌}
use Rattle.std.proofs.Math.ListN.{length, drop, length-append, length-drop}
use Rattle.std.proofs.Math.Seq.{length-take-le}
use Rattle.words.specs.ListLaws.{rest-is}
use Rattle.datum.specs.Constant.{integer, boolean, decimal}
use Rattle.datum.specs.Datum.{constant_d, name_d, list_d, Data}
use Rattle.datum.specs.Datum as D
use Rattle.core_term.specs.Node as N
use Rattle.core_term.specs.Node.{got, node_at}
use Rattle.core_term.specs.Term.{variable_c, operation_c, datum_c, if_c, lambda_c, application_c, Plain, Plains, count}
use Rattle.core_term.specs.Words.{encode, encode_all}
use Rattle.core_term.specs.Parts.{node, parts_of, datum_node}
use Rattle.core_term.specs.PartsLaws.{encode-two}
use Rattle.core_term.specs.Code.Opened.{node_in}
use Rattle.core_term.specs.Code.Walk.{rest}
use Rattle.core_term.specs.declared.nodes.Node.{Node}
use Rattle.core_term.specs.declared.nodes.Node.TheVariants.{Variable, Operation, Integer, Boolean, Decimal, Name, List as Several, If, Lambda, Application}
use Rattle.runner.specs.Here.{Here, here-node, Branches, Parts, here-if, here-body, here-application}

-- ---- terms of a node that has parts

pub record IsList (n : ℕ) (t : Plain) : Type 0 where
  pub them : Data
  pub many : D.count them ≡ n
  pub is : t ≡ datum_c (list_d them)

pub record IsIf (ws : List ℕ) (at : ℕ) (t : Plain) : Type 0 where
  pub test : Plain
  pub yes : Plain
  pub no : Plain
  pub is : t ≡ if_c test yes no
  pub branches : Branches ws at test yes no

pub record IsLambda (ws : List ℕ) (at first formals : ℕ) (t : Plain) : Type 0 where
  pub names : List ℕ
  pub body : Plain
  pub many : length names ≡ formals
  pub is : t ≡ lambda_c first names body
  pub inner : Here ws (at + (3 + length names)) body

pub record IsApplication (ws : List ℕ) (at left : ℕ) (t : Plain) : Type 0 where
  pub head : Plain
  pub operands : Plains
  pub many : count operands ≡ left
  pub is : t ≡ application_c head operands
  pub parts : Parts ws at head operands

-- ---- by the node

module _ (ws : List ℕ) (at : ℕ) (t : Plain) where
  abbrev pub NodeIs : Node → Type 0
  NodeIs (Variable n) = t ≡ variable_c n
  NodeIs (Operation p) = t ≡ operation_c p
  NodeIs (Integer w) = t ≡ datum_c (constant_d (integer w))
  NodeIs (Boolean w) = t ≡ datum_c (constant_d (boolean w))
  NodeIs (Decimal w p) = t ≡ datum_c (constant_d (decimal w p))
  NodeIs (Name n) = t ≡ datum_c (name_d n)
  NodeIs (Several n) = IsList n t
  NodeIs If = IsIf ws at t
  NodeIs (Lambda first formals) = IsLambda ws at first formals t
  NodeIs (Application left) = IsApplication ws at left t

-- ---- from the place

-- a term by its own node
abbrev Is : (ws : List ℕ) (at : ℕ) (t : Plain) → N.Node → Type 0
Is ws at t (N.variable_n n) = t ≡ variable_c n
Is ws at t (N.operation_n p) = t ≡ operation_c p
Is ws at t (N.constant_n a) = t ≡ datum_c (constant_d a)
Is ws at t (N.name_n n) = t ≡ datum_c (name_d n)
Is ws at t (N.list_n n) = IsList n t
Is ws at t N.if_n = IsIf ws at t
Is ws at t (N.lambda_n first names) = IsLambda ws at first (length names) t
Is ws at t (N.application_n n) = IsApplication ws at n t

own-node : {ws : List ℕ} {at : ℕ} (t : Plain) → Here ws at t → Is ws at t (node t)
unfolding node datum_node
own-node (variable_c n) h = refl
own-node (operation_c p) h = refl
own-node (datum_c (constant_d a)) h = refl
own-node (datum_c (name_d n)) h = refl
own-node (datum_c (list_d ds)) h = record { them = ds; many = refl; is = refl }
own-node (if_c x y z) h = record { test = x; yes = y; no = z; is = refl; branches = here-if x y z h }
own-node (lambda_c first names body) h = record { names = names; body = body; many = refl; is = refl; inner = here-body first names body h }
own-node (application_c f ts) h = record { head = f; operands = ts; many = refl; is = refl; parts = here-application f ts h }

module _ {ws : List ℕ} {at : ℕ} (t : Plain) (h : Here ws at t) where
  same-node : (x : N.Node) (r left : List ℕ) → got x r ≡ got (node t) left → Is ws at t x
  same-node x r left e = let k : node t ≡ x = cc in subst (Is ws at t) k (own-node t h)

  -- a lambda's names are all there: its body comes behind them
  names-there : (first formals : ℕ) (names : List ℕ) → IsLambda ws at first (length (take formals (drop 3 names))) t → drop (3 + formals) names ≡ encode_all (parts_of t) ++ h.begins.rest
      → length (take formals (drop 3 names)) ≡ formals
  unfolding encode parts_of
  names-there first formals names i e =
      let p : encode_all (parts_of t) ≡ encode i.body ++ [] = ap (λ (u : Plain). encode_all (parts_of u)) i.is in
      let l : 2 ≤ length (drop (3 + formals) names) =
      rw (e, p) (omega (arith, encode-two i.body, length-append (encode i.body ++ []) h.begins.rest, length-append (encode i.body) [])) in
      length-take-le formals (drop 3 names) (omega (arith, l, length-drop (3 + formals) names, length-drop 3 names))

  by-node : (n : Node) → node_in (rest at ws) n ≡ got (node t) (encode_all (parts_of t) ++ h.begins.rest) → NodeIs ws at t n
  unfolding node_in
  by-node (Variable n) e = same-node _ _ _ e
  by-node (Operation p) e = same-node _ _ _ e
  by-node (Integer w) e = same-node _ _ _ e
  by-node (Boolean w) e = same-node _ _ _ e
  by-node (Decimal w p) e = same-node _ _ _ e
  by-node (Name n) e = same-node _ _ _ e
  by-node (Several n) e = same-node _ _ _ e
  by-node If e = same-node _ _ _ e
  by-node (Lambda first formals) e =
      let i : IsLambda ws at first (length (take formals (drop 3 (rest at ws)))) t = same-node _ _ _ e in
      let d : drop (3 + formals) (rest at ws) ≡ encode_all (parts_of t) ++ h.begins.rest = cc in
      subst (λ (k : ℕ). IsLambda ws at first k t) (names-there first formals (rest at ws) i d) i
  by-node (Application left) e = same-node _ _ _ e

-- a node that was opened at a place tells the term there
pub node-is : {ws : List ℕ} {at : ℕ} (t : Plain) (n : Node) → Here ws at t → node_in (rest at ws) n ≡ node_at (rest at ws) → NodeIs ws at t n
node-is {ws} {at} t n h e = by-node t h n (e ∙ ap node_at (rest-is at ws) ∙ here-node t h)
