-- Whether an opened node may stand where it stands.
use Rattle.std.specs.Prelude.{◌≡◌, Bool, false, not, ◌&&◌, List, ℕ, ◌+◌, ◌-◌, ◌≤◌, ltb, drop, Some, None}
use Rattle.std.specs.declared.option.Option.{Option}
use Rattle.std.specs.Bool.{then_some}
use Rattle.std.proofs.Math.Path.{ap, subst}
use Rattle.std.proofs.Common.{sym, ◌∙◌}
use Rattle.std.proofs.Math.Bool.{true, and-true, and-false}
use native.Mathlib.Omega.{arith}
use Rattle.std.proofs.Math.Nat.{add-zero}
use Rattle.std.proofs.Math.Dec.{leb}
use Rattle.std.proofs.Math.ListN.{length, take, length-drop}
use Rattle.std.proofs.Math.Seq.{length-take-le}
use borrow.Author.Tests.{eq-eqb, ne_eqb}
use Rattle.words.specs.Limits.{formals_most}
use Rattle.words.specs.Lists.{all_of}
use Rattle.datum.specs.Constant.{Constant, is_constant}
use Rattle.core_term.specs.Node as N
use Rattle.core_term.specs.Node.{got, node_at, is_node, is_datum_node, binds}
use Rattle.core_term.specs.NodeLaws.{node-read}
use Rattle.core_term.specs.declared.nodes.Node.{Node}
use Rattle.core_term.specs.declared.nodes.Node.TheVariants.{Variable, Operation, Name, List as Several, If, Lambda, Application}
use Rattle.core_term.specs.Code.Opened.{node_in, shape_in, OpenedAs}
use Rattle.core_term.specs.Code.Window.{noted, allowed, window, head_of}

module _ (operations base : ℕ) (name_good : ℕ → Bool) (flags : List ℕ) (b : ℕ) (q : Bool) (ws : List ℕ) where
  abbrev pub Answer : Node → Option ℕ
  Answer n = head_of (window operations name_good base) q flags b (node_in ws n)

  -- none but a datum inside quote
  pub head-quoted : (n : Node) (x : N.Node) (r : List ℕ) → node_in ws n ≡ got x r → is_datum_node x ≡ false → q ≡ true → None ≡ Answer n
  unfolding head_of
  head-quoted n x r e d h = rw (e, d, h)

  pub head-constant : (n : Node) → OpenedAs ws n → (a : Constant) (r : List ℕ) → node_in ws n ≡ got (N.constant_n a) r → Some b ≡ Answer n
  unfolding head_of window allowed is_datum_node is_node binds
  head-constant n o a r e = let p : is_constant a ≡ true = (node-read ws (N.constant_n a) r (sym o.is ∙ e)).proper in rw (e, p, add-zero)

  pub head-list : (n : ℕ) → Some b ≡ Answer (Several n)
  unfolding head_of node_in window allowed is_datum_node binds
  head-list n = rw add-zero

  pub head-name : (n : ℕ) → then_some (name_good n) b ≡ Answer (Name n)
  unfolding head_of node_in window allowed binds is_datum_node
  head-name n = rw add-zero

  pub head-variable : (n : ℕ) → q ≡ false → then_some (ltb n b && noted base flags n) b ≡ Answer (Variable n)
  unfolding head_of node_in window allowed binds is_datum_node
  head-variable n h = rw (h, add-zero)

  pub head-operation : (n : ℕ) → q ≡ false → then_some (ltb n operations) b ≡ Answer (Operation n)
  unfolding head_of node_in window allowed binds is_datum_node
  head-operation n h = rw (h, add-zero)

  pub head-if : then_some (not q) b ≡ Answer If
  unfolding head_of node_in window allowed binds is_datum_node
  head-if = rw (add-zero, and-true)

  pub head-application : (n : ℕ) → then_some (not q) b ≡ Answer (Application n)
  unfolding head_of node_in window allowed binds is_datum_node
  head-application n = rw (add-zero, and-true)

  module _ (n : Node) (o : OpenedAs ws n) (first count : ℕ) (is : n ≡ Lambda first count) where
    pub lambda-room : 3 + count ≤ length ws
    unfolding shape_in
    lambda-room = subst (λ (m : Node). (shape_in m).own ≤ length ws) is o.room

    -- another first number
    pub lambda-other : q ≡ false → (first ≡ b → ⊥) → None ≡ Answer n
    unfolding head_of node_in window allowed is_datum_node
    lambda-other h k = rw (is, h, ne_eqb _ _ k, and-false)

    pub head-lambda : (m k : ℕ) → m ≡ count → k ≡ count → q ≡ false → first ≡ b → then_some (all_of name_good (take (3 + m - 3) (drop 3 ws))) (b + k) ≡ Answer n
    unfolding head_of node_in window allowed is_datum_node binds is_node
    head-lambda m k i j h f =
        let names = take count (drop 3 ws) in
        let e : node_in ws n ≡ got (N.lambda_n first names) (drop (3 + count) ws) = ap (node_in ws) is in
        let p : leb (length names) formals_most ≡ true = (node-read ws (N.lambda_n first names) (drop (3 + count) ws) (sym o.is ∙ e)).proper in
        let c : length names ≡ count = length-take-le count (drop 3 ws) (omega (arith, length-drop 3 ws, lambda-room)) in
        let l : 3 + m - 3 ≡ count = omega arith in
        rw (l, is, h, p, eq-eqb _ _ f, c, j)
