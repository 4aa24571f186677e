-- A term's text has at most 57 bytes a word: the most is a lambda with eight variables, of ten digits and names of 63 bytes.
use Rattle.std.specs.Prelude.{Bool, ◌&&◌, List, leb}
use Rattle.std.proofs.Math.Bool.{true}
use Prim.Native.Nat.{ℕ, ◌+◌}
use Rattle.std.proofs.Math.Dec.{ltb}
use Rattle.std.proofs.Math.ListN.{length}
use Rattle.datum.specs.Constant.{is_constant}
use Rattle.datum.specs.NameTable.{has_name}
use Rattle.core_term.specs.Node.{Node, variable_n, operation_n, constant_n, name_n, list_n, if_n, lambda_n, application_n}
use Rattle.core_term.specs.Every.{Asked}

-- bytes of text for each word
abbrev pub text_rate : ℕ
text_rate = 57

-- no variable of a term of so many words has more than ten digits
abbrev pub text_words_most : ℕ
text_words_most = 1000000000

-- ten digits
abbrev pub limit : ℕ
limit = 10000000000

-- ---- pieces

-- ---- what is asked of a node: numbers of variables that have names, names that have slots, eight variables
module _ (names called : List ℕ) where
  unfoldable pub narrow_node : Node → Bool
  narrow_node (variable_n n) = ltb n (length called)
  narrow_node (operation_n n) = ltb n limit
  narrow_node (constant_n a) = is_constant a
  narrow_node (name_n n) = has_name names n
  narrow_node (list_n n) = true
  narrow_node if_n = true
  narrow_node (lambda_n first ns) = leb (length ns) 8 && leb (first + length ns) (length called)
  narrow_node (application_n n) = true

  unfoldable pub narrow : Asked (Unit {0})
  narrow = record { test = λ e b x. narrow_node x; enter = λ e b x. e }
