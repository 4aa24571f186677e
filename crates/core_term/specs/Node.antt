-- A core term's nodes: a code and the words that stand with it, as document 01's 'The core term' lists them; request L1 has the decimal's, request L5 a lambda's names.
-- node_words and node_at are the two ways between a node and its words; everything else goes by nodes.
use Rattle.std.specs.Prelude.{Bool, true, false, cond, List, [], ◌∷◌, ℕ, suc, leb, length, get_or, take, drop}
use Rattle.words.specs.Limits.{formals_most}
use Rattle.datum.specs.Constant.{Constant, is_constant, constant_words, integer, boolean, decimal}

-- ---- the codes; src/codes.rt has the same numbers for code. Those of constants are constant_words of datum/specs/Constant.antt

abbrev pub variable_code : ℕ
variable_code = 0

abbrev pub operation_code : ℕ
operation_code = 1

abbrev pub integer_code : ℕ
integer_code = 2

abbrev pub boolean_code : ℕ
boolean_code = 3

abbrev pub name_code : ℕ
name_code = 4

abbrev pub list_code : ℕ
list_code = 5

abbrev pub if_code : ℕ
if_code = 6

abbrev pub lambda_code : ℕ
lambda_code = 7

abbrev pub application_code : ℕ
application_code = 8

abbrev pub decimal_code : ℕ
decimal_code = 9

-- ---- nodes

pub data Node : Type 0 where
  variable_n operation_n : (number : ℕ) → Node
  constant_n : Constant → Node
  name_n : (number : ℕ) → Node
  list_n : (count : ℕ) → Node
  if_n : Node
  lambda_n : (first : ℕ) (names : List ℕ) → Node
  application_n : (count : ℕ) → Node

-- a node's own words
unfoldable pub node_words : Node → List ℕ
node_words (variable_n n) = variable_code ∷ n ∷ []
node_words (operation_n n) = operation_code ∷ n ∷ []
node_words (constant_n a) = constant_words a
node_words (name_n n) = name_code ∷ n ∷ []
node_words (list_n n) = list_code ∷ n ∷ []
node_words if_n = if_code ∷ []
node_words (lambda_n first names) = lambda_code ∷ first ∷ length names ∷ names
node_words (application_n n) = application_code ∷ n ∷ []

-- how many terms or data follow them
unfoldable pub parts : Node → ℕ
parts (variable_n n) = 0
parts (operation_n n) = 0
parts (constant_n a) = 0
parts (name_n n) = 0
parts (list_n n) = n
parts if_n = 3
parts (lambda_n first names) = 1
parts (application_n n) = suc n

-- how many variables it binds
unfoldable pub binds : Node → ℕ
binds (variable_n n) = 0
binds (operation_n n) = 0
binds (constant_n a) = 0
binds (name_n n) = 0
binds (list_n n) = 0
binds if_n = 0
binds (lambda_n first names) = length names
binds (application_n n) = 0

-- codes 2 to 5 and 9 begin a datum
unfoldable pub is_datum_node : Node → Bool
is_datum_node (variable_n n) = false
is_datum_node (operation_n n) = false
is_datum_node (constant_n a) = true
is_datum_node (name_n n) = true
is_datum_node (list_n n) = true
is_datum_node if_n = false
is_datum_node (lambda_n first names) = false
is_datum_node (application_n n) = false

-- the parts of a quoted list are data
unfoldable pub is_list_node : Node → Bool
is_list_node (variable_n n) = false
is_list_node (operation_n n) = false
is_list_node (constant_n a) = false
is_list_node (name_n n) = false
is_list_node (list_n n) = true
is_list_node if_n = false
is_list_node (lambda_n first names) = false
is_list_node (application_n n) = false

-- booleans are 0 or 1, decimals have 1 to 4 places, and a lambda has 0 to 8 variables
unfoldable pub is_node : Node → Bool
is_node (variable_n n) = true
is_node (operation_n n) = true
is_node (constant_n a) = is_constant a
is_node (name_n n) = true
is_node (list_n n) = true
is_node if_n = true
is_node (lambda_n first names) = leb (length names) formals_most
is_node (application_n n) = true

-- ---- the node at the beginning of words

-- what is read from words, and the words left
pub data Got (A : Type 0) : Type 0 where
  got : (it : A) (left : List ℕ) → Got A
  missing : Got A

abbrev pub Read : Type 0 → Type 0
Read A = List ℕ → Got A

unfoldable pub nothing : {A : Type 0} → Read A
nothing ws = missing

-- one that is followed by a word, or by two
unfoldable pub with_word : (ℕ → Node) → Read Node
with_word f [] = missing
with_word f (a ∷ ws) = got (f a) ws

unfoldable pub with_two : (ℕ → ℕ → Node) → Read Node
with_two f [] = missing
with_two f (a ∷ []) = missing
with_two f (a ∷ b ∷ ws) = got (f a b) ws

-- one that is followed by a word, a count, and so many words
unfoldable pub with_names : (ℕ → List ℕ → Node) → Read Node
with_names f [] = missing
with_names f (a ∷ []) = missing
with_names f (a ∷ n ∷ ws) = cond (leb n (length ws)) (got (f a (take n ws)) (drop n ws)) missing

unfoldable pub alone : Node → Read Node
alone x ws = got x ws

-- what each code from 0 to 9 reads
unfoldable pub codes : List (Read Node)
codes =
    with_word variable_n ∷ with_word operation_n ∷ with_word (λ w. constant_n (integer w)) ∷ with_word (λ w. constant_n (boolean w)) ∷
    with_word name_n ∷ with_word list_n ∷ alone if_n ∷ with_names lambda_n ∷ with_word application_n ∷
    with_two (λ w p. constant_n (decimal w p)) ∷ []

unfoldable pub of_code : Read Node
of_code [] = missing
of_code (code ∷ ws) = get_or codes code nothing ws

unfoldable pub sound : Got Node → Got Node
sound missing = missing
sound (got x ws) = cond (is_node x) (got x ws) missing

unfoldable pub node_at : Read Node
node_at ws = sound (of_code ws)
