-- A term's text piece by piece, as code lays it: what opens a node, its parts with spaces between, what closes it.
use Rattle.std.specs.Prelude.{ℕ, zero, suc, Bool, true, false, cond, List, [], ◌∷◌, ◌++◌, length}
use Rattle.words.specs.Text.{bytes}
use Rattle.core_term.specs.Node.{Node, is_list_node, variable_n, operation_n, constant_n, name_n, list_n, if_n, lambda_n, application_n}
use Rattle.core_term.specs.Term.{variable_c, operation_c, datum_c, if_c, lambda_c, application_c, none_c, more_c, Plain, Plains}
use Rattle.core_term.specs.Parts.{node, parts_of}
use Rattle.core_term.specs.Text as Text
use Rattle.core_term.specs.Text.{variable_text, operation_text, constant_text, bare}
use Rattle.writer.specs.Called.{Said, spell_of}

-- a space, where one is wanted
unfoldable pub gap_text : Bool → List ℕ
gap_text true = 32 ∷ []
gap_text false = []

-- n variables from the first on
unfoldable pub formals_text : Said → Bool → ℕ → ℕ → List ℕ
formals_text said wanted first zero = []
formals_text said wanted first (suc n) = gap_text wanted ++ (variable_text (spell_of said) said.called first ++ formals_text said true (suc first) n)

-- what closes a node; inner is inside quote
unfoldable pub closing : Bool → Node → List ℕ
closing inner (variable_n n) = []
closing inner (operation_n n) = []
closing inner (constant_n a) = []
closing inner (name_n n) = []
closing inner (list_n n) = cond inner (bytes ")") (bytes "))")
closing inner if_n = bytes ")"
closing inner (lambda_n first names) = bytes ")"
closing inner (application_n n) = bytes ")"

module _ (said : Said) where
  -- what opens a node
  unfoldable pub opening : Bool → Node → List ℕ
  opening inner (variable_n n) = variable_text (spell_of said) said.called n
  opening inner (operation_n n) = operation_text n
  opening inner (constant_n a) = constant_text a
  opening inner (name_n n) = cond inner (spell_of said n) (bytes "(quote " ++ (spell_of said n ++ bytes ")"))
  opening inner (list_n n) = cond inner (bytes "(") (bytes "(quote (")
  opening inner if_n = bytes "(if "
  opening inner (lambda_n first names) = bytes "(lambda (" ++ (formals_text said false first (length names) ++ bytes ") ")
  opening inner (application_n n) = bytes "("

  -- a datum inside quote
  unfoldable pub within : Plain → List ℕ
  within (variable_c n) = []
  within (operation_c n) = []
  within (datum_c d) = bare (spell_of said) d
  within (if_c x y z) = []
  within (lambda_c first names body) = []
  within (application_c h ts) = []

  -- a term's text, or a datum's inside quote
  unfoldable pub text_in : Bool → Plain → List ℕ
  text_in true t = within t
  text_in false t = Text.text_in (spell_of said) said.called t

  -- parts one after another, the first after a space where one is wanted
  unfoldable pub parts_text : Bool → Bool → Plains → List ℕ
  parts_text inner wanted none_c = []
  parts_text inner wanted (more_c t ts) = gap_text wanted ++ (text_in inner t ++ parts_text inner true ts)

  -- the parts of a term
  abbrev pub row_text : Plain → List ℕ
  row_text t = parts_text (is_list_node (node t)) false (parts_of t)
