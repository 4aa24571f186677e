-- Where the words of a rule cell stand, counted back from its end, under the names that they have in code.
use Rattle.std.specs.Prelude.{ℕ}

-- ---- patterns and templates: the tag; a pair's head and rest, an ellipsis has its element for head; a constant's kind and two words

abbrev pub TAG : ℕ
TAG = 1

abbrev pub HEAD : ℕ
HEAD = 3

abbrev pub REST : ℕ
REST = 2

abbrev pub KIND : ℕ
KIND = 4

abbrev pub FIRST : ℕ
FIRST = 3

abbrev pub SECOND : ℕ
SECOND = 2

-- ---- patterns: a variable's number; how many elements follow an ellipsis; a literal's node, pending wrap, number and key

abbrev pub PATTERN-NUMBER : ℕ
PATTERN-NUMBER = 2

abbrev pub FOLLOWING : ℕ
FOLLOWING = 4

abbrev pub LITERAL-NODE : ℕ
LITERAL-NODE = 5

abbrev pub LITERAL-WRAP : ℕ
LITERAL-WRAP = 4

abbrev pub LITERAL-NUMBER : ℕ
LITERAL-NUMBER = 3

abbrev pub LITERAL-KEY : ℕ
LITERAL-KEY = 2

-- ---- templates: a variable's number and depth; an inserted name's node and pending wrap

abbrev pub NUMBER : ℕ
NUMBER = 3

abbrev pub DEPTH : ℕ
DEPTH = 2

abbrev pub NODE : ℕ
NODE = 3

abbrev pub WRAP : ℕ
WRAP = 2

-- ---- rules: the pattern, the template, the rules after it

abbrev pub PATTERN : ℕ
PATTERN = 3

abbrev pub TEMPLATE : ℕ
TEMPLATE = 2

abbrev pub NEXT : ℕ
NEXT = 1
