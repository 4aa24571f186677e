-- Where the words of a cell stand, counted back from its end, under the names that they have in code.
use Rattle.std.specs.Prelude.{ℕ}

-- ---- nodes: the kind; a name's origin and own wrap; a pair's head and tail; a constant's two words

abbrev pub KIND : ℕ
KIND = 3

abbrev pub ORIGIN : ℕ
ORIGIN = 2

abbrev pub OWN : ℕ
OWN = 1

abbrev pub HEAD : ℕ
HEAD = 2

abbrev pub TAIL : ℕ
TAIL = 1

abbrev pub FIRST : ℕ
FIRST = 2

abbrev pub SECOND : ℕ
SECOND = 1

-- ---- wraps: the tag, the wrap inside; a mark's step; a join's outer wrap

abbrev pub TAG : ℕ
TAG = 1

abbrev pub INNER : ℕ
INNER = 2

abbrev pub STEP : ℕ
STEP = 3

abbrev pub OUTER : ℕ
OUTER = 3

-- ---- binders: the key of the new binding, then what is known of its own name

abbrev pub KEY : ℕ
KEY = 3

abbrev pub BOUND-KEY : ℕ
BOUND-KEY = 4

abbrev pub BOUND-NUMBER : ℕ
BOUND-NUMBER = 5

abbrev pub BOUND-COUNT : ℕ
BOUND-COUNT = 6

abbrev pub BOUND-NEWEST : ℕ
BOUND-NEWEST = 7

abbrev pub BOUND-PENDING : ℕ
BOUND-PENDING = 8

abbrev pub BOUND-OWN : ℕ
BOUND-OWN = 9
