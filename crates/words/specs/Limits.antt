-- The limits of documents 01 and 02, each named once; where a request moved one, it is named. src/lib.rt has the same numbers for code.
use Rattle.std.specs.Prelude.{ℕ, ◌+◌, ◌*◌}

-- ---- reading: words and bytes to lend (ground 1), bytes of a text (2), elements, names and open lists (6)

abbrev pub item_words_least : ℕ
item_words_least = 12288

abbrev pub name_bytes_least : ℕ
name_bytes_least = 65536

abbrev pub text_bytes_most : ℕ
text_bytes_most = 65535

abbrev pub elements_most : ℕ
elements_most = 2047

abbrev pub names_most : ℕ
names_most = 1024

abbrev pub open_lists_most : ℕ
open_lists_most = 64

-- bytes of a name, and of its slot in the name table
abbrev pub name_length_most : ℕ
name_length_most = 63

abbrev pub slot_size : ℕ
slot_size = 64

-- digits behind a decimal's dot (request L1)
abbrev pub places_most : ℕ
places_most = 4

-- names 0 to 7 are fixed
abbrev pub base_name_count : ℕ
base_name_count = 8

-- ---- expansion: items of a table (ground 7), fuel (8), work and core words for each item and unit of fuel (9), operations (10)

abbrev pub items_least : ℕ
items_least = 5

abbrev pub items_most : ℕ
items_most = 4096

abbrev pub fuel_most : ℕ
fuel_most = 8192

abbrev pub work_rate : ℕ
work_rate = 24

-- three since request L1
abbrev pub core_rate : ℕ
core_rate = 3

abbrev pub operations_most : ℕ
operations_most = 256

-- ---- forms and rules (grounds 13, 15)

abbrev pub formals_most : ℕ
formals_most = 8

abbrev pub macros_most : ℕ
macros_most = 16

abbrev pub literals_most : ℕ
literals_most = 8

abbrev pub rules_most : ℕ
rules_most = 16

abbrev pub pattern_variables_most : ℕ
pattern_variables_most = 16

-- ellipses over one variable
abbrev pub depth_most : ℕ
depth_most = 2

-- the work and core words that any recipe can be expanded in, with the most fuel
abbrev pub work_most : ℕ
work_most = work_rate * (items_most + fuel_most)

abbrev pub core_most : ℕ
core_most = core_rate * (items_most + fuel_most)

-- ---- running (request L11): units of a budget (ground 8), and words to lend for each of them and one more (9)

abbrev pub budget_most : ℕ
budget_most = 65535

abbrev pub run_rate : ℕ
run_rate = 16

-- ---- the filing program's fuel, and the lengths of the work and core tables that it lends

abbrev pub filing_fuel : ℕ
filing_fuel = 512

abbrev pub filing_work : ℕ
filing_work = 16368

abbrev pub filing_core : ℕ
filing_core = 2046
