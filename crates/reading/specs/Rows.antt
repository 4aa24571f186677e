-- Texts with known readings, as rows of one table.
use Rattle.std.specs.Prelude.{◌≡◌, refl, List, [], ◌∷◌, ◌++◌, map, ℕ, zero, suc, drop, replicate}
use Rattle.std.proofs.Math.Option.{Option, none, some}
use Rattle.words.specs.Lists.{within, any_of}
use Rattle.words.specs.Text.{bytes}
use Rattle.datum.specs.NameTable.{slot}
use Rattle.reading.specs.Token.{Token, close', bad, run, is_digit, is_running, is_separating, class_of, flag_of}
use Rattle.reading.specs.Offset.{leading, token_of, width_of, first_of, first_width, start_at, token_at, next_at}
use Rattle.reading.specs.Read.{recipe_of, read, Numbers, read_numbers, items_after, names_after}

pub record Row : Type 0 where
  pub text : List ℕ
  pub numbers : Numbers

-- an accepted text, with its item and name counts; a refused one, with its ground
unfoldable pub accepted : List ℕ → ℕ → ℕ → Row
accepted text items names = record { text = text; numbers = record { ground_number = 0; items = items; names = names } }

unfoldable pub refused_on : List ℕ → ℕ → Row
refused_on text g = record { text = text; numbers = record { ground_number = g; items = 0; names = 0 } }

unfoldable pub row_of : List ℕ → Row
unfolding recipe_of read_numbers
row_of text = record { text = text; numbers = read_numbers (recipe_of text) }

-- n copies
unfoldable pub repeated : ℕ → List ℕ → List ℕ
repeated zero bs = []
repeated (suc n) bs = bs ++ repeated n bs

unfoldable pub rows : List Row
unfolding accepted refused_on bytes
rows =
    accepted (bytes "#t#f") 5 8 ∷
    accepted (bytes "#tx") 5 9 ∷
    refused_on (bytes "() #tx") 5 ∷
    accepted (bytes "(a)(b)") 9 10 ∷
    accepted (bytes "1(2)") 7 8 ∷
    refused_on (bytes "() 1x") 3 ∷
    accepted (bytes "() -") 5 9 ∷
    accepted (bytes "() +5") 5 9 ∷
    refused_on (bytes "() .") 3 ∷
    accepted (bytes "() ..") 5 9 ∷
    accepted (bytes "() ...") 5 8 ∷
    accepted (bytes "() 1.5") 5 8 ∷
    accepted (bytes "() .5") 5 9 ∷
    accepted (bytes "() -.5") 5 9 ∷
    accepted (bytes "() +1.5") 5 9 ∷
    refused_on (bytes "() 1.") 3 ∷
    refused_on (bytes "() -1.") 3 ∷
    accepted (bytes "() 1.2345") 5 8 ∷
    refused_on (bytes "() 1.23456") 3 ∷
    refused_on (bytes "() 1.2.3") 3 ∷
    refused_on (bytes "() 1.-2") 3 ∷
    refused_on (bytes "() 1.5x") 3 ∷
    refused_on (bytes "() 2147483648") 4 ∷
    accepted (bytes "() -2147483648") 5 8 ∷
    refused_on (bytes "() -2147483649") 4 ∷
    refused_on (bytes "() 99999999999x") 3 ∷
    accepted (bytes "() 214748.3647") 5 8 ∷
    refused_on (bytes "() 214748.3648") 4 ∷
    refused_on (bytes "() 214748364.8") 4 ∷
    accepted (bytes "() -214748.3648") 5 8 ∷
    refused_on (bytes "() -214748.3649") 4 ∷
    refused_on (bytes "() 99999999999.0") 4 ∷
    refused_on (bytes "() 99999999999.") 3 ∷
    refused_on (bytes "() 99999999999.00000") 3 ∷
    refused_on (bytes "() () a$") 5 ∷
    refused_on (bytes "() () 99999999999") 4 ∷
    refused_on (bytes "() ())") 5 ∷
    refused_on (bytes ")") 5 ∷
    refused_on (bytes "") 5 ∷
    refused_on (bytes "()") 5 ∷
    refused_on (bytes "() (") 5 ∷
    refused_on (bytes "() A") 3 ∷
    refused_on (bytes "() () (") 5 ∷
    refused_on (bytes "() #") 3 ∷
    accepted (bytes "() -0") 5 8 ∷
    accepted (bytes "1 2") 5 8 ∷
    accepted (bytes "() " ++ replicate 63 97) 5 9 ∷
    refused_on (bytes "() " ++ replicate 64 97) 3 ∷
    accepted (bytes "() " ++ replicate 70 48 ++ bytes "7") 5 8 ∷
    accepted (bytes "() -" ++ replicate 70 48 ++ bytes "7.0000") 5 8 ∷
    accepted (bytes "()" ++ replicate 64 40 ++ replicate 64 41) 131 8 ∷
    refused_on (bytes "()" ++ replicate 65 40) 6 ∷
    []

pub rows-hold : map (λ (r : Row). row_of r.text) rows ≡ rows
unfolding rows row_of
rows-hold = refl

-- the tokens that are looked for from an offset on: where each stands, where the next one is looked for, and which it is
unfoldable pub found : List ℕ → ℕ → ℕ × (ℕ × Option Token)
unfolding start_at next_at token_at first_of first_width token_of width_of leading class_of is_separating is_running is_digit flag_of within any_of
found text at = (start_at text at, (next_at text at, token_at text at))

pub found-hold : map (found (bytes "() 1x #x")) (1 ∷ 2 ∷ 5 ∷ 8 ∷ [])
    ≡ (1, (2, some close')) ∷ (3, (5, some (run (bytes "1x")))) ∷ (6, (8, some bad)) ∷ (8, (8, none)) ∷ []
unfolding found bytes
found-hold = refl

-- the item table after reading `1(2)`, of a lent table that held nines
pub items-hold : items_after (recipe_of (bytes "1(2)")) (replicate 24 9)
    ≡ 4 ∷ 1 ∷ 2 ∷ 1 ∷ 1 ∷ 0 ∷ 4 ∷ 3 ∷ 6 ∷ 4 ∷ 4 ∷ 5 ∷ 1 ∷ 2 ∷ 0 ∷ 0 ∷ 0 ∷ 0 ∷ 0 ∷ 0 ∷ 0 ∷ 0 ∷ 0 ∷ 0 ∷ []
unfolding recipe_of bytes items_after
items-hold = refl

-- the last slots of the name table after reading `x y`
pub names-hold : drop 448 (names_after (recipe_of (bytes "x y")) (replicate 641 9))
    ≡ slot (bytes "_") ++ slot (bytes "x") ++ slot (bytes "y") ++ (0 ∷ [])
unfolding recipe_of bytes names_after slot
names-hold = refl

-- a text that is refused leaves zeros, and a test leaves the table as it was
pub cleared-hold : items_after (recipe_of (bytes "() A")) (replicate 7 9) ∷ items_after (read (bytes "() A") 7 65536) (replicate 7 9) ∷ [] ≡ replicate 7 0 ∷ replicate 7 9 ∷ []
unfolding recipe_of read bytes items_after
cleared-hold = refl

-- integers as their words
pub words-hold : drop 9 (items_after (recipe_of (bytes "() -2147483648")) (replicate 15 9)) ≡ 1 ∷ 2147483648 ∷ 0 ∷ 0 ∷ 0 ∷ 0 ∷ []
unfolding recipe_of bytes items_after
words-hold = refl

-- decimals as their words: the value without the dot, and the places
pub decimals-hold : map (λ (bs : List ℕ). items_after (recipe_of bs) (replicate 15 9)) (bytes "-214748.3648 00.80" ∷ bytes "-0.5 -0.0" ∷ [])
    ≡ (4 ∷ 1 ∷ 2 ∷ 5 ∷ 2147483648 ∷ 4 ∷ 4 ∷ 3 ∷ 4 ∷ 5 ∷ 80 ∷ 2 ∷ 0 ∷ 0 ∷ 0 ∷ [])
    ∷ (4 ∷ 1 ∷ 2 ∷ 5 ∷ 4294967291 ∷ 1 ∷ 4 ∷ 3 ∷ 4 ∷ 5 ∷ 0 ∷ 1 ∷ 0 ∷ 0 ∷ 0 ∷ []) ∷ []
unfolding recipe_of bytes items_after
decimals-hold = refl

-- the limits of e, of a call's tables and of its text
pub limits-hold : map (λ a. (read_numbers a).ground_number) (
    recipe_of (bytes "() (" ++ repeated 2045 (bytes " 1") ++ bytes ")")
    ∷ recipe_of (bytes "() (" ++ repeated 2046 (bytes " 1") ++ bytes ")")
    ∷ read (bytes "1 2") 12288 65536
    ∷ read (replicate 65536 32) 12287 65536
    ∷ read (bytes "1 2") 12288 65535
    ∷ read (replicate 65536 32) 12288 65536
    ∷ []
    ) ≡ 0 ∷ 6 ∷ 0 ∷ 1 ∷ 1 ∷ 2 ∷ []
unfolding recipe_of bytes read read_numbers repeated
limits-hold = refl
