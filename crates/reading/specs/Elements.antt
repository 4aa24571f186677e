-- Elements, token by token from the left: the leftmost token that cannot be taken gives the ground, at one token 3, 4, 5, 6 in this order.
use Rattle.std.specs.Prelude.{Bool, true, false, ◌&&◌, cond, List, [], ◌∷◌, ℕ, suc, ◌-◌, eqb, leb, length}
use Rattle.words.specs.Limits.{elements_most, names_most, open_lists_most}
use Rattle.words.specs.Tables.{Stage, begun}
use Rattle.datum.specs.Datum.{Datum, Data, constant_d, name_d, list_d, none_d, more_d}
use Rattle.reading.specs.Meaning.{Meaning, begins, ends, constant, name, refused}
use Rattle.reading.specs.Numbering.{number_of, with_name}

-- an answer, or the stage and the ground at which a call is refused; the grounds of a text come once reading has begun
pub data Answer (A : Type 0) : Type 0 where
  got : A → Answer A
  refused_for : (stage : Stage) (ground_number : ℕ) → Answer A

-- on with an answer, or back with the refusal
unfoldable pub then : {A B : Type 0} → Answer A → (A → Answer B) → Answer B
then (got a) f = f a
then (refused_for stage g) f = refused_for stage g

-- the elements so far of the inmost open list (of the text, where none is open) and of those around it, each from its last;
-- the names so far; e; and how many elements the text still lacks
pub record Reading : Type 0 where
  pub here : List Datum
  pub around : List (List Datum)
  pub known : List (List ℕ)
  pub count : ℕ
  pub missing : ℕ

-- before the first token: the names that are fixed, and how many elements a text has
unfoldable pub start : List (List ℕ) → ℕ → Reading
start names wanted = record { here = []; around = []; known = names; count = 0; missing = wanted }

-- ---- lists

-- the list of elements, given from the last, before others
unfoldable pub onto : List Datum → Data → Data
onto [] ds = ds
onto (d ∷ l) ds = onto l (more_d d ds)

-- no list is open
unfoldable pub none_open : List (List Datum) → Bool
none_open [] = true
none_open (l ∷ ls) = false

-- no list is open and no element is missing
unfoldable pub is_complete : Reading → Bool
is_complete r = none_open r.around && eqb r.missing 0

-- ---- what a token makes

-- an element begins
unfoldable pub counted : Reading → Reading
counted r = record {
  here = r.here;
  around = r.around;
  known = r.known;
  count = suc r.count;
  missing = cond (none_open r.around) (r.missing - 1) r.missing;
}

-- an element that is one token
unfoldable pub put : Datum → Reading → Reading
put d r = record { here = d ∷ r.here; around = r.around; known = r.known; count = r.count; missing = r.missing }

-- a name, with its number
unfoldable pub named : List ℕ → Reading → Reading
named cs r = record {
  here = name_d (number_of cs r.known) ∷ r.here;
  around = r.around;
  known = with_name cs r.known;
  count = r.count;
  missing = r.missing;
}

-- an open list more
unfoldable pub opened : Reading → Reading
opened r = record { here = []; around = r.here ∷ r.around; known = r.known; count = r.count; missing = r.missing }

-- the inmost open list is complete; ground 5 where none is open
unfoldable pub closed : List (List Datum) → Reading → Answer Reading
closed [] r = refused_for begun 5
closed (l ∷ ls) r =
    got (record { here = list_d (onto r.here none_d) ∷ l; around = ls; known = r.known; count = r.count; missing = r.missing })

-- e at most 2,047, names at most 1,024, open lists at most 64
unfoldable pub is_within : Reading → Bool
is_within r = leb r.count elements_most && (leb (length r.known) names_most && leb (length r.around) open_lists_most)

-- from r to q by a token that begins an element: ground 5 where it is one too many, 6 past a limit
unfoldable pub begin : Reading → Reading → Answer Reading
begin r q = cond (is_complete r) (refused_for begun 5) (cond (is_within q) (got q) (refused_for begun 6))

-- what one token makes of a reading: its own ground, then 5, then 6
unfoldable pub takes : Meaning → Reading → Answer Reading
takes begins r = begin r (opened (counted r))
takes ends r = closed r.around r
takes (constant a) r = begin r (put (constant_d a) (counted r))
takes (name cs) r = begin r (named cs (counted r))
takes (refused g) r = refused_for begun g

-- one token after another, up to the first that is refused
unfoldable pub takes_all : List Meaning → Reading → Answer Reading
unfolding then start onto none_open is_complete counted put named opened closed is_within begin takes number_of with_name
takes_all [] r = got r
takes_all (m ∷ ms) r = then (takes m r) (takes_all ms)
