-- A term's text has at most 57 bytes a word: the most is a lambda with eight variables, of ten digits and names of 63 bytes.
use Rattle.std.specs.Prelude.{◌≡◌, Bool, ◌&&◌, ◌||◌, List, [], ◌∷◌, ◌++◌, eqb, leb, get_or, drop}
use Rattle.std.proofs.Math.Path.{refl, ap}
use Rattle.std.proofs.Common.{sym, ◌∙◌, length-take, drop-cons}
use Rattle.std.proofs.Math.Bool.{true, false}
use Rattle.std.proofs.lemmas.Bool.{false≢true}
use Prim.Native.Nat.{ℕ, zero, suc, ◌+◌, ◌*◌, ◌≤◌, ◌<◌}
use native.Mathlib.Omega.{arith}
use Rattle.std.proofs.Math.Dec.{ltb}
use Rattle.std.proofs.Math.ListN.{length, length-append}
use borrow.Author.Tests.{ltb-true, leb-true, eqb-true, lt-ltb, le-leb}
use Rattle.words.specs.Lists.{all_of}
use Rattle.words.specs.ListLaws.{either, all_append}
use Rattle.words.specs.TestLaws.{and_parts, and_both, within-least, within-most, all_head, all_drop}
use Rattle.words.specs.Text.{bytes}
use Rattle.datum.specs.Constant.{Constant, is_constant, integer, boolean, decimal}
use Rattle.datum.specs.ConstantLaws.{constant-case, words-few}
use Rattle.datum.specs.Datum.{Datum, constant_d, name_d, list_d, Data, none_d, more_d}
use Rattle.datum.specs.NameTable.{length_at, name_at, has_name}
use Rattle.core_term.specs.Node.{Node, node_words, binds, is_node, variable_n, operation_n, constant_n, name_n, list_n, if_n, lambda_n, application_n}
use Rattle.core_term.specs.Term.{variable_c, operation_c, datum_c, if_c, lambda_c, application_c, none_c, more_c, Plain, Plains, count, variables, variables_all, formals_of, formals_all}
use Rattle.core_term.specs.TermLaws.{formals-count}
use Rattle.core_term.specs.Words.{datum_words, data_words, encode, encode_all}
use Rattle.core_term.specs.Decimal as N
use Rattle.core_term.proofs.DecimalLaws.{decimal-count, integer-room, decimal-room}
use Rattle.core_term.specs.Text.{spaced_after, spaced, parenthesized, variable_text, operation_text, formal_texts, constant_text, bare, bares, outermost, text_in, texts_in, text}
use Rattle.core_term.specs.Every.{Asked, every_datum, every_data, every, every_term, proper, well_formed}
use Rattle.core_term.specs.EveryLaws.{every-from}
use Rattle.core_term.specs.Check.{Scope, outside, inside, variable_inside, first_number, known, asked, scoped, numbered, all_known}
use Rattle.core_term.proofs.OfCode.CheckLaws.{Accepted}
use Rattle.core_term.specs.TextRoom.{limit, narrow, narrow_node, text_rate, text_words_most}

pub number-room : (n : ℕ) → n < limit → length (N.decimal n) ≤ 10
number-room n h = decimal-count 9 n h

-- ---- texts in a list

-- each text, and a space
unfoldable widths : List (List ℕ) → ℕ
widths [] = 0
widths (t ∷ ts) = suc (length t) + widths ts

after-room : (t : List ℕ) (ts : List (List ℕ)) → length (spaced_after t ts) ≡ length t + widths ts
unfolding spaced_after widths
after-room t [] = omega arith
after-room t (u ∷ us) = omega (arith, length-append t (32 ∷ spaced_after u us), after-room u us)

list-room : (t : List ℕ) (ts : List (List ℕ)) → length (parenthesized (t ∷ ts)) ≡ 2 + (length t + widths ts)
unfolding parenthesized spaced
list-room t ts = omega (arith, length-append (spaced_after t ts) (41 ∷ []), after-room t ts)

any-room : (ts : List (List ℕ)) → length (parenthesized ts) ≤ 2 + widths ts
unfolding parenthesized spaced widths
any-room [] = omega arith
any-room (t ∷ ts) = omega (arith, list-room t ts)

-- ---- pieces

constant-room : (a : Constant) → is_constant a ≡ true → length (constant_text a) ≤ 16
unfolding constant_text bytes integer boolean decimal
constant-room =
    constant-case (λ a. length (constant_text a) ≤ 16)
    (λ w. omega (arith, integer-room w))
    (λ w l. either (eqb w 0) (λ f. rw f (omega arith)) (λ f. rw f (omega arith)))
    (λ w p h. omega (arith, decimal-room w p (within-least 1 4 p h), within-most 1 4 p h))

name-room : (names : List ℕ) (n : ℕ) → has_name names n ≡ true → length (name_at names n) ≤ 63
unfolding has_name name_at
name-room names n h =
    let p = (and_parts (ltb n 1024) _ h).1 in
    let q = within-most 1 63 (length_at names n) (and_parts (leb (64 * suc n) (length names)) _ p).1 in
    omega (arith, length-take (length_at names n) (drop (suc (64 * n)) names))

module _ (names called : List ℕ) (few : length called < limit) (good : (k : ℕ) → k < length called → has_name names (get_or called k 0) ≡ true) where
  abbrev narrows : Asked (Unit {0})
  narrows = narrow names called

  abbrev spell : ℕ → List ℕ
  spell = name_at names

  variable-room : (n : ℕ) → n < length called → length (variable_text spell called n) ≤ 75
  unfolding variable_text
  variable-room n h =
      omega (arith, number-room n (omega arith), name-room names (get_or called n 0) (good n h), length-append (N.decimal n) (46 ∷ spell (get_or called n 0)))

  formals-room : (first n : ℕ) → first + n ≤ length called → widths (formal_texts spell called first n) ≤ 76 * n
  unfolding formal_texts widths
  formals-room first zero h = omega arith
  formals-room first (suc n) h = omega (arith, variable-room first (omega arith), formals-room (suc first) n (omega arith))

  mutual
    unfolding bare bares datum_words data_words node_words every_datum every_data narrow narrow_node widths

    datum-room : (d : Datum) (b : ℕ) → every_datum narrows tt b d ≡ true → suc (length (bare spell d)) ≤ text_rate * length (datum_words d)
    datum-room (constant_d a) b h = omega (arith, constant-room a h, (words-few a).0)
    datum-room (name_d n) b h = omega (arith, name-room names n h)
    datum-room (list_d ds) b h = omega (arith, any-room (bares spell ds), data-room ds b h)

    data-room : (ds : Data) (b : ℕ) → every_data narrows tt b ds ≡ true → widths (bares spell ds) ≤ text_rate * length (data_words ds)
    data-room none_d b h = omega arith
    data-room (more_d d ds) b h =
        let p = and_parts (every_datum narrows tt b d) _ h in
        omega (arith, datum-room d b p.0, data-room ds b p.1, length-append (datum_words d) (data_words ds))

  quoted-room : (d : Datum) (b : ℕ) → every_datum narrows tt b d ≡ true → suc (length (outermost spell d)) ≤ text_rate * length (datum_words d)
  unfolding outermost bare datum_words node_words every_datum narrow narrow_node widths bytes
  quoted-room (constant_d a) b h = datum-room (constant_d a) b h
  quoted-room (name_d n) b h = omega (arith, list-room (bytes "quote") (name_at names n ∷ []), name-room names n h)
  quoted-room (list_d ds) b h =
      omega (arith, list-room (bytes "quote") (parenthesized (bares spell ds) ∷ []), any-room (bares spell ds), data-room ds b h)

  abbrev text_of : Plain → List ℕ
  text_of = text_in spell called

  mutual
    unfolding text_in texts_in encode encode_all node_words every every_term narrow narrow_node widths operation_text bytes

    term-room : (t : Plain) (b : ℕ) → every narrows tt b t ≡ true → suc (length (text_of t)) ≤ text_rate * length (encode t)
    term-room (variable_c n) b h = omega (arith, variable-room n (ltb-true n (length called) h))
    term-room (operation_c n) b h = omega (arith, number-room n (ltb-true n limit h))
    term-room (datum_c d) b h = quoted-room d b h
    term-room (if_c x y z) b h =
        let p = and_parts (every narrows tt b x) _ h in
        let q = and_parts (every narrows tt (b + variables x) y) _ p.1 in
        omega (
          arith,
          list-room (bytes "if") (text_of x ∷ text_of y ∷ text_of z ∷ []),
          term-room x b p.0,
          term-room y (b + variables x) q.0,
          term-room z (b + variables x + variables y) q.1,
          length-append (encode x) (encode y ++ encode z),
          length-append (encode y) (encode z),
        )
    term-room (lambda_c first ns body) b h =
        let n = length ns in
        let p = and_parts (leb n 8 && leb (first + n) (length called)) _ h in
        let q = and_parts (leb n 8) (leb (first + n) (length called)) p.0 in
        let f = formal_texts spell called first n in
        omega (
          arith,
          list-room (bytes "lambda") (parenthesized f ∷ text_of body ∷ []),
          any-room f,
          leb-true n 8 q.0,
          formals-room first n (leb-true (first + n) (length called) q.1),
          term-room body (b + n) p.1,
          length-append ns (encode body),
        )
    term-room (application_c g ts) b h =
        let p = and_parts (every narrows tt b g) _ h in
        omega (
          arith,
          list-room (text_of g) (texts_in spell called ts),
          term-room g b p.0,
          terms-room ts (b + variables g) p.1,
          length-append (encode g) (encode_all ts),
        )

    terms-room : (ts : Plains) (b : ℕ) → every_term narrows tt b ts ≡ true → widths (texts_in spell called ts) ≤ text_rate * length (encode_all ts)
    terms-room none_c b h = omega arith
    terms-room (more_c t ts) b h =
        let p = and_parts (every narrows tt b t) _ h in
        omega (arith, term-room t b p.0, terms-room ts (b + variables t) p.1, length-append (encode t) (encode_all ts))

-- ---- a term that passes ground 19

-- every variable has a word for its name
mutual
  unfolding variables variables_all encode encode_all node_words

  pub variables-few : (t : Plain) → variables t ≤ length (encode t)
  variables-few (variable_c n) = omega arith
  variables-few (operation_c n) = omega arith
  variables-few (datum_c d) = omega arith
  variables-few (if_c x y z) =
      omega (arith, variables-few x, variables-few y, variables-few z, length-append (encode x) (encode y ++ encode z), length-append (encode y) (encode z))
  variables-few (lambda_c first ns body) = omega (arith, variables-few body, length-append ns (encode body))
  variables-few (application_c g ts) = omega (arith, variables-few g, variables-few-all ts, length-append (encode g) (encode_all ts))

  variables-few-all : (ts : Plains) → variables_all ts ≤ length (encode_all ts)
  variables-few-all none_c = omega arith
  variables-few-all (more_c t ts) = omega (arith, variables-few t, variables-few-all ts, length-append (encode t) (encode_all ts))

-- and all these names are good
module _ (operations : ℕ) (name_good : ℕ → Bool) where
  abbrev pub Knows : Asked Scope
  Knows = asked (known operations name_good)

  mutual
    unfolding asked known every every_term formals_of formals_all all_of

    pub formals-known : (t : Plain) (s : Scope) (b : ℕ) → every Knows s b t ≡ true → all_of name_good (formals_of t) ≡ true
    formals-known (variable_c n) s b h = refl
    formals-known (operation_c n) s b h = refl
    formals-known (datum_c d) s b h = refl
    formals-known (if_c x y z) s b h =
        let p = and_parts (every Knows (inside s b if_n) b x) _ h in
        let q = and_parts (every Knows (inside s b if_n) (b + variables x) y) _ p.1 in
        all_append name_good (formals_of x) (formals_of y ++ formals_of z) (formals-known x _ b p.0)
        (all_append name_good (formals_of y) (formals_of z) (formals-known y _ (b + variables x) q.0) (formals-known z _ (b + variables x + variables y) q.1))
    formals-known (lambda_c first ns body) s b h =
        let p = and_parts (all_of name_good ns) _ h in
        all_append name_good ns (formals_of body) p.0 (formals-known body _ (b + length ns) p.1)
    formals-known (application_c g ts) s b h =
        let p = and_parts (every Knows (inside s b (application_n (count ts))) b g) _ h in
        all_append name_good (formals_of g) (formals_all ts) (formals-known g _ b p.0) (formals-known-all ts _ (b + variables g) p.1)

    formals-known-all : (ts : Plains) (s : Scope) (b : ℕ) → every_term Knows s b ts ≡ true → all_of name_good (formals_all ts) ≡ true
    formals-known-all none_c s b h = refl
    formals-known-all (more_c t ts) s b h =
        let p = and_parts (every Knows s b t) _ h in
        all_append name_good (formals_of t) (formals_all ts) (formals-known t s b p.0) (formals-known-all ts s (b + variables t) p.1)

pub all-at : (f : ℕ → Bool) (xs : List ℕ) (k : ℕ) → all_of f xs ≡ true → k < length xs → f (get_or xs k 0) ≡ true
all-at f xs k e h = all_head f (get_or xs k 0) (drop (suc k) xs) (sym (ap (all_of f) (drop-cons xs k 0 h)) ∙ all_drop f k xs e)

-- the tests of ground 19
data Tested : Type 0 where
  shape scope number good : Tested

module _ (operations : ℕ) (names ws : List ℕ) (t : Plain) (a : Accepted operations (has_name names) ws t) where
  asks : Tested → Asked Scope
  asks shape = asked (λ s b x. is_node x)
  asks scope = asked variable_inside
  asks number = asked first_number
  asks good = asked (known operations (has_name names))

  all_pass : (i : Tested) → every (asks i) outside 0 t ≡ true
  unfolding asks scoped numbered all_known well_formed proper asked
  all_pass shape =
      every-from (λ (i : Unit {0}). proper) (asked (λ s b x. is_node x)) (variables t) (λ f g c. Unit {0})
      (λ f g c x r l k. k tt) (λ f g c x r k. tt) (λ f g c n r. tt) t (λ i. tt) outside 0 tt (omega arith) (λ i. a.formed)
  all_pass scope = a.closed
  all_pass number = a.counted
  all_pass good = a.known'

  -- variables in scope have been bound before
  abbrev Before : (Tested → Scope) → Unit {0} → ℕ → Type 0
  Before e f b = (k : ℕ) → e scope k ≡ true → k < b

  -- the names of all variables
  abbrev pub all-called : List ℕ
  all-called = formals_of t

  pub called-good : (k : ℕ) → k < length all-called → has_name names (get_or all-called k 0) ≡ true
  unfolding all_known
  called-good k h = all-at (has_name names) all-called k (formals-known operations (has_name names) t outside 0 a.known') h

  node-narrow : (e : Tested → Scope) (f : Unit {0}) (b : ℕ) (x : Node) → Before e f b → b + binds x ≤ variables t → ((i : Tested) → (asks i).test (e i) b x ≡ true) → narrow_node names all-called x ≡ true
  unfolding asks asked narrow_node is_node variable_inside first_number known binds
  node-narrow e f b (variable_n n) r l h = lt-ltb n (length all-called) (omega (arith, formals-count t, r n (h scope)))
  node-narrow e f b (operation_n n) r l h = lt-ltb n limit (omega (arith, a.few, ltb-true n operations (h good)))
  node-narrow e f b (constant_n a) r l h = h shape
  node-narrow e f b (name_n n) r l h = h good
  node-narrow e f b (list_n n) r l h = refl
  node-narrow e f b if_n r l h = refl
  node-narrow e f b (lambda_n first ns) r l h =
      and_both (leb (length ns) 8) (leb (first + length ns) (length all-called)) (h shape)
      (le-leb (first + length ns) (length all-called) (omega (arith, formals-count t, eqb-true first b (h number))))
  node-narrow e f b (application_n n) r l h = refl

  entered : (e : Tested → Scope) (f : Unit {0}) (b : ℕ) (x : Node) → Before e f b → ((i : Tested) → (asks i).test (e i) b x ≡ true) → Before (λ i. (asks i).enter (e i) b x) f (b + binds x)
  unfolding asks asked inside binds first_number
  entered e f b (variable_n n) r h = λ k q. omega (arith, r k q)
  entered e f b (operation_n n) r h = λ k q. omega (arith, r k q)
  entered e f b (constant_n a) r h = λ k q. omega (arith, r k q)
  entered e f b (name_n n) r h = λ k q. omega (arith, r k q)
  entered e f b (list_n n) r h = λ k q. omega (arith, r k q)
  entered e f b if_n r h = λ k q. omega (arith, r k q)
  entered e f b (lambda_n first ns) r h = λ k q. own k (leb first k) (ltb k (first + length ns)) refl q
    where
      own : (k : ℕ) (c d : Bool) → ltb k (first + length ns) ≡ d → ((c && d) || e scope k) ≡ true → k < b + length ns
      own k true true m q = omega (arith, ltb-true k (first + length ns) m, eqb-true first b (h number))
      own k true false m q = omega (arith, r k q)
      own k false d m q = omega (arith, r k q)
  entered e f b (application_n n) r h = λ k q. omega (arith, r k q)

  pub all-narrow : every (narrow names all-called) tt 0 t ≡ true
  unfolding narrow outside
  all-narrow =
      every-from asks (narrow names all-called) (variables t) Before node-narrow entered (λ e f b n r k q. omega (arith, r k q)) t
      (λ i. outside) tt 0 (λ k q. absurd (false≢true q)) (omega arith) all_pass

  pub text-room : length ws ≤ text_words_most → length (text (name_at names) t) < text_rate * length ws
  unfolding text
  text-room few =
      let short : length all-called < limit = omega (arith, formals-count t, variables-few t, ap length a.words) in
      omega (arith, term-room names all-called short called-good t 0 all-narrow, ap length a.words)
