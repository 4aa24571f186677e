-- What the walk finds is what the definition says: none of the grammar is outside it, no closed expression is open, and what agrees
-- with our term is the same, with the words behind that term left.
use Rattle.std.specs.Prelude.{◌≡◌, Bool, cond, ◌&&◌, ◌||◌, eqb, get_or}
use Rattle.std.proofs.Math.Path.{refl, sym, ap}
use Rattle.std.proofs.Common.{subst, ◌∙◌}
use Rattle.std.proofs.Math.Bool.{true, false}
use mathlib.Core.List.{List, [], ◌∷◌, ◌++◌, map, append_assoc, append-nil}
use Rattle.std.proofs.Math.Option.{Option, none, some, some-injective, none-ne-some, some-ne-none}
use Prim.Native.Nat.{ℕ, zero, suc, ◌+◌, ◌≤◌, ◌<◌}
use native.Mathlib.Omega.{arith}
use Rattle.std.proofs.Math.ListN.{length}
use borrow.Author.Tests.{eqb-true, eqb-false, ne_eqb, ltb-true, le-ltb}
use Rattle.words.specs.ListLaws.{either, never}
use Rattle.words.specs.Lists.{any_of, equal}
use Rattle.words.specs.Options.{only_if, map_some, map_both}
use Rattle.words.specs.TestLaws.{and_left, and_right, or_left, or_right}
use Rattle.datum.specs.Constant.{matches}
use Rattle.datum.specs.Datum.{Datum, constant_d, name_d, list_d, Data, none_d, more_d}
use Rattle.datum.specs.Datum as D
use Rattle.datum.specs.NameTable.{name_at, has_name}
use Rattle.core_term.specs.Node.{node_at, of_code, sound, node_words, is_node, variable_n, operation_n, constant_n, name_n, list_n, if_n, lambda_n, application_n}
use Rattle.core_term.specs.NodeLaws.{node-round}
use Rattle.core_term.specs.Term.{variable_c, operation_c, datum_c, if_c, lambda_c, application_c, none_c, more_c, Plain, Plains, count, variables}
use Rattle.core_term.specs.Words.{datum_words, data_words, encode, encode_all}
use Rattle.core_term.specs.Every.{Asked, every, every_term, every_datum, every_data}
use Rattle.core_term.specs.Check as K
use Rattle.comparison.specs.Expression.{Expression, reference_e, datum_e, if_e, lambda_e, application_e, Expressions, none_e, more_e}
use Rattle.comparison.specs.Grammar.{is_free, the_one, first, after, quoted, conditional, formals, with_body, applied, headed, expression_of, expressions_of, later_of}
use Rattle.comparison.specs.Closed.{inside, closed, closed_all}
use Rattle.comparison.specs.Agrees.{Scope, meant, bind, on_variable, on_operation, on_datum, on_if, on_lambda, on_application, same_datum, same_data, same_name, agrees, agree_all}
use Rattle.comparison.specs.Compare.{Verdict, yes, no, refused_on, decided}
use Rattle.comparison.specs.BindersLaws.{names_in}
use Rattle.comparison.proofs.BindersLaws.{bind-names}
use Rattle.supplier.specs.Walk.{Found, outside, open', other, same, left_of, joined, met, Ours, our, constant_sort, variable_sort, operation_sort, name_sort, list_sort, if_sort, lambda_sort, application_sort, no_sort, ours_of, takes, constant_here, form_of, quotes, quote_plan, if_plan, lambda_plan, formals_of, headed_plan, plan_of, is_operation, quoted_name, is_place, free, reference, name_here, walk, walk_from}

no_true : (b : Bool) → (b ≡ true → ⊥) → b ≡ false
no_true true h = absurd (h refl)
no_true false h = refl

and_no : (b : Bool) → (b && false) ≡ false
and_no true = refl
and_no false = refl

-- ---- what is found

unfoldable pub is_lost : Found → Bool
is_lost outside = true
is_lost open' = true
is_lost other = true
is_lost (same l) = false

lost-left : (f : Found) → is_lost f ≡ true → left_of f ≡ []
unfolding is_lost left_of
lost-left outside h = refl
lost-left open' h = refl
lost-left other h = refl
lost-left (same l) h = never h refl

joined-lost : (f g : Found) → is_lost f ≡ true → is_lost (joined f g) ≡ true
unfolding is_lost joined
joined-lost outside g h = refl
joined-lost open' outside h = refl
joined-lost open' open' h = refl
joined-lost open' other h = refl
joined-lost open' (same l) h = refl
joined-lost other outside h = refl
joined-lost other open' h = refl
joined-lost other other h = refl
joined-lost other (same l) h = refl
joined-lost (same l) g h = never h refl

joined-assoc : (f g h : Found) → joined (joined f g) h ≡ joined f (joined g h)
unfolding joined
joined-assoc outside g h = refl
joined-assoc open' outside h = refl
joined-assoc open' open' outside = refl
joined-assoc open' open' open' = refl
joined-assoc open' open' other = refl
joined-assoc open' open' (same l) = refl
joined-assoc open' other outside = refl
joined-assoc open' other open' = refl
joined-assoc open' other other = refl
joined-assoc open' other (same l) = refl
joined-assoc open' (same l) h = refl
joined-assoc other outside h = refl
joined-assoc other open' outside = refl
joined-assoc other open' open' = refl
joined-assoc other open' other = refl
joined-assoc other open' (same l) = refl
joined-assoc other other outside = refl
joined-assoc other other open' = refl
joined-assoc other other other = refl
joined-assoc other other (same l) = refl
joined-assoc other (same l) h = refl
joined-assoc (same l) g h = refl

-- an expression that is closed or not, and agrees or not
unfoldable pub judged : Bool → Bool → List ℕ → Found
judged c a l = cond c (met a l) open'

open-judged : (c : Bool) (l : List ℕ) → joined open' (judged c false l) ≡ open'
unfolding joined judged met
open-judged true l = refl
open-judged false l = refl

other-judged : (c : Bool) (l : List ℕ) → joined other (judged c false l) ≡ judged c false l
unfolding joined judged met
other-judged true l = refl
other-judged false l = refl

lost-other : (f : Found) → is_lost f ≡ true → f ≡ joined f other
unfolding is_lost joined
lost-other outside h = refl
lost-other open' h = refl
lost-other other h = refl
lost-other (same l) h = never h refl

and-true : (b : Bool) → (b && true) ≡ b
and-true true = refl
and-true false = refl

-- ---- scopes and names

meant-some : (n v : ℕ) (s : Scope) → meant n s ≡ some v → any_of (eqb n) (names_in s) ≡ true
unfolding meant any_of
meant-some n v [] e = absurd (none-ne-some _ e)
meant-some n v ((x, w) ∷ s) e = either (eqb n x) (λ h. rw h) (λ h. or_right (eqb n x) _ (meant-some n v s (rw h at e)))

meant-none : (n : ℕ) (s : Scope) → meant n s ≡ none → any_of (eqb n) (names_in s) ≡ false
unfolding meant any_of
meant-none n [] e = refl
meant-none n ((x, w) ∷ s) e = either (eqb n x) (λ h. absurd (some-ne-none w (rw h at e))) (λ h. rw h (meant-none n s (rw h at e)))

get_d_map : (g : ℕ → List ℕ) (l : List ℕ) (p : ℕ) → p < length l → get_or (map g l) p [] ≡ g (get_or l p 0)
get_d_map g [] p h = absurd (omega arith)
get_d_map g (x ∷ l) zero h = refl
get_d_map g (x ∷ l) (suc p) h = get_d_map g l p (omega arith)

any_at : (f : List ℕ → Bool) (g : ℕ → List ℕ) (l : List ℕ) (p : ℕ) → p < length l → f (g (get_or l p 0)) ≡ true → any_of f (map g l) ≡ true
unfolding any_of
any_at f g [] p h e = absurd (omega arith)
any_at f g (x ∷ l) zero h e = or_left _ _ e
any_at f g (x ∷ l) (suc p) h e = or_right (f (g x)) _ (any_at f g l p (omega arith) e)

-- ---- counts

count_e : Expressions → ℕ
count_e none_e = 0
count_e (more_e x xs) = suc (count_e xs)

expressions-count : (ds : Data) (xs : Expressions) → expressions_of ds ≡ some xs → count_e xs ≡ D.count ds
unfolding expressions_of count_e D.count map_both map_some
expressions-count none_d xs e = ap count_e (sym (some-injective _ _ e))
expressions-count (more_d d ds) xs e = go (expression_of d) (expressions_of ds) e (expressions-count ds)
  where
    go : (a : Option Expression) (b : Option Expressions) → map_both more_e a b ≡ some xs → ((ys : Expressions) → b ≡ some ys → count_e ys ≡ D.count ds) → count_e xs ≡ suc (D.count ds)
    go none b q k = absurd (none-ne-some _ q)
    go (some x) none q k = absurd (none-ne-some _ q)
    go (some x) (some ys) q k = ap count_e (sym (some-injective _ _ q)) ∙ ap suc (k ys refl)

-- ---- good terms: what ground 19 asks of each node, but for its scope

unfoldable pub good_in : (ours operations : List ℕ) → Asked (Unit {0})
good_in ours operations = record { test = λ e b x. is_node x && K.known (length operations) (has_name ours) K.outside 0 x; enter = λ e b x. e }

module _ (theirs ours operations : List ℕ) where
  abbrev spelled : List (List ℕ)
  spelled = map (name_at ours) operations

  abbrev is_op : ℕ → Bool
  is_op = is_operation theirs ours operations

  abbrev good : Asked (Unit {0})
  good = good_in ours operations

  -- ---- our node, of words that begin with a term

  unfoldable datum_ours : Datum → List ℕ → Ours
  datum_ours (constant_d a) r = our constant_sort a.kind a.first a.second r
  datum_ours (name_d n) r = our name_sort n 0 0 r
  datum_ours (list_d ds) r = our list_sort (D.count ds) 0 0 (data_words ds ++ r)

  unfoldable term_ours : Plain → List ℕ → Ours
  term_ours (variable_c v) r = our variable_sort v 0 0 r
  term_ours (operation_c p) r = our operation_sort p 0 0 r
  term_ours (datum_c d) r = datum_ours d r
  term_ours (if_c x y z) r = our if_sort 0 0 0 (encode_all (more_c x (more_c y (more_c z none_c))) ++ r)
  term_ours (lambda_c v fs x) r = our lambda_sort (length fs) v 0 (encode_all (more_c x none_c) ++ r)
  term_ours (application_c h ts) r = our application_sort (count ts) 0 0 (encode_all (more_c h ts) ++ r)

  datum-ours : (d : Datum) (r : List ℕ) (b : ℕ) → every_datum good tt b d ≡ true → ours_of (node_at (datum_words d ++ r)) ≡ datum_ours d r
  unfolding every_datum good_in datum_words ours_of datum_ours is_node
  datum-ours (constant_d a) r b h = ap ours_of (node-round (constant_n a) r (and_left _ _ h))
  datum-ours (name_d n) r b h = ap ours_of (node-round (name_n n) r refl)
  datum-ours (list_d ds) r b h = ap (λ ws. ours_of (node_at ws)) (append_assoc (node_words (list_n (D.count ds))) (data_words ds) r) ∙ ap ours_of (node-round (list_n (D.count ds)) (data_words ds ++ r) refl)

  term-ours : (t : Plain) (r : List ℕ) (b : ℕ) → every good tt b t ≡ true → ours_of (node_at (encode t ++ r)) ≡ term_ours t r
  unfolding every good_in encode ours_of term_ours is_node
  term-ours (variable_c v) r b h = ap ours_of (node-round (variable_n v) r refl)
  term-ours (operation_c p) r b h = ap ours_of (node-round (operation_n p) r refl)
  term-ours (datum_c d) r b h = datum-ours d r b h
  term-ours (if_c x y z) r b h =
      ap (λ ws. ours_of (node_at ws)) (append_assoc (node_words if_n) (encode x ++ (encode y ++ encode z)) r) ∙ ap ours_of (node-round if_n ((encode x ++ (encode y ++ encode z)) ++ r) refl)
      ∙ ap (λ ws. our if_sort 0 0 0 ((encode x ++ (encode y ++ ws)) ++ r)) (sym (append-nil (encode z)))
  term-ours (lambda_c v fs x) r b h =
      ap (λ ws. ours_of (node_at ws)) (append_assoc (node_words (lambda_n v fs)) (encode x) r)
      ∙ ap ours_of (node-round (lambda_n v fs) (encode x ++ r) (and_left _ _ (and_left _ _ h)))
      ∙ ap (λ ws. our lambda_sort (length fs) v 0 (ws ++ r)) (sym (append-nil (encode x)))
  term-ours (application_c f ts) r b h =
      ap (λ ws. ours_of (node_at ws)) (append_assoc (node_words (application_n (count ts))) (encode f ++ encode_all ts) r) ∙ ap ours_of (node-round (application_n (count ts)) ((encode f ++ encode_all ts) ++ r) refl)

  none-ours : ours_of (node_at []) ≡ our no_sort 0 0 0 []
  unfolding ours_of node_at of_code sound
  none-ours = refl

  -- ---- quoted data

  abbrev same_datum' : Datum → Datum → Bool
  same_datum' = same_datum (name_at theirs) (name_at ours) spelled

  abbrev same_data' : Data → Data → Bool
  same_data' = same_data (name_at theirs) (name_at ours) spelled

  abbrev walk' : Datum → Bool → Scope → List ℕ → Found
  walk' = walk theirs ours operations

  abbrev walk_all : Data → Bool → Scope → Found → Found
  walk_all ds = walk_from theirs ours operations ds 0

  same_count : (ds es : Data) → same_data' ds es ≡ true → D.count ds ≡ D.count es
  unfolding same_data D.count
  same_count none_d none_d h = refl
  same_count none_d (more_d e es) h = never h refl
  same_count (more_d d ds) none_d h = never h refl
  same_count (more_d d ds) (more_d e es) h = ap suc (same_count ds es (and_right (same_datum' d e) _ h))

  -- our node is no datum
  abbrev NoDatum : Ours → Type 0
  NoDatum o = (eqb constant_sort o.sort ≡ false) × (eqb name_sort o.sort ≡ false) × (eqb list_sort o.sort ≡ false)

  mutual
    unfolding walk plan_of name_here constant_here quoted_name takes met ours_of joined left_of

    datum-lost : (d : Datum) (s : Scope) (ws : List ℕ) → NoDatum (ours_of (node_at ws)) → walk' d true s ws ≡ other
    datum-lost (constant_d a) s ws h = rw h.0
    datum-lost (name_d n) s ws h = rw h.1
    datum-lost (list_d ds) s ws h = rw h.2 (data-lost ds s)

    data-lost : (ds : Data) (s : Scope) → walk_all ds true s other ≡ other
    data-lost none_d s = refl
    data-lost (more_d d ds) s = ap (λ g. walk_all ds true s (joined other g)) (datum-lost d s [] (subst NoDatum (sym none-ours) (refl, refl, refl))) ∙ data-lost ds s

  mutual
    unfolding walk plan_of name_here constant_here quoted_name takes met ours_of joined left_of same_datum matches datum_ours every_datum good_in data_words K.known is_node D.count

    datum-same : (d e : Datum) (s : Scope) (r : List ℕ) (b : ℕ) → every_datum good tt b e ≡ true → walk' d true s (datum_words e ++ r) ≡ met (same_datum' d e) r
    datum-same (constant_d a) (constant_d c) s r b h = ap (constant_here a) (datum-ours (constant_d c) r b h)
    datum-same (constant_d a) (name_d k) s r b h = ap (constant_here a) (datum-ours (name_d k) r b h)
    datum-same (constant_d a) (list_d es) s r b h = ap (constant_here a) (datum-ours (list_d es) r b h)
    datum-same (name_d n) (constant_d c) s r b h = ap (quoted_name theirs ours operations n) (datum-ours (constant_d c) r b h)
    datum-same (name_d n) (name_d k) s r b h = ap (quoted_name theirs ours operations n) (datum-ours (name_d k) r b h) ∙ rw h
    datum-same (name_d n) (list_d es) s r b h = ap (quoted_name theirs ours operations n) (datum-ours (list_d es) r b h)
    datum-same (list_d ds) (constant_d c) s r b h = ap (λ o. walk_all ds true s (takes list_sort (D.count ds) o)) (datum-ours (constant_d c) r b h) ∙ data-lost ds s
    datum-same (list_d ds) (name_d k) s r b h = ap (λ o. walk_all ds true s (takes list_sort (D.count ds) o)) (datum-ours (name_d k) r b h) ∙ data-lost ds s
    datum-same (list_d ds) (list_d es) s r b h =
        ap (λ o. walk_all ds true s (takes list_sort (D.count ds) o)) (datum-ours (list_d es) r b h)
        ∙ either (eqb (D.count ds) (D.count es))
        (λ c. rw c (data-same ds es s r b (eqb-true _ _ c) h))
        (λ c. rw c (data-lost ds s ∙ ap (λ t. met t r) (sym (no_true (same_data' ds es) (λ k. eqb-false _ _ c (same_count ds es k))))))

    data-same : (ds es : Data) (s : Scope) (r : List ℕ) (b : ℕ) → D.count ds ≡ D.count es → every_data good tt b es ≡ true
        → walk_all ds true s (same (data_words es ++ r)) ≡ met (same_data' ds es) r
    data-same none_d none_d s r b c h = refl
    data-same none_d (more_d e es) s r b c h = absurd (omega (arith, c))
    data-same (more_d d ds) none_d s r b c h = absurd (omega (arith, c))
    data-same (more_d d ds) (more_d e es) s r b c h =
        ap (λ ws. walk_all ds true s (walk' d true s ws)) (append_assoc (datum_words e) (data_words es) r)
        ∙ ap (walk_all ds true s) (datum-same d e s (data_words es ++ r) b (and_left _ _ h))
        ∙ either (same_datum' d e) (λ k. rw k (data-same ds es s r b (omega (arith, c)) (and_right (every_datum good tt b e) _ h))) (λ k. rw k (data-lost ds s))

  -- ---- words that begin with our term, or, after a difference, none

  abbrev agrees' : Scope → Expression → Plain → Bool
  agrees' = agrees (name_at theirs) (name_at ours) spelled

  abbrev agree_all' : Scope → Expressions → Plains → Bool
  agree_all' = agree_all (name_at theirs) (name_at ours) spelled

  unfoldable pub words_of : Option Plain → List ℕ → List ℕ
  words_of none r = []
  words_of (some t) r = encode t ++ r

  unfoldable option_ours : Option Plain → List ℕ → Ours
  option_ours none r = our no_sort 0 0 0 []
  option_ours (some t) r = term_ours t r

  unfoldable pub against : Option Plain → Scope → Expression → Bool
  against none s x = false
  against (some t) s x = agrees' s x t

  unfoldable pub fine : ℕ → Option Plain → Bool
  fine b none = true
  fine b (some t) = every good tt b t

  words-ours : (o : Option Plain) (r : List ℕ) (b : ℕ) → fine b o ≡ true → ours_of (node_at (words_of o r)) ≡ option_ours o r
  unfolding words_of option_ours fine
  words-ours none r b h = none-ours
  words-ours (some t) r b h = term-ours t r b h

  unfoldable pub verdict : Scope → (Expression → Bool) → List ℕ → Option Expression → Found
  verdict s a l none = outside
  verdict s a l (some x) = judged (closed is_op (names_in s) x) (a x) l

  unfoldable verdict_all : Scope → (Expressions → Bool) → List ℕ → Option Expressions → Found
  verdict_all s a l none = outside
  verdict_all s a l (some xs) = judged (closed_all is_op (names_in s) xs) (a xs) l

  abbrev Says : Datum → Type 0
  Says d = (s : Scope) (o : Option Plain) (r : List ℕ) (b : ℕ) → fine b o ≡ true → walk' d false s (words_of o r) ≡ verdict s (against o s) r (expression_of d)

  abbrev AllSay : Data → Type 0
  AllSay none_d = Unit {0}
  AllSay (more_d d ds) = Says d × AllSay ds

  -- ---- lists after a difference

  lost-joined : (s : Scope) (l : List ℕ) (e : Option Expression) (es : Option Expressions)
      → joined (verdict s (λ x. false) l e) (verdict_all s (λ xs. false) l es) ≡ verdict_all s (λ xs. false) l (map_both more_e e es)
  unfolding joined verdict verdict_all map_both map_some judged met closed
  lost-joined s l none es = refl
  lost-joined s l (some x) none = either (closed is_op (names_in s) x) (λ c. rw c) (λ c. rw c)
  lost-joined s l (some x) (some xs) =
      either (closed is_op (names_in s) x) (λ c. rw c (other-judged (closed_all is_op (names_in s) xs) l)) (λ c. rw c (open-judged (closed_all is_op (names_in s) xs) l))

  all-lost : (ds : Data) → AllSay ds → (s : Scope) (f : Found) (r : List ℕ) → is_lost f ≡ true
      → walk_all ds false s f ≡ joined f (verdict_all s (λ xs. false) r (expressions_of ds))
  unfolding walk expressions_of verdict_all judged met closed words_of against fine
  all-lost none_d h s f r l = lost-other f l
  all-lost (more_d d ds) h s f r l =
      let v = verdict s (λ x. false) r (expression_of d) in
      ap (λ g. walk_all ds false s (joined f g)) (ap (walk' d false s) (lost-left f l) ∙ h.0 s none r 0 refl)
      ∙ all-lost ds h.1 s (joined f v) r (joined-lost f v l)
      ∙ joined-assoc f v (verdict_all s (λ xs. false) r (expressions_of ds))
      ∙ ap (joined f) (lost-joined s r (expression_of d) (expressions_of ds))

  other-verdict : (s : Scope) (r : List ℕ) (es : Option Expressions) → joined other (verdict_all s (λ xs. false) r es) ≡ verdict_all s (λ xs. false) r es
  unfolding joined verdict_all
  other-verdict s r none = refl
  other-verdict s r (some xs) = other-judged (closed_all is_op (names_in s) xs) r

  -- nothing of the list agrees
  all-other : (ds : Data) → AllSay ds → (s : Scope) (r : List ℕ) → walk_all ds false s other ≡ verdict_all s (λ xs. false) r (expressions_of ds)
  unfolding is_lost
  all-other ds h s r = all-lost ds h s other r refl ∙ other-verdict s r (expressions_of ds)

  pub all-outside : (ds : Data) (q : Bool) (s : Scope) → walk_all ds q s outside ≡ outside
  unfolding walk joined
  all-outside none_d q s = refl
  all-outside (more_d d ds) q s = all-outside ds q s

  -- ---- lists against as many terms

  module _ (s : Scope) (r : List ℕ) (t : Plain) (ts : Plains) (x : Expression) where
    abbrev more : Option Expressions → Found
    more es = verdict_all s (λ xs. agree_all' s xs (more_c t ts)) r (map_both more_e (some x) es)

    more_same : (es : Option Expressions) → closed is_op (names_in s) x ≡ true → agrees' s x t ≡ true → verdict_all s (λ xs. agree_all' s xs ts) r es ≡ more es
    unfolding verdict_all map_both map_some closed agrees
    more_same none c a = refl
    more_same (some xs) c a = rw (c, a)

    more-other : (es : Option Expressions) → closed is_op (names_in s) x ≡ true → agrees' s x t ≡ false → verdict_all s (λ xs. false) r es ≡ more es
    unfolding verdict_all map_both map_some closed agrees
    more-other none c a = refl
    more-other (some xs) c a = rw (c, a)

    more-open : (es : Option Expressions) → closed is_op (names_in s) x ≡ false → joined open' (verdict_all s (λ xs. false) r es) ≡ more es
    unfolding verdict_all map_both map_some closed agrees joined judged
    more-open none c = refl
    more-open (some xs) c = rw c (open-judged (closed_all is_op (names_in s) xs) r)

  step_same : (ds : Data) → AllSay ds → (s : Scope) (r : List ℕ) (t : Plain) (ts : Plains) → walk_all ds false s (same (encode_all ts ++ r)) ≡ verdict_all s (λ xs. agree_all' s xs ts) r (expressions_of ds)
      → (e : Option Expression)
      → walk_all ds false s (verdict s (λ x. agrees' s x t) (encode_all ts ++ r) e) ≡ verdict_all s (λ xs. agree_all' s xs (more_c t ts)) r (map_both more_e e (expressions_of ds))
  unfolding verdict verdict_all map_both judged met is_lost
  step_same ds h s r t ts i none = all-outside ds false s
  step_same ds h s r t ts i (some x) =
      either (closed is_op (names_in s) x)
      (λ c. either (agrees' s x t) (λ a. rw (c, a) (i ∙ more_same s r t ts x (expressions_of ds) c a)) (λ a. rw (c, a) (all-other ds h s r ∙ more-other s r t ts x (expressions_of ds) c a)))
      (λ c. rw c (all-lost ds h s open' r refl ∙ more-open s r t ts x (expressions_of ds) c))

  all_same : (ds : Data) → AllSay ds → (s : Scope) (ts : Plains) (r : List ℕ) (b : ℕ) → D.count ds ≡ count ts → every_term good tt b ts ≡ true
      → walk_all ds false s (same (encode_all ts ++ r)) ≡ verdict_all s (λ xs. agree_all' s xs ts) r (expressions_of ds)
  unfolding walk joined left_of expressions_of verdict_all judged met closed agrees encode every D.count count words_of against fine
  all_same none_d h s none_c r b c g = refl
  all_same none_d h s (more_c t ts) r b c g = absurd (omega (arith, c))
  all_same (more_d d ds) h s none_c r b c g = absurd (omega (arith, c))
  all_same (more_d d ds) h s (more_c t ts) r b c g =
      ap (λ ws. walk_all ds false s (walk' d false s ws)) (append_assoc (encode t) (encode_all ts) r)
      ∙ ap (walk_all ds false s) (h.0 s (some t) (encode_all ts ++ r) b (and_left _ _ g))
      ∙ step_same ds h.1 s r t ts (all_same ds h.1 s ts r (b + variables t) (omega (arith, c)) (and_right (every good tt b t) _ g)) (expression_of d)

  -- ---- names and quotations

  quote-says : (d : Datum) (s : Scope) (o : Option Plain) (r : List ℕ) (b : ℕ) → fine b o ≡ true → walk' d true s (words_of o r) ≡ met (against o s (datum_e d)) r
  unfolding words_of against fine agrees on_datum met option_ours term_ours encode every
  quote-says d s none r b h = datum-lost d s [] (subst NoDatum (sym none-ours) (refl, refl, refl))
  quote-says d s (some (variable_c v)) r b h = datum-lost d s _ (subst NoDatum (sym (term-ours (variable_c v) r b h)) (refl, refl, refl))
  quote-says d s (some (operation_c p)) r b h = datum-lost d s _ (subst NoDatum (sym (term-ours (operation_c p) r b h)) (refl, refl, refl))
  quote-says d s (some (datum_c e)) r b h = datum-same d e s r b h
  quote-says d s (some (if_c x y z)) r b h = datum-lost d s _ (subst NoDatum (sym (term-ours (if_c x y z) r b h)) (refl, refl, refl))
  quote-says d s (some (lambda_c v fs x)) r b h = datum-lost d s _ (subst NoDatum (sym (term-ours (lambda_c v fs x) r b h)) (refl, refl, refl))
  quote-says d s (some (application_c f ts)) r b h = datum-lost d s _ (subst NoDatum (sym (term-ours (application_c f ts) r b h)) (refl, refl, refl))

  unfoldable named : ℕ → Option ℕ → Option Plain → Bool
  named n m none = false
  named n m (some t) = same_name (name_at theirs) (name_at ours) spelled n m t

  variable-says : (n v : ℕ) (o : Option Plain) (r : List ℕ) → takes variable_sort v (option_ours o r) ≡ met (named n (some v) o) r
  unfolding takes option_ours term_ours datum_ours named same_name on_variable met
  variable-says n v none r = refl
  variable-says n v (some (variable_c w)) r = refl
  variable-says n v (some (operation_c p)) r = refl
  variable-says n v (some (datum_c (constant_d a))) r = refl
  variable-says n v (some (datum_c (name_d k))) r = refl
  variable-says n v (some (datum_c (list_d ds))) r = refl
  variable-says n v (some (if_c x y z)) r = refl
  variable-says n v (some (lambda_c w fs x)) r = refl
  variable-says n v (some (application_c f ts)) r = refl

  free-says : (n : ℕ) (o : Option Plain) (r : List ℕ) (b : ℕ) → fine b o ≡ true → free theirs ours operations n (option_ours o r) ≡ judged (is_op n) (named n none o) r
  unfolding free is_place option_ours term_ours datum_ours named same_name on_operation judged met fine every good_in K.known is_node is_operation
  free-says n none r b h = refl
  free-says n (some (variable_c w)) r b h = refl
  free-says n (some (operation_c p)) r b h =
      let l = ltb-true p (length operations) h in
      either (equal (name_at theirs n) (name_at ours (get_or operations p 0)))
      (λ e. rw (h, get_d_map (name_at ours) operations p l, e, any_at (equal (name_at theirs n)) (name_at ours) operations p l e))
      (λ e. rw (h, get_d_map (name_at ours) operations p l, e))
  free-says n (some (datum_c (constant_d a))) r b h = refl
  free-says n (some (datum_c (name_d k))) r b h = refl
  free-says n (some (datum_c (list_d ds))) r b h = refl
  free-says n (some (if_c x y z)) r b h = refl
  free-says n (some (lambda_c w fs x)) r b h = refl
  free-says n (some (application_c f ts)) r b h = refl

  name-says : (n : ℕ) → Says (name_d n)
  unfolding walk name_here expression_of only_if verdict closed reference judged named against agrees
  name-says n s o r b h =
      ap (name_here theirs ours operations false s n) (words-ours o r b h)
      ∙ either (is_free n) (λ f. rw f (go (meant n s) refl ∙ ap (λ a. judged (any_of (eqb n) (names_in s) || is_op n) a r) (named-is o))) (λ f. rw f)
    where
      go : (m : Option ℕ) → meant n s ≡ m → reference theirs ours operations n m (option_ours o r) ≡ judged (any_of (eqb n) (names_in s) || is_op n) (named n m o) r
      go none e = rw (meant-none n s e) (free-says n o r b h)
      go (some v) e = rw (meant-some n v s e) (variable-says n v o r)

      named-is : (u : Option Plain) → named n (meant n s) u ≡ against u s (reference_e n)
      named-is none = refl
      named-is (some t) = refl

  -- ---- forms

  abbrev walk_plan : Data → (skip : ℕ) → Bool → Scope → Found → Found
  walk_plan = walk_from theirs ours operations

  quotation : (ds : Data) (s : Scope) (o : Option Plain) (r : List ℕ) (b : ℕ) → fine b o ≡ true
      → (let p = quote_plan s (quotes ds) (words_of o r) in walk_plan (more_d (name_d 0) ds) p.skip p.quoted p.scope p.state) ≡ verdict s (against o s) r (after (the_one ds) quoted)
  unfolding quote_plan quotes D.count after the_one quoted verdict judged closed walk joined left_of
  quotation none_d s o r b h = refl
  quotation (more_d (constant_d a) none_d) s o r b h = refl
  quotation (more_d (constant_d a) (more_d e es)) s o r b h = all-outside (more_d (constant_d a) (more_d e es)) true s
  quotation (more_d (name_d n) none_d) s o r b h = quote-says (name_d n) s o r b h
  quotation (more_d (name_d n) (more_d e es)) s o r b h = all-outside (more_d (name_d n) (more_d e es)) true s
  quotation (more_d (list_d ds) none_d) s o r b h = quote-says (list_d ds) s o r b h
  quotation (more_d (list_d ds) (more_d e es)) s o r b h = all-outside (more_d (list_d ds) (more_d e es)) true s

  -- if

  conditional-count : (xs : Expressions) → (count_e xs ≡ 3 → ⊥) → conditional xs ≡ none
  unfolding count_e conditional
  conditional-count none_e h = refl
  conditional-count (more_e x none_e) h = refl
  conditional-count (more_e x (more_e y none_e)) h = refl
  conditional-count (more_e x (more_e y (more_e z none_e))) h = absurd (h refl)
  conditional-count (more_e x (more_e y (more_e z (more_e w xs)))) h = refl

  three-says : (s : Scope) (r : List ℕ) (g : Expressions → Bool) (a : Expression → Bool) → ((x y z : Expression) → g (more_e x (more_e y (more_e z none_e))) ≡ a (if_e x y z))
      → (es : Option Expressions) → ((xs : Expressions) → es ≡ some xs → count_e xs ≡ 3) → verdict_all s g r es ≡ verdict s a r (after es conditional)
  unfolding verdict_all verdict after conditional closed count_e
  three-says s r g a h none k = refl
  three-says s r g a h (some none_e) k = absurd (omega (arith, k none_e refl))
  three-says s r g a h (some (more_e x none_e)) k = absurd (omega (arith, k _ refl))
  three-says s r g a h (some (more_e x (more_e y none_e))) k = absurd (omega (arith, k _ refl))
  three-says s r g a h (some (more_e x (more_e y (more_e z none_e)))) k = rw (and-true (closed is_op (names_in s) z), h x y z)
  three-says s r g a h (some (more_e x (more_e y (more_e z (more_e w xs))))) k = absurd (omega (arith, k _ refl))

  if-other : (ds : Data) → AllSay ds → (s : Scope) (o : Option Plain) (r : List ℕ) → D.count ds ≡ 3 → ((x y z : Expression) → false ≡ against o s (if_e x y z))
      → walk_all ds false s other ≡ verdict s (against o s) r (after (expressions_of ds) conditional)
  if-other ds l s o r c h = all-other ds l s r ∙ three-says s r (λ xs. false) (against o s) h (expressions_of ds) (λ xs e. expressions-count ds xs e ∙ c)

  if-says : (ds : Data) → AllSay ds → (s : Scope) (o : Option Plain) (r : List ℕ) (b : ℕ) → fine b o ≡ true → D.count ds ≡ 3
      → walk_all ds false s (takes if_sort 0 (option_ours o r)) ≡ verdict s (against o s) r (after (expressions_of ds) conditional)
  unfolding takes met option_ours term_ours datum_ours against agrees on_if fine every count good_in is_node K.known
  if-says ds l s (some (if_c x y z)) r b h c =
      let g : every_term good tt b (more_c x (more_c y (more_c z none_c))) ≡ true = rw (and-true (every good tt (b + variables x + variables y) z)) h in
      all_same ds l s (more_c x (more_c y (more_c z none_c))) r b c g
      ∙ three-says s r (λ xs. agree_all' s xs (more_c x (more_c y (more_c z none_c)))) (λ e. agrees' s e (if_c x y z)) (λ e f k. rw (and-true (agrees' s k z))) (expressions_of ds) (λ xs e. expressions-count ds xs e ∙ c)
  if-says ds l s none r b h c = if-other ds l s none r c λ x y z. refl
  if-says ds l s (some (variable_c v)) r b h c = if-other ds l s (some (variable_c v)) r c λ x y z. refl
  if-says ds l s (some (operation_c p)) r b h c = if-other ds l s (some (operation_c p)) r c λ x y z. refl
  if-says ds l s (some (datum_c (constant_d a))) r b h c = if-other ds l s (some (datum_c (constant_d a))) r c λ x y z. refl
  if-says ds l s (some (datum_c (name_d n))) r b h c = if-other ds l s (some (datum_c (name_d n))) r c λ x y z. refl
  if-says ds l s (some (datum_c (list_d es))) r b h c = if-other ds l s (some (datum_c (list_d es))) r c λ x y z. refl
  if-says ds l s (some (lambda_c v fs a)) r b h c = if-other ds l s (some (lambda_c v fs a)) r c λ x y z. refl
  if-says ds l s (some (application_c f ts)) r b h c = if-other ds l s (some (application_c f ts)) r c λ x y z. refl

  no-if : (ds : Data) → (D.count ds ≡ 3 → ⊥) → after (expressions_of ds) conditional ≡ none
  unfolding after
  no-if ds c = go (expressions_of ds) (λ xs e. e)
    where
      go : (es : Option Expressions) → ((xs : Expressions) → es ≡ some xs → expressions_of ds ≡ some xs) → after es conditional ≡ none
      go none k = refl
      go (some xs) k = conditional-count xs (λ e. c (sym (expressions-count ds xs (k xs refl)) ∙ e))

  conditional-says : (ds : Data) → AllSay ds → (s : Scope) (o : Option Plain) (r : List ℕ) (b : ℕ) → fine b o ≡ true
      → (let p = if_plan s (eqb (D.count ds) 3) (ours_of (node_at (words_of o r))) in walk_plan (more_d (name_d 1) ds) p.skip p.quoted p.scope p.state)
      ≡ verdict s (against o s) r (after (expressions_of ds) conditional)
  unfolding if_plan walk verdict
  conditional-says ds l s o r b h =
      either (eqb (D.count ds) 3)
      (λ c. rw c (ap (λ u. walk_all ds false s (takes if_sort 0 u)) (words-ours o r b h) ∙ if-says ds l s o r b h (eqb-true _ _ c)))
      (λ c. rw (c, no-if ds (eqb-false _ _ c)) (all-outside ds false s))

  -- lambda

  body-says : (s s' : Scope) (r : List ℕ) (ns : List ℕ) (g : Expressions → Bool) (a : Expression → Bool) → names_in s' ≡ inside ns (names_in s)
      → ((x : Expression) → g (more_e x none_e) ≡ a (lambda_e ns x)) → (e : Option Expression)
      → verdict_all s' g r (map_both more_e e (some none_e)) ≡ verdict s a r (after (map_both more_e e (some none_e)) (with_body ns))
  unfolding verdict_all verdict after with_body map_both map_some closed
  body-says s s' r ns g a i h none = refl
  body-says s s' r ns g a i h (some x) = rw (and-true (closed is_op (names_in s') x), i, h x)

  module _ (d : Datum) (l : Says d) (s : Scope) (ns : List ℕ) (r : List ℕ) where
    abbrev one : Data
    one = more_d d none_d

    abbrev body : Option Expressions
    body = map_both more_e (expression_of d) (some none_e)

    lambda-other : (v : ℕ) (o : Option Plain) → ((x : Expression) → false ≡ against o s (lambda_e ns x))
        → walk_all one false (bind ns v s) other ≡ verdict s (against o s) r (after body (with_body ns))
    unfolding expressions_of
    lambda-other v o h = all-other one (l, tt) (bind ns v s) r ∙ body-says s (bind ns v s) r ns (λ xs. false) (against o s) (bind-names ns v s) h (expression_of d)

    lambda-says : (o : Option Plain) (b : ℕ) → fine b o ≡ true
        → (let u = option_ours o r in walk_all one false (bind ns u.second s) (takes lambda_sort (length ns) u)) ≡ verdict s (against o s) r (after body (with_body ns))
    unfolding takes met option_ours term_ours datum_ours against agrees on_lambda fine every count good_in is_node K.known expressions_of D.count
    lambda-says none b h = lambda-other 0 none λ x. refl
    lambda-says (some (variable_c v)) b h = lambda-other 0 (some (variable_c v)) λ x. refl
    lambda-says (some (operation_c p)) b h = lambda-other 0 (some (operation_c p)) λ x. refl
    lambda-says (some (datum_c (constant_d a))) b h = lambda-other a.first (some (datum_c (constant_d a))) λ x. refl
    lambda-says (some (datum_c (name_d n))) b h = lambda-other 0 (some (datum_c (name_d n))) λ x. refl
    lambda-says (some (datum_c (list_d ds))) b h = lambda-other 0 (some (datum_c (list_d ds))) λ x. refl
    lambda-says (some (if_c x y z)) b h = lambda-other 0 (some (if_c x y z)) λ x. refl
    lambda-says (some (lambda_c v fs a)) b h =
        either (eqb (length ns) (length fs))
        (λ e. let g : every_term good tt (b + length fs) (more_c a none_c) ≡ true = rw (and-true (every good tt (b + length fs) a)) (and_right (good.test tt b (lambda_n v fs)) _ h) in
        rw e (all_same one (l, tt) (bind ns v s) (more_c a none_c) r (b + length fs) refl g
        ∙ body-says s (bind ns v s) r ns (λ xs. agree_all' (bind ns v s) xs (more_c a none_c)) (against (some (lambda_c v fs a)) s) (bind-names ns v s) (λ x. rw (e, and-true (agrees' (bind ns v s) x a))) (expression_of d)))
        (λ e. rw e (lambda-other v (some (lambda_c v fs a)) λ x. rw e))
    lambda-says (some (application_c f ts)) b h = lambda-other 0 (some (application_c f ts)) λ x. refl

  no_body : (ns : List ℕ) (e f : Option Expression) (es : Option Expressions) → after (map_both more_e e (map_both more_e f es)) (with_body ns) ≡ none
  unfolding after map_both map_some with_body
  no_body ns none f es = refl
  no_body ns (some x) none es = refl
  no_body ns (some x) (some y) none = refl
  no_body ns (some x) (some y) (some ys) = refl

  abstraction : (ds : Data) → AllSay ds → (s : Scope) (o : Option Plain) (r : List ℕ) (b : ℕ) → fine b o ≡ true
      → (let p = lambda_plan s (formals_of ds) (option_ours o r) in walk_plan (more_d (name_d 2) ds) p.skip p.quoted p.scope p.state)
      ≡ verdict s (against o s) r (after (after (first ds) formals) (λ ns. after (later_of ds) (with_body ns)))
  unfolding lambda_plan formals_of only_if D.count after first later_of expressions_of walk verdict with_body joined
  abstraction none_d l s o r b h = refl
  abstraction (more_d f none_d) l s o r b h = go (formals f)
    where
      go : (m : Option (List ℕ)) → outside ≡ verdict s (against o s) r (after m (λ ns. none))
      go none = refl
      go (some ns) = refl
  abstraction (more_d f (more_d d none_d)) l s o r b h = go (formals f)
    where
      go : (m : Option (List ℕ))
          → (let p = lambda_plan s m (option_ours o r) in walk_plan (more_d (name_d 2) (more_d f (more_d d none_d))) p.skip p.quoted p.scope p.state)
          ≡ verdict s (against o s) r (after m (λ ns. after (map_both more_e (expression_of d) (some none_e)) (with_body ns)))
      go none = refl
      go (some ns) = lambda-says d l.1.0 s ns r o b h
  abstraction (more_d f (more_d d (more_d e es))) l s o r b h =
      let n : suc (suc (suc (D.count es))) ≡ 2 → ⊥ = λ q. omega (arith, q) in
      rw (ne_eqb (suc (suc (suc (D.count es)))) 2 n) (all-outside es false s ∙ go (formals f))
    where
      go : (m : Option (List ℕ)) → outside ≡ verdict s (against o s) r (after m (λ ns. after (map_both more_e (expression_of d) (map_both more_e (expression_of e) (expressions_of es))) (with_body ns)))
      go none = refl
      go (some ns) = ap (verdict s (against o s) r) (sym (no_body ns (expression_of d) (expression_of e) (expressions_of es)))

  -- applications

  applied-says : (s : Scope) (r : List ℕ) (g : Expressions → Bool) (a : Expression → Bool) (e : Option Expression) (es : Option Expressions)
      → ((x : Expression) (xs : Expressions) → es ≡ some xs → g (more_e x xs) ≡ a (application_e x xs)) → verdict_all s g r (map_both more_e e es) ≡ verdict s a r (applied e es)
  unfolding verdict_all verdict applied map_both map_some closed
  applied-says s r g a none es h = refl
  applied-says s r g a (some x) none h = refl
  applied-says s r g a (some x) (some xs) h = rw (h x xs refl)

  agree-count : (s : Scope) (xs : Expressions) (ts : Plains) → agree_all' s xs ts ≡ true → count_e xs ≡ count ts
  unfolding agrees count_e count
  agree-count s none_e none_c h = refl
  agree-count s none_e (more_c t ts) h = never h refl
  agree-count s (more_e x xs) none_c h = never h refl
  agree-count s (more_e x xs) (more_c t ts) h = ap suc (agree-count s xs ts (and_right (agrees' s x t) _ h))

  module _ (d : Datum) (ds : Data) (l : AllSay (more_d d ds)) (s : Scope) (r : List ℕ) where
    apply-other : (o : Option Plain) → ((x : Expression) (xs : Expressions) → expressions_of ds ≡ some xs → false ≡ against o s (application_e x xs))
        → walk_all (more_d d ds) false s other ≡ verdict s (against o s) r (applied (expression_of d) (expressions_of ds))
    unfolding expressions_of
    apply-other o h = all-other (more_d d ds) l s r ∙ applied-says s r (λ xs. false) (against o s) (expression_of d) (expressions_of ds) h

    application : (o : Option Plain) (b : ℕ) → fine b o ≡ true
        → walk_all (more_d d ds) false s (takes application_sort (D.count ds) (option_ours o r)) ≡ verdict s (against o s) r (applied (expression_of d) (expressions_of ds))
    unfolding takes met option_ours term_ours datum_ours against agrees on_application fine every good_in is_node K.known expressions_of D.count count
    application none b h = apply-other none λ x xs e. refl
    application (some (variable_c v)) b h = apply-other (some (variable_c v)) λ x xs e. refl
    application (some (operation_c p)) b h = apply-other (some (operation_c p)) λ x xs e. refl
    application (some (datum_c (constant_d a))) b h = apply-other (some (datum_c (constant_d a))) λ x xs e. refl
    application (some (datum_c (name_d n))) b h = apply-other (some (datum_c (name_d n))) λ x xs e. refl
    application (some (datum_c (list_d es))) b h = apply-other (some (datum_c (list_d es))) λ x xs e. refl
    application (some (if_c x y z)) b h = apply-other (some (if_c x y z)) λ x xs e. refl
    application (some (lambda_c v fs a)) b h = apply-other (some (lambda_c v fs a)) λ x xs e. refl
    application (some (application_c f ts)) b h =
        either (eqb (D.count ds) (count ts))
        (λ e. rw e (all_same (more_d d ds) l s (more_c f ts) r b (ap suc (eqb-true _ _ e)) h
        ∙ applied-says s r (λ xs. agree_all' s xs (more_c f ts)) (against (some (application_c f ts)) s) (expression_of d) (expressions_of ds) (λ x xs i. refl)))
        (λ e. rw e (apply-other (some (application_c f ts)) λ x xs i.
        sym (ap (λ t. agrees' s x f && t) (no_true (agree_all' s xs ts) (λ k. eqb-false _ _ e (sym (expressions-count ds xs i) ∙ agree-count s xs ts k))) ∙ and_no (agrees' s x f))))

  -- ---- the walk

  list-says : (ds : Data) → AllSay ds → Says (list_d ds)
  unfolding walk plan_of expression_of headed_plan headed form_of verdict
  list-says none_d l s o r b h = refl
  list-says (more_d (constant_d a) ds) l s o r b h =
      ap (λ u. walk_all (more_d (constant_d a) ds) false s (takes application_sort (D.count ds) u)) (words-ours o r b h) ∙ application (constant_d a) ds l s r o b h
  list-says (more_d (name_d zero) ds) l s o r b h = quotation ds s o r b h
  list-says (more_d (name_d (suc zero)) ds) l s o r b h = conditional-says ds l.1 s o r b h
  list-says (more_d (name_d (suc (suc zero))) ds) l s o r b h =
      ap (λ u. let p = lambda_plan s (formals_of ds) u in walk_plan (more_d (name_d 2) ds) p.skip p.quoted p.scope p.state) (words-ours o r b h)
      ∙ abstraction ds l.1 s o r b h
  list-says (more_d (name_d (suc (suc (suc n)))) ds) l s o r b h =
      let m = suc (suc (suc n)) in
      let k : 3 ≤ m = omega arith in
      rw (le-ltb m 3 k) (ap (λ u. walk_all (more_d (name_d m) ds) false s (takes application_sort (D.count ds) u)) (words-ours o r b h) ∙ application (name_d m) ds l s r o b h)
  list-says (more_d (list_d es) ds) l s o r b h =
      ap (λ u. walk_all (more_d (list_d es) ds) false s (takes application_sort (D.count ds) u)) (words-ours o r b h) ∙ application (list_d es) ds l s r o b h

  mutual
    unfolding walk expression_of verdict judged closed name_here

    walk-says : (d : Datum) → Says d
    walk-says (constant_d a) s o r b h = quote-says (constant_d a) s o r b h
    walk-says (name_d n) s o r b h = name-says n s o r b h
    walk-says (list_d ds) s o r b h = list-says ds (all_say ds) s o r b h

    all_say : (ds : Data) → AllSay ds
    all_say none_d = tt
    all_say (more_d d ds) = ((λ s o r b h. walk-says d s o r b h), all_say ds)

  -- ---- the answer

  unfoldable pub answered : Found → Verdict
  answered outside = refused_on 21
  answered open' = refused_on 22
  answered other = no
  answered (same l) = yes

  pub walk-decides : (d : Datum) (t : Plain) → every (good_in ours operations) tt 0 t ≡ true
      → answered (walk' d false [] (encode t)) ≡ decided (name_at theirs) (name_at ours) spelled t (expression_of d)
  unfolding words_of fine answered verdict against judged met decided is_operation
  walk-decides d t h = ap (λ ws. answered (walk' d false [] ws)) (sym (append-nil (encode t))) ∙ ap answered (walk-says d [] (some t) [] 0 h) ∙ go (expression_of d)
    where
      go : (e : Option Expression) → answered (verdict [] (against (some t) []) [] e) ≡ decided (name_at theirs) (name_at ours) spelled t e
      go none = refl
      go (some x) =
          either (closed is_op [] x)
          (λ c. either (agrees' [] x t) (λ a. rw (c, a)) (λ a. rw (c, a)))
          (λ c. rw c)
