-- The grammar is what is written: an element is an expression exactly where an expression is written so.
use Rattle.std.specs.Prelude.{◌≡◌, true, ◌&&◌, List, [], ◌∷◌}
use Rattle.std.proofs.Math.Path.{refl}
use Rattle.std.proofs.Common.{sym, ap, ap₂, subst, ◌∙◌}
use Rattle.std.proofs.lemmas.Bool.{false≢true}
use Rattle.std.proofs.Math.Option.{Option, none, some, some-injective, none-ne-some}
use Prim.Native.Nat.{ℕ, zero, suc}
use Rattle.words.specs.ListLaws.{either}
use Rattle.words.specs.Options.{only_if, map_some, map_both}
use Rattle.words.specs.TestLaws.{and_left, and_right, and_both}
use Rattle.datum.specs.Datum.{Datum, constant_d, name_d, list_d, Data, none_d, more_d}
use Rattle.comparison.specs.Expression.{Expression, reference_e, datum_e, if_e, lambda_e, application_e, Expressions, none_e, more_e}
use Rattle.comparison.specs.Grammar.{is_free, are_formals, the_one, first, names, after, quoted, conditional, formals, with_body, applied, headed, expression_of, list_of, expressions_of, later_of}
use Rattle.comparison.specs.Written.{quotation, name_data, written, written_all, is_expression, are_expressions}
use Rattle.comparison.specs.WrittenLaws.{Good, GoodAll, GoodLater}

-- a list whose head is no form is an application
module _ (ds : Data) (head : Option Expression) (parts later : Option Expressions) where
  free-head : (n : ℕ) → is_free n ≡ true → headed (name_d n) ds head parts later ≡ applied head parts
  unfolding headed is_free
  free-head zero h = absurd (false≢true h)
  free-head (suc zero) h = absurd (false≢true h)
  free-head (suc (suc zero)) h = absurd (false≢true h)
  free-head (suc (suc (suc n))) h = refl

  other-head : (x : Expression) → is_expression x ≡ true → headed (written x) ds head parts later ≡ applied head parts
  unfolding headed written quotation is_expression
  other-head (reference_e n) h = free-head n h
  other-head (datum_e (constant_d a)) h = refl
  other-head (datum_e (name_d n)) h = refl
  other-head (datum_e (list_d es)) h = refl
  other-head (if_e x y z) h = refl
  other-head (lambda_e ns x) h = refl
  other-head (application_e x xs) h = refl

names-are : (ns : List ℕ) → names (name_data ns) ≡ some ns
unfolding names name_data map_some
names-are [] = refl
names-are (n ∷ ns) = ap (map_some (◌∷◌ n)) (names-are ns)

formals-are : (ns : List ℕ) → are_formals ns ≡ true → formals (list_d (name_data ns)) ≡ some ns
unfolding formals after only_if
formals-are ns h = rw (names-are ns, h)

mutual
  unfolding expression_of written quotation is_expression headed the_one first after quoted conditional with_body applied only_if map_some map_both

  pub written_read : (x : Expression) → is_expression x ≡ true → expression_of (written x) ≡ some x
  written_read (reference_e n) h = rw h
  written_read (datum_e (constant_d a)) h = refl
  written_read (datum_e (name_d n)) h = refl
  written_read (datum_e (list_d ds)) h = refl
  written_read (if_e x y z) h =
      let k = and_right (is_expression x) (is_expression y && is_expression z) h in
      rw (written_read x (and_left _ _ h), written_read y (and_left _ _ k), written_read z (and_right (is_expression y) _ k))
  written_read (lambda_e ns x) h = rw (formals-are ns (and_left _ _ h), written_read x (and_right (are_formals ns) _ h))
  written_read (application_e x xs) h =
      other-head (written_all xs) (expression_of (written x)) (expressions_of (written_all xs)) (later_of (written_all xs)) x (and_left _ _ h)
      ∙ ap₂ applied (written_read x (and_left _ _ h)) (all_read xs (and_right (is_expression x) _ h))

  all_read : (xs : Expressions) → are_expressions xs ≡ true → expressions_of (written_all xs) ≡ some xs
  all_read none_e h = refl
  all_read (more_e x xs) h = ap₂ (map_both more_e) (written_read x (and_left _ _ h)) (all_read xs (and_right (is_expression x) _ h))

-- ---- and back: an element that is an expression is that expression written

applied_back : (d : Datum) (ds : Data) (a : Option Expression) (b : Option Expressions) → ((x : Expression) → a ≡ some x → Good x d)
    → ((xs : Expressions) → b ≡ some xs → GoodAll xs ds) → (x : Expression) → applied a b ≡ some x → Good x (list_d (more_d d ds))
unfolding applied map_both map_some written is_expression
applied_back d ds none b f g x e = absurd (none-ne-some _ e)
applied_back d ds (some h) none f g x e = absurd (none-ne-some _ e)
applied_back d ds (some h) (some xs) f g x e =
    let p = f h refl in
    let q = g xs refl in
    subst (λ y. Good y (list_d (more_d d ds))) (some-injective _ _ e) (ap₂ (λ y ys. list_d (more_d y ys)) p.0 q.0, and_both _ _ p.1 q.1)

quote-back : (ds : Data) (x : Expression) → after (the_one ds) quoted ≡ some x → Good x (list_d (more_d (name_d 0) ds))
unfolding after the_one quoted written quotation is_expression
quote-back none_d x e = absurd (none-ne-some _ e)
quote-back (more_d (constant_d a) none_d) x e = absurd (none-ne-some _ e)
quote-back (more_d (name_d n) none_d) x e = subst (λ y. Good y (list_d (more_d (name_d 0) (more_d (name_d n) none_d)))) (some-injective _ _ e) (refl, refl)
quote-back (more_d (list_d es) none_d) x e = subst (λ y. Good y (list_d (more_d (name_d 0) (more_d (list_d es) none_d)))) (some-injective _ _ e) (refl, refl)
quote-back (more_d d (more_d f ds)) x e = absurd (none-ne-some _ e)

if-back : (ds : Data) (b : Option Expressions) → ((xs : Expressions) → b ≡ some xs → GoodAll xs ds) → (x : Expression) → after b conditional ≡ some x
    → Good x (list_d (more_d (name_d 1) ds))
unfolding after conditional written is_expression
if-back ds none g x e = absurd (none-ne-some _ e)
if-back ds (some none_e) g x e = absurd (none-ne-some _ e)
if-back ds (some (more_e a none_e)) g x e = absurd (none-ne-some _ e)
if-back ds (some (more_e a (more_e b none_e))) g x e = absurd (none-ne-some _ e)
if-back ds (some (more_e a (more_e b (more_e c none_e)))) g x e =
    let q = g (more_e a (more_e b (more_e c none_e))) refl in
    let k = and_right (is_expression a) (is_expression b && (is_expression c && true)) q.1 in
    subst (λ y. Good y (list_d (more_d (name_d 1) ds))) (some-injective _ _ e) (
      ap (λ ys. list_d (more_d (name_d 1) ys)) q.0,
      and_both (is_expression a) (is_expression b && is_expression c) (and_left (is_expression a) _ q.1)
          (and_both (is_expression b) (is_expression c) (and_left (is_expression b) _ k) (and_left (is_expression c) true (and_right (is_expression b) (is_expression c && true) k))),
    )
if-back ds (some (more_e a (more_e b (more_e c (more_e d xs))))) g x e = absurd (none-ne-some _ e)

names-by : (n : ℕ) (ds : Data) (o : Option (List ℕ)) (ns : List ℕ) → ((ms : List ℕ) → o ≡ some ms → name_data ms ≡ ds) → map_some (◌∷◌ n) o ≡ some ns
    → name_data ns ≡ more_d (name_d n) ds
unfolding map_some name_data
names-by n ds none ns h e = absurd (none-ne-some _ e)
names-by n ds (some ms) ns h e = ap name_data (sym (some-injective _ _ e)) ∙ ap (more_d (name_d n)) (h ms refl)

names-back : (ds : Data) (ns : List ℕ) → names ds ≡ some ns → name_data ns ≡ ds
unfolding names name_data
names-back none_d ns e = ap name_data (sym (some-injective _ _ e))
names-back (more_d (constant_d a) ds) ns e = absurd (none-ne-some _ e)
names-back (more_d (name_d n) ds) ns e = names-by n ds (names ds) ns (names-back ds) e
names-back (more_d (list_d es) ds) ns e = absurd (none-ne-some _ e)

bound-back : (o : Option (List ℕ)) (ns : List ℕ) → after o (λ ms. only_if (are_formals ms) (some ms)) ≡ some ns → (o ≡ some ns) × (are_formals ns ≡ true)
unfolding after only_if
bound-back none ns e = absurd (none-ne-some _ e)
bound-back (some ms) ns e =
    either (are_formals ms) (λ h. let s : some ms ≡ some ns = rw h at e in (s, subst (λ l. are_formals l ≡ true) (some-injective _ _ s) h)) (λ h. absurd (none-ne-some _ (rw h at e)))

pub formals-back : (f : Datum) (ns : List ℕ) → formals f ≡ some ns → (list_d (name_data ns) ≡ f) × (are_formals ns ≡ true)
unfolding formals
formals-back (constant_d a) ns e = absurd (none-ne-some _ e)
formals-back (name_d n) ns e = absurd (none-ne-some _ e)
formals-back (list_d ds) ns e = let p = bound-back (names ds) ns e in (ap list_d (names-back ds ns p.0), p.1)

body_back : (f : Datum) (es : Data) (ns : List ℕ) (c : Option Expressions) → ((xs : Expressions) → c ≡ some xs → GoodAll xs es)
    → (list_d (name_data ns) ≡ f) × (are_formals ns ≡ true) → (x : Expression) → after c (with_body ns) ≡ some x → Good x (list_d (more_d (name_d 2) (more_d f es)))
unfolding after with_body written is_expression
body_back f es ns none g p x e = absurd (none-ne-some _ e)
body_back f es ns (some none_e) g p x e = absurd (none-ne-some _ e)
body_back f es ns (some (more_e y none_e)) g p x e =
    let q = g (more_e y none_e) refl in
    subst (λ z. Good z (list_d (more_d (name_d 2) (more_d f es)))) (some-injective _ _ e)
    (ap₂ (λ z zs. list_d (more_d (name_d 2) (more_d z zs))) p.0 q.0, and_both _ _ p.1 (and_left (is_expression y) _ q.1))
body_back f es ns (some (more_e y (more_e z xs))) g p x e = absurd (none-ne-some _ e)

lambda-by : (f : Datum) (es : Data) (o : Option (List ℕ)) (c : Option Expressions) → formals f ≡ o → ((xs : Expressions) → c ≡ some xs → GoodAll xs es)
    → (x : Expression) → after o (λ ns. after c (with_body ns)) ≡ some x → Good x (list_d (more_d (name_d 2) (more_d f es)))
unfolding after
lambda-by f es none c h g x e = absurd (none-ne-some _ e)
lambda-by f es (some ns) c h g x e = body_back f es ns c g (formals-back f ns h) x e

lambda-back : (ds : Data) (c : Option Expressions) → ((xs : Expressions) → c ≡ some xs → GoodLater xs ds) → (x : Expression)
    → after (after (first ds) formals) (λ ns. after c (with_body ns)) ≡ some x → Good x (list_d (more_d (name_d 2) ds))
unfolding after first
lambda-back none_d c g x e = absurd (none-ne-some _ e)
lambda-back (more_d f es) c g x e = lambda-by f es (formals f) c refl g x e

headed-back : (d : Datum) (ds : Data) (a : Option Expression) (b c : Option Expressions) → ((x : Expression) → a ≡ some x → Good x d)
    → ((xs : Expressions) → b ≡ some xs → GoodAll xs ds) → ((xs : Expressions) → c ≡ some xs → GoodLater xs ds)
    → (x : Expression) → headed d ds a b c ≡ some x → Good x (list_d (more_d d ds))
unfolding headed
headed-back (constant_d k) ds a b c f g h x e = applied_back (constant_d k) ds a b f g x e
headed-back (name_d zero) ds a b c f g h x e = quote-back ds x e
headed-back (name_d (suc zero)) ds a b c f g h x e = if-back ds b g x e
headed-back (name_d (suc (suc zero))) ds a b c f g h x e = lambda-back ds c h x e
headed-back (name_d (suc (suc (suc n)))) ds a b c f g h x e = applied_back (name_d (suc (suc (suc n)))) ds a b f g x e
headed-back (list_d es) ds a b c f g h x e = applied_back (list_d es) ds a b f g x e

more-back : (d : Datum) (ds : Data) (a : Option Expression) (b : Option Expressions) → ((x : Expression) → a ≡ some x → Good x d)
    → ((xs : Expressions) → b ≡ some xs → GoodAll xs ds) → (xs : Expressions) → map_both more_e a b ≡ some xs → GoodAll xs (more_d d ds)
unfolding map_both map_some written is_expression
more-back d ds none b f g xs e = absurd (none-ne-some _ e)
more-back d ds (some x) none f g xs e = absurd (none-ne-some _ e)
more-back d ds (some x) (some ys) f g xs e =
    let p = f x refl in
    let q = g ys refl in
    subst (λ zs. GoodAll zs (more_d d ds)) (some-injective _ _ e) (ap₂ more_d p.0 q.0, and_both _ _ p.1 q.1)

free_back : (n : ℕ) (x : Expression) → only_if (is_free n) (some (reference_e n)) ≡ some x → Good x (name_d n)
unfolding only_if written is_expression
free_back n x e = either (is_free n) (λ h. subst (λ y. Good y (name_d n)) (some-injective _ _ (rw h at e)) (refl, h)) (λ h. absurd (none-ne-some _ (rw h at e)))

mutual
  unfolding expression_of written quotation is_expression

  pub read-written : (d : Datum) (x : Expression) → expression_of d ≡ some x → Good x d
  read-written (constant_d a) x e = subst (λ y. Good y (constant_d a)) (some-injective _ _ e) (refl, refl)
  read-written (name_d n) x e = free_back n x e
  read-written (list_d ds) x e = list_written ds x e

  list_written : (ds : Data) (x : Expression) → list_of ds ≡ some x → Good x (list_d ds)
  list_written none_d x e = absurd (none-ne-some _ e)
  list_written (more_d d ds) x e = headed-back d ds (expression_of d) (expressions_of ds) (later_of ds) (λ y f. read-written d y f) (λ ys f. all-written ds ys f) (λ ys f. later-written ds ys f) x e

  all-written : (ds : Data) (xs : Expressions) → expressions_of ds ≡ some xs → GoodAll xs ds
  all-written none_d xs e = subst (λ ys. GoodAll ys none_d) (some-injective _ _ e) (refl, refl)
  all-written (more_d d ds) xs e = more-back d ds (expression_of d) (expressions_of ds) (λ y f. read-written d y f) (λ ys f. all-written ds ys f) xs e

  later-written : (ds : Data) (xs : Expressions) → later_of ds ≡ some xs → GoodLater xs ds
  later-written none_d xs e = absurd (none-ne-some _ e)
  later-written (more_d d ds) xs e = all-written ds xs e
