-- Reading accepts exactly the texts of as many elements as are wanted, and gives their numbering; a recipe text is the case of two.
-- The interface is accepts-elements, accepted-elements and has-once, of a recipe text accepts, accepted-only and elements-once; N and the
-- names of an accepted text stand in AcceptedLaws.
use Rattle.std.specs.Prelude.{◌≡◌, refl, true, false, List, [], ◌∷◌, ◌++◌, map, ltb, length}
use Rattle.std.proofs.Common.{sym, ap, ap₂, subst, ◌∙◌, arith}
use Prim.Native.Nat.{ℕ, zero, suc, ◌≤◌}
use borrow.Author.Tests.{ne_eqb, le-ltb, ltb-false}
use Rattle.words.specs.Limits.{item_words_least, name_bytes_least, text_bytes_most}
use Rattle.words.specs.ListLaws.{either, never}
use Rattle.reading.specs.Token.{Token, tokens}
use Rattle.reading.specs.Meaning.{Meaning, begins, ends, constant, name, refused, meaning_of}
use Rattle.reading.specs.Numbering.{base_names}
use Rattle.reading.specs.Elements.{got, then, Reading, start, onto, none_open, is_complete, takes, takes_all}
use Rattle.reading.specs.Read.{Recipe, finished, recipe_over, elements_of, read_elements, read}
use Rattle.reading.specs.RecipeText as R
use Rattle.reading.specs.RecipeText.{Mean, Element, Elements, none_e, more_e, spelled_all, names_of_all, numbered_all, HasElements, said_by, both, RecipeText, recipe}
use Rattle.reading.specs.Laws.Tokens.{tokens-are, tokens-had}
use Rattle.reading.specs.Laws.Spelling as Spelling
use Rattle.reading.specs.Laws.Meanings.{is_refused}
use Rattle.reading.proofs.Laws.MeaningsLaws.{means_is, is-meant}
use Rattle.reading.specs.Laws.Elements.{got-only, never-got, then-got, Within, FitAll, after, element-taken, element-fits, fits-within, first_fits, others-fit, more-fit, none-fit, Rest, last, rest}
use Rattle.reading.specs.Accepts.{Accepted, AcceptedElements, many}

-- ---- meanings of all tokens

pub mean-is : {ts : List Token} {ms : List Meaning} → Mean ts ms → map meaning_of ts ≡ ms
mean-is R.none = refl
mean-is (R.more w q) = ap₂ ◌∷◌ (means_is w) (mean-is q)

taken-allowed : (m : Meaning) (r s : Reading) → takes m r ≡ got s → is_refused m ≡ false
unfolding takes is_refused
taken-allowed begins r s h = refl
taken-allowed ends r s h = refl
taken-allowed (constant a) r s h = refl
taken-allowed (name cs) r s h = refl
taken-allowed (refused g) r s h = never-got h

-- tokens that are all taken are all allowed
pub taken-mean : (ts : List Token) (r s : Reading) → takes_all (map meaning_of ts) r ≡ got s → Mean ts (map meaning_of ts)
unfolding takes_all
taken-mean [] r s h = R.none
taken-mean (t ∷ ts) r s h =
    let u = then-got (takes (meaning_of t) r) (takes_all (map meaning_of ts)) s h in
    R.more (is-meant t (taken-allowed (meaning_of t) r u.0 u.1)) (taken-mean ts u.0 s u.2)

-- ---- a text's elements, one after another

unfoldable after_each : Elements → Reading → Reading
after_each none_e r = r
after_each (more_e x xs) r = after_each xs (after x r)

-- no list is open, and so many elements are missing
record Lacks (n : ℕ) (r : Reading) : Type 0 where
  pub outer : none_open r.around ≡ true
  pub lacks : r.missing ≡ n

lacks-start : (n : ℕ) → Lacks n (start base_names n)
unfolding start none_open
lacks-start n = record { outer = refl; lacks = refl }

module _ (r : Reading) where
  lacks-none : Lacks 0 r → is_complete r ≡ true
  unfolding is_complete
  lacks-none l = rw (l.outer, l.lacks)

  lacks-some : (n : ℕ) → Lacks (suc n) r → is_complete r ≡ false
  unfolding is_complete
  lacks-some n l = rw (l.outer, l.lacks, ne_eqb (suc n) 0 (λ e. omega arith))

  lacks-next : (x : Element) (n : ℕ) → Lacks (suc n) r → Lacks n (after x r)
  unfolding after
  lacks-next x n l = record { outer = l.outer; lacks = rw l.outer (omega (arith, l.lacks)) }

-- elements that fit are taken
each-taken : (xs : Elements) (r : Reading) → Lacks (many xs) r → FitAll xs r → takes_all (spelled_all xs) r ≡ got (after_each xs r)
unfolding spelled_all takes_all after_each many
each-taken none_e r l f = refl
each-taken (more_e x xs) r l f =
    element-taken x r (spelled_all xs) (first_fits r x xs (lacks-some r (many xs) l) f)
    ∙ each-taken xs (after x r) (lacks-next r x (many xs) l) (others-fit r x xs f)

each-finished : (xs : Elements) (r : Reading) → Lacks (many xs) r
    → finished (after_each xs r) ≡ got (record { elements = onto r.here (numbered_all xs r.known); names = names_of_all xs r.known })
unfolding after_each many finished numbered_all names_of_all after onto
each-finished none_e r l = rw (lacks-none r l)
each-finished (more_e x xs) r l = each-finished xs (after x r) (lacks-next r x (many xs) l)

-- ---- a text of as many elements as are wanted is accepted

text-accepted : (text : List ℕ) (xs : Elements) → HasElements text xs → elements_of (many xs) text ≡ got (said_by xs)
unfolding elements_of recipe_over then said_by start onto
text-accepted text xs t =
    let begin = start base_names (many xs) in
    let e : map meaning_of (tokens text) ≡ spelled_all xs = ap (map meaning_of) (tokens-are t.has_tokens) ∙ mean-is t.allowed in
    let f : FitAll xs begin = record { elements = omega (arith, t.few_elements); names = t.few_names; lists = omega (arith, t.shallow) } in
    rw (e, each-taken xs begin (lacks-start (many xs)) f) (each-finished xs begin (lacks-start (many xs)))

-- the call reads where the tables are large enough and the text is short enough
read_is : (n : ℕ) (text : List ℕ) (items names : ℕ) → item_words_least ≤ items → name_bytes_least ≤ names → length text ≤ text_bytes_most
    → read_elements n text items names ≡ elements_of n text
unfolding read_elements
read_is n text items names i b t = rw (le-ltb _ _ i, le-ltb _ _ b, le-ltb _ _ t)

pub accepts-elements : (text : List ℕ) (items names : ℕ) (xs : Elements) → item_words_least ≤ items → name_bytes_least ≤ names → HasElements text xs
    → read_elements (many xs) text items names ≡ got (said_by xs)
accepts-elements text items names xs i n t = read_is (many xs) text items names i n t.short ∙ text-accepted text xs t

-- ---- and no other text is

finished-complete : (s : Reading) (r : Recipe) → finished s ≡ got r → is_complete s ≡ true
unfolding finished
finished-complete s r h = either (is_complete s) (λ e. e) (λ e. never-got (rw e at h))

spelled_by : {ms : List Meaning} → Rest 0 ms → (xs : Elements) × (ms ≡ spelled_all xs)
spelled_by (last xs) = (xs, refl)

-- the elements of a text that is taken to its end fit, and are as many as were missing
module _ (s : Reading) (c : is_complete s ≡ true) where
  each_fits : (xs : Elements) (r : Reading) (n : ℕ) → Lacks n r → Within r → takes_all (spelled_all xs) r ≡ got s → (many xs ≡ n) × FitAll xs r
  unfolding spelled_all takes_all many
  each_fits none_e r zero l w h = (refl, none-fit r w)
  each_fits none_e r (suc n) l w h = never (subst (λ q. is_complete q ≡ true) (sym (got-only h)) c) (lacks-some r n l)
  each_fits (more_e x xs) r zero l w h = never (lacks-none r l) (element-fits x r (spelled_all xs) s h).room
  each_fits (more_e x xs) r (suc n) l w h =
      let f = element-fits x r (spelled_all xs) s h in
      let g = each_fits xs (after x r) n (lacks-next r x n l) (fits-within x r f) (sym (element-taken x r (spelled_all xs) f) ∙ h) in
      (ap suc g.0, more-fit r x xs f g.1)

within-start : (n : ℕ) → Within (start base_names n)
unfolding start base_names
within-start n = record { elements = omega arith; names = omega arith; lists = omega arith }

text-only : (n : ℕ) (text : List ℕ) (r : Recipe) → length text ≤ text_bytes_most → elements_of n text ≡ got r
    → (xs : Elements) × (many xs ≡ n) × HasElements text xs
unfolding elements_of recipe_over start
text-only n text r short h =
    let begin = start base_names n in
    let meant = map meaning_of (tokens text) in
    let u = then-got (takes_all meant begin) finished r h in
    let c = finished-complete u.0 r u.2 in
    let xs = spelled_by (rest meant begin u.0 u.1 c) in
    let f = each_fits u.0 c xs.0 begin n (lacks-start n) (within-start n) (ap (λ ms. takes_all ms begin) (sym xs.1) ∙ u.1) in
    let m = taken-mean (tokens text) begin u.0 u.1 in (
      xs.0,
      f.0,
      record {
        short = short;
        tokens = tokens text;
        has_tokens = tokens-had text meant m;
        allowed = subst (Mean (tokens text)) xs.1 m;
        few_elements = omega (arith, f.1.elements);
        few_names = f.1.names;
        shallow = omega (arith, f.1.lists);
      },
    )

-- grounds 1 and 2 were passed
read-passed : (n : ℕ) (text : List ℕ) (items names : ℕ) (r : Recipe) → read_elements n text items names ≡ got r
    → (item_words_least ≤ items) × (name_bytes_least ≤ names) × (length text ≤ text_bytes_most)
unfolding read_elements
read-passed n text items names r h =
    either (ltb items item_words_least) (λ a. never-got (rw a at h))
    (λ a. either (ltb names name_bytes_least) (λ b. never-got (rw (a, b) at h))
    (λ b. either (ltb text_bytes_most (length text)) (λ d. never-got (rw (a, b, d) at h))
    (λ d. (ltb-false _ _ a, ltb-false _ _ b, ltb-false _ _ d))))

pub accepted-elements : (n : ℕ) (text : List ℕ) (items names : ℕ) (r : Recipe) → read_elements n text items names ≡ got r
    → AcceptedElements n text items names r
accepted-elements n text items names r h =
    let p = read-passed n text items names r h in
    let k : elements_of n text ≡ got r = sym (read_is n text items names p.0 p.1 p.2) ∙ h in
    let t = text-only n text r p.2 k in
    record {
      enough_items = p.0;
      enough_names = p.1;
      elements = t.0;
      wanted = t.1;
      has = t.2;
      same = got-only (sym k ∙ ap (λ m. elements_of m text) (sym t.1) ∙ text-accepted text t.0 t.2);
    }

-- ---- a text has its elements once

pub has-once : (text : List ℕ) (xs ys : Elements) → HasElements text xs → HasElements text ys → xs ≡ ys
has-once text xs ys s t =
    let e : spelled_all xs ≡ spelled_all ys =
    sym (mean-is s.allowed) ∙ ap (map meaning_of) (sym (tokens-are s.has_tokens) ∙ tokens-are t.has_tokens) ∙ mean-is t.allowed in
    (Spelling.elements-once xs ys [] [] (ap (λ ms. ms ++ (ends ∷ [])) e)).0

-- ---- recipe texts

pub accepts : (text : List ℕ) (items names : ℕ) (x y : Element) → item_words_least ≤ items → name_bytes_least ≤ names → RecipeText text x y
    → read text items names ≡ got (recipe x y)
unfolding read recipe both many
accepts text items names x y i n t = accepts-elements text items names (both x y) i n t

are-two : (xs : Elements) → many xs ≡ 2 → (x : Element) × (y : Element) × (xs ≡ both x y)
unfolding many both
are-two none_e h = absurd (omega arith)
are-two (more_e x none_e) h = absurd (omega arith)
are-two (more_e x (more_e y none_e)) h = (x, y, refl)
are-two (more_e x (more_e y (more_e z zs))) h = absurd (omega arith)

pub accepted-only : (text : List ℕ) (items names : ℕ) (r : Recipe) → read text items names ≡ got r → Accepted text items names r
unfolding read recipe
accepted-only text items names r h =
    let a = accepted-elements 2 text items names r h in
    let t = are-two a.elements a.wanted in
    record {
      enough_items = a.enough_items;
      enough_names = a.enough_names;
      first = t.0;
      second = t.1;
      is_recipe = subst (HasElements text) t.2 a.has;
      same = a.same ∙ ap said_by t.2;
    }

pub elements-once : (text : List ℕ) (x y v w : Element) → RecipeText text x y → RecipeText text v w → (x ≡ v) × (y ≡ w)
unfolding both
elements-once text x y v w s t =
    let e = has-once text (both x y) (both v w) s t in
    (cc, cc)
