-- The constants of an accepted text are constants, and its names have numbers below the limit.
use Rattle.std.specs.Prelude.{◌≡◌, refl, Bool, true, List, [], ◌∷◌, ℕ, zero, suc, ◌≤◌, ◌<◌, ltb, length}
use Rattle.std.proofs.Common.{subst, arith, length-append, lt-ltb, ltb-true}
use Rattle.words.specs.Limits.{names_most, places_most}
use Rattle.words.specs.Lists.{all_of}
use Rattle.words.specs.ListLaws.{either}
use Rattle.words.specs.TestLaws.{and_parts, and_both, all_append, within-is}
use Rattle.datum.specs.Constant.{is_constant, integer, boolean, decimal}
use Rattle.reading.specs.Token.{Token, open', close', bad, flag, run}
use Rattle.reading.specs.Meaning.{Meaning, begins, ends, constant, name, refused, number}
use Rattle.reading.specs.Numbering.{base_names, number_of, with_name}
use Rattle.reading.specs.Laws.Elements.{names-grow-all}
use Rattle.reading.proofs.Laws.MeaningsLaws.{fraction-places}
use Rattle.reading.specs.NumberingLaws.{number-most}
use Rattle.reading.specs.RecipeText as R
use Rattle.reading.specs.CoreText.{one, CoreText, core_element}
use Rattle.reading.specs.RecipeText.{HasTokens, Means, Mean, Element, Elements, constant_e, name_e, list_e, none_e, more_e, spelled, spelled_all, names_of, names_of_all, numbered, numbered_all, HasElements}
use Rattle.reading_layout.specs.Items.{fits, fit_all}

-- ---- tokens and meanings

-- a boolean's token is 0 or 1
is_token : Token → Bool
is_token open' = true
is_token close' = true
is_token bad = true
is_token (flag b) = ltb b 2
is_token (run cs) = true

tokens-good : {text : List ℕ} {ts : List Token} → HasTokens text ts → all_of is_token ts ≡ true
unfolding all_of is_token
tokens-good R.none = refl
tokens-good (R.separator s h) = tokens-good h
tokens-good (R.opening h) = tokens-good h
tokens-good (R.closing h) = tokens-good h
tokens-good (R.hash-t h) = tokens-good h
tokens-good (R.hash-f h) = tokens-good h
tokens-good (R.longest a e h) = tokens-good h

is_meant : Meaning → Bool
is_meant begins = true
is_meant ends = true
is_meant (constant a) = is_constant a
is_meant (name cs) = true
is_meant (refused g) = true

-- a number of few places is a constant
number-good : (w p : ℕ) → p ≤ places_most → is_constant (number w p) ≡ true
unfolding is_constant number integer decimal
number-good w zero h = refl
number-good w (suc p) h = within-is 1 places_most (suc p) (omega arith) h

means-good : {t : Token} {m : Meaning} → Means t m → is_token t ≡ true → is_meant m ≡ true
unfolding is_token is_meant is_constant boolean
means-good R.opens h = refl
means-good R.closes h = refl
means-good R.boolean' h = and_both _ _ h refl
means-good (R.positive cs a f l) h = number-good _ _ (fraction-places f)
means-good (R.negative cs a f l) h = number-good _ _ (fraction-places f)
means-good (R.named a b d e) h = refl

mean-good : {ts : List Token} {ms : List Meaning} → Mean ts ms → all_of is_token ts ≡ true → all_of is_meant ms ≡ true
unfolding all_of
mean-good R.none h = refl
mean-good (R.more w q) h =
    let p = and_parts _ _ h in
    and_both _ _ (means-good w p.0) (mean-good q p.1)

-- ---- elements

pub number-with : (cs : List ℕ) (names : List (List ℕ)) → number_of cs names < length (with_name cs names)
unfolding with_name
number-with cs names =
    either (ltb (number_of cs names) (length names)) (λ e. rw e (ltb-true _ _ e))
    (λ e. rw e (omega (arith, number-most cs names, length-append names (cs ∷ []))))

mutual
  unfolding fits fit_all spelled spelled_all numbered numbered_all names_of names_of_all all_of is_meant

  element-fits : (x : Element) (names : List (List ℕ)) → all_of is_meant (spelled x) ≡ true → length (names_of x names) ≤ names_most → fits (numbered x names) ≡ true
  element-fits (constant_e a) names h l = (and_parts _ _ h).0
  element-fits (name_e cs) names h l = lt-ltb (number_of cs names) names_most (omega (arith, number-with cs names, l))
  element-fits (list_e xs) names h l =
      let p = and_parts (all_of is_meant (spelled_all xs)) _ (subst (λ b. b ≡ true) (all_append is_meant (spelled_all xs) (ends ∷ [])) h) in
      elements-fit xs names p.0 l

  elements-fit : (xs : Elements) (names : List (List ℕ)) → all_of is_meant (spelled_all xs) ≡ true → length (names_of_all xs names) ≤ names_most
      → fit_all (numbered_all xs names) ≡ true
  elements-fit none_e names h l = refl
  elements-fit (more_e x xs) names h l =
      let p = and_parts (all_of is_meant (spelled x)) _ (subst (λ b. b ≡ true) (all_append is_meant (spelled x) (spelled_all xs)) h) in
      and_both _ _ (element-fits x names p.0 (omega (arith, l, names-grow-all xs (names_of x names)))) (elements-fit xs (names_of x names) p.1 l)

-- ---- texts

pub text-fits : (text : List ℕ) (xs : Elements) → HasElements text xs → fit_all (numbered_all xs base_names) ≡ true
text-fits text xs t = elements-fit xs base_names (mean-good t.allowed (tokens-good t.has_tokens)) t.few_names

pub core-fits : (text : List ℕ) (x : Element) → CoreText text x → fit_all (core_element x).elements ≡ true
unfolding core_element
core-fits text x t = text-fits text (one x) t
