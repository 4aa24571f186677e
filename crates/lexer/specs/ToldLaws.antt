-- Laws of taking a token, one for each way through the code.
use Rattle.std.specs.Prelude.{◌≡◌, refl, true, false, not, ℕ, suc, ◌+◌, ◌-◌, ◌≤◌, ◌<◌, eqb, get_or, take, drop, Some}
use Rattle.std.proofs.Common.{sym, subst, ◌∙◌, arith, add-one, drop-cons}
use Rattle.std.proofs.Math.Path.{ap}
use Rattle.std.proofs.Math.Bool.{and-true, and-false}
use mathlib.Core.List.{List, [], ◌∷◌, ◌++◌, map}
use Rattle.std.proofs.Math.ListN.{length}
use Rattle.std.proofs.Math.Seq.{drop-length}
use borrow.Author.Tests.{le-leb, lt-leb, ne_eqb}
use Rattle.words.specs.Lists.{within, all_of, any_of, equal}
use Rattle.words.specs.Parts.{part}
use Rattle.words.specs.TestLaws.{and_left, and_right, within-most}
use Rattle.words.specs.ListLaws.{all_append, part-more, part-split, length_part}
use Rattle.words.specs.Text.{bytes}
use Rattle.reading.specs.Token.{foreign, run, nothing, hash, is_digit, is_running, is_separating, class_of, flag_of, alone, completed, begun, next, ended, tokens_after}
use Rattle.reading.specs.Meaning.{Meaning, begins, ends, refused, meaning_of, is_name}
use Rattle.reading.specs.RecipeText.{EndsRun, at_end, before}
use Rattle.reading.specs.Offset.{leading, width_of, first_width, start_at, next_at}
use Rattle.reading.proofs.Laws.Offsets.{leading-append, leading-more, leading-stops, leading-ends}
use Rattle.reading.specs.Laws.Tokens.{class-running, separator-skipped, run-taken}
use Rattle.lexer.specs.Told.{meanings_from, Skipped, RunTo, Told, Stands, Lexed}
use Rattle.lexer.specs.declared.token.Lexeme.{Lexeme}

-- ---- names

pub name-none : (cs : List ℕ) → length cs ≡ 0 → false ≡ is_name cs
unfolding is_name within
name-none [] h = refl
name-none (c ∷ cs) h = absurd (omega arith)

pub name-long : (cs : List ℕ) → 63 < length cs → false ≡ is_name cs
unfolding is_name within
name-long cs h = rw (lt-leb _ _ h, and-false)

pub name-one : (cs : List ℕ) → length cs ≡ 1 → not (eqb (get_or cs 0 0) 46) ≡ is_name cs
unfolding is_name within equal
name-one [] h = absurd (omega arith)
name-one (c ∷ []) h = rw and-true
name-one (c ∷ d ∷ cs) h = absurd (omega arith)

pub name-many : (cs : List ℕ) → (length cs ≡ 0 → ⊥) → (length cs ≡ 1 → ⊥) → length cs ≤ 63 → true ≡ is_name cs
unfolding is_name within equal
name-many [] h k l = absurd (h refl)
name-many (c ∷ []) h k l = absurd (k refl)
name-many (c ∷ d ∷ cs) h k l =
    let m : 1 ≤ length (c ∷ d ∷ cs) = omega arith in
    rw (le-leb _ _ m, le-leb _ _ l, and-false)

pub name-short : (cs : List ℕ) → is_name cs ≡ true → length cs ≤ 63
unfolding is_name
name-short cs h = within-most 1 63 (length cs) (and_left (within 1 63 (length cs)) (not (equal cs (46 ∷ []))) h)

-- ---- bytes

foreign-class : (b : ℕ) → is_running b ≡ false → is_separating b ≡ false → (b ≡ 40 → ⊥) → (b ≡ 41 → ⊥) → (b ≡ 35 → ⊥) → class_of b ≡ foreign
unfolding class_of
foreign-class b r s o c p = rw (r, s, ne_eqb _ _ o, ne_eqb _ _ c, ne_eqb _ _ p)

module _ (text : List ℕ) (at : ℕ) (h : at < length text) where
  -- the text from here on
  here : drop at text ≡ get_or text at 0 ∷ drop (at + 1) text
  here = drop-cons text at 0 h ∙ rw add-one

  pub separator-step : is_separating (get_or text at 0) ≡ true → meanings_from text at ≡ meanings_from text (at + 1)
  unfolding meanings_from
  separator-step s = ap (λ bs. map meaning_of (tokens_after nothing bs)) here ∙ ap (map meaning_of) (separator-skipped _ _ s)

  pub separator-start : is_separating (get_or text at 0) ≡ true → start_at text at ≡ start_at text (at + 1)
  unfolding start_at
  separator-start s = leading-more is_separating text at h s

  pub token-start : is_separating (get_or text at 0) ≡ false → start_at text at ≡ at
  unfolding start_at
  token-start s = leading-stops is_separating text at h s

  pub run_step : (from : ℕ) → from ≤ at → all_of is_running (part from at text) ≡ true → is_running (get_or text at 0) ≡ true
      → all_of is_running (part from (at + 1) text) ≡ true
  unfolding all_of
  run_step from l a r = rw (part-more from at text l h) (all_append is_running (part from at text) (get_or text at 0 ∷ []) a (rw r))

  pub run-stops : is_running (get_or text at 0) ≡ false → EndsRun (drop at text)
  run-stops r = rw here (before r)

  pub opening-taken : get_or text at 0 ≡ 40 → (meanings_from text at ≡ begins ∷ meanings_from text (at + 1)) × (first_width (drop at text) ≡ 1)
  unfolding meanings_from first_width width_of tokens_after completed next alone begun class_of is_running is_digit is_separating within any_of bytes meaning_of
  opening-taken e = (rw (here, e), rw (here, e))

  pub closing-taken : get_or text at 0 ≡ 41 → (meanings_from text at ≡ ends ∷ meanings_from text (at + 1)) × (first_width (drop at text) ≡ 1)
  unfolding meanings_from first_width width_of tokens_after completed next alone begun class_of is_running is_digit is_separating within any_of bytes meaning_of
  closing-taken e = (rw (here, e), rw (here, e))

  sharp-taken : get_or text at 0 ≡ 35 → meanings_from text at ≡ map meaning_of (tokens_after hash (drop (at + 1) text))
  unfolding meanings_from tokens_after completed next alone begun class_of is_running is_digit is_separating within any_of bytes meaning_of
  sharp-taken e = rw (here, e)

  sharp-width : get_or text at 0 ≡ 35 → first_width (drop at text) ≡ suc (length (take 1 (drop (at + 1) text)))
  unfolding first_width width_of class_of is_running is_digit is_separating within any_of bytes
  sharp-width e = rw (here, e)

  pub foreign-taken : is_running (get_or text at 0) ≡ false → is_separating (get_or text at 0) ≡ false → (get_or text at 0 ≡ 40 → ⊥)
      → (get_or text at 0 ≡ 41 → ⊥) → (get_or text at 0 ≡ 35 → ⊥)
      → (meanings_from text at ≡ refused 3 ∷ meanings_from text (at + 1)) × (first_width (drop at text) ≡ 1)
  unfolding meanings_from first_width width_of tokens_after completed next alone begun meaning_of
  foreign-taken r s o c p =
      let k : class_of (get_or text at 0) ≡ foreign = foreign-class (get_or text at 0) r s o c p in
      (rw (here, k), rw (here, k))

  -- a token that takes one byte
  pub byte-stands : (m : Meaning) → (meanings_from text at ≡ m ∷ meanings_from text (at + 1)) × (first_width (drop at text) ≡ 1)
      → Stands text at m (at + 1)
  byte-stands m t = record { low = omega arith; high = omega arith; means = t.0; ends = rw t.1 }

  -- behind a #
  flag_means : map meaning_of (tokens_after hash (drop at text)) ≡ meaning_of (flag_of (get_or text at 0)) ∷ meanings_from text (at + 1)
  unfolding meanings_from tokens_after completed next
  flag_means = rw here

  flag_width : length (take 1 (drop at text)) ≡ 1
  flag_width = rw here

-- ---- the end

module _ (text : List ℕ) (at : ℕ) (e : at ≡ length text) where
  pub end-taken : meanings_from text at ≡ []
  unfolding meanings_from tokens_after ended
  end-taken = rw (e, drop-length)

  pub end-start : start_at text at ≡ at
  unfolding start_at
  end-start = leading-ends is_separating text at e

  end_flag : map meaning_of (tokens_after hash (drop at text)) ≡ refused 3 ∷ meanings_from text at
  unfolding meanings_from tokens_after ended meaning_of
  end_flag = rw (e, drop-length)

  end_width : length (take 1 (drop at text)) ≡ 0
  end_width = rw (e, drop-length)

  pub end-stops : EndsRun (drop at text)
  end-stops = rw (e, drop-length) at_end

-- ---- a #

module _ (text : List ℕ) (at : ℕ) (h : at < length text) (e : get_or text at 0 ≡ 35) where
  pub flag-stands : at + 1 < length text → Stands text at (meaning_of (flag_of (get_or text (at + 1) 0))) (at + 1 + 1)
  flag-stands k = record {
    low = omega arith;
    high = omega arith;
    means = sharp-taken text at h e ∙ flag_means text (at + 1) k;
    ends = rw (sharp-width text at h e) (omega (arith, flag_width text (at + 1) k));
  }

  pub flag-alone : at + 1 ≡ length text → Stands text at (refused 3) (at + 1)
  flag-alone k = record {
    low = omega arith;
    high = omega arith;
    means = sharp-taken text at h e ∙ end_flag text (at + 1) k;
    ends = rw (sharp-width text at h e) (omega (arith, end_width text (at + 1) k));
  }

-- ---- runs

run-from : (word bs : List ℕ) → 1 ≤ length word → all_of is_running word ≡ true → EndsRun bs
    → tokens_after nothing (word ++ bs) ≡ run word ∷ tokens_after nothing bs
run-from [] bs h a e = absurd (omega arith)
run-from (c ∷ cs) bs h a e = run-taken c cs bs a e

end-leads : {bs : List ℕ} → EndsRun bs → leading is_running bs ≡ 0
unfolding leading
end-leads at_end = refl
end-leads (before h) = rw h

leading-run : (word bs : List ℕ) → all_of is_running word ≡ true → EndsRun bs → leading is_running (word ++ bs) ≡ length word
leading-run word bs a e = leading-append is_running word bs a ∙ rw (end-leads e) (omega arith)

width-run : (word bs : List ℕ) → 1 ≤ length word → all_of is_running word ≡ true → EndsRun bs → first_width (word ++ bs) ≡ length word
unfolding first_width width_of all_of
width-run [] bs h a e = absurd (omega arith)
width-run (c ∷ cs) bs h a e =
    rw (class-running c (and_left (is_running c) (all_of is_running cs) a)) (ap suc (leading-run cs bs (and_right (is_running c) (all_of is_running cs) a) e))

first_stops : {b : ℕ} {bs : List ℕ} → EndsRun (b ∷ bs) → is_running b ≡ false
first_stops (before k) = k

module _ (text : List ℕ) (at to : ℕ) (r : RunTo text at to) where
  -- the byte where a run ends as it starts is none of a run
  pub run_none : at < length text → to ≡ at → is_running (get_or text at 0) ≡ false
  run_none h e = first_stops (subst EndsRun (here text at h) (subst (λ n. EndsRun (drop n text)) e r.stops))

  pub run-means : at < to → meanings_from text at ≡ meaning_of (run (part at to text)) ∷ meanings_from text to
  unfolding meanings_from
  run-means h =
      let l : 1 ≤ length (part at to text) = omega (arith, length_part at to text r.low r.high) in
      ap (λ bs. map meaning_of (tokens_after nothing bs)) (part-split at to text r.low)
      ∙ ap (map meaning_of) (run-from (part at to text) (drop to text) l r.runs r.stops)

  pub run-width : at < to → first_width (drop at text) ≡ to - at
  run-width h =
      let n = length_part at to text r.low r.high in
      ap first_width (part-split at to text r.low)
      ∙ width-run (part at to text) (drop to text) (omega (arith, n)) r.runs r.stops ∙ n

  pub run-stands : at < to → (m : Meaning) → m ≡ meaning_of (run (part at to text)) → Stands text at m to
  run-stands h m e = record {
    low = h;
    high = r.high;
    means = run-means h ∙ ap (λ k. k ∷ meanings_from text to) (sym e);
    ends = rw (run-width h) (omega (arith, r.low));
  }

-- ---- past the separators

module _ (text : List ℕ) (from at : ℕ) (s : Skipped text from at) where
  pub skipped-told : (l : Lexeme) → Lexed text at l → Told text from (Some l)
  unfolding next_at
  skipped-told l w =
      let k = w.1 in
      (w.0 ∙ sym s.start, record { low = omega (arith, s.low, k.low); high = k.high; means = s.same ∙ k.means; ends = rw s.start k.ends })
