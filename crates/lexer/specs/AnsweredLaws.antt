-- Laws of the token reader: what the covered cursor tells is the definition's answer, and what a new reader gives is the token sequence of the text.
use Rattle.std.specs.Prelude.{◌≡◌, ℕ, zero, suc, ◌+◌, ◌≤◌, ◌<◌, drop, Some, None, Ok}
use Rattle.std.specs.declared.option.Option as O
use Rattle.std.proofs.Math.Path.{refl, sym, ap}
use Rattle.std.proofs.Common.{subst, ◌∙◌, arith}
use mathlib.Core.List.{List, [], ◌∷◌, map, head_d}
use Rattle.std.proofs.Math.Option.{Option, none, some, some-injective, none-ne-some, some-ne-none}
use Rattle.std.specs.Borrow.{Bor}
use Rattle.std.proofs.Math.ListN.{length}
use Rattle.words.specs.Limits.{name_length_most}
use Rattle.lexer.specs.declared.token_reader.TokenReader.{TokenReader}
use Rattle.lexer.specs.declared.token.Lexeme.{Lexeme}
use Rattle.lexer.specs.declared.token.Token.TheVariants.{Name}
use Rattle.words.specs.Parts.{part}
use Rattle.reading.specs.Token.{Token, nothing, tokens_after, tokens}
use Rattle.reading.specs.Offset.{start_at, token_at, next_at, before}
use Rattle.reading.specs.Meaning.{Meaning, name, meaning_of}
use Rattle.reading.specs.RecipeText.{Means, named}
use Rattle.reading.specs.Laws.Meanings.{is_refused}
use Rattle.reading.proofs.Laws.MeaningsLaws.{is-meant}
use Rattle.reading.proofs.Laws.Offsets.{tokens-from, start-low, next-high, next-later, past_end}
use Rattle.lexer.specs.Told.{meanings_from, Took, said, meaning_in, Told}
use Rattle.lexer.specs.Answered.{meant, past_or, start_or, meaning, meaning_at, Answered, Takes, ended, further}

-- ---- the meaning at an offset

name-length : {t : Token} {cs : List ℕ} → Means t (name cs) → length cs ≤ name_length_most
name-length (named n l u d) = u

module _ (n : ℕ) where
  -- the first meaning of a token, where there is one, before others
  first-means : (o : Option Token) (ts : List Token) (m : Meaning) (ms : List Meaning) → map meaning_of (before o ts) ≡ m ∷ ms
      → meaning n o ≡ some (m, n)
  unfolding before meaning head_d
  first-means none ts m ms e = let z : 0 ≡ length (m ∷ ms) = ap length e in absurd (omega arith)
  first-means (some t) ts m ms e = ap (λ k. some (k, n)) (ap (λ l. head_d l m) e)

  none-means : (o : Option Token) (ts : List Token) → map meaning_of (before o ts) ≡ [] → meaning n o ≡ none
  unfolding before meaning
  none-means none ts e = refl
  none-means (some t) ts e = let z : length (meaning_of t ∷ map meaning_of ts) ≡ 0 = ap length e in absurd (omega arith)

  -- and back: the token that has a meaning
  meant-some : (o : Option Token) (m : Meaning) (k : ℕ) → meaning n o ≡ some (m, k)
      → (t : Token) × (o ≡ some t) × (meaning_of t ≡ m) × (n ≡ k)
  unfolding meaning
  meant-some none m k e = absurd (none-ne-some _ e)
  meant-some (some t) m k e =
      let p = some-injective (meaning_of t, n) (m, k) e in (t, refl, ap (λ x. x.0) p, ap (λ x. x.1) p)

  meant-none : (o : Option Token) → meaning n o ≡ none → o ≡ none
  unfolding meaning
  meant-none none e = refl
  meant-none (some t) e = absurd (some-ne-none _ e)

-- ---- what is told at a place

module _ (text : List ℕ) (at : ℕ) where
  meanings-from : meanings_from text at ≡ map meaning_of (before (token_at text at) (tokens_after nothing (drop (next_at text at) text)))
  unfolding meanings_from
  meanings-from = ap (map meaning_of) (tokens-from text at)

  took-means : (m : Meaning) (next : ℕ) → Took text at m next → meaning_at text at ≡ some (m, next)
  unfolding meaning_at
  took-means m next t =
      first-means (next_at text at) (token_at text at) (tokens_after nothing (drop (next_at text at) text)) m (meanings_from text next)
      (sym meanings-from ∙ t.means)
      ∙ ap (λ n. some (m, n)) (sym t.ends)

  pub told-answered : (o : O.Option Lexeme) → Told text at o → Answered text at o
  unfolding meaning_at
  told-answered None w = record {
    means = sym (none-means (next_at text at) (token_at text at) (tokens_after nothing (drop (next_at text at) text)) (sym meanings-from ∙ w));
    starts = refl;
  }
  told-answered (Some l) w = record { means = sym (took-means (meaning_in text l) l.next w.1); starts = w.0 }

  pub past-answered : length text ≤ at → Answered text at None
  unfolding meaning_at
  past-answered h = record { means = rw (past_end text at h); starts = refl }

  -- ---- where an answer leads

  module _ (t : O.Option Lexeme) (a : Answered text at t) where
    -- past the token's start
    answered-later : (m : Meaning) (next : ℕ) → meant text t ≡ some (m, next) → start_at text at < next
    unfolding meaning_at
    answered-later m next e =
        let k = meant-some (next_at text at) (token_at text at) m next (sym a.means ∙ e) in
        omega (arith, next-later text at k.0 k.1, k.3)

    -- and not past the end
    answered-within : (m : Meaning) (next : ℕ) → meant text t ≡ some (m, next) → at ≤ length text → next ≤ length text
    unfolding meaning_at
    answered-within m next e h =
        let k = meant-some (next_at text at) (token_at text at) m next (sym a.means ∙ e) in omega (arith, next-high text at h, k.3)

    -- the offset past the answer, whatever it is
    past-within : (u : O.Option Lexeme) → t ≡ u → at ≤ length text → past_or at u ≤ length text
    past-within None e h = h
    past-within (Some l) e h = answered-within _ l.next (ap (meant text) e) h

    past-later : (u : O.Option Lexeme) → t ≡ u → (past_or at u ≡ at → ⊥) → start_at text at < past_or at u
    past-later None e h = absurd (h refl)
    past-later (Some l) e h = answered-later _ l.next (ap (meant text) e)

    pub answered-past : at ≤ length text → (past_or at t ≤ length text) × ((past_or at t ≡ at → ⊥) → start_at text at < past_or at t)
    answered-past h = (past-within t refl h, past-later t refl)

    answered-some : (m : Meaning) (next : ℕ) → meant text t ≡ some (m, next)
        → map meaning_of (tokens_after nothing (drop at text)) ≡ m ∷ map meaning_of (tokens_after nothing (drop next text))
    unfolding meaning_at before
    answered-some m next e =
        let k = meant-some (next_at text at) (token_at text at) m next (sym a.means ∙ e) in
        ap (map meaning_of) (tokens-from text at)
        ∙ rw (k.1, k.2, k.3)

    answered-none : meant text t ≡ none → map meaning_of (tokens_after nothing (drop at text)) ≡ []
    unfolding meaning_at before
    answered-none e =
        let k = meant-none (next_at text at) (token_at text at) (sym a.means ∙ e) in
        ap (map meaning_of) (tokens-from text at) ∙ rw k

    -- ---- what it tells at a place within the text

    answered-name : (cs : List ℕ) (next : ℕ) → meant text t ≡ some (name cs, next) → length cs ≤ name_length_most
    unfolding meaning_at is_refused
    answered-name cs next e =
        let k = meant-some (next_at text at) (token_at text at) (name cs) next (sym a.means ∙ e) in
        name-length (subst (Means k.0) k.2 (is-meant k.0 (ap is_refused k.2)))

    answered-took : at ≤ length text → (m : Meaning) (next : ℕ) → meant text t ≡ some (m, next) → Took text at m next
    unfolding meaning_at meanings_from
    answered-took h m next e =
        let k = meant-some (next_at text at) (token_at text at) m next (sym a.means ∙ e) in
        record {
          low = omega (arith, start-low text at, answered-later m next e);
          high = answered-within m next e h;
          means = answered-some m next e;
          ends = sym k.3;
        }

    -- u is the answer as it was taken apart
    pub answered-told : at ≤ length text → (u : O.Option Lexeme) → t ≡ u → Told text at u
    unfolding meanings_from
    answered-told h None e = answered-none (ap (meant text) e)
    answered-told h (Some l) e = (ap (start_or (start_at text at)) (sym e) ∙ a.starts, answered-took h _ l.next (ap (meant text) e))

    -- a token has a byte
    pub answered-range : (l : Lexeme) → t ≡ Some l → l.from < l.next
    answered-range l e =
        omega (arith, answered-later _ l.next (ap (meant text) e), ap (start_or (start_at text at)) (sym e) ∙ a.starts)

    -- a name has a length that its slot fits
    pub answered-short : (l : Lexeme) → t ≡ Some l → l.token ≡ Ok Name → length (part l.from l.next text) ≤ name_length_most
    answered-short l e n = answered-name (part l.from l.next text) l.next (ap (meant text) e ∙ ap (λ k. some (said (part l.from l.next text) k, l.next)) n)

-- ---- one token after another

takes-from : {r : TokenReader} {ms : List Meaning} → Takes r ms → ms ≡ map meaning_of (tokens_after nothing (drop r.at r.text.now))
takes-from {r} (ended {t = t} a e) = sym (answered-none r.text.now r.at t a e)
takes-from {r} (further {q = q} {t = t} {m = m} {next = next} a e f w) =
    ap (λ l. m ∷ l) (takes-from w ∙ ap (λ (x : Bor (List ℕ)). map meaning_of (tokens_after nothing (drop q.at x.now))) f.0
    ∙ ap (λ n. map meaning_of (tokens_after nothing (drop n r.text.now))) f.1)
    ∙ sym (answered-some r.text.now r.at t a m next e)

-- the law: what is taken from a new reader is the token sequence that reading uses
pub reader-takes : (text : Bor (List ℕ)) (r : TokenReader) (ms : List Meaning) → (r.text ≡ text) × (r.at ≡ 0) → Takes r ms
    → ms ≡ map meaning_of (tokens text.now)
unfolding tokens
reader-takes text r ms e w =
    takes-from w ∙ ap (λ (x : Bor (List ℕ)). map meaning_of (tokens_after nothing (drop r.at x.now))) e.0
    ∙ ap (λ n. map meaning_of (tokens_after nothing (drop n text.now))) e.1

-- and where every offset has an answer, as `token` promises, the taking comes to an end
module _ (text : Bor (List ℕ)) (answers : (at : ℕ) → (t : O.Option Lexeme) × Answered text.now at t) where
  abbrev reader_at : ℕ → TokenReader
  reader_at at = record { text = text; at = at }

  takes_at : (at : ℕ) (o : Option (Meaning × ℕ)) → meant text.now (answers at).0 ≡ o
      → ((m : Meaning) (next : ℕ) → o ≡ some (m, next) → (ms : List Meaning) × Takes (reader_at next) ms)
      → (ms : List Meaning) × Takes (reader_at at) ms
  takes_at at none e more = ([], ended (answers at).1 e)
  takes_at at (some x) e more =
      let w = more x.0 x.1 refl in
      (x.0 ∷ w.0, further {q = reader_at x.1} {m = x.0} {next = x.1} (answers at).1 e (refl, refl) w.1)

  at-end : (at : ℕ) → length text.now ≤ at → meaning_at text.now at ≡ none
  unfolding meaning_at
  at-end at h = rw (past_end text.now at h)

  takes-to : (n at : ℕ) → length text.now ≤ at + n → (ms : List Meaning) × Takes (reader_at at) ms
  takes-to zero at h = ([], ended (answers at).1 ((answers at).1.means ∙ at-end at (omega arith)))
  takes-to (suc n) at h =
      takes_at at _ refl
      (λ m next e. takes-to n next (omega (arith, start-low text.now at, answered-later text.now at (answers at).0 (answers at).1 m next e)))

  pub reader-ends : (ms : List Meaning) × (Takes (reader_at 0) ms) × (ms ≡ map meaning_of (tokens text.now))
  reader-ends = let w = takes-to (length text.now) 0 (omega arith) in (w.0, w.1, reader-takes text (reader_at 0) w.0 (refl, refl) w.1)
