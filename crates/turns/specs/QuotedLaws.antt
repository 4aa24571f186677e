-- Laws of a quote's turn: the words of its datum are the term's.
use Rattle.std.specs.Prelude.{◌≡◌, true, false, ℕ, ◌+◌, ◌*◌, ◌^◌, ◌≤◌, ◌<◌, Ok, Err}
use Rattle.std.proofs.Math.Path.{ap, sym, subst}
use Rattle.std.proofs.Common.{◌∙◌, arith}
use mathlib.Core.List.{List}
use Rattle.std.proofs.Math.ListN.{length}
use Rattle.words.specs.Limits.{core_rate}
use Rattle.recipe.specs.Tree.{Tree, size, strip, is_list_of, element}
use Rattle.recipe.specs.TreeLaws.{element-size}
use Rattle.recipe.specs.Tidy.{tidy-element}
use Rattle.core_term.specs.Term.{datum_c, on_formals}
use Rattle.core_term.specs.Words.{datum_words, encode}
use Rattle.arena.specs.Arena.{tree_at}
use Rattle.arena.specs.Lists.{Means}
use Rattle.expansion.proofs.Bounds.BudgetLaws.{datum-words}
use Rattle.forms.specs.Quotes as Q
use Rattle.forms.specs.Quotes.{quoted_at, Quotable}
use Rattle.forms.specs.QuoteLaws.{quoted-any}
use Rattle.turns.specs.declared.answers.Reached.{Reached}
use Rattle.turns.specs.declared.answers.Refused.{Refused}
use Rattle.turns.specs.Ends.{needs}
use Rattle.turns.specs.Numbers.{moved}
use Rattle.turns.specs.MemoryLaws.{moved_by}
use Rattle.turns.specs.Answers.{Refuses}
use Rattle.turns.specs.LeafLaws.{refused-leaf}
use Rattle.turns.specs.Scopes.{QuoteRoom, quote_end, QuoteLeft}

module _ (work core : List ℕ) (node : ℕ) (r : Reached) where
  pub quote-refused : (x : Refused) → ((w : ℕ) → is_list_of 2 (tree_at work node w) ≡ false) → Refuses 13 r x → QuoteLeft work node r core core (Err x)
  unfolding quote_end needs
  quote-refused x shape e w = refused-leaf (quote_end (tree_at work node w)) (core_rate * size (tree_at work node w)) 13 r core x (λ s. rw (shape w)) e

  module _ (datum : ℕ) (datum-is : Means work node datum (element 1)) where
    words-most : (w : ℕ) → length (quoted_at work datum) ≤ core_rate * size (tree_at work node w)
    words-most w =
        let e : datum_words (strip (tree_at work datum w)) ≡ quoted_at work datum = quoted-any work datum w in
        let s : size (tree_at work datum w) ≤ size (tree_at work node w) = rw (datum-is.is w) (element-size 1 (tree_at work node w)) in
        omega (arith, ap length e, datum-words (tree_at work datum w))

    pub quote-room : QuoteRoom work core node r → (r.at + length (quoted_at work datum) ≤ length core) × Quotable (tree_at work datum 0)
    quote-room room = (omega (arith, room.fits, words-most 0), rw (datum-is.is 0) (tidy-element 1 room.proper))

    pub quote-small : QuoteRoom work core node r → (at : ℕ) → at ≡ r.at + length (quoted_at work datum) → at < 2 ^ 32
    quote-small room at e = omega (arith, room.small, words-most 0)

    pub quote-made : (at : ℕ) (core' : List ℕ) → ((w : ℕ) → is_list_of 2 (tree_at work node w) ≡ true) → Q.Written (quoted_at work datum) core core' r.at at → (q : Reached) → q ≡ moved at r → QuoteLeft work node r core core' (Ok q)
    unfolding quote_end needs on_formals encode
    quote-made at core' shape x q q-is w =
        let e : quoted_at work datum ≡ datum_words (strip (element 1 (tree_at work node w))) =
        sym (quoted-any work datum w) ∙ ap (λ (t : Tree). datum_words (strip t)) (datum-is.is w) in
        record {
          term = datum_c (strip (element 1 (tree_at work node w)));
          is = λ s. rw (shape w);
          short = subst (λ (l : List ℕ). length l ≤ core_rate * size (tree_at work node w)) e (words-most w);
          moves = moved_by _ r q core core' at q-is (rw (sym e) x);
        }
