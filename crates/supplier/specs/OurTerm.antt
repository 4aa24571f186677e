-- What ground 19 gives: our words are those of a term that is good against a text.
use Rattle.std.specs.Prelude.{◌≡◌, Bool, List, ℕ, length}
use Rattle.std.proofs.Math.Path.{refl, sym}
use Rattle.std.proofs.Common.{◌∙◌, arith}
use Rattle.std.proofs.Math.Bool.{true, false}
use Rattle.std.proofs.Math.Option.{some}
use Rattle.words.specs.TestLaws.{and_both}
use Rattle.datum.specs.NameTable.{has_name}
use Rattle.core_term.specs.Node.{Node, is_node, variable_n, operation_n, constant_n, name_n, list_n, if_n, lambda_n, application_n}
use Rattle.core_term.specs.Term.{Plain, variables}
use Rattle.core_term.specs.Words.{encode}
use Rattle.core_term.specs.Every.{Asked, every, proper, well_formed}
use Rattle.core_term.specs.EveryLaws.{every-from}
use Rattle.core_term.specs.Check.{Scope, outside, known, asked, all_known, term_of}
use Rattle.core_term.proofs.OfCode.CheckLaws.{accepted}
use Rattle.supplier.specs.WalkSays.{good_in}

module _ (ours operations : List ℕ) where
  -- both tests, of one kind of scope
  unfoldable tests : Bool → Asked Scope
  tests true = asked (λ s b x. is_node x)
  tests false = asked (known (length operations) (has_name ours))

  known-anywhere : (s : Scope) (b : ℕ) (x : Node) → known (length operations) (has_name ours) s b x ≡ known (length operations) (has_name ours) outside 0 x
  unfolding known
  known-anywhere s b (variable_n n) = refl
  known-anywhere s b (operation_n n) = refl
  known-anywhere s b (constant_n a) = refl
  known-anywhere s b (name_n n) = refl
  known-anywhere s b (list_n n) = refl
  known-anywhere s b if_n = refl
  known-anywhere s b (lambda_n v ns) = refl
  known-anywhere s b (application_n n) = refl

  good-both : (t : Plain) → ((i : Bool) → every (tests i) outside 0 t ≡ true) → every (good_in ours operations) tt 0 t ≡ true
  unfolding tests asked good_in
  good-both t h =
      every-from tests (good_in ours operations) (variables t) (λ e f b. Unit {0}) (λ e f b x r l k. and_both _ _ (k true) (sym (known-anywhere (e false) b x) ∙ k false)) (λ e f b x r k. tt) (λ e f b n r. tt)
      t (λ i. outside) tt 0 tt (omega arith) h

  pub our-term : (words : List ℕ) (t : Plain) → term_of (length operations) (has_name ours) words ≡ some t → (every (good_in ours operations) tt 0 t ≡ true) × (words ≡ encode t)
  unfolding well_formed all_known tests asked proper
  our-term words t h =
      let a = accepted (length operations) (has_name ours) words t h in
      let p : every (tests true) outside 0 t ≡ true = every-from (λ (i : Unit {0}). proper) (tests true) (variables t) (λ e f b. Unit {0}) (λ e f b x r l k. k tt) (λ e f b x r k. tt) (λ e f b n r. tt)
      t (λ i. tt) outside 0 tt (omega arith) (λ i. a.formed) in
      (good-both t (λ i. elim i as (λ k. every (tests k) outside 0 t ≡ true) [ true ↦ p | false ↦ a.known' ]), sym a.words)
