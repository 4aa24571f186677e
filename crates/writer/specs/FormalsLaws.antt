-- A lambda's variables laid one after another.
use Rattle.std.specs.Prelude.{◌≡◌, ℕ, ◌+◌, ◌-◌, ◌<◌, ◌≤◌, Bool, true, false, List, [], ◌++◌, length, nat_lt, refl, Some, None}
use Rattle.std.specs.declared.option.Option.{Option}
use Rattle.std.proofs.Common.{sym, ap, ◌∙◌, append_assoc, append-nil, arith}
use borrow.Author.Tests.{lt-ltb}
use Rattle.core_term.specs.Text.{variable_text}
use Rattle.writer.specs.Laid.{Left}
use Rattle.writer.specs.LaidLaws.{left-done, left-none, left-stops, left-then, left_is}
use Rattle.writer.specs.Called.{Said, spell_of}
use Rattle.writer.specs.Pieces.{gap_text, formals_text}
use Rattle.writer.specs.PiecesLaws.{formals-none, formals-more}

module _ (said : Said) (ink : Bool) (first n at : ℕ) (d : List ℕ) where
  abbrev Whole : List ℕ
  Whole = formals_text said false first n

  -- i of n variables laid in e up to `to`
  pub record Laying (i to : ℕ) (e : List ℕ) : Type 0 where
    pub sofar : List ℕ
    pub laid : Left ink sofar at d e (Some to)
    pub text : Whole ≡ sofar ++ formals_text said (nat_lt 0 i) (first + i) (n - i)

  pub laying-start : at ≤ length d → Laying 0 at d
  laying-start h =
      let f : first + 0 ≡ first = omega arith in
      let m : n - 0 ≡ n = omega arith in
      record { sofar = []; laid = left-none ink at d h; text = rw (f, m) refl }

  module _ (i to : ℕ) (e : List ℕ) (g : Laying i to e) where
    pub laying-end : n ≤ i → Left ink Whole at d e (Some to)
    laying-end h =
        let m : n - i ≡ 0 = omega arith in
        left_is (sym (g.text ∙ ap (λ (z : List ℕ). g.sofar ++ z) (formals-none said (nat_lt 0 i) (first + i) (n - i) m) ∙ append-nil g.sofar)) g.laid

    module _ (h : i < n) where
      abbrev Own : List ℕ
      Own = variable_text (spell_of said) said.called (first + i)

      abbrev Later : List ℕ
      Later = formals_text said true (first + i + 1) (n - i - 1)

      next-text : Whole ≡ g.sofar ++ (gap_text (nat_lt 0 i) ++ (Own ++ Later))
      next-text = g.text ∙ ap (λ (z : List ℕ). g.sofar ++ z) (formals-more said (nat_lt 0 i) (first + i) (n - i) (λ z. omega arith))

      module _ (f : List ℕ) (r : Option ℕ) (k : Left ink (gap_text (nat_lt 0 i)) to e f r) where
        -- no room for the space before the next
        pub laying-short : r ≡ None → {s : Option ℕ} → s ≡ None → Left ink Whole at d f s
        laying-short q j = left_is (sym next-text) (left-then g.laid to refl (left-stops k (Own ++ Later) q j))

        module _ (m : ℕ) (q : r ≡ Some m) (f' : List ℕ) (s : Option ℕ) (own : Left ink Own m f f' s) where
          -- nor for itself
          pub laying-full : s ≡ None → {u : Option ℕ} → u ≡ None → Left ink Whole at d f' u
          laying-full p j = left_is (sym next-text) (left-then g.laid to refl (left-then k m q (left-stops own Later p j)))

          pub laying-on : (end : ℕ) → s ≡ Some end → Laying (i + 1) end f'
          laying-on end p =
              let w : nat_lt 0 (i + 1) ≡ true = lt-ltb 0 (i + 1) (omega arith) in
              let a : first + (i + 1) ≡ first + i + 1 = omega arith in
              let b : n - (i + 1) ≡ n - i - 1 = omega arith in
              record {
                sofar = g.sofar ++ (gap_text (nat_lt 0 i) ++ Own);
                laid = left-then g.laid to refl (left-then k m q (left-done own end p));
                text = rw (w, a, b) (next-text ∙ simp append_assoc);
              }
