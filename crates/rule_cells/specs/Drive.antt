-- Driven ellipses: what the tests of a template's cells answer, and their laws.
use Rattle.std.specs.Prelude.{◌≡◌, refl, Bool, true, false, not, ◌||◌, List, [], ◌∷◌, ◌++◌, ℕ, suc, ◌+◌, ◌-◌, ◌≤◌, ◌<◌, eqb, ltb, leb, length}
use Rattle.std.proofs.Common.{sym, ap, ◌∙◌, arith, lt-ltb, eqb-true}
use Rattle.std.proofs.lemmas.Bool.{eqb-false}
use Rattle.expansion.specs.Rules.{Template, variable_t, empty_t, pair_t, ellipsis_t, drivers, depth_fits}
use Rattle.arena.specs.Arena.{word_at, reference_at}
use Rattle.words.specs.ListLaws.{either}
use Rattle.arena.specs.ArenaLaws.{word_at-some, reference_at-falls}
use Rattle.rule_cells.specs.Offsets.{TAG, HEAD, REST, NUMBER, DEPTH}
use Rattle.rule_cells.specs.Cells.{template_at}
use Rattle.rule_cells.specs.CellLaws.{template_at-variable, template_at-insert, template_at-constant, template_at-pair, template_at-ellipsis, template_at-empty}

-- an occurrence in the template drives copies from j ellipses inside
unfoldable pub drives : ℕ → Template → Bool
drives j t = ltb 0 (length (drivers j t))

abbrev pub Drives : (work : List ℕ) (at j : ℕ) → Bool → Type 0
Drives work at j r = r ≡ drives j (template_at work at)

abbrev pub Accepts : (work : List ℕ) (dots : Bool) (at : ℕ) → Bool → Type 0
Accepts work dots at r = r ≡ (not dots || drives 0 (template_at work at))

-- ---- laws

drives-variable : (j k d : ℕ) → ltb j d ≡ drives j (variable_t k d)
unfolding drives drivers
drives-variable j k d = either (ltb j d) (λ t. rw t refl) (λ t. rw t refl)

some_of : {A : Type 0} (a b : List A) → ltb 0 (length (a ++ b)) ≡ (ltb 0 (length a) || ltb 0 (length b))
some_of [] b = refl
some_of (x ∷ a) b = lt-ltb 0 (length (x ∷ a ++ b)) (omega arith) ∙ sym (ap (λ (t : Bool). t || ltb 0 (length b)) (lt-ltb 0 (length (x ∷ a)) (omega arith)))

drives-pair : (j : ℕ) (e r : Template) → drives j (pair_t e r) ≡ (drives j e || drives j r)
unfolding drives drivers
drives-pair j e r = some_of (drivers j e) (drivers j r)

drives-ellipsis : (j : ℕ) (e r : Template) → drives j (ellipsis_t e r) ≡ (drives (suc j) e || drives j r)
unfolding drives drivers
drives-ellipsis j e r = some_of (drivers (suc j) e) (drivers j r)

module _ (work : List ℕ) (at j : ℕ) where
  pub driven-variable : (d : ℕ) → word_at work at TAG ≡ 1 → d ≡ word_at work at DEPTH → Drives work at j (ltb j d)
  driven-variable d e f = rw f (drives-variable j (word_at work at NUMBER) (word_at work at DEPTH)) ∙ sym (ap (drives j) (template_at-variable work at e))

  driven-leaf : (t : Template) → template_at work at ≡ t → false ≡ drives j t → false ≡ drives j (template_at work at)
  driven-leaf t e d = d ∙ sym (ap (drives j) e)

  pub driven-other : (tag : ℕ) → tag ≡ word_at work at TAG → (tag ≡ 1 → ⊥) → (tag ≡ 6 → ⊥) → (tag ≡ 7 → ⊥) → Drives work at j false
  unfolding drives drivers
  driven-other tag g n1 n6 n7 =
      let m1 : word_at work at TAG ≡ 1 → ⊥ = λ z. n1 (g ∙ z) in
      let m6 : word_at work at TAG ≡ 6 → ⊥ = λ z. n6 (g ∙ z) in
      let m7 : word_at work at TAG ≡ 7 → ⊥ = λ z. n7 (g ∙ z) in
      either (eqb (word_at work at TAG) 2)
      (λ t. driven-leaf _ (template_at-insert work at (eqb-true (word_at work at TAG) 2 t)) refl)
      (λ t.
      either (eqb (word_at work at TAG) 4)
      (λ u. driven-leaf _ (template_at-constant work at (eqb-true (word_at work at TAG) 4 u)) refl)
      (λ u. driven-leaf empty_t (template_at-empty work at m1 (eqb-false (word_at work at TAG) 2 t) (eqb-false (word_at work at TAG) 4 u) m6 m7) refl))

  -- a pair or an ellipsis: its tag says how much deeper its first part lies
  module _ (tag first rest : ℕ) (g : tag ≡ word_at work at TAG) (low : 6 ≤ tag) (high : tag ≤ 7) (f : first ≡ reference_at work at HEAD) (h : rest ≡ reference_at work at REST) where
    pub driven-falls : (first < at) × (rest < at)
    driven-falls =
        let p : 0 < at = word_at-some work at 1 (omega arith) (λ z. omega arith) in
        (omega (arith, reference_at-falls work at 3 p), omega (arith, reference_at-falls work at 2 p))

    driven-parts : drives j (template_at work at) ≡ (drives (j + (tag - 6)) (template_at work first) || drives j (template_at work rest))
    driven-parts =
        either (eqb tag 6)
        (λ t.
        let e : tag ≡ 6 = eqb-true tag 6 t in
        let z : j + (tag - 6) ≡ j = omega arith in
        rw (template_at-pair work at (sym g ∙ e), z, f, h) (drives-pair j (template_at work (reference_at work at HEAD)) (template_at work (reference_at work at REST))))
        (λ t.
        let n : tag ≡ 6 → ⊥ = eqb-false tag 6 t in
        let e : tag ≡ 7 = omega arith in
        let z : j + (tag - 6) ≡ suc j = omega arith in
        rw (template_at-ellipsis work at (sym g ∙ e), z, f, h) (drives-ellipsis j (template_at work (reference_at work at HEAD)) (template_at work (reference_at work at REST))))

    pub driven-first : Drives work first (j + (tag - 6)) true → Drives work at j true
    driven-first d = sym (driven-parts ∙ ap (λ (b : Bool). b || drives j (template_at work rest)) (sym d))

    pub driven-rest : (r : Bool) → Drives work first (j + (tag - 6)) false → Drives work rest j r → Drives work at j r
    driven-rest r d k = k ∙ sym (driven-parts ∙ ap (λ (b : Bool). b || drives j (template_at work rest)) (sym d))

pub accepted-dots : (work : List ℕ) (at : ℕ) (dots r : Bool) → dots ≡ true → Drives work at 0 r → Accepts work dots at r
accepted-dots work at dots r e d = rw e d

pub accepted-plain : (work : List ℕ) (at : ℕ) (dots : Bool) → dots ≡ false → Accepts work dots at true
accepted-plain work at dots e = rw e refl

pub depth-fits : (d here : ℕ) → leb d here ≡ depth_fits d here
unfolding depth_fits
depth-fits d here = refl
