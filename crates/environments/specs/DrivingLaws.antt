-- Laws of driving lists by what entries stand for, one for each way through the code.
use Rattle.std.specs.Prelude.{◌≡◌, Option, Some, None, Ok, Err, ℕ, ◌+◌, ◌-◌, ◌<◌, ◌≤◌, List, [], ◌∷◌, map, ◌==◌, ◌≢◌}
use Rattle.std.proofs.Math.Path.{refl, sym, ap, subst}
use Rattle.std.proofs.Common.{◌∙◌, unwrap_or}
use mathlib.Core.List.{map-append}
use native.Mathlib.Omega.{arith}
use borrow.Author.Tests.{eqb-true, eqb-false}
use Rattle.words.specs.ListLaws.{either}
use Rattle.words.specs.Lists.{all_of}
use Rattle.expansion.specs.Rules.{drivers}
use Rattle.arena.specs.Arena.{word_at, reference_at}
use Rattle.rule_cells.specs.Cells.{template_at}
use Rattle.rule_cells.specs.CellLaws.{template_at-variable}
use Rattle.environments.specs.declared.lengths.Differ.{Differ}
use Rattle.environments.specs.Lengths.{Driving, also, after, deeper}
use Rattle.environments.specs.LengthLaws.{deeper-most, drivers-none, drivers-few, drivers-one, drivers-both, after-append, after-differ, Told, told}
use Rattle.environments.specs.TemplateCells.{pair_is, ellipsis-is}
use Rattle.environments.specs.Taken.{Taken, count, taken, lengths, copy_count}
use Rattle.environments.specs.Binding.{CopiesAt}
use Rattle.environments.specs.Driving.{Over, Entered, Known, lengths_under, DrivenBy, CountedBy}

pub deeper-below : (tag i j : ℕ) → i ≡ deeper tag j → i ≤ j + 1
deeper-below tag i j e = rw e (deeper-most tag j)

module _ (work env : List ℕ) (t tag : ℕ) (tag_is : tag ≡ word_at work t 1) (j inner : ℕ) (before : Driving) where
  pub driven-none : (tag ≢ 1) → (tag ≢ 6) → (tag ≢ 7) → DrivenBy work env j t inner before before
  unfolding lengths_under after
  driven-none a b c base low high w v is known = rw (drivers-none work t tag tag_is j a b c) refl

  pub driven-few : (d : ℕ) → tag ≡ 1 → d ≡ word_at work t 2 → d ≤ j → DrivenBy work env j t inner before before
  unfolding lengths_under after
  driven-few d e d-is h base low high w v is known = rw (drivers-few work t tag tag_is j d e d-is h) refl

  pub driven-one : (d k c : ℕ) (r : Driving) → tag ≡ 1 → d ≡ word_at work t 2 → k ≡ word_at work t 3 → j < d → CopiesAt work env k (d - j - 1) inner c → r ≡ also before c → DrivenBy work env j t inner before r
  unfolding lengths_under after taken Over
  driven-one d k c r e d-is k-is h counted r-is base low high w v is known =
      let q : Entered work env base low high w v k d = rw (template_at-variable work t (sym tag_is ∙ e), ← k-is, ← d-is) at known in
      r-is ∙ ap (also before) (counted base low high w (v k) is q.few (omega (arith, q.shallow)) q.stands) ∙ rw (drivers-one work t tag tag_is j d k e d-is k-is h) refl

  module _ (i head rest : ℕ) (small : 6 ≤ tag) (large : tag ≤ 7) (i-is : i ≡ deeper tag j) (head-is : head ≡ reference_at work t 3) (rest-is : rest ≡ reference_at work t 2) where
    parts : (base low high w : ℕ) (v : ℕ → Taken) → Known work env base low high w v (template_at work t) → Known work env base low high w v (template_at work head) × Known work env base low high w v (template_at work rest)
    unfolding Over
    parts base low high w v known =
        either (tag == 7)
        (λ e. rw (ellipsis-is work t tag head rest tag_is head-is rest-is (eqb-true tag 7 e)) at known)
        (λ e. let n : tag ≡ 7 → ⊥ = eqb-false tag 7 e in let s : tag ≡ 6 = omega arith in rw (pair_is work t tag head rest tag_is head-is rest-is s) at known)

    pub driven-both : (mid r : Driving) → DrivenBy work env i head inner before mid → DrivenBy work env j rest inner mid r → DrivenBy work env j t inner before r
    unfolding lengths_under
    driven-both mid r f g base low high w v is known =
        let k = parts base low high w v known in
        let c : (ℕ × ℕ) → ℕ = λ x. count (taken v (inner ∷ is) x.0 x.1) in
        let both = ap (map c) (drivers-both work t tag tag_is j i head rest small large i-is head-is rest-is) ∙ map-append c (drivers i (template_at work head)) (drivers j (template_at work rest)) in
        g base low high w v is k.1
        ∙ sym (ap (after before) both ∙ after-append before _ _ ∙ ap (λ (z : Driving). after z (lengths_under v (inner ∷ is) j (template_at work rest))) (sym (f base low high w v is k.0)))

    -- where they differ in the first part, they do in both
    pub driven-differ : (d : Differ) → DrivenBy work env i head inner before (Err d) → DrivenBy work env j t inner before (Err d)
    driven-differ d f = driven-both (Err d) (Err d) f (λ base low high w v is known. sym (after-differ d (lengths_under v (inner ∷ is) j (template_at work rest))))

module _ (work env : List ℕ) (e inner : ℕ) (r : Driving) (f : DrivenBy work env 0 e inner (Ok None) r) where
  tells : (base low high w : ℕ) (v : ℕ → Taken) (is : List ℕ) → Known work env base low high w v (template_at work e) → Told (lengths v (inner ∷ is) (template_at work e)) r
  unfolding lengths_under lengths
  tells base low high w v is known = subst (Told _) (sym (f base low high w v is known)) (told _)

  pub counted_of : (o : Option ℕ) → r ≡ Ok o → CountedBy work env e inner (Ok (unwrap_or o 0))
  unfolding copy_count all_of
  counted_of None i base low high w v is known =
      let no : lengths v (inner ∷ is) (template_at work e) ≡ [] = subst (Told (lengths v (inner ∷ is) (template_at work e))) i (tells base low high w v is known) in
      rw no (refl, refl)
  counted_of (Some c) i base low high w v is known = subst (Told (lengths v (inner ∷ is) (template_at work e))) i (tells base low high w v is known)

  pub counted-differ : (d : Differ) → r ≡ Err d → CountedBy work env e inner (Err d)
  unfolding copy_count
  counted-differ d i base low high w v is known = subst (Told (lengths v (inner ∷ is) (template_at work e))) i (tells base low high w v is known)
