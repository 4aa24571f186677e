-- Laws of an element followed by `...`: the rest of its list is built first, then its copies before that.
use Rattle.std.specs.Prelude.{◌≡◌, Option, Some, None, true, ◌&&◌, List, ℕ, ◌+◌, length}
use Rattle.std.proofs.Math.Path.{refl}
use Rattle.std.proofs.Common.{sym, ap, subst, ◌∙◌, arith}
use Rattle.std.proofs.Math.Bool.{false}
use Rattle.std.proofs.lemmas.Bool.{false≢true}
use Rattle.recipe.specs.Tree.{Tree, size, produce}
use Rattle.expansion.specs.Rules.{ellipsis_t}
use Rattle.expansion.specs.Transcribe.{copies, all_below}
use Rattle.arena.specs.Arena.{word_at, reference_at}
use Rattle.arena.specs.ArenaLaws.{take_less, reference_at-most}
use Rattle.rule_cells.specs.Cells.{template_at}
use Rattle.environments.specs.Sound.{Plain, plain-ellipsis}
use Rattle.environments.specs.Environment.{agree_by, result_by}
use Rattle.environments.specs.Lengths.{driving, Copies, Differs}
use Rattle.environments.specs.BelowLaws.{below-cong}
use Rattle.environments.specs.TemplateCells.{ellipsis-is}
use Rattle.environments.specs.EnvironmentLaws.{copies-cong}
use Rattle.steps.specs.declared.copy.Built.{Built}
use Rattle.steps.specs.Build.{built, result_at, agrees_at, copy_at, copy_agrees, Buildable, Gives, Stops, Made, added, Copied}
use Rattle.steps.specs.ResultLaws.{both, copy-kept, copy-agrees-kept, buildable-left}
use Rattle.steps.specs.CopyLaws.{produce-copies, size-all-copies, added-cong}

module _ (old : List ℕ) (top fuel : ℕ) (env : List ℕ) (w t tag : ℕ) (tag_is : tag ≡ word_at old t 1) (ok : Buildable old top fuel env w t) (head rest : ℕ) (head-is : head ≡ reference_at old t 3) (rest-is : rest ≡ reference_at old t 2)
    (e : tag ≡ 7) where
  template-is : template_at old t ≡ ellipsis_t (template_at old head) (template_at old rest)
  template-is = ellipsis-is old t tag head rest tag_is head-is rest-is e

  parts-plain : Plain (template_at old head) × Plain (template_at old rest)
  parts-plain = plain-ellipsis _ _ (subst Plain template-is ok.plain)

  pub ellipsis-differs : Differs old env head → Made old old top fuel env w t None
  unfolding agrees_at agree_by driving
  ellipsis-differs d =
      let no : agrees_at old env w t ≡ false = rw (template-is, ← d.differ w) refl in
      record { over = λ a. absurd (false≢true (sym no ∙ a)); kept = refl }

  pub ellipsis-rest : Buildable old top fuel env w rest
  ellipsis-rest = record { room = ok.room; plain = parts-plain.1; under = ok.under; wrap-below = ok.wrap-below; template-below = omega (arith, ok.template-below, reference_at-most old t 2) }

  module _ (c : ℕ) (c-is : Copies old env head c) where
    abbrev Copy : ℕ → Tree
    Copy = copy_at old env w head

    of-ellipsis : result_at old env w t ≡ copies Copy 0 c (result_at old env w rest)
    unfolding result_at copy_at result_by
    of-ellipsis = rw (template-is, c-is.count w) refl

    size-ellipsis : size (result_at old env w t) ≡ added Copy c + size (result_at old env w rest)
    size-ellipsis = ap size of-ellipsis ∙ size-all-copies Copy c (result_at old env w rest)

    agrees-ellipsis : agrees_at old env w t ≡ (all_below (copy_agrees old env w head) c && agrees_at old env w rest)
    unfolding agrees_at copy_agrees agree_by driving
    agrees-ellipsis = rw (template-is, ← c-is.count w, ← c-is.same w) refl

    rest-agrees : agrees_at old env w t ≡ true → (all_below (copy_agrees old env w head) c ≡ true) × (agrees_at old env w rest ≡ true)
    rest-agrees a = both (all_below (copy_agrees old env w head) c) _ (sym agrees-ellipsis ∙ a)

    pub ellipsis-rest-costly : (one : List ℕ) → Stops old one top fuel env w rest → Made old one top fuel env w t None
    ellipsis-rest-costly one s = record { over = λ a. omega (arith, s.over (rest-agrees a).1, size-ellipsis); kept = s.kept }

    module _ (one : List ℕ) (s f : ℕ) (g : Gives old one top fuel env w rest s f) (long : length one ≡ length old) where
      head-buildable : Buildable old top fuel env w head
      head-buildable = record { room = ok.room; plain = parts-plain.0; under = ok.under; wrap-below = ok.wrap-below; template-below = omega (arith, ok.template-below, reference_at-most old t 3) }

      pub ellipsis-copies : Buildable one s f env w head
      ellipsis-copies = buildable-left old one top fuel s f env w head head-buildable g.paid.kept long g.paid.above g.paid.most

      at-kept : (i : ℕ) → copy_at one env w head i ≡ Copy i
      at-kept i = copy-kept old one top g.paid.kept env w head i ok.wrap-below head-buildable.template-below ok.under

      agreed-kept : all_below (copy_agrees one env w head) c ≡ all_below (copy_agrees old env w head) c
      agreed-kept = below-cong _ _ c (λ i. copy-agrees-kept old one top g.paid.kept env w head i ok.wrap-below head-buildable.template-below ok.under)

      ellipsis-costly : (new : List ℕ) → Copied one new s f env w head c None → Made old new top fuel env w t None
      ellipsis-costly new a =
          record {
            over = λ h. omega (arith, a.over (agreed-kept ∙ (rest-agrees h).0), added-cong _ _ c at-kept, g.paid.spent, size-ellipsis);
            kept = take_less new one top s g.paid.above a.kept ∙ g.paid.kept;
          }

      made-ellipsis : (new : List ℕ) (r l : ℕ) → Copied one new s f env w head c (built r l) → Made old new top fuel env w t (built r l)
      made-ellipsis new r l a =
          record {
            paid =
                record {
                  spent = omega (arith, a.spent, added-cong _ _ c at-kept, g.paid.spent, size-ellipsis);
                  above = omega (arith, a.above, g.paid.above);
                  most = omega (arith, a.most, g.paid.most);
                  kept = take_less new one top s g.paid.above a.kept ∙ g.paid.kept;
                  means =
                      a.means
                      ∙ copies-cong _ _ 0 c _ _ (λ i. ap produce (at-kept i)) g.paid.means
                      ∙ sym (ap produce of-ellipsis ∙ produce-copies Copy 0 c (result_at old env w rest));
                };
            agrees = agrees-ellipsis ∙ rw (← agreed-kept, a.agreed, g.agrees) refl;
          }

      pub made-copies : (new : List ℕ) (r : Option Built) → Copied one new s f env w head c r → Made old new top fuel env w t r
      made-copies new (Some b) a = made-ellipsis new b.at b.left a
      made-copies new None a = ellipsis-costly new a
