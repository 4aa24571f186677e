-- Laws of ground 17 on cells, one for each way through the code.
use Rattle.std.specs.Prelude.{◌≡◌, Option, Some, None, ℕ, Bool, true, false, ◌&&◌, List, ◌≢◌, refl}
use Rattle.std.proofs.Common.{ap, ◌∙◌}
use Rattle.arena.specs.Arena.{word_at, reference_at}
use Rattle.rule_cells.specs.Cells.{template_at}
use Rattle.environments.specs.Environment.{Environment}
use Rattle.environments.specs.Sound.{Plain}
use Rattle.environments.specs.Entries.{environment_at}
use Rattle.environments.specs.Lengths.{LengthsAgree}
use Rattle.environments.specs.Reached.{same_in, most_in, agree_below, agree_in, AgreesIn, Reached, DiffersIn}
use Rattle.environments.specs.TemplateCells.{pair_is, ellipsis-is, leaf-agrees}
use Rattle.environments.specs.BelowLaws.{below_true}
use Rattle.environments.specs.ReachedLaws.{reached-pair, reached-ellipsis}

-- all of a template
pub agrees-whole : (work env : List ℕ) (t : ℕ) (r : Bool) → AgreesIn work env t None r → LengthsAgree work env t r
unfolding agree_in
agrees-whole work env t r a = a

module _ (work env : List ℕ) (t : ℕ) (o : Option ℕ) (tag : ℕ) (tag_is : tag ≡ word_at work t 1) where
  pub agree-leaf : (tag ≢ 6) → (tag ≢ 7) → AgreesIn work env t o true
  unfolding agree_in agree_below
  agree-leaf n6 n7 w = by o
    where
      by : (o : Option ℕ) → true ≡ agree_in o (environment_at work env w) (template_at work t)
      by None = leaf-agrees work t tag tag_is n6 n7 _
      by (Some n) = below_true _ n (λ i. leaf-agrees work t tag tag_is n6 n7 _)

  module _ (head rest : ℕ) (head-is : head ≡ reference_at work t 3) (rest-is : rest ≡ reference_at work t 2) where
    module _ (e : tag ≡ 6) where
      in_pair : (v : Environment) → agree_in o v (template_at work t) ≡ (agree_in o v (template_at work head) && agree_in o v (template_at work rest))
      in_pair v = ap (agree_in o v) (pair_is work t tag head rest tag_is head-is rest-is e) ∙ reached-pair o v _ _

      pub agree-head-no : (b : Bool) → AgreesIn work env head o b → b ≡ false → AgreesIn work env t o false
      agree-head-no b f bad w = rw (in_pair _, ← f w, bad) refl

      pub agree-tail : (b r : Bool) → AgreesIn work env head o b → b ≡ true → AgreesIn work env rest o r → AgreesIn work env t o r
      agree-tail b r f good g w = rw (in_pair _, ← f w, good) (g w)

    module _ (e : tag ≡ 7) (p : Plain (template_at work head)) where
      in-ellipsis : (v : Environment) → agree_in o v (template_at work t)
          ≡ (same_in o v (template_at work head) && (agree_in (Some (most_in o v (template_at work head))) v (template_at work head) && agree_in o v (template_at work rest)))
      in-ellipsis v = ap (agree_in o v) (ellipsis-is work t tag head rest tag_is head-is rest-is e) ∙ reached-ellipsis o v _ _ p

      pub agree_differ : DiffersIn work env head o → AgreesIn work env t o false
      agree_differ d w = rw (in-ellipsis _, ← d.differ w) refl

      module _ (c : ℕ) (c-is : Reached work env head o c) (d : Bool) (d-is : AgreesIn work env head (Some c) d) where
        pub agree-copies-no : d ≡ false → AgreesIn work env t o false
        agree-copies-no bad w = rw (in-ellipsis _, ← c-is.same w, ← c-is.most w, ← d-is w, bad) refl

        pub agree-rest : (r : Bool) → d ≡ true → AgreesIn work env rest o r → AgreesIn work env t o r
        agree-rest r good g w = rw (in-ellipsis _, ← c-is.same w, ← c-is.most w, ← d-is w, good) (g w)
