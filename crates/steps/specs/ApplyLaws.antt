-- Laws of one macro step, one for each way through the code.
use Rattle.std.specs.Prelude.{◌≡◌, Some, None, Ok, Err, Bool, true, false, List, ℕ, zero, suc, ◌-◌, replicate}
use Rattle.std.specs.declared.result.Result.{Result}
use Rattle.std.proofs.Math.Path.{refl, sym, subst}
use Rattle.std.proofs.Common.{ap, ◌∙◌, arith}
use Rattle.std.proofs.Math.Option.{Option, some}
use borrow.Author.Tests.{le-leb, lt-leb}
use Rattle.words.specs.Each.{Each, none_of, also, Given, missing, given, given-at}
use Rattle.words.specs.declared.ground.Ground.{Ground}
use Rattle.words.specs.declared.ground.Ground.TheVariants.{NoRule, UnequalLists, OutOfFuel}
use Rattle.recipe.specs.Name.{Name}
use Rattle.recipe.specs.Tree.{Tree, size}
use Rattle.expansion.specs.Rules.{Rule}
use Rattle.expansion.specs.Match.{or_next, first_fit}
use Rattle.arena.specs.Arena.{reference_at, tree_at}
use Rattle.arena.specs.ArenaLaws.{reference_at-most}
use Rattle.rule_cells.specs.Cells.{pattern_at, template_at, rule_at, rules_at}
use Rattle.environments.specs.Sound.{Sound, Plain, sound-plain}
use Rattle.environments.specs.EnvironmentLaws.{Agrees, result-is, agree-is}
use Rattle.environments.specs.Entries.{table_words, environment_at, Under}
use Rattle.environments.specs.Bind.{Binds}
use Rattle.environments.specs.Lengths.{LengthsAgree}
use Rattle.steps.specs.Fits.{rule_or, FirstFit}
use Rattle.steps.specs.Build.{result_at, agrees_at, Buildable, Gives, Stops}
use Rattle.steps.specs.ResultLaws.{template-kept, agrees-kept}
use Rattle.steps.specs.Apply.{applied, step_of, Answers, outcome_at, Transcribing, Transcribed, Stepping, Stepped}
use Rattle.steps.specs.declared.apply.Applied.{Applied}

-- ---- the rule that is found

or_next-each : {P : Rule → Type 0} (r : Rule) (l : List Name) (b : Bool) (later : List Name × Option Rule) → P r → Given P later.1 → Given P (or_next r l b later).1
unfolding or_next
or_next-each r l true later p g = given p
or_next-each r l false later p g = g

first_fit-each : {P : Rule → Type 0} {rs : List Rule} (t : Tree) → Each P rs → Given P (first_fit rs t).1
unfolding first_fit
first_fit-each t none_of = missing
first_fit-each t (also {x = r} p ps) = or_next-each r _ _ _ p (first_fit-each t ps)

-- ---- a template in an environment

module _ (old : List ℕ) (top : ℕ) (env : List ℕ) (w t limit : ℕ) (ok : Transcribing old top env w t limit) where
  pub transcribe-buildable : Buildable old top limit env w t
  transcribe-buildable = record { room = ok.room; plain = ok.plain; under = ok.under; wrap-below = ok.wrap-below; template-below = ok.template-below }

  module _ (new : List ℕ) where
    pub transcribed-done : (root left : ℕ) → Gives old new top limit env w t root left → Transcribed old new top env w t limit (Ok (record { root = root; cost = limit - left }))
    unfolding Answers outcome_at result_at agrees_at
    transcribed-done root left m =
        record {
          is =
              rw (m.agrees, le-leb (size (result_at old env w t)) limit (omega (arith, m.paid.spent)))
              (omega (arith, m.paid.spent), m.paid.means, m.paid.above, omega (arith, m.paid.most, m.paid.spent));
          kept = m.paid.kept;
        }

    -- the template is as plain where building has stopped
    pub transcribe-plain : Stops old new top limit env w t → Plain (template_at new t)
    transcribe-plain m = subst Plain (sym (template-kept old new top m.kept t ok.template-below)) ok.plain

    -- there is no result: the lengths, compared after it, tell on which ground
    module _ (m : Stops old new top limit env w t) (b : Bool) (agrees : LengthsAgree new env t b) where
      agrees-is : agrees_at old env w t ≡ b
      unfolding agrees_at
      agrees-is = sym (agrees-kept old new top m.kept env w t ok.wrap-below ok.template-below ok.under) ∙ sym (agrees w)

      pub transcribed-differ : b ≡ false → Transcribed old new top env w t limit (Err UnequalLists)
      unfolding Answers outcome_at agrees_at
      transcribed-differ e = record { is = rw (agrees-is, e) refl; kept = m.kept }

      pub transcribed-costly : b ≡ true → Transcribed old new top env w t limit (Err OutOfFuel)
      unfolding Answers outcome_at result_at agrees_at
      transcribed-costly e =
          record {
            is = rw (agrees-is, e, lt-leb (size (result_at old env w t)) limit (m.over (agrees-is ∙ e))) refl;
            kept = m.kept;
          }

-- ---- one step

zeros-under : (n top : ℕ) → Under (replicate n 0) top
zeros-under zero top i = omega arith
zeros-under (suc n) top zero = omega arith
zeros-under (suc n) top (suc i) = zeros-under n top i

module _ (old : List ℕ) (top rules u w limit : ℕ) (ok : Stepping old top rules u w limit) where
  abbrev Used : Tree
  Used = tree_at old u w

  pub apply-none : FirstFit old rules u w None → Stepped old old top rules u w limit (Err NoRule)
  unfolding rule_or step_of Answers
  apply-none found = record { is = subst (λ o. Answers old top (step_of limit Used o) (Err NoRule)) found.is refl; kept = refl }

  module _ (rule : ℕ) (found : FirstFit old rules u w (Some rule)) (p t : ℕ) (p-is : p ≡ reference_at old rule 3) (t-is : t ≡ reference_at old rule 2) (env : List ℕ) (binds : Binds old p u (replicate table_words 0) env) where
    rule-is : (first_fit (rules_at old rules) Used).1 ≡ some (rule_at old rule)
    unfolding rule_or
    rule-is = sym found.is

    sound-here : Sound (pattern_at old p) 0 (template_at old t)
    unfolding rule_at
    sound-here = rw (p-is, t-is) (given-at (first_fit-each Used ok.sound) rule-is)

    agrees-here : Agrees (pattern_at old p) Used (environment_at old env w)
    unfolding environment_at
    agrees-here k l h = binds.held w k l h

    pub apply-asks : Transcribing old top env w t limit
    apply-asks =
        record {
          plain = sound-plain sound-here;
          under = binds.low top (omega (arith, reference_at-most old rule 3, found.low, ok.rules-below)) ok.use-below (zeros-under table_words top);
          wrap-below = ok.wrap-below;
          template-below = omega (arith, reference_at-most old rule 2, found.low, ok.rules-below);
          room = ok.room;
        }

    outcome-is : outcome_at old env w t limit ≡ step_of limit Used (first_fit (rules_at old rules) Used).1
    unfolding step_of applied rule_at outcome_at
    outcome-is =
        rw (result-is (pattern_at old p) Used (environment_at old env w) (template_at old t) agrees-here sound-here, agree-is (pattern_at old p) Used (environment_at old env w) (template_at old t) agrees-here sound-here)
        (rw (p-is, t-is) (sym (ap (step_of limit Used) rule-is)))

    pub apply-stepped : (new : List ℕ) (r : Result Applied Ground) → Transcribed old new top env w t limit r → Stepped old new top rules u w limit r
    apply-stepped new r x = record { is = subst (λ o. Answers new top o r) outcome-is x.is; kept = x.kept }
