-- What holds of a run holds where it is refused before it begins and of the end of its expansion.
use Rattle.std.specs.Prelude.{◌≡◌, Bool, List, [], ℕ, ◌+◌, ◌*◌, ◌≤◌, leb}
use Rattle.std.proofs.Math.Path.{refl}
use Rattle.std.proofs.Common.{ap, ◌∙◌, arith}
use Rattle.std.proofs.Math.Bool.{true, false}
use Rattle.std.proofs.lemmas.Bool.{false≢true}
use borrow.Author.Tests.{leb-true, le-leb}
use Rattle.words.specs.Limits.{work_rate, core_rate, macros_most}
use Rattle.words.specs.Lists.{any_of}
use Rattle.words.specs.TestLaws.{and_parts, and_both}
use Rattle.words.specs.Tables.{Stage, testing, begun}
use Rattle.recipe.specs.Name.{Name}
use Rattle.recipe.specs.Table.{item_count, tree_of}
use Rattle.core_term.specs.Term.{Term}
use Rattle.expansion.specs.Computation.{State, Event, Events, Out, done, refused, starved}
use Rattle.expansion.specs.Run.{accepted, refused_on, unfinished, stage_of, Run, ended, unbegun, require, expand_recipe, run}
use Rattle.expansion.specs.Outcomes.{Holds, is_done, is_refused, is_starved}
use Rattle.expansion.specs.RunLaws.{Begun, GroundIn}

-- ---- outcomes are told apart

pub accepted≢refused_on : (w : Stage) (g : ℕ) → accepted ≡ refused_on w g → ⊥
accepted≢refused_on w g e = let z : ◌≡◌ {A = ℕ} 0 1 = cc in omega arith

pub accepted≢unfinished : accepted ≡ unfinished → ⊥
accepted≢unfinished e = let z : ◌≡◌ {A = ℕ} 0 1 = cc in omega arith

pub refused_on≢unfinished : (w : Stage) (g : ℕ) → refused_on w g ≡ unfinished → ⊥
refused_on≢unfinished w g e = let z : ◌≡◌ {A = ℕ} 0 1 = cc in omega arith

-- ---- claims about runs

module _ (P : Run → Type 0) where
  require-holds : (g : ℕ) (b : Bool) (r : Run) → P (unbegun g) → (b ≡ true → P r) → P (require g b r)
  unfolding require unbegun
  require-holds g true r p k = k refl
  require-holds g false r p k = p

  begun-holds : (items : List ℕ) (fuel work core : ℕ) → ((g : ℕ) → GroundIn testing g → P (unbegun g)) → (Begun items fuel work core → P (ended (expand_recipe macros_most fuel (tree_of items)))) → P (run items fuel work core)
  unfolding run
  begun-holds items fuel work core p k =
      let need = item_count items + fuel in
      require-holds 7 _ _ (p 7 (omega arith)) λ a.
      require-holds 8 _ _ (p 8 (omega arith)) λ b.
      require-holds 9 _ _ (p 9 (omega arith)) λ c.
      require-holds 10 _ _ (p 10 (omega arith)) λ d.
      let rooms = and_parts (leb (work_rate * need) work) (leb (core_rate * need) core) c in
      k (record { layout = a; fuelled = leb-true _ _ b; work-room = leb-true _ _ rooms.0; core-room = leb-true _ _ rooms.1; operations = d })

  module _ {S : Type 0} {R : ℕ → State → Events → Type 0} {Q : Term Name → State → Events → Type 0} where
    ended-holds : (o : Out (Term Name)) → Holds S R Q o → ((t : Term Name) (s : State) (l : Events) → Q t s l → P (ended (done t s l)))
        → ((g : ℕ) (s : State) (l : Events) → R g s l → P (ended (refused g s l))) → ((l : Events) → S → P (ended (starved l))) → P (ended o)
    ended-holds (done t s l) (is_done q) x y z = x t s l q
    ended-holds (refused g s l) (is_refused r) x y z = y g s l r
    ended-holds (starved l) (is_starved e) x y z = z l e

    pub run_holds : (items : List ℕ) (fuel work core : ℕ) → (Begun items fuel work core → Holds S R Q (expand_recipe macros_most fuel (tree_of items)))
        → ((g : ℕ) → GroundIn testing g → P (unbegun g))
        → (Begun items fuel work core → (t : Term Name) (s : State) (l : Events) → Q t s l → P (ended (done t s l)))
        → (Begun items fuel work core → (g : ℕ) (s : State) (l : Events) → R g s l → P (ended (refused g s l)))
        → (Begun items fuel work core → (l : Events) → S → P (ended (starved l)))
        → P (run items fuel work core)
    run_holds items fuel work core h p x y z = begun-holds items fuel work core p λ b. ended-holds (expand_recipe macros_most fuel (tree_of items)) (h b) (x b) (y b) (z b)

-- ---- runs that begin

pub ended-begun : (o : Out (Term Name)) → stage_of (ended o).outcome ≡ begun
unfolding ended stage_of
ended-begun (done t s l) = refl
ended-begun (refused g s l) = refl
ended-begun (starved l) = refl

pub require-passes : (g : ℕ) (b : Bool) (r : Run) → b ≡ true → require g b r ≡ r
unfolding require
require-passes g true r e = refl
require-passes g false r e = absurd (false≢true e)

module _ (items : List ℕ) (fuel work core : ℕ) where
  -- past those tests a run is its expansion's
  pub begun-run : Begun items fuel work core → run items fuel work core ≡ ended (expand_recipe macros_most fuel (tree_of items))
  unfolding run
  begun-run b =
      require-passes 7 _ _ b.layout
      ∙ require-passes 8 _ _ (le-leb _ _ b.fuelled)
      ∙ require-passes 9 _ _ (and_both _ _ (le-leb _ _ b.work-room) (le-leb _ _ b.core-room))
      ∙ require-passes 10 _ _ b.operations

  pub begun-stage : Begun items fuel work core → stage_of (run items fuel work core).outcome ≡ begun
  begun-stage b = ap (λ (r : Run). stage_of r.outcome) (begun-run b) ∙ ended-begun (expand_recipe macros_most fuel (tree_of items))

  -- a run that shows an event has passed them
  pub shows-begun : (f : Event → Bool) → any_of f (run items fuel work core).events ≡ true → Begun items fuel work core
  unfolding any_of unbegun
  shows-begun f = begun-holds (λ r. any_of f r.events ≡ true → Begun items fuel work core) items fuel work core (λ g _ e. absurd (false≢true e)) (λ b e. b)
