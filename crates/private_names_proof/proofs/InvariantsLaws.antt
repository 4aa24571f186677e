-- The invariants of a run that demand 3 rests on, each a theorem about the definition. What a run has at hand is each expression that it
-- comes to, in the state at that place: the definition with a test before each expression (`watched`) is the definition.
-- Read Tests and the head of Watch first. Kinds has what is kept, Kept the induction; AtForm, Places and Reached have the form of a private
-- name and the run up to it.
use Rattle.std.specs.Prelude.{◌≡◌, ◌⊎◌, Bool, true, false, List, ◌∷◌, ℕ, suc, ◌+◌}
use Rattle.std.proofs.Common.{ap, sym, ◌∙◌, subst, inl, inr, arith}
use Rattle.std.proofs.lemmas.Bool.{false≢true}
use Rattle.words.specs.Limits.{macros_most}
use Rattle.words.specs.Lists.{any_of}
use Rattle.words.specs.Each.{none_of}
use Rattle.recipe.specs.Name.{Name, plain_name, mark_name, produce_name}
use Rattle.recipe.specs.Tree.{Tree, size, element}
use Rattle.recipe.specs.TreeNames.{tree_all-map, tree_all-element, uses-element}
use Rattle.recipe.specs.Tidy.{tidy-element, tidy-weaken}
use Rattle.recipe.specs.Table.{is_layout, tree_of}
use Rattle.recipe.specs.TableNames.{number_at}
use Rattle.recipe.specs.TableTidy.{PlainName, IsConstant}
use Rattle.recipe.proofs.TableTidyLaws.{tree_of-tidy}
use Rattle.expansion.specs.Computation.{State, start}
use Rattle.expansion.specs.Forms.{expand_use, expand}
use Rattle.expansion.specs.Run.{operation_numbers, expand_recipe, run}
use Rattle.expansion.specs.RunLaws.{Begun}
use Rattle.expansion.proofs.RunLaws.{begun-run, shows-begun}
use Rattle.private_names.specs.Statement.{Choice, is_old_item, is_reached_at}
use Rattle.simulation.specs.Outcomes.{events_of}
use Rattle.private_names_proof.proofs.Reach.HeadsLaws.{Unheaded}
use Rattle.private_names_proof.proofs.Reach.{none-reached, use-unreached, expand-unreached}
use Rattle.private_names_proof.proofs.PathsLaws.{Headed, find}
use Rattle.private_names_proof.proofs.Taken.{held, items_at}
use Rattle.private_names_proof.proofs.Claim.{ended-events}
use Rattle.private_names_proof.specs.Invariants.Tests.{are_fresh, have_one_binding, are_apart}
use Rattle.private_names_proof.specs.Invariants.Watch.{watched}
use Rattle.private_names_proof.proofs.Invariants.WatchLaws.{watched-is}
use Rattle.private_names_proof.specs.Invariants.Kinds.{Fresh}
use Rattle.private_names_proof.proofs.Invariants.KindsLaws.{inserted-marks, used-marks, Sound}
use Rattle.private_names_proof.proofs.Invariants.KeptLaws.{After, fails-nowhere, Follows, watched-keeps}
use Rattle.private_names_proof.specs.Invariants.AtForm.{private_in}
use Rattle.private_names_proof.proofs.Invariants.AtFormLaws.{is_private_name, Copied}
use Rattle.private_names_proof.proofs.Invariants.Followed.{binding-carried, item-carried, fresh-follows, binding-follows, apart-follows, apart-rests}
use Rattle.private_names_proof.proofs.Invariants.Places.{Place}
use Rattle.private_names_proof.proofs.Invariants.Reached.{place-passes}
use Rattle.private_names_proof.specs.Invariants.{watched_recipe, CopiesStayApart}

-- at the start no name has marks or a binding
plain-sound : Sound (λ x. x.binding) (λ x. Unit {0}) 0 PlainName
unfolding plain_name
plain-sound = record {
  good = record {
    fresh = λ x p. subst (λ y. Fresh 0 y) (sym p.plain) none_of;
    determines = λ x y p q e f. ap (λ z. z.binding) p.plain ∙ sym (ap (λ z. z.binding) q.plain);
  };
  each = λ x p. tt;
}

recipe-follows : (test : Tree → State → Bool) → Follows (λ x. x.binding) (λ x. Unit {0}) IsConstant test → (ws : List ℕ) (fuel : ℕ) → is_layout ws ≡ true → watched_recipe test fuel (tree_of ws) ≡ expand_recipe macros_most fuel (tree_of ws)
unfolding watched_recipe expand_recipe start
recipe-follows test follows ws fuel layout =
    let operations = operation_numbers (tree_of ws) in
    let gas = size (tree_of ws) + fuel in
    watched-is test macros_most macros_most operations fuel gas (element 1 (tree_of ws)) start
    (fails-nowhere (λ x. x.binding) (λ x. Unit {0}) IsConstant
    (watched-keeps (λ x. x.binding) (λ x. Unit {0}) IsConstant binding-carried test follows macros_most macros_most operations fuel gas
    0 PlainName plain-sound (element 1 (tree_of ws)) (tidy-element 1 (tree_of-tidy ws layout)) start (record { later = omega arith; rules = none_of })))

-- the form in the recipe's expression, as the run begins
form-place : (ws : List ℕ) (c : Choice) (layout : is_layout ws ≡ true) (l : List ℕ) → Headed c.form l (element 1 (tree_of ws)) → Place (number_at ws) c.form c.macro c.rule c.old (is_old_item (tree_of ws) c) l (element 1 (tree_of ws))
unfolding private_in plain_name
form-place ws c layout l i =
    let h = held ws c layout in
    record {
      headed = i;
      in_place = record {
        tidy = tidy-element 1 (tidy-weaken (λ x q. tt) (tree_of-tidy ws layout));
        unproduced = tree_all-element 1 (tree_all-map (λ x q. ap (λ y. y.produced) q) h.plain);
        unmarked = tree_all-element 1 (tree_all-map (λ x q. ap (λ y. y.marks) q) h.plain);
        numbered = tree_all-element 1 h.numbered;
        once = λ q. omega (arith, h.once q, uses-element q 1 (tree_of ws));
      };
      privates = items_at ws c layout l i;
    }

start-after : (private : ℕ → Bool) → After (is_private_name private) (Copied private) IsConstant 0 start
unfolding start
start-after private = record { later = omega arith; rules = none_of }

-- ---- the invariants

-- Marks are fresh: in each expression that a run comes to, every mark is that of a step already made. So the next step's mark is new.
pub marks-are-fresh : (ws : List ℕ) (fuel : ℕ) → is_layout ws ≡ true → watched_recipe are_fresh fuel (tree_of ws) ≡ expand_recipe macros_most fuel (tree_of ws)
marks-are-fresh = recipe-follows are_fresh fresh-follows

-- Marks stick: after k steps, a name that the next one inserts has all its marks and the new one, and a name of the use has its marks as
-- they were. Binding changes no marks.
pub marks-stick : (k : ℕ) (x : Name) → Fresh k x
    → ((produce_name (mark_name (suc k) x)).marks ≡ suc k ∷ x.marks) × ((produce_name (mark_name (suc k) (mark_name (suc k) x))).marks ≡ x.marks)
marks-stick k x f = (inserted-marks k x f, used-marks k x f)

-- In one tree number and marks determine the binding: in each expression that a run comes to.
pub marks-determine-binding : (ws : List ℕ) (fuel : ℕ) → is_layout ws ≡ true → watched_recipe have_one_binding fuel (tree_of ws) ≡ expand_recipe macros_most fuel (tree_of ws)
marks-determine-binding = recipe-follows have_one_binding binding-follows

-- A copy and a name that is no copy are never the same: in each expression that a run comes to, where it comes to the form of that
-- template other than through a macro's result.
pub copies-stay-apart : (ws : List ℕ) (fuel work core : ℕ) (c : Choice) → any_of (is_reached_at c.form) (run ws fuel work core).events ≡ true
    → watched_recipe (are_apart (is_old_item (tree_of ws) c)) fuel (tree_of ws) ≡ expand_recipe macros_most fuel (tree_of ws)
unfolding watched_recipe expand_recipe
copies-stay-apart ws fuel work core c h = located (find c.form (element 1 (tree_of ws)))
  where
    begun : Begun ws fuel work core
    begun = shows-begun ws fuel work core (is_reached_at c.form) h

    reaches : any_of (is_reached_at c.form) (events_of (expand macros_most (operation_numbers (tree_of ws)) fuel (size (tree_of ws) + fuel) (element 1 (tree_of ws)) start)) ≡ true
    reaches = subst (λ l. any_of (is_reached_at c.form) l ≡ true) (ap (λ r. r.events) (begun-run ws fuel work core begun) ∙ ended-events (expand_recipe macros_most fuel (tree_of ws))) h

    located : Unheaded c.form (element 1 (tree_of ws)) ⊎ ((l : List ℕ) × Headed c.form l (element 1 (tree_of ws)))
        → watched (are_apart (is_old_item (tree_of ws) c)) macros_most macros_most (operation_numbers (tree_of ws)) fuel (size (tree_of ws) + fuel) (element 1 (tree_of ws)) start
        ≡ expand macros_most (operation_numbers (tree_of ws)) fuel (size (tree_of ws) + fuel) (element 1 (tree_of ws)) start
    located (inl u) = absurd (false≢true (sym (none-reached c.form (expand-unreached c.form macros_most macros_most (operation_numbers (tree_of ws)) fuel (size (tree_of ws) + fuel) (element 1 (tree_of ws)) u start)) ∙ reaches))
    located (inr (l, i)) =
        let private = is_old_item (tree_of ws) c in
        watched-is (are_apart private) macros_most macros_most (operation_numbers (tree_of ws)) fuel (size (tree_of ws) + fuel) (element 1 (tree_of ws)) start
        (fails-nowhere (is_private_name private) (Copied private) IsConstant
        (place-passes (number_at ws) c.form c.macro c.rule c.old private (item-carried private) (are_apart private) (apart-follows private) (apart-rests private (number_at ws)) macros_most macros_most (operation_numbers (tree_of ws)) fuel (size (tree_of ws) + fuel)
        l (element 1 (tree_of ws)) (form-place ws c begun.layout l i) start (start-after private) reaches))

-- as specs/Invariants.antt says it
pub copies-stay-apart-said : CopiesStayApart
copies-stay-apart-said = copies-stay-apart

-- A form reached outside results was in no use: whatever a macro use holds, its expansion reaches no form by a name that never stood in a result.
pub reached-in-no-use : (limit inner : ℕ) (operations : List ℕ) (fuel gas n : ℕ) (t : Tree) (s : State) (p : ℕ)
    → any_of (is_reached_at p) (events_of (expand_use limit operations fuel (expand inner operations fuel gas) n t s)) ≡ false
reached-in-no-use limit inner operations fuel gas n t s p =
    none-reached p (use-unreached p limit operations fuel (expand inner operations fuel gas) (expand-unreached p inner inner operations fuel gas) n t s)
