-- Demand 3, proved: `private-names`. The two expressions agree (`expressions-agree`), so the two runs come to one answer.
use Rattle.std.specs.Prelude.{◌≡◌, refl, ◌⊎◌, true, ◌&&◌, List, [], map, ℕ, ◌+◌, ◌*◌, ◌≤◌, ltb, leb, length}
use Rattle.std.proofs.Math.Path.{ap, subst}
use Rattle.std.proofs.Common.{ap₂, sym, ◌∙◌, inl, inr, arith}
use Rattle.std.proofs.lemmas.Bool.{false≢true}
use Rattle.words.specs.Limits.{operations_most, work_rate, core_rate, macros_most}
use Rattle.words.specs.Lists.{all_of, any_of}
use Rattle.words.specs.TestLaws.{and_parts}
use Rattle.words.specs.Each.{Each}
use Rattle.words.specs.Tables.{begun}
use Rattle.recipe.specs.Name.{Name, distinct}
use Rattle.recipe.specs.Tree.{Tree, size, names, is_name, elements, element, on_names}
use Rattle.recipe.specs.TreeLaws.{on_names-size, on_names-element}
use Rattle.recipe.specs.Table.{is_layout, tree_of}
use Rattle.recipe.specs.TableNames.{number_at}
use Rattle.core_term.specs.Term.{Term}
use Rattle.core_term.specs.Words.{encode}
use Rattle.expansion.specs.Computation.{start, Out, done, refused, starved}
use Rattle.expansion.specs.Forms.{rules_form_of, expand_within, expand}
use Rattle.expansion.specs.Run.{accepted, refused_on, ended, operation_numbers, are_operations, expand_recipe, run}
use Rattle.expansion.specs.RunLaws.{Begun}
use Rattle.expansion.proofs.RunLaws.{begun-run, shows-begun}
use Rattle.private_names.specs.Statement as S
use Rattle.private_names.specs.Statement.{Choice, is_old_item, is_new, renamed, is_reached_at, quotes_no_copy, finds_own, hypotheses, answer_of, core_with, answer_with, PrivateNames}
use Rattle.simulation.specs.Names.Shown.{Renaming, of_copy}
use Rattle.simulation.proofs.Names.ShownLaws.{AllFine}
use Rattle.simulation.specs.Names.{Raw}
use Rattle.simulation.proofs.Formals.{TermRel, first-told, second-told}
use Rattle.simulation.proofs.StepsLaws.{privately}
use Rattle.simulation.specs.States.{StateRel, no-macro}
use Rattle.simulation.specs.Outcomes.{events_of}
use Rattle.simulation.proofs.OutcomesLaws.{OutRel, dones, refusals, starvations}
use Rattle.simulation.proofs.Form.{Joins}
use Rattle.private_names_proof.proofs.Reach.HeadsLaws.{Unheaded}
use Rattle.private_names_proof.proofs.Reach.{none-reached, expand-unreached}
use Rattle.private_names_proof.proofs.OwnNames.{OwnName, run-own, all-fine}
use Rattle.private_names_proof.proofs.Renumber.{tree_of-renumber, count-renumber, layout-renumber}
use Rattle.private_names_proof.specs.Paths.{sub}
use Rattle.private_names_proof.proofs.PathsLaws.{Headed, find}
use Rattle.private_names_proof.proofs.Before.{before-agree}
use Rattle.private_names_proof.specs.Renamed.{unbound, Held, Chosen}
use Rattle.private_names_proof.proofs.RenamedLaws.{renew, held-element, renamed-hole}
use Rattle.private_names_proof.proofs.Taken.{new-large, renaming, held, chosen, operations-same}

-- ---- outcomes that agree give one answer, but for the name words where a copy stands

ended-first : (ρ : Renaming) (raw : Raw ρ) {x y : Out (Term Name)} → OutRel (privately ρ raw) 0 (TermRel ρ) x y → answer_of (ended x) ≡ answer_with ρ.is_private ρ.old (ended x)
unfolding answer_of answer_with core_with ended
ended-first ρ raw (dones {s = s} r q) = λ i. record { outcome = accepted; steps = s.steps; sum = s.sum; core = encode (sym (first-told ρ r) i) }
ended-first ρ raw (refusals q) = refl
ended-first ρ raw starvations = refl

ended-second : (ρ : Renaming) (raw : Raw ρ) {x y : Out (Term Name)} → OutRel (privately ρ raw) 0 (TermRel ρ) x y → answer_of (ended y) ≡ answer_with ρ.is_private ρ.new (ended x)
unfolding answer_of answer_with core_with ended
ended-second ρ raw (dones r q) = λ i. record { outcome = accepted; steps = sym q.steps i; sum = sym q.sum i; core = encode (sym (second-told ρ r) i) }
ended-second ρ raw (refusals {g = g} q) = λ i. record { outcome = refused_on begun g; steps = sym q.steps i; sum = sym q.sum i; core = [] }
ended-second ρ raw starvations = refl

-- ---- an expression and the renumbered one, from the start

calm-start : (ρ : Renaming) (raw : Raw ρ) → StateRel (privately ρ raw) 0 start start
unfolding start
calm-start ρ raw = record { enough = omega arith; steps = refl; sum = refl; variables = refl; macros = no-macro }

-- whatever the limits, operations, fuel and gas: where the form of the chosen rule lies at l, with its head name of item p
pub expressions-agree : (ρ : Renaming) (p limit inner : ℕ) (operations : List ℕ) (fuel gas : ℕ) (N : ℕ → ℕ) (l : List ℕ) (b j : ℕ) (t : Tree)
    → Headed p l t → Held N t → Chosen ρ j (rules_form_of b (sub l t))
    → any_of (is_reached_at p) (events_of (expand_within limit inner operations fuel gas t start)) ≡ true
    → AllFine ρ (events_of (expand_within limit inner operations fuel gas t start))
    → Joins ρ (TermRel ρ) (expand_within limit inner operations fuel gas t start) (expand_within limit inner operations fuel gas (on_names (renew ρ) t) start)
unfolding of_copy
expressions-agree ρ p limit inner operations fuel gas N l b j t i held chosen reaches fine =
    before-agree ρ p limit inner operations fuel gas b unbound (λ n. refl) l t (on_names (renew ρ) t) i (held.once p) (renamed-hole ρ N l b j t held chosen) start (calm-start ρ) reaches fine

-- ---- both runs

pub ended-events : (o : Out (Term Name)) → (ended o).events ≡ events_of o
unfolding ended events_of
ended-events (done a s l) = refl
ended-events (refused g s l) = refl
ended-events (starved l) = refl

same-operations : (t u : Tree) → element 0 t ≡ element 0 u → operation_numbers t ≡ operation_numbers u
unfolding operation_numbers
same-operations t u e = ap (λ z. map (λ x. x.number) (names z)) e

same_test : (t u : Tree) → element 0 t ≡ element 0 u → are_operations t ≡ are_operations u
unfolding are_operations operation_numbers
same_test t u e = ap (λ z. all_of is_name (elements z) && (leb (length (map (λ x. x.number) (names z))) operations_most && (all_of (ltb 7) (map (λ x. x.number) (names z)) && distinct (names z)))) e

-- an expression's expansion, with the operations, fuel and gas of the recipe t
expansion_of : ℕ → Tree → Tree → Out (Term Name)
expansion_of fuel t e = expand macros_most (operation_numbers t) fuel (size t + fuel) e start

recipe-is : (fuel : ℕ) (t : Tree) → expand_recipe macros_most fuel t ≡ expansion_of fuel t (element 1 t)
unfolding expand_recipe expansion_of
recipe-is fuel t = refl

renamed-is : (fuel : ℕ) (f : Name → Name) (t : Tree) → element 0 (on_names f t) ≡ element 0 t → expand_recipe macros_most fuel (on_names f t) ≡ expansion_of fuel t (on_names f (element 1 t))
unfolding expand_recipe expansion_of
renamed-is fuel f t e =
    ap₂ (λ operations gas. expand macros_most operations fuel (gas + fuel) (element 1 (on_names f t)) start) (same-operations (on_names f t) t e) (on_names-size f t)
    ∙ ap (λ u. expand macros_most (operation_numbers t) fuel (size t + fuel) u start) (on_names-element f 1 t)

-- the expansion of the first run
first_of : ℕ → List ℕ → Out (Term Name)
first_of fuel ws = expansion_of fuel (tree_of ws) (element 1 (tree_of ws))

first-is : (ws : List ℕ) (fuel work core : ℕ) → Begun ws fuel work core → run ws fuel work core ≡ ended (first_of fuel ws)
unfolding first_of
first-is ws fuel work core t = begun-run ws fuel work core t ∙ ap ended (recipe-is fuel (tree_of ws))

first-events : (ws : List ℕ) (fuel work core : ℕ) → Begun ws fuel work core → (run ws fuel work core).events ≡ events_of (first_of fuel ws)
first-events ws fuel work core t = ap (λ z. z.events) (first-is ws fuel work core t) ∙ ended-events (first_of fuel ws)

-- the hypotheses, of that expansion
record Case (ws : List ℕ) (fuel work core : ℕ) (c : Choice) : Type 0 where
  begun : Begun ws fuel work core
  reaches : any_of (is_reached_at c.form) (events_of (first_of fuel ws)) ≡ true
  private : S.is_private (tree_of ws) c ≡ true
  new : is_new ws c.new ≡ true
  unquoted : all_of (quotes_no_copy (is_old_item (tree_of ws) c)) (events_of (first_of fuel ws)) ≡ true
  own : all_of (finds_own (is_old_item (tree_of ws) c) (events_of (first_of fuel ws))) (events_of (first_of fuel ws)) ≡ true

module _ (ws : List ℕ) (fuel work core : ℕ) (c : Choice) (k : Case ws fuel work core c) where
  layout : is_layout ws ≡ true
  layout = k.begun.layout

  abbrev ρ : Renaming
  ρ = renaming ws c layout k.private k.new (events_of (first_of fuel ws))

  own-names : Each (OwnName (is_old_item (tree_of ws) c) (events_of (first_of fuel ws))) (events_of (first_of fuel ws))
  own-names = subst (λ l. Each (OwnName (is_old_item (tree_of ws) c) l) l) (first-events ws fuel work core k.begun) (run-own (is_old_item (tree_of ws) c) ws fuel work core)

  fine : AllFine ρ (events_of (first_of fuel ws))
  fine = all-fine ρ (events_of (first_of fuel ws)) (λ b. refl) k.unquoted k.own own-names

  -- what is claimed of the two answers
  abbrev Claimed : Type 0
  Claimed =
      (answer_of (run ws fuel work core) ≡ answer_with (is_old_item (tree_of ws) c) c.old (run ws fuel work core))
      × (answer_of (run (renamed ws c) fuel work core) ≡ answer_with (is_old_item (tree_of ws) c) c.new (run ws fuel work core))

  -- where the form lies at l
  module _ (l : List ℕ) (i : Headed c.form l (element 1 (tree_of ws))) where
    joins : Joins ρ (TermRel ρ) (first_of fuel ws) (expansion_of fuel (tree_of ws) (on_names (renew ρ) (element 1 (tree_of ws))))
    unfolding first_of expansion_of
    joins =
        expressions-agree ρ c.form macros_most macros_most (operation_numbers (tree_of ws)) fuel (size (tree_of ws) + fuel) (number_at ws) l c.macro c.rule (element 1 (tree_of ws)) i
        (held-element (number_at ws) 1 (tree_of ws) (held ws c layout)) (chosen ws c layout k.private k.new (events_of (first_of fuel ws)) l i) k.reaches fine

    same : element 0 (on_names (renew ρ) (tree_of ws)) ≡ element 0 (tree_of ws)
    same = operations-same ws c layout k.private k.new (events_of (first_of fuel ws)) l i

    second-begun : Begun (renamed ws c) fuel work core
    unfolding renamed
    second-begun = record {
      layout = layout-renumber (is_old_item (tree_of ws) c) c.new (new-large ws c layout k.private k.new (events_of (first_of fuel ws))).1 ws layout;
      fuelled = k.begun.fuelled;
      work-room = subst (λ m. work_rate * (m + fuel) ≤ work) (sym (count-renumber (is_old_item (tree_of ws) c) c.new ws)) k.begun.work-room;
      core-room = subst (λ m. core_rate * (m + fuel) ≤ core) (sym (count-renumber (is_old_item (tree_of ws) c) c.new ws)) k.begun.core-room;
      operations = ap are_operations (tree_of-renumber (is_old_item (tree_of ws) c) c.new ws) ∙ same_test (on_names (renew ρ) (tree_of ws)) (tree_of ws) same ∙ k.begun.operations;
    }

    second_is : run (renamed ws c) fuel work core ≡ ended (expansion_of fuel (tree_of ws) (on_names (renew ρ) (element 1 (tree_of ws))))
    unfolding renamed
    second_is =
        begun-run (renamed ws c) fuel work core second-begun
        ∙ ap (λ t. ended (expand_recipe macros_most fuel t)) (tree_of-renumber (is_old_item (tree_of ws) c) c.new ws)
        ∙ ap ended (renamed-is fuel (renew ρ) (tree_of ws) same)

    answers : Claimed
    answers =
        let is = first-is ws fuel work core k.begun in (
          ap answer_of is ∙ ended-first ρ joins.raw joins.outcomes ∙ sym (ap (answer_with (is_old_item (tree_of ws) c) c.old) is),
          ap answer_of second_is ∙ ended-second ρ joins.raw joins.outcomes ∙ sym (ap (answer_with (is_old_item (tree_of ws) c) c.new) is),
        )

  -- the form lies somewhere, since the run comes to it
  located : Unheaded c.form (element 1 (tree_of ws)) ⊎ ((l : List ℕ) × Headed c.form l (element 1 (tree_of ws))) → Claimed
  unfolding first_of expansion_of
  located (inl u) = absurd (false≢true
      (sym (none-reached c.form (expand-unreached c.form macros_most macros_most (operation_numbers (tree_of ws)) fuel (size (tree_of ws) + fuel) (element 1 (tree_of ws)) u start)) ∙ k.reaches))
  located (inr (l, i)) = answers l i

-- ---- demand 3

pub private-names : PrivateNames
unfolding PrivateNames hypotheses all_of first_of
private-names ws fuel work core c h =
    let r = run ws fuel work core in
    let a = and_parts (any_of (is_reached_at c.form) r.events) _ h in
    let b = and_parts (S.is_private (tree_of ws) c) _ a.1 in
    let d = and_parts (is_new ws c.new) _ b.1 in
    let q = and_parts (all_of (quotes_no_copy (is_old_item (tree_of ws) c)) r.events) _ d.1 in
    let o = and_parts (all_of (finds_own (is_old_item (tree_of ws) c) r.events) r.events) true q.1 in
    let begun = shows-begun ws fuel work core (is_reached_at c.form) a.0 in
    let events = first-events ws fuel work core begun in
    let k : Case ws fuel work core c = record {
      begun = begun;
      reaches = subst (λ l. any_of (is_reached_at c.form) l ≡ true) events a.0;
      private = b.0;
      new = d.0;
      unquoted = subst (λ l. all_of (quotes_no_copy (is_old_item (tree_of ws) c)) l ≡ true) events q.0;
      own = subst (λ l. all_of (finds_own (is_old_item (tree_of ws) c) l) l ≡ true) events o.0;
    } in
    located ws fuel work core c k (find c.form (element 1 (tree_of ws)))
