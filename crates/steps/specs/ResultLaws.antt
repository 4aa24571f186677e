-- Laws of building what a template gives in an environment, one for each way through the code.
use Rattle.std.specs.Prelude.{◌≡◌, Option, Some, None, Bool, true, false, ◌&&◌, List, ℕ, ◌+◌, ◌*◌, ◌-◌, ◌≤◌, length, take}
use Rattle.std.proofs.Math.Path.{refl, sym, fun_ext}
use Rattle.std.proofs.Common.{ap, subst, ◌∙◌, arith}
use Rattle.std.proofs.lemmas.Bool.{false≢true}
use Rattle.datum.specs.Constant.{Constant}
use Rattle.recipe.specs.Tree.{Tree, empty, constant, name, pair, size}
use Rattle.expansion.specs.Rules.{constant_t}
use Rattle.arena.specs.Arena.{word_at, reference_at, name_at, tree_at}
use Rattle.arena.specs.ArenaLaws.{take_less, word_at-below, reference_at-most, reference_at-below}
use Rattle.arena.specs.Cells.{Room, Grown}
use Rattle.arena.specs.CellLaws.{tree-kept}
use Rattle.rule_cells.specs.Cells.{constant_before, template_at}
use Rattle.rule_cells.specs.CellLaws.{pattern_at-below, template_at-below, template_at-variable, template_at-insert, template_at-constant, template_at-empty}
use Rattle.environments.specs.declared.environment.Entry.{Entry}
use Rattle.environments.specs.Sound.{Plain, plain-pair}
use Rattle.environments.specs.Environment.{agree_by, result_by}
use Rattle.environments.specs.Entries.{field, entry_at, taken_in, ellipsis_in, taking_of, environment_at, Under, Low}
use Rattle.environments.specs.EntryLaws.{entry-low}
use Rattle.environments.specs.LengthLaws.{taken_is}
use Rattle.environments.specs.TemplateCells.{leaf-agrees, pair_is}
use Rattle.steps.specs.declared.copy.Built.{Built}
use Rattle.steps.specs.Build.{node_words, built, Fresh, Paid, Pays, Waiting, result_at, agrees_at, copy_at, copy_agrees, Buildable, Gives, Stops, Made}
use Rattle.steps.specs.BuildLaws.{fresh-empty, fresh-constant, room-left, pays-is, unpaid-none, paid-one, pair-most, paid-pair}

-- ---- what stands below the top

ellipsis_in-kept : (old new : List ℕ) (top q : ℕ) → q ≤ top → take top new ≡ take top old → ellipsis_in new q ≡ ellipsis_in old q
unfolding ellipsis_in
ellipsis_in-kept old new top q h e =
    let t : take q new ≡ take q old = take_less new old q top h e in
    let l : reference_at old q 3 ≤ q = reference_at-most old q 3 in
    rw (reference_at-below new old q 3 (omega arith) t, pattern_at-below new old (reference_at old q 3) (take_less new old (reference_at old q 3) q l t), word_at-below new old q 4 (omega arith) t) refl

module _ (old new : List ℕ) (top : ℕ) (kept : take top new ≡ take top old) where
  taking-kept : (w : ℕ) (x : Entry) → w ≤ top → Low x top → taking_of new w x ≡ taking_of old w x
  unfolding taking_of
  taking-kept w x h l =
      rw (
        tree-kept old new top x.whole w l.whole-low h kept,
        tree-kept old new top x.one w l.one-low h kept,
        tree-kept old new top x.two w l.two-low h kept,
        ellipsis_in-kept old new top x.first l.first-low kept,
        ellipsis_in-kept old new top x.second l.second-low kept,
      )
      refl

  pub environment-kept : (env : List ℕ) (w : ℕ) → w ≤ top → Under env top → environment_at new env w ≡ environment_at old env w
  unfolding environment_at
  environment-kept env w h u = fun_ext (λ k. taking-kept w (entry_at env k) h (entry-low env top u k))

  pub template-kept : (t : ℕ) → t ≤ top → template_at new t ≡ template_at old t
  template-kept t h = template_at-below new old t (take_less new old t top h kept)

  pub result-kept : (env : List ℕ) (w t : ℕ) → w ≤ top → t ≤ top → Under env top → result_at new env w t ≡ result_at old env w t
  unfolding result_at
  result-kept env w t h l u = rw (environment-kept env w h u, template-kept t l) refl

  pub copy-kept : (env : List ℕ) (w e i : ℕ) → w ≤ top → e ≤ top → Under env top → copy_at new env w e i ≡ copy_at old env w e i
  unfolding copy_at
  copy-kept env w e i h l u = rw (environment-kept env w h u, template-kept e l) refl

  pub agrees-kept : (env : List ℕ) (w t : ℕ) → w ≤ top → t ≤ top → Under env top → agrees_at new env w t ≡ agrees_at old env w t
  unfolding agrees_at
  agrees-kept env w t h l u = rw (environment-kept env w h u, template-kept t l) refl

  pub copy-agrees-kept : (env : List ℕ) (w e i : ℕ) → w ≤ top → e ≤ top → Under env top → copy_agrees new env w e i ≡ copy_agrees old env w e i
  unfolding copy_agrees
  copy-agrees-kept env w e i h l u = rw (environment-kept env w h u, template-kept e l) refl

-- both of two tests
pub both : (a b : Bool) → (a && b) ≡ true → (a ≡ true) × (b ≡ true)
both true b e = (refl, e)
both false b e = absurd (false≢true e)

under-less : (env : List ℕ) (a b : ℕ) → a ≤ b → Under env a → Under env b
under-less env a b h u i = omega (arith, u i)

-- the same template with what is left
pub buildable-left : (old new : List ℕ) (top fuel r left : ℕ) (env : List ℕ) (w t : ℕ) → Buildable old top fuel env w t → take top new ≡ take top old → length new ≡ length old → top ≤ r
    → r + node_words * left ≤ top + node_words * fuel → Buildable new r left env w t
buildable-left old new top fuel r left env w t ok kept long above most =
    record {
      room = room-left old new top fuel r left (node_words * left) long most ok.room;
      plain = rw (template-kept old new top kept t ok.template-below) ok.plain;
      under = under-less env top r above ok.under;
      wrap-below = omega (arith, ok.wrap-below);
      template-below = omega (arith, ok.template-below);
    }

-- ---- cells without parts

constant-kind : (a : Constant) → Plain (constant_t a) → (a.kind ≡ 0 → ⊥) × (a.kind ≡ 3 → ⊥) × (a.kind ≡ 4 → ⊥)
constant-kind a (Plain.constant x y z) = (x, y, z)

module _ (old : List ℕ) (top fuel : ℕ) (env : List ℕ) (w t tag : ℕ) (tag_is : tag ≡ word_at old t 1) (ok : Buildable old top fuel env w t) where
  abbrev Of : ℕ → Tree
  Of s = result_at old env w s

  -- a tree that a cell without parts gives
  made_of : (A : Tree) → (A ≡ Of t) → (tag ≡ 6 → ⊥) → (tag ≡ 7 → ⊥) → (new : List ℕ) (r : Option Built) → Pays A old new top fuel r → Made old new top fuel env w t r
  unfolding agrees_at
  made_of A e n6 n7 new (Some b) p = record { paid = pays-is A (Of t) old new top fuel e (Some b) p; agrees = sym (leaf-agrees old t tag tag_is n6 n7 _) }
  made_of A e n6 n7 new None p = record { over = λ a. (pays-is A (Of t) old new top fuel e None p).over; kept = p.kept }

  module _ (k d node : ℕ) (e : tag ≡ 1) (k-is : k ≡ word_at old t 3) (d-is : d ≡ word_at old t 2) (node-is : node ≡ taken_in env k d) where
    variable-is : tree_at old node w ≡ Of t
    unfolding result_at result_by
    variable-is = rw (template_at-variable old t (sym tag_is ∙ e), ← k-is, ← d-is, node-is) (sym (taken_is old env w k d))

    pub variable-waits : Waiting old top fuel node w
    unfolding taken_in field
    variable-waits = record { room = ok.room; node-below = rw node-is (ok.under _); wrap-below = ok.wrap-below }

    pub made-variable : (new : List ℕ) (r : Option Built) → Pays (tree_at old node w) old new top fuel r → Made old new top fuel env w t r
    made-variable new r p = made_of (tree_at old node w) variable-is (λ z. omega arith) (λ z. omega arith) new r p

  pub made_none : fuel ≡ 0 → Made old old top fuel env w t None
  made_none e = record { over = λ a. (unpaid-none (Of t) old top fuel e).over; kept = refl }

  module _ (left : ℕ) (some-fuel : fuel ≡ 0 → ⊥) (left_is : left ≡ fuel - 1) where
    made_one : (A : Tree) (new : List ℕ) (r : ℕ) → (size A ≡ 1) → (A ≡ Of t) → (tag ≡ 6 → ⊥) → (tag ≡ 7 → ⊥) → Fresh A old new top r → Made old new top fuel env w t (built r left)
    made_one A new r one e n6 n7 f = made_of A e n6 n7 new (built r left) (paid-one A old new top fuel r left some-fuel left_is one f)

    pub made-insert : (node v : ℕ) (new : List ℕ) (r : ℕ) → tag ≡ 2 → node ≡ reference_at old t 3 → v ≡ reference_at old t 2 → Fresh (name (name_at old node v)) old new top r → Made old new top fuel env w t (built r left)
    unfolding result_at result_by size
    made-insert node v new r e node-is v-is f =
        made_one (name (name_at old node v)) new r refl (rw (template_at-insert old t (sym tag_is ∙ e), ← node-is, ← v-is) refl) (λ z. omega arith) (λ z. omega arith) f

    pub made-constant : (k a b : ℕ) (new : List ℕ) (r : ℕ) → tag ≡ 4 → k ≡ word_at old t 4 → a ≡ word_at old t 3 → b ≡ word_at old t 2 → Grown (λ v. constant (record { kind = k; first = a; second = b })) old new top r → Made old new top fuel env w t (built r left)
    unfolding result_at result_by constant_before size
    made-constant k a b new r e k-is a-is b-is g =
        made_one (constant (record { kind = k; first = a; second = b })) new r refl (rw (template_at-constant old t (sym tag_is ∙ e), k-is, a-is, b-is) refl) (λ z. omega arith) (λ z. omega arith) (fresh-constant old new top r k a b g)

    pub made-empty : (new : List ℕ) (r : ℕ) → (tag ≡ 1 → ⊥) → (tag ≡ 2 → ⊥) → (tag ≡ 4 → ⊥) → (tag ≡ 6 → ⊥) → (tag ≡ 7 → ⊥) → Grown (λ v. empty) old new top r → Made old new top fuel env w t (built r left)
    unfolding result_at result_by size
    made-empty new r n1 n2 n4 n6 n7 g =
        made_one empty new r refl
        (rw (template_at-empty old t (λ z. n1 (tag_is ∙ z)) (λ z. n2 (tag_is ∙ z)) (λ z. n4 (tag_is ∙ z)) (λ z. n6 (tag_is ∙ z)) (λ z. n7 (tag_is ∙ z))) refl)
        n6 n7 (fresh-empty old new top r g)

  pub kind-plain : (k : ℕ) → tag ≡ 4 → k ≡ word_at old t 4 → (k ≡ 0 → ⊥) × (k ≡ 3 → ⊥) × (k ≡ 4 → ⊥)
  unfolding constant_before
  kind-plain k e k-is = rw k-is (constant-kind (constant_before old t) (subst Plain (template_at-constant old t (sym tag_is ∙ e)) ok.plain))

-- ---- cells with parts, the rest before the head

module _ (old : List ℕ) (top fuel : ℕ) (env : List ℕ) (w t tag : ℕ) (tag_is : tag ≡ word_at old t 1) (ok : Buildable old top fuel env w t) (head rest : ℕ) (head-is : head ≡ reference_at old t 3) (rest-is : rest ≡ reference_at old t 2) where
  part-buildable : (s : ℕ) → s ≤ t → (Plain (template_at old s)) → Buildable old top fuel env w s
  part-buildable s h p = record { room = ok.room; plain = p; under = ok.under; wrap-below = ok.wrap-below; template-below = omega (arith, ok.template-below) }

  head-low : head ≤ t
  head-low = omega (arith, reference_at-most old t 3)

  rest-low : rest ≤ t
  rest-low = omega (arith, reference_at-most old t 2)

  module _ (e : tag ≡ 6) where
    parts-plain : Plain (template_at old head) × Plain (template_at old rest)
    parts-plain = plain-pair _ _ (subst Plain (pair_is old t tag head rest tag_is head-is rest-is e) ok.plain)

    of_pair : pair (result_at old env w head) (result_at old env w rest) ≡ result_at old env w t
    unfolding result_at result_by
    of_pair = rw (pair_is old t tag head rest tag_is head-is rest-is e) refl

    agrees-pair : agrees_at old env w t ≡ (agrees_at old env w head && agrees_at old env w rest)
    unfolding agrees_at agree_by
    agrees-pair = rw (pair_is old t tag head rest tag_is head-is rest-is e) refl

    parts-agree : agrees_at old env w t ≡ true → (agrees_at old env w head ≡ true) × (agrees_at old env w rest ≡ true)
    parts-agree a = both (agrees_at old env w head) _ (sym agrees-pair ∙ a)

    size-pair : size (result_at old env w t) ≡ 1 + size (result_at old env w head) + size (result_at old env w rest)
    unfolding size
    size-pair = rw (← of_pair) (omega arith)

    module _ (left : ℕ) (some-fuel : fuel ≡ 0 → ⊥) (left_is : left ≡ fuel - 1) where
      pub pair-tail : Buildable old top left env w rest
      pair-tail = buildable-left old old top fuel top left env w rest (part-buildable rest rest-low parts-plain.1) refl refl (omega arith) (omega arith)

      pub pair-tail-costly : (one : List ℕ) → Stops old one top left env w rest → Made old one top fuel env w t None
      pair-tail-costly one b = record { over = λ a. omega (arith, b.over (parts-agree a).1, size-pair); kept = b.kept }

      module _ (one : List ℕ) (s f : ℕ) (b : Gives old one top left env w rest s f) (long : length one ≡ length old) where
        pub pair-head : Buildable one s f env w head
        pair-head = buildable-left old one top fuel s f env w head (part-buildable head head-low parts-plain.0) b.paid.kept long b.paid.above (omega (arith, b.paid.most))

        head-below : head ≤ top
        head-below = omega (arith, head-low, ok.template-below)

        of-head : result_at one env w head ≡ result_at old env w head
        of-head = result-kept old one top b.paid.kept env w head ok.wrap-below head-below ok.under

        agrees-head : agrees_at one env w head ≡ agrees_at old env w head
        agrees-head = agrees-kept old one top b.paid.kept env w head ok.wrap-below head-below ok.under

        pub pair-head-costly : (two : List ℕ) → Stops one two s f env w head → Made old two top fuel env w t None
        pair-head-costly two a =
            record {
              over = λ g. omega (arith, a.over (agrees-head ∙ (parts-agree g).0), ap size of-head, b.paid.spent, size-pair);
              kept = take_less two one top s b.paid.above a.kept ∙ b.paid.kept;
            }

        module _ (two : List ℕ) (h g : ℕ) (a : Gives one two s f env w head h g) where
          head-made : Paid (result_at old env w head) one two s f h g
          head-made = pays-is _ _ one two s f of-head (built h g) a.paid

          pub pair-room : length two ≡ length one → Room two h 3
          pair-room far =
              room-left old two top fuel h g 3 (far ∙ long) (omega (arith, pair-most (result_at old env w head) (result_at old env w rest) old one top fuel left some-fuel left_is s f b.paid two h g head-made)) ok.room

          pub made_pair : (new : List ℕ) (r : ℕ) → Grown (λ v. pair (tree_at two h v) (tree_at two s v)) two new h r → Made old new top fuel env w t (built r g)
          made_pair new r p =
              record {
                paid =
                    pays-is _ _ old new top fuel of_pair (built r g)
                    (paid-pair (result_at old env w head) (result_at old env w rest) old one top fuel left some-fuel left_is s f b.paid two h g head-made new r p);
                agrees = agrees-pair ∙ rw (← agrees-head, a.agrees, b.agrees) refl;
              }
