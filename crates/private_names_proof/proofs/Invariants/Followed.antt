-- The tests follow from what is kept of the names at hand: bindings, and the items that names stem from, are carried along.
use Rattle.std.specs.Prelude.{◌≡◌, refl, Bool, true, false, not, ◌&&◌, ◌||◌, cond, List, ℕ, eqb}
use Rattle.std.proofs.Common.{ap, sym, ◌∙◌, arith, eqb-true, eq-eqb, le-leb}
use Rattle.std.proofs.lemmas.Bool.{false≢true}
use Rattle.std.proofs.Math.Option.{some}
use Rattle.words.specs.Lists.{all_of, equal}
use Rattle.words.specs.ListLaws.{equal-true}
use Rattle.words.specs.TestLaws.{and_parts, and_both}
use Rattle.words.specs.Each.{Each, each_weaken, true-each}
use Rattle.recipe.specs.Name.{Binding, Name, binding_key, same, mark_name, produce_name, give_binding, bind_name}
use Rattle.recipe.specs.Tree.{Tree}
use Rattle.recipe.specs.TreeNames.{bind_name-item, bind_name-produced}
use Rattle.recipe.specs.Tidy.{tidy-names}
use Rattle.recipe.specs.TableTidy.{IsConstant}
use Rattle.expansion.specs.Computation.{State}
use Rattle.private_names.specs.Statement.{is_copy}
use Rattle.simulation.proofs.Names.SamenessLaws.{same→Same}
use Rattle.private_names_proof.specs.Invariants.Tests.{are_fresh, have_one_binding, are_apart}
use Rattle.private_names_proof.specs.Invariants.Kinds.{Carried}
use Rattle.private_names_proof.proofs.Invariants.KeptLaws.{Follows}
use Rattle.private_names_proof.specs.Invariants.AtForm.{InPlace}
use Rattle.private_names_proof.proofs.Invariants.AtFormLaws.{tidy-each, Copied}

-- ---- bindings, and the items that names stem from, are carried along

bind_name-binding : (i : Name) (b : Binding) (x : Name) → (bind_name i b x).binding ≡ cond (same i x) (some b) x.binding
unfolding bind_name give_binding
bind_name-binding i b x = go (same i x)
  where
    go : (c : Bool) → (cond c (give_binding b x) x).binding ≡ cond c (some b) x.binding
    go true = refl
    go false = refl

same_by : (i x y : Name) → x.number ≡ y.number → x.marks ≡ y.marks → x.binding ≡ y.binding → same i x ≡ same i y
unfolding same
same_by i x y e f g = rw (e, f, g)

pub binding-carried : Carried (λ x. x.binding) (λ x. Unit {0})
unfolding mark_name produce_name
binding-carried = record {
  marked = λ m x. refl;
  produced = λ x. refl;
  bound = λ i b x y e f g. bind_name-binding i b x ∙ ap (λ c. cond c (some b) x.binding) (same_by i x y e f g) ∙ ap (λ d. cond (same i y) (some b) d) g ∙ sym (bind_name-binding i b y);
  each-bound = λ i b x _. tt;
  each-produced = λ x. tt;
}

pub item-carried : (private : ℕ → Bool) → Carried (λ x. private x.item) (Copied private)
unfolding mark_name produce_name
item-carried private = record {
  marked = λ m x. refl;
  produced = λ x. refl;
  bound = λ i b x y e f g. ap private (bind_name-item i b x) ∙ g ∙ sym (ap private (bind_name-item i b y));
  each-bound = λ i b x h e. bind_name-produced i b x ∙ h (ap private (sym (bind_name-item i b x)) ∙ e);
  each-produced = λ x e. refl;
}

-- ---- the tests follow

pairs-true : {Q : Name → Type 0} (f : Name → Name → Bool) → ((x y : Name) → Q x → Q y → f x y ≡ true) → {xs : List Name} → Each Q xs → all_of (λ x. all_of (f x) xs) xs ≡ true
pairs-true f h a = true-each _ (each_weaken (λ x p. true-each _ (each_weaken (λ y q. h x y p q) a)) a)

implies : (a b : Bool) → (a ≡ true → b ≡ true) → (not a || b) ≡ true
implies true b h = h refl
implies false b h = refl

excludes : (a b c : Bool) → (a ≡ true → c ≡ true → b ≡ true) → not (a && (not b && c)) ≡ true
excludes false b c h = refl
excludes true true c h = refl
excludes true false false h = refl
excludes true false true h = absurd (false≢true (h refl refl))

pub fresh-follows : Follows (λ x. x.binding) (λ x. Unit {0}) IsConstant are_fresh
unfolding are_fresh
fresh-follows k Q sd t a s h = true-each _ (each_weaken (λ x q. true-each _ (each_weaken (λ m i. le-leb m s.steps (omega arith)) (sd.good.fresh x q))) (tidy-names a))

pub binding-follows : Follows (λ x. x.binding) (λ x. Unit {0}) IsConstant have_one_binding
unfolding have_one_binding
binding-follows k Q sd t a s h = pairs-true _ (λ x y p q. implies _ _ λ e.
    let d = and_parts (eqb x.number y.number) (equal x.marks y.marks) e in
    eq-eqb _ _ (ap binding_key (sd.good.determines x y p q (eqb-true _ _ d.0) (equal-true _ _ d.1)))) (tidy-names a)

pub apart-follows : (private : ℕ → Bool) → Follows (λ x. private x.item) (Copied private) IsConstant (are_apart private)
unfolding are_apart is_copy
apart-follows private k Q sd t a s h = pairs-true _ (λ x y p q. excludes _ _ _ λ e f.
    let d = same→Same x y f in
    let c : private y.item ≡ true = sym (sd.good.determines x y p q d.number d.marks) ∙ (and_parts x.produced (private x.item) e).1 in
    and_both y.produced (private y.item) (sd.each y q c) c) (tidy-names a)

-- in place no name is a copy
pub apart-rests : (private : ℕ → Bool) (number : ℕ → ℕ) (t : Tree) → InPlace IsConstant number t → (s : State) → are_apart private t s ≡ true
unfolding are_apart is_copy
apart-rests private number t a s = pairs-true _ (λ x y p q. excludes (is_copy private x) (is_copy private y) (same x y) λ e f. absurd (false≢true (sym p ∙ (and_parts x.produced (private x.item) e).0))) (tidy-names (tidy-each a.tidy a.unproduced))
