-- Names in place, which never stood in a result: they have no marks, and their number tells their binding, in the scope at hand.
use Rattle.std.specs.Prelude.{◌≡◌, Bool, true, false, ◌||◌, cond, [], ◌∷◌, ℕ, eqb}
use Rattle.std.proofs.Common.{ap, ap₂, sym, ◌∙◌, eqb-true, eq-eqb}
use Rattle.words.specs.TestLaws.{iff-eq}
use Rattle.recipe.specs.Name.{Binding, Name, same, is_ellipsis, is_wildcard, give_binding, bind_name}
use Rattle.recipe.specs.Tree.{Tree, names}
use Rattle.expansion.specs.Rules.{has_variable}
use Rattle.simulation.proofs.RelationsLaws.{any-rel}
use Rattle.simulation.specs.Shapes.{TreeOf}
use Rattle.simulation.proofs.ShapesLaws.{names-rel, on_name-rel, element-rel, tail-rel}
use Rattle.simulation.proofs.RulesKept.{variables-rel, literal_list-rel, rule_list-rel, ellipsis_of-rel}
use Rattle.simulation.proofs.Names.SamenessLaws.{same→Same, Same→same}
use Rattle.simulation.specs.Form.Scopes.{Moved, Placed, Scope, rebind}

-- they are the same when their numbers are equal
pub same-placed : (β : Scope) (x y : Name) → Placed β x → Placed β y → same x y ≡ eqb x.number y.number
same-placed β x y p q = iff-eq (same x y) (eqb x.number y.number)
    (λ s. eq-eqb _ _ (same→Same x y s).number)
    (λ t. let e : x.number ≡ y.number = eqb-true _ _ t in
    Same→same x y (record { number = e; marks = p.unmarked ∙ sym q.unmarked; binding = p.bound ∙ ap β e ∙ sym q.bound }))

pub bind_name-placed : (β : Scope) (i : Name) (b : Binding) (x : Name) → Placed β i → Placed β x → Placed (rebind i.number b β) (bind_name i b x)
unfolding bind_name give_binding rebind
bind_name-placed β i b x p q = go (same i x) (same-placed β i x p q)
  where
    go : (c : Bool) → c ≡ eqb i.number x.number → Placed (rebind i.number b β) (cond c (give_binding b x) x)
    go true e = record { unproduced = q.unproduced; unmarked = q.unmarked; bound = rw (sym e) }
    go false e = record { unproduced = q.unproduced; unmarked = q.unmarked; bound = rw (sym e) q.bound }

-- a name of another number keeps its binding
pub still_placed : (β : Scope) (i : Name) (b : Binding) (x : Name) → Placed β x → eqb i.number x.number ≡ false → Placed (rebind i.number b β) x
unfolding rebind
still_placed β i b x p e = record { unproduced = p.unproduced; unmarked = p.unmarked; bound = rw e p.bound }

-- ---- the variables of a rule, by number

pub has_variable-moved : (β γ : Scope) (j n : ℕ) {t u : Tree} → TreeOf (Moved β γ) t u → has_variable j n t ≡ has_variable j n u
unfolding has_variable is_ellipsis is_wildcard
has_variable-moved β γ j n {t} {u} r =
    let same-eq : (i k x y : Name) → Moved β γ i k → Moved β γ x y → same i x ≡ same k y = λ i k x y p q. same-placed β i x p.from q.from ∙ ap₂ eqb p.number q.number ∙ sym (same-placed γ k y p.to q.to) in
    let wild-eq : (x y : Name) → Moved β γ x y → is_wildcard x ≡ is_wildcard y = λ x y p. ap (λ k. eqb k 7) p.number in
    ap₂ ◌||◌ (on_name-rel _ _ (λ x y p. ap (λ k. eqb k n) p.number) false (element-rel 1 r))
    (any-rel _ _ (λ v w q. ap (λ k. eqb k n) q.names.number)
    (variables-rel (Moved β γ) same-eq wild-eq _ _ (ellipsis_of-rel (Moved β γ) (λ x y p. ap (λ k. eqb k 6) p.number) wild-eq same-eq t u (element-rel 1 r)) (names-rel (literal_list-rel r)) 0 (tail-rel (element-rel 0 (element-rel j (rule_list-rel r))))))
