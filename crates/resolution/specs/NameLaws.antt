-- Laws of names in the arena, in the code's shape.
use Rattle.std.specs.declared.option.Option as C
use Rattle.std.specs.Prelude.{◌≡◌, refl, Bool, Some, None, List, ℕ, ◌+◌, ◌-◌, ◌/◌, ◌%◌, ◌≤◌, ◌<◌, get_or}
use Rattle.std.proofs.Math.Path.{sym, ap}
use Rattle.std.proofs.Common.{ap₂, subst, ◌∙◌, arith}
use Rattle.std.proofs.Math.Bool.{true, false, and-true, and-false}
use Rattle.std.proofs.Math.Option.{Option, none, some}
use Rattle.std.proofs.Math.Dec.{eqb}
use Rattle.std.proofs.Math.ListN.{length, get_or-eq_default}
use borrow.Author.Tests.{lt-ltb, le-ltb, eq-eqb, ne_eqb}
use Rattle.words.specs.Lists.{equal}
use Rattle.words.specs.Parts.{rest}
use Rattle.words.specs.ListLaws.{rest-is}
use Rattle.recipe.specs.Name.{Binding, variable, macro, Name, plain_name, binding_key, is_bound, same}
use Rattle.expansion.specs.Lookup.{or_unbound, agree}
use Rattle.arena.specs.Offsets.{OWN}
use Rattle.arena.specs.Arena.{reference_at, newest, binding_of, wrap_at, origin_name, node_name, name_at, number_of}
use Rattle.arena.specs.ArenaLaws.{binding_of-key, wrap_at-marks}
use Rattle.arena.specs.NodeLaws.{name_at-number}
use Rattle.resolution.specs.Marks.{marks_in, Holds, NameAfter}
use Rattle.resolution.specs.MarkLaws.{marks_in-length, marks_in-below}
use Rattle.resolution.specs.HandLaws.{count_most}
use Rattle.resolution.specs.BinderLaws.{equal-lengths}
use Rattle.arena.specs.declared.cells.Binder.{Binder}
use Rattle.arena.specs.Cells.{Described, Bound, Binds}
use Rattle.resolution.specs.Names.{Resolved, Summed, means_of, found_of, operation_at, unbound_in, lookup_in, Agrees}
use Rattle.resolution.specs.declared.names.Meaning.{Meaning}
use Rattle.resolution.specs.declared.names.Meaning.TheVariants.{Variable, Macro, Form, Operation}

-- ---- resolving

-- the own wrap, then the pending one
pub resolved : (work : List ℕ) (node w own number : ℕ) → own ≡ reference_at work node OWN → number ≡ number_of work node → (old mid new : List ℕ) (s k c r d : ℕ) → NameAfter (wrap_at work own) old mid s number 0 0 k c → NameAfter (wrap_at work w) mid new s number k c r d → Resolved work node w old new s r d
unfolding number_of name_at node_name origin_name marks_in binding_key
resolved work node w own number p e old mid new s k c r d f g =
    let plain : Holds (node_name work node) old s 0 number 0 = record { number_is = sym e; marks-are = refl; binding-is = refl } in
    let h = g.holds _ (f.holds (node_name work node) plain) in
    let i : name_at work node w ≡ wrap_at work w (wrap_at work own (node_name work node)) = ap (λ (u : ℕ). wrap_at work w (wrap_at work u (node_name work node))) (sym p) in
    record {
      holds = rw i (record { number_is = h.number_is ∙ e; marks-are = h.marks-are; binding-is = h.binding-is });
      hand = g.hand;
      kept = g.kept ∙ f.kept;
    }

-- ---- plain names

no-marks : (work : List ℕ) (node : ℕ) → (plain_name 0 0).marks ≡ (node_name work node).marks
unfolding plain_name node_name origin_name
no-marks work node = refl

-- a name in the parts that are all of both tables
pub whole-name : (work : List ℕ) (node w : ℕ) → name_at (rest 0 work) node w ≡ name_at work node w
whole-name work node w = ap (λ (s : List ℕ). name_at s node w) (rest-is 0 work)

pub whole_same : (work : List ℕ) (a v b w : ℕ) → same (name_at (rest 0 work) a v) (name_at (rest 0 work) b w) ≡ same (name_at work a v) (name_at work b w)
whole_same work a v b w = ap₂ same (whole-name work a v) (whole-name work b w)

pub whole-summed : (work : List ℕ) (node w binding count m : ℕ) → Summed (name_at (rest 0 work) node w) binding count m → Summed (name_at work node w) binding count m
whole-summed work node w binding count m h = subst (λ (x : Name). Summed x binding count m) (whole-name work node w) h

-- ---- binders

pub summed : (work : List ℕ) (node w : ℕ) (old new : List ℕ) (count binding m : ℕ) → Resolved work node w old new 0 count binding → m ≡ newest (marks_in new 0 count) → Summed (name_at work node w) binding count m
summed work node w old new count binding m h f =
    record {
      binding-is = sym h.holds.binding-is;
      count-is = sym (ap length h.holds.marks-are ∙ marks_in-length new 0 count);
      newest-is = f ∙ sym (ap newest h.holds.marks-are);
      most = count_most new 0 count h.hand.descends;
    }

-- a name's summary is that of the binder's own name
described : (work : List ℕ) (node w : ℕ) (b : Binder) → b.own ≡ reference_at work node OWN → b.number ≡ number_of work node → b.pending ≡ w → Summed (name_at work node w) b.binding b.count b.newest
    → Described work (name_at work node w) b
unfolding name_at
described work node w b own number pending h =
    record {
      number_is = number ∙ sym (name_at-number work node w);
      binding-is = h.binding-is;
      count-is = h.count-is;
      newest-is = h.newest-is;
      marks-are = rw (own, pending) (wrap_at-marks work w _ _ (wrap_at-marks work (reference_at work node OWN) (plain_name 0 0) (node_name work node) (no-marks work node)));
    }

pub binds-name : (node w : ℕ) (b : Binder) (old new : List ℕ) (top r : ℕ) → b.own ≡ reference_at old node OWN → b.number ≡ number_of old node → b.pending ≡ w
    → Summed (name_at old node w) b.binding b.count b.newest → Bound b old new top r → Binds node w b.key b.parent old new top r
binds-name node w b old new top r own number pending h c =
    record { end = c.end; kept = c.kept; means = λ to e x. c.means (name_at old node w) to (described old node w b own number pending h) e x }

-- ---- sameness

module _ (work : List ℕ) (a v b w : ℕ) where
  abbrev Same : Bool
  Same = same (name_at work a v) (name_at work b w)

  module _ (m n : ℕ) (m-is : m ≡ number_of work a) (n-is : n ≡ number_of work b) where
    pub differ-numbers : (m ≡ n → ⊥) → false ≡ Same
    unfolding same
    differ-numbers h = rw (name_at-number work a v, name_at-number work b w, ← m-is, ← n-is, ne_eqb m n h)

    -- x in hand from the start, y behind it
    module _ (old one two : List ℕ) (j p k q : ℕ) (x : Resolved work a v old one 0 j p) (y : Resolved work b w one two j k q) where
      marks-x : (name_at work a v).marks ≡ marks_in two 0 j
      marks-x = let z : 0 + j ≡ j = omega arith in x.holds.marks-are ∙ marks_in-below one two 0 j (rw z (sym y.kept))

      pub differ-bindings : (p ≡ q → ⊥) → false ≡ Same
      unfolding same
      differ-bindings h = rw (x.holds.binding-is, y.holds.binding-is, ne_eqb p q h, and-false (equal (name_at work a v).marks (name_at work b w).marks), and-false (eqb (name_at work a v).number (name_at work b w).number))

      pub differ-counts : (j ≡ k → ⊥) → false ≡ Same
      unfolding same
      differ-counts h =
          let d : equal (name_at work a v).marks (name_at work b w).marks ≡ false =
          equal-lengths _ _ (λ z. h (sym (ap length x.holds.marks-are ∙ marks_in-length one 0 j) ∙ z ∙ ap length y.holds.marks-are ∙ marks_in-length two j k)) in
          rw (d, and-false (eqb (name_at work a v).number (name_at work b w).number))

      pub same-marks : m ≡ n → p ≡ q → j ≡ k → (r : Bool) → r ≡ equal (marks_in two 0 j) (marks_in two j j) → r ≡ Same
      unfolding same
      same-marks e f g r h =
          let d : eqb (name_at work a v).number (name_at work b w).number ≡ true = eq-eqb _ _ (name_at-number work a v ∙ sym m-is ∙ e ∙ n-is ∙ sym (name_at-number work b w)) in
          let i : eqb (binding_key (name_at work a v).binding) (binding_key (name_at work b w).binding) ≡ true = eq-eqb _ _ (x.holds.binding-is ∙ f ∙ sym y.holds.binding-is) in
          let u : (name_at work b w).marks ≡ marks_in two j j = y.holds.marks-are ∙ ap (marks_in two j) (sym g) in
          rw (d, i, marks-x, u, and-true (equal (marks_in two 0 j) (marks_in two j j))) h

-- ---- lookups

module _ (places : List ℕ) (n : ℕ) where
  pub unbound-form : n < 8 → found_of (Some (Form n)) ≡ unbound_in places n
  unfolding found_of means_of unbound_in
  unbound-form h = rw (lt-ltb n 8 h)

  pub unbound-out : 8 ≤ n → length places ≤ n → found_of None ≡ unbound_in places n
  unfolding found_of means_of unbound_in operation_at
  unbound-out h l = rw (le-ltb n 8 h, get_or-eq_default places 0 l)

  pub unbound-none : 8 ≤ n → get_or places n 0 ≡ 0 → found_of None ≡ unbound_in places n
  unfolding found_of means_of unbound_in operation_at
  unbound-none h e = rw (le-ltb n 8 h, e)

  pub unbound-some : 8 ≤ n → (p : ℕ) → p ≡ get_or places n 0 → (p ≡ 0 → ⊥) → found_of (Some (Operation (p - 1))) ≡ unbound_in places n
  unfolding found_of means_of unbound_in operation_at
  unbound-some h p is e = rw (le-ltb n 8 h, ← is, ne_eqb _ _ e)

module _ (places : List ℕ) (x : Name) (b : ℕ) (b-is : b ≡ binding_key x.binding) where
  binding-is : x.binding ≡ binding_of b
  binding-is = sym (binding_of-key x.binding) ∙ ap binding_of (sym b-is)

  pub lookup-none : b ≡ 0 → (n : ℕ) → n ≡ x.number → (r : C.Option Meaning) → found_of r ≡ unbound_in places n → found_of r ≡ lookup_in places x
  unfolding lookup_in or_unbound binding_of
  lookup-none e n h r p = rw (binding-is, e, ← h) p

  pub lookup-variable : (b ≡ 0 → ⊥) → b % 2 ≡ 1 → found_of (Some (Variable (b / 2))) ≡ lookup_in places x
  unfolding lookup_in or_unbound binding_of found_of means_of
  lookup-variable z e = rw (binding-is, ne_eqb _ _ z, eq-eqb _ _ e)

  pub lookup-macro : (b ≡ 0 → ⊥) → (b % 2 ≡ 1 → ⊥) → found_of (Some (Macro (b / 2 - 1))) ≡ lookup_in places x
  unfolding lookup_in or_unbound binding_of found_of means_of
  lookup-macro z e = rw (binding-is, ne_eqb _ _ z, ne_eqb _ _ e)

-- ---- literals

is_bound-some : (o : Option Binding) → (binding_key o ≡ 0 → ⊥) → is_bound o ≡ true
unfolding is_bound binding_key
is_bound-some none h = absurd (h refl)
is_bound-some (some b) h = refl

is_bound-none : (o : Option Binding) → binding_key o ≡ 0 → is_bound o ≡ false
unfolding is_bound binding_key
is_bound-none none h = refl
is_bound-none (some (variable n)) h = absurd (omega arith)
is_bound-none (some (macro n)) h = absurd (omega arith)

module _ (number binding : ℕ) (y : Name) (b : ℕ) (b-is : b ≡ binding_key y.binding) where
  pub agree-bindings : (b ≡ binding → ⊥) → Agrees number binding y false
  unfolding agree
  agree-bindings h x p q = rw (ne_eqb _ _ (λ z. h (b-is ∙ sym z ∙ q)))

  pub agree-bound : b ≡ binding → (b ≡ 0 → ⊥) → Agrees number binding y true
  unfolding agree
  agree-bound e h x p q = rw (eq-eqb _ _ (q ∙ sym e ∙ b-is), is_bound-some x.binding (λ z. h (e ∙ sym q ∙ z)))

  pub agree-numbers : b ≡ binding → b ≡ 0 → (n : ℕ) → n ≡ y.number → Agrees number binding y (eqb number n)
  unfolding agree
  agree-numbers e h n i x p q = rw (eq-eqb _ _ (q ∙ sym e ∙ b-is), is_bound-none x.binding (q ∙ sym e ∙ h), p, ← i)
