-- Laws of the dispatch, one for each way through it: what the code leaves is a turn of the definition.
use Rattle.std.specs.Prelude.{◌≡◌, Bool, cond, List, [], ◌∷◌, ℕ, zero, suc, ◌*◌, ◌≤◌, length, Ok, Err}
use Rattle.std.proofs.Math.Path.{refl, ap}
use Rattle.std.proofs.Common.{sym, subst, ◌∙◌, arith, eqb-true}
use Rattle.std.proofs.Math.Bool.{true, false}
use Rattle.std.proofs.lemmas.Bool.{false≢true}
use Rattle.words.specs.Limits.{core_rate}
use Rattle.datum.specs.Constant.{Constant, decimal_kind}
use Rattle.datum.specs.ConstantLaws.{kind-most}
use Rattle.recipe.specs.Name.{Name}
use Rattle.recipe.specs.Tree.{Tree, constant, name, pair, size, is_name, on_name, is_list_of, tail, on_pair}
use Rattle.recipe.specs.TreeLaws.{size-positive}
use Rattle.recipe.specs.Tidy.{tidy_constant, tidy-tail}
use Rattle.core_term.specs.Term.{Term, variable_c, operation_c, on_formals}
use Rattle.core_term.specs.Node.{node_words, application_code}
use Rattle.core_term.specs.Words.{encode}
use Rattle.expansion.specs.Lookup as U
use Rattle.expansion.specs.Lookup.{quote, if, lambda, let-syntax, letrec-syntax, auxiliary, form, nothing, form_of, lookup}
use Rattle.expansion.specs.Computation.{State, M}
use Rattle.expansion.specs.Forms.{expand_list, expand_macros}
use Rattle.arena.specs.Arena.{word_at, name_at, tree_at}
use Rattle.arena.specs.NodeLaws.{tree_at-name}
use Rattle.arena.specs.Lists.{Tests}
use Rattle.arena.specs.ListLaws.{name-test}
use Rattle.arena.specs.Nodes.{Opens, OpensName, OpensPair, OpensConstant}
use Rattle.arena.specs.declared.nodes.Node.{Node}
use Rattle.arena.specs.declared.nodes.Node.TheVariants.{Empty}
use Rattle.arena.specs.Lists.{Counts}
use Rattle.turns.specs.declared.answers.Reached.{Reached}
use Rattle.turns.specs.declared.answers.Refused.{Refused}
use Rattle.turns.specs.Answers.{Ended, TurnEnd, Refuses}
use Rattle.resolution.specs.Names.{means_of, lookup_in}
use Rattle.resolution.specs.declared.names.Meaning.TheVariants.{Variable, Macro, Form, Operation}
use Rattle.turns.specs.declared.answers.Turn.TheVariants.{Again, Operands, Over}
use Rattle.turns.specs.Ends.{End, refused_end, end_of, needs}
use Rattle.turns.specs.EndLaws.{if-end}
use Rattle.turns.specs.Memory.{tables, macros_at, CoreRoom, Moved, HeaderMoved, Proper, Ready, Placed}
use Rattle.turns.specs.Turns.{turn_of, Ends, Spreads, Turned}
use Rattle.turns.specs.Leaves.{Leaf, name_end, constant_end, ConstantLeft}
use Rattle.turns.specs.LeafLaws.{form-found, leaf-ends, headed, refused-ends}
use Rattle.turns.specs.SpreadLaws.{spread-named, spread-other, spread-if}
use Rattle.turns.specs.Scopes.{quote_end, QuoteLeft, IfLeft, LambdaLeft}
use Rattle.turns.specs.LambdaLaws.{lambda-follows, lambda-refused}
use Rattle.turns.specs.Uses.{outcome_of, UseLeft}
use Rattle.turns.specs.UseTurnLaws.{use-follows, use-refused}
use Rattle.turns.specs.MacroTurns.{MacrosLeft}
use Rattle.turns.specs.MacroFollowLaws.{macros-follows, macros-refused}
use Rattle.turns.specs.HeadLaws.{empty-turn, constant-turn, name-turn, variable-turn, operation-turn, macro-turn, quote-turn, lambda-turn, let-syntax-turn, letrec-syntax-turn, auxiliary-turn, nothing-turn}
use Rattle.turns.specs.ReadyLaws.{ready-core, ready-quote, ready-roomy, ready-macros}
use Rattle.turns.specs.Dispatch.{Headed, FormHead, OtherHead, FormRoom, Turns}

-- where the node is taken apart
pub opened-as : (work : List ℕ) (node : ℕ) (n m : Node) → n ≡ m → Opens work node n → Opens work node m
opened-as work node n m e o = subst (λ (z : Node). Opens work node z) e o

-- ---- no list

leaf-more : (E : State → End (Term Name)) (m n : ℕ) (r : Reached) (core core' : List ℕ) (a : Ended) → m ≤ n → Leaf E m r core core' a → Leaf E n r core core' a
leaf-more E m n r core core' (Ok q) h l = record { term = l.term; is = l.is; short = omega (arith, l.short); moves = l.moves }
leaf-more E m n r core core' (Err x) h l = l

two-words : (t : Tree) → (2 ≤ core_rate * size t) × (core_rate ≤ core_rate * size t)
two-words t = (omega (arith, size-positive t), omega (arith, size-positive t))

module _ (limit : ℕ) (operations : List ℕ) (work core macros : List ℕ) (fuel node w : ℕ) (r : Reached) (ready : Ready fuel (size (tree_at work node w)) r (tables work core macros)) where
  pub empty-over : Opens work node Empty → (x : Refused) → Refuses 13 r x → Ends limit operations fuel (tree_at work node w) r (tables work core macros) (tables work core macros) (Err x)
  empty-over o x e = refused-ends limit operations fuel (tree_at work node w) r (tables work core macros) (tables work core macros) 13 (λ expand s. rw (o w) (empty-turn limit operations fuel expand s)) x e

  pub name-over : (core' : List ℕ) (item own : ℕ) → OpensName work node item own → (a : Ended) → Leaf (name_end (lookup operations (name_at work node w))) 2 r core core' a
      → Ends limit operations fuel (tree_at work node w) r (tables work core macros) (tables work core' macros) a
  name-over core' item own o a l =
      leaf-ends limit operations fuel (tree_at work node w) r work core core' macros (name_end (lookup operations (name_at work node w)))
      (λ expand s. rw (o.tree w) (name-turn limit operations fuel expand s (name_at work node w))) ready a
      (leaf-more (name_end (lookup operations (name_at work node w))) 2 (core_rate * size (tree_at work node w)) r core core' a (two-words (tree_at work node w)).0 l)

  pub constant-over : (core' : List ℕ) (kind first second : ℕ) → OpensConstant work node kind first second → (a : Ended) → ConstantLeft kind first second r core core' a
      → Ends limit operations fuel (tree_at work node w) r (tables work core macros) (tables work core' macros) a
  unfolding constant_end
  constant-over core' kind first second o a l =
      let c : Constant = record { kind = kind; first = first; second = second } in
      leaf-ends limit operations fuel (tree_at work node w) r work core core' macros (constant_end c) (λ expand s. rw (o.tree w) (constant-turn limit operations fuel expand s c)) ready a
      (leaf-more (constant_end c) core_rate (core_rate * size (tree_at work node w)) r core core' a (two-words (tree_at work node w)).1 l)

pub constant-kind : (work : List ℕ) (top node w kind first second : ℕ) → OpensConstant work node kind first second → Placed work top node w → kind ≤ decimal_kind
constant-kind work top node w kind first second o placed = go (subst Proper (o.tree w) placed.proper)
  where
    go : {a : Constant} → Proper (constant a) → a.kind ≤ decimal_kind
    go {a} (tidy_constant c) = kind-most a c

-- ---- a list's head

module _ (work : List ℕ) (head : ℕ) (b : Bool) (test : Tests is_name work head b) where
  head-name : b ≡ true → (w : ℕ) → tree_at work head w ≡ name (name_at work head w)
  head-name e w = tree_at-name work head w (eqb-true _ _ (name-test work head (word_at work head 3) refl w ∙ sym (test w) ∙ e))

  module _ (node tail w : ℕ) (o : OpensPair work node head tail) where
    pub name-heads : b ≡ true → Headed work node tail w (name_at work head w)
    name-heads e = record { tree = o.tree w ∙ ap (λ (z : Tree). pair z (tree_at work tail w)) (head-name e w); tail-falls = o.tail-falls }

    pub other-heads : b ≡ false → OtherHead work node tail w
    unfolding is_name on_name
    other-heads e = record { head = tree_at work head w; tree = o.tree w; unlike = λ x z. absurd (false≢true (sym e ∙ test w ∙ ap is_name z)) }

-- ---- room

module _ (work core macros : List ℕ) (fuel node w : ℕ) (r : Reached) (ready : Ready fuel (size (tree_at work node w)) r (tables work core macros)) (placed : Placed work r.top node w) where
  pub leaf_room : CoreRoom core r.at 2
  leaf_room = ready-core work core macros fuel node w r ready placed 2 (two-words (tree_at work node w)).0

  pub constant-room : CoreRoom core r.at core_rate
  constant-room = ready-core work core macros fuel node w r ready placed core_rate (two-words (tree_at work node w)).1

  pub application-room : (tail : ℕ) (x : Name) → Headed work node tail w x → CoreRoom core r.at 4
  unfolding size
  application-room tail x h =
      ready-core work core macros fuel node w r ready placed 4 (rw h.tree (omega (arith, size-positive (tree_at work tail w))))

  pub form-room : FormRoom work core macros node w r
  form-room =
      record {
        quotes = ready-quote work core macros fuel node w r ready placed;
        word = ready-core work core macros fuel node w r ready placed 1 (omega (arith, size-positive (tree_at work node w)));
        binds = ready-roomy work core macros fuel node w r ready placed;
        reads = ready-macros work core macros fuel node w r ready placed;
      }

-- ---- an application whose head is no name

module _ (limit : ℕ) (operations : List ℕ) (work core macros : List ℕ) (fuel node tail w : ℕ) (r : Reached) (placed : Placed work r.top node w) (o : OtherHead work node tail w)
    (ready : Ready fuel (size (tree_at work node w)) r (tables work core macros)) where
  pub applied-turned : (core' : List ℕ) (count : ℕ) (q : Reached) → Counts work tail count → Moved (application_code ∷ count ∷ []) r core core' q → Spreads limit operations fuel (tree_at work node w) r (tables work core macros) (tables work core' macros) node w q
  applied-turned core' count q n m =
      let t = tree_at work tail w in
      subst (λ (z : Tree). Spreads limit operations fuel z r (tables work core macros) (tables work core' macros) node w q) (sym o.tree)
      (spread-other limit operations fuel o.head t r q work core core' macros node w (subst (λ (z : Tree). Ready fuel (size z) r (tables work core macros)) o.tree ready) placed o.tree
      (subst (λ (k : ℕ). Moved (application_code ∷ k ∷ []) r core core' q) (n.is w) m) o.unlike)

-- ---- a list whose head is a name

tail-placed : (work : List ℕ) (top node tail w : ℕ) (x : Name) → Headed work node tail w x → Placed work top node w → Placed work top tail w
unfolding tail on_pair
tail-placed work top node tail w x h placed =
    record { node-below = omega (arith, h.tail-falls, placed.node-below); wrap-below = placed.wrap-below; proper = tidy-tail (subst Proper h.tree placed.proper) }

module _ (limit : ℕ) (operations : List ℕ) (work core macros : List ℕ) (fuel node list w : ℕ) (r : Reached) (x : Name) (h : Headed work node list w x) (placed : Placed work r.top node w)
    (ready : Ready fuel (size (tree_at work node w)) r (tables work core macros)) where
  pub nothing-turned : (y : Refused) → nothing ≡ lookup operations x → Refuses 11 r y → Ends limit operations fuel (tree_at work node w) r (tables work core macros) (tables work core macros) (Err y)
  nothing-turned y e f =
      refused-ends limit operations fuel (tree_at work node w) r (tables work core macros) (tables work core macros) 11
      (λ expand s. rw h.tree (nothing-turn limit operations fuel expand s x (tree_at work list w) (sym e))) y f

  pair-ready : Ready fuel (size (pair (name x) (tree_at work list w))) r (tables work core macros)
  pair-ready = subst (λ (z : Tree). Ready fuel (size z) r (tables work core macros)) h.tree ready

  list-placed : Placed work r.top list w
  list-placed = tail-placed work r.top node list w x h placed

  of_pair : (core' : List ℕ) (q : Reached) → Spreads limit operations fuel (pair (name x) (tree_at work list w)) r (tables work core macros) (tables work core' macros) list w q
      → Spreads limit operations fuel (tree_at work node w) r (tables work core macros) (tables work core' macros) list w q
  of_pair core' q y = subst (λ (z : Tree). Spreads limit operations fuel z r (tables work core macros) (tables work core' macros) list w q) (sym h.tree) y

  pub variable-turned : (core' : List ℕ) (n : ℕ) (q : Reached) → means_of (Variable n) ≡ lookup operations x → HeaderMoved list 0 n r work core core' q
      → Spreads limit operations fuel (tree_at work node w) r (tables work core macros) (tables work core' macros) list w q
  unfolding on_formals encode node_words means_of
  variable-turned core' n q e m =
      let t = tree_at work list w in
      of_pair core' q (spread-named (variable_c n) 0 n refl limit operations fuel x t r q work core core' macros list w pair-ready list-placed refl (m w) (λ expand s. variable-turn limit operations fuel expand s x t n (sym e)))

  pub operation-turned : (core' : List ℕ) (p : ℕ) (q : Reached) → means_of (Operation p) ≡ lookup operations x → HeaderMoved list 1 p r work core core' q
      → Spreads limit operations fuel (tree_at work node w) r (tables work core macros) (tables work core' macros) list w q
  unfolding on_formals encode node_words means_of
  operation-turned core' p q e m =
      let t = tree_at work list w in
      of_pair core' q (spread-named (operation_c p) 1 p refl limit operations fuel x t r q work core core' macros list w pair-ready list-placed refl (m w) (λ expand s. operation-turn limit operations fuel expand s x t p (sym e)))

  pub macro-turned : (n : ℕ) (work' : List ℕ) (a : TurnEnd) → means_of (Macro n) ≡ lookup operations x → length work' ≡ length work
      → UseLeft (outcome_of (macros_at work macros r.macros) n fuel (tree_at work node w) r) fuel r work work' a → Turned limit operations fuel (tree_at work node w) r (tables work core macros) (tables work' core macros) a
  unfolding means_of
  macro-turned n work' (Ok (Again k v q)) e long u =
      use-follows limit operations fuel n (tree_at work node w) r work work' core macros (λ expand s. rw h.tree (macro-turn limit operations fuel expand s x (tree_at work list w) n (sym e))) ready k v q u placed.proper long
  macro-turned n work' (Ok (Operands l v q)) e long u = absurd u
  macro-turned n work' (Ok (Over q)) e long u = absurd u
  macro-turned n work' (Err y) e long u =
      use-refused limit operations fuel n (tree_at work node w) r work work' core macros (λ expand s. rw h.tree (macro-turn limit operations fuel expand s x (tree_at work list w) n (sym e))) ready y u

-- ---- a list whose head finds base form k

pub form-heads : (places work : List ℕ) (node tail w k : ℕ) (x : Name) → Headed work node tail w x → means_of (Form k) ≡ lookup_in places x → FormHead work node tail w k
unfolding means_of
form-heads places work node tail w k x h e = record { head = x; headed = h; finds = form-found places x (form_of k) e }

form_of-past : (k : ℕ) → (k ≡ 0 → ⊥) → (k ≡ 1 → ⊥) → (k ≡ 2 → ⊥) → (k ≡ 3 → ⊥) → (k ≡ 4 → ⊥) → form_of k ≡ auxiliary
unfolding form_of
form_of-past zero a b c d e = absurd (a refl)
form_of-past (suc zero) a b c d e = absurd (b refl)
form_of-past (suc (suc zero)) a b c d e = absurd (c refl)
form_of-past (suc (suc (suc zero))) a b c d e = absurd (d refl)
form_of-past (suc (suc (suc (suc zero)))) a b c d e = absurd (e refl)
form_of-past (suc (suc (suc (suc (suc k))))) a b c d e = refl

module _ (limit : ℕ) (work core macros : List ℕ) (node list w k : ℕ) (r : Reached) (f : FormHead work node list w k) where
  abbrev tree : Tree
  tree = tree_at work node w

  abbrev t : Tree
  t = tree_at work list w

  abbrev tree_is : tree ≡ pair (name f.head) t
  tree_is = f.headed.tree

  form-is : (operations : List ℕ) (g : U.Form) → form_of k ≡ g → lookup operations f.head ≡ form g
  form-is operations g e = sym (f.finds operations) ∙ ap form e

  pub quote-turned : (core' : List ℕ) (a : Ended) → k ≡ 0 → QuoteLeft work node r core core' a → (operations : List ℕ) (fuel : ℕ) → Ready fuel (size tree) r (tables work core macros)
      → Ends limit operations fuel tree r (tables work core macros) (tables work core' macros) a
  unfolding form_of
  quote-turned core' a e l operations fuel ready =
      leaf-ends limit operations fuel tree r work core core' macros (quote_end tree) (λ expand s. rw tree_is (quote-turn limit operations fuel expand s f.head t (form-is operations quote (ap form_of e)))) ready a (l w)

  pub auxiliary-turned : (y : Refused) → (k ≡ 0 → ⊥) → (k ≡ 1 → ⊥) → (k ≡ 2 → ⊥) → (k ≡ 3 → ⊥) → (k ≡ 4 → ⊥) → Refuses 12 r y → Turns limit tree r (tables work core macros) (tables work core macros) (Err y)
  auxiliary-turned y n0 n1 n2 n3 n4 x operations fuel ready =
      refused-ends limit operations fuel tree r (tables work core macros) (tables work core macros) 12
      (λ expand s. rw tree_is (auxiliary-turn limit operations fuel expand s f.head t (form-is operations auxiliary (form_of-past k n0 n1 n2 n3 n4)))) y x

  if-unshaped : is_list_of 4 tree ≡ false → k ≡ 1 → (operations : List ℕ) (fuel : ℕ) (expand : Tree → M (Term Name)) (s : State) → turn_of limit operations fuel expand tree s ≡ refused_end 13 s
  unfolding form_of expand_list needs
  if-unshaped shape e operations fuel expand s =
      ap (λ (z : Tree). turn_of limit operations fuel expand z s) tree_is
      ∙ headed limit operations fuel f.head t (form if) (form-is operations if (ap form_of e)) expand s
      ∙ if-end limit operations fuel expand (pair (name f.head) t) s
      ∙ rw (ap (is_list_of 4) (sym tree_is) ∙ shape)

  macros-turn : (inside : Bool) → form_of k ≡ cond inside letrec-syntax let-syntax → (operations : List ℕ) (fuel : ℕ) (expand : Tree → M (Term Name)) (s : State)
      → turn_of limit operations fuel expand tree s ≡ end_of (expand_macros limit operations fuel expand inside f.head tree s)
  macros-turn true e operations fuel expand s = rw tree_is (letrec-syntax-turn limit operations fuel expand s f.head t (form-is operations letrec-syntax e))
  macros-turn false e operations fuel expand s = rw tree_is (let-syntax-turn limit operations fuel expand s f.head t (form-is operations let-syntax e))

  module _ (placed : Placed work r.top node w) where
    pub if-turned : (core' : List ℕ) (a : TurnEnd) → k ≡ 1 → IfLeft work node list w r core core' a → Turns limit tree r (tables work core macros) (tables work core' macros) a
    unfolding form_of
    if-turned core' (Ok (Again n v q)) e x operations fuel ready = absurd x
    if-turned core' (Ok (Over q)) e x operations fuel ready = absurd x
    if-turned core' (Ok (Operands l v q)) e x operations fuel ready =
        rw (x.0, x.1)
        (subst (λ (z : Tree). Spreads limit operations fuel z r (tables work core macros) (tables work core' macros) list w q) (sym tree_is)
        (spread-if limit operations fuel f.head t r q work core core' macros list w (subst (λ (z : Tree). Ready fuel (size z) r (tables work core macros)) tree_is ready)
        (tail-placed work r.top node list w f.head f.headed placed) refl x.3 (ap (is_list_of 4) (sym tree_is) ∙ x.2 w) (form-is operations if (ap form_of e))))
    if-turned core' (Err y) e x operations fuel ready = refused-ends limit operations fuel tree r (tables work core macros) (tables work core' macros) 13 (if-unshaped (x.0 w) e operations fuel) y x.1

    module _ (work' : List ℕ) (long : length work' ≡ length work) where
      pub lambda-turned : (core' : List ℕ) (a : TurnEnd) → k ≡ 2 → LambdaLeft tree r work work' core core' a → Turns limit tree r (tables work core macros) (tables work' core' macros) a
      unfolding form_of
      lambda-turned core' (Ok (Again n v q)) e x operations fuel ready =
          lambda-follows limit operations fuel tree r work work' core core' macros (λ expand s. rw tree_is (lambda-turn limit operations fuel expand s f.head t (form-is operations lambda (ap form_of e)))) n v q x placed.proper ready long
      lambda-turned core' (Ok (Operands l v q)) e x operations fuel ready = absurd x
      lambda-turned core' (Ok (Over q)) e x operations fuel ready = absurd x
      lambda-turned core' (Err y) e x operations fuel ready =
          lambda-refused limit operations fuel tree r work work' core core' macros (λ expand s. rw tree_is (lambda-turn limit operations fuel expand s f.head t (form-is operations lambda (ap form_of e)))) y x

      module _ (macros' : List ℕ) (macros-long : length macros' ≡ length macros) where
        macros-turned : (inside : Bool) (a : TurnEnd) → form_of k ≡ cond inside letrec-syntax let-syntax → MacrosLeft limit tree inside r work work' macros macros' a
            → Turns limit tree r (tables work core macros) (tables work' core macros') a
        macros-turned inside (Ok (Again n v q)) e x operations fuel ready =
            macros-follows limit operations fuel tree inside f.head r work work' core macros macros' (macros-turn inside e operations fuel) n v q x placed.proper ready long macros-long
        macros-turned inside (Ok (Operands l v q)) e x operations fuel ready = absurd x
        macros-turned inside (Ok (Over q)) e x operations fuel ready = absurd x
        macros-turned inside (Err y) e x operations fuel ready = macros-refused limit operations fuel tree inside f.head r work work' core macros macros' (macros-turn inside e operations fuel) y x

        pub let-syntax-turned : (a : TurnEnd) → k ≡ 3 → MacrosLeft limit tree false r work work' macros macros' a → Turns limit tree r (tables work core macros) (tables work' core macros') a
        unfolding form_of
        let-syntax-turned a e x = macros-turned false a (ap form_of e) x

        pub letrec-syntax-turned : (a : TurnEnd) → k ≡ 4 → MacrosLeft limit tree true r work work' macros macros' a → Turns limit tree r (tables work core macros) (tables work' core macros') a
        unfolding form_of
        letrec-syntax-turned a e x = macros-turned true a (ap form_of e) x
