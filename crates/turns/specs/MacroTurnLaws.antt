-- Laws of the turn of let-syntax and letrec-syntax: the names are bound, the rules are read, and the body stands for the form.
use Rattle.std.specs.Prelude.{◌≡◌, Bool, cond, Ok, Err, Option, Some, None}
use Rattle.std.proofs.Math.Path.{refl, ap, ap₂, sym, subst}
use Rattle.std.proofs.Common.{◌∙◌, arith}
use Rattle.std.proofs.Math.Bool.{true, false}
use mathlib.Core.List.{List, [], ◌∷◌, ◌++◌, map}
use Rattle.std.proofs.Math.Option.{none}
use Prim.Native.Nat.{ℕ, zero, suc, ◌+◌, ◌*◌, ◌^◌, ◌≤◌, ◌<◌}
use Rattle.std.proofs.Math.ListN.{length, get_or}
use Rattle.words.specs.Lists.{all_of}
use Rattle.words.specs.Options.{traverse}
use Rattle.words.specs.TestLaws.{and_left, and_right, and_parts, all-parts}
use Rattle.recipe.specs.Name.{Binding, macro, Name, distinct}
use Rattle.recipe.specs.Tree.{Tree, empty, constant, name, pair, size, is_list, is_list_of, elements, element, on_names, bind, bind_all}
use Rattle.recipe.specs.TreeLaws.{size-positive, bind_all-size}
use Rattle.expansion.specs.Rules.{Rule, rules_of}
use Rattle.expansion.specs.Forms.{is_macro, is_macros, keywords, rules_forms}
use Rattle.arena.specs.Arena.{tree_at}
use Rattle.arena.specs.ArenaLaws.{take_less}
use Rattle.arena.specs.CellLaws.{tree-kept}
use Rattle.arena.specs.Lists.{Means, Counts}
use Rattle.forms.specs.declared.shapes.Bound.TheVariants.{Keywords}
use Rattle.forms.specs.Binders.{AllNames, Space, Scoped}
use Rattle.forms.proofs.ScopeLaws.{scoped-tree, macros-names, keywords-count}
use Rattle.turns.specs.declared.answers.Reached.{Reached}
use Rattle.turns.specs.declared.answers.Refused.{Refused}
use Rattle.turns.specs.declared.answers.Turn.TheVariants.{Again, Operands, Over}
use Rattle.turns.specs.Ends.{needs, given}
use Rattle.turns.specs.Numbers.{grown}
use Rattle.turns.specs.Memory.{item_rate, macro_items, macros_at}
use Rattle.turns.specs.MemoryLaws.{macros_at-settled}
use Rattle.turns.specs.Answers.{TurnEnd, Refuses}
use Rattle.turns.specs.SpreadLaws.{listed}
use Rattle.turns.specs.LambdaLaws.{three-sizes}
use Rattle.turns.specs.MacroRules.{forms_in, AllAsk, AllRead, AllLeft}
use Rattle.turns.specs.MacroTurns.{macro_words, MacroSpace, MacroRoom, forms_of, Known, KnownLeft, MacrosRefused, MacrosLeft}

-- ---- forms under a scope

module _ (f : Name → Name) where
  elements-names : (t : Tree) → elements (on_names f t) ≡ map (on_names f) (elements t)
  unfolding on_names elements
  elements-names empty = refl
  elements-names (constant a) = refl
  elements-names (name x) = refl
  elements-names (pair h t) = ap (λ (l : List Tree). on_names f h ∷ l) (elements-names t)

  nth-names : (l : List Tree) (n : ℕ) → get_or (map (on_names f) l) n empty ≡ on_names f (get_or l n empty)
  unfolding on_names
  nth-names [] n = refl
  nth-names (x ∷ xs) zero = refl
  nth-names (x ∷ xs) (suc n) = nth-names xs n

  forms-names : (l : List Tree) → map (element 1) (map (on_names f) l) ≡ map (on_names f) (map (element 1) l)
  unfolding element
  forms-names [] = refl
  forms-names (x ∷ xs) = ap₂ ◌∷◌ (ap (λ (l : List Tree). get_or l 1 empty) (elements-names x) ∙ nth-names (elements x) 1) (forms-names xs)

  forms_in-names : (t : Tree) → forms_in (on_names f t) ≡ map (on_names f) (forms_in t)
  unfolding forms_in
  forms_in-names t = ap (map (element 1)) (elements-names t) ∙ forms-names (elements t)

map_same : (l : List Tree) → map (λ r. r) l ≡ l
map_same [] = refl
map_same (x ∷ xs) = ap (λ (l : List Tree). x ∷ l) (map_same xs)

map-map : (f g : Tree → Tree) (l : List Tree) → map f (map g l) ≡ map (λ t. f (g t)) l
map-map f g [] = refl
map-map f g (x ∷ xs) = ap (λ (l : List Tree). f (g x) ∷ l) (map-map f g xs)

forms_in-bound : (f : ℕ → Binding) (k : ℕ) (xs : List Name) (t : Tree) → forms_in (bind_all f k xs t) ≡ map (bind_all f k xs) (forms_in t)
unfolding bind_all bind
forms_in-bound f k [] t = sym (map_same (forms_in t))
forms_in-bound f k (x ∷ xs) t = forms_in-bound f (suc k) xs (bind x (f k) t) ∙ ap (map (bind_all f (suc k) xs)) (forms_in-names _ t) ∙ map-map (bind_all f (suc k) xs) (bind x (f k)) (forms_in t)

-- ---- sizes

elements-few : (t : Tree) → suc (2 * length (elements t)) ≤ size t
unfolding elements size
elements-few empty = omega arith
elements-few (constant a) = omega arith
elements-few (name x) = omega arith
elements-few (pair h t) = omega (arith, elements-few t, size-positive h)

entries-few : (t : Tree) → all_of is_macro (elements t) ≡ true → macro_items * length (elements t) ≤ size t
unfolding elements size is_macro
entries-few empty e = omega arith
entries-few (constant a) e = omega arith
entries-few (name x) e = omega arith
entries-few (pair h t) e =
    let g = all-parts is_macro h (elements t) e in
    omega (arith, entries-few t g.1, elements-few h, listed 2 h (and_parts (is_list_of 2 h) _ g.0).0)

module _ (limit : ℕ) (t : Tree) (shape : is_macros limit t ≡ true) where
  macros-three : is_list_of 3 t ≡ true
  unfolding is_macros
  macros-three = and_left (is_list_of 3 t) _ shape

  macros-items : macro_items * length (keywords t) ≤ size (element 1 t)
  unfolding is_macros
  macros-items =
      let entries : all_of is_macro (elements (element 1 t)) ≡ true =
      and_left (all_of is_macro (elements (element 1 t))) _ (and_right (is_list (element 1 t)) _ (and_right (is_list_of 3 t) _ shape)) in
      omega (arith, entries-few (element 1 t) entries, keywords-count t (macros-names t limit shape))

  -- a form has so many items for each macro, besides its body's
  pub macros-rate : macro_items * length (keywords t) + size (element 2 t) ≤ size t
  macros-rate = omega (arith, three-sizes t macros-three, macros-items)

  pub macros-sizes : macro_words t + item_rate * size (element 2 t) + 5 ≤ item_rate * size t
  macros-sizes = omega (arith, three-sizes t macros-three, macros-items)

-- ---- what the code needs, and what it leaves

module _ (work macros : List ℕ) (node w : ℕ) (inside : Bool) (r : Reached) (room : MacroRoom work macros node w r) (limit : ℕ) (shape : is_macros limit (tree_at work node w) ≡ true) where
  abbrev tree : Tree
  tree = tree_at work node w

  pub macros-all-names : AllNames Keywords (element 1 tree)
  macros-all-names = macros-names tree limit shape

  space : MacroSpace tree work macros r
  space = room.space limit shape

  pub macros-space : Space (keywords tree) work node w r.macros w r.top
  macros-space =
      record {
        fits = omega (arith, space.fits);
        small = omega (arith, space.small);
        numbers = omega (arith, space.few);
        node-below = room.placed.node-below;
        w-below = room.placed.wrap-below;
        parent-below = room.placed.wrap-below;
      }

  module _ (list count : ℕ) (list-is : Means work node list (element 1)) (count-is : Counts work list count) where
    macros-count : count ≡ length (keywords tree)
    macros-count = count-is.is w ∙ ap (λ (t : Tree). length (elements t)) (list-is.is w) ∙ sym (keywords-count tree macros-all-names)

    pub macros-few : r.macros + count < 2 ^ 32
    macros-few = omega (arith, macros-count, space.few)

    list-below : list ≤ r.top
    list-below = omega (arith, list-is.low, room.placed.node-below)

    module _ (mid : List ℕ) (wrap end rules-wrap : ℕ) (scoped : Scoped macro r.macros (keywords tree) w work mid r.top wrap end) (wrap-is : rules-wrap ≡ cond inside wrap w)
        (long : length mid ≡ length work) where
      abbrev scope : Tree → Tree
      scope = bind_all macro r.macros (keywords tree)

      list-tree : (b : Bool) → tree_at mid list (cond b wrap w) ≡ cond b scope (λ t. t) (element 1 tree)
      list-tree true = scoped-tree macro r.macros (keywords tree) w work mid r.top wrap end scoped list list-below ∙ ap scope (list-is.is w)
      list-tree false = tree-kept work mid r.top list w list-below room.placed.wrap-below scoped.kept ∙ list-is.is w

      list-forms : (b : Bool) → forms_in (cond b scope (λ t. t) (element 1 tree)) ≡ forms_of b tree r.macros
      unfolding forms_of forms_in rules_forms
      list-forms true = forms_in-bound macro r.macros (keywords tree) (element 1 tree)
      list-forms false = sym (map_same (map (element 1) (elements (element 1 tree))))

      list-size : (b : Bool) → size (cond b scope (λ t. t) (element 1 tree)) ≡ size (element 1 tree)
      list-size true = bind_all-size macro r.macros (keywords tree) (element 1 tree)
      list-size false = refl

      is-list : tree_at mid list rules-wrap ≡ cond inside scope (λ t. t) (element 1 tree)
      is-list = ap (tree_at mid list) wrap-is ∙ list-tree inside

      forms-are : forms_in (tree_at mid list rules-wrap) ≡ forms_of inside tree r.macros
      forms-are = ap forms_in is-list ∙ list-forms inside

      size_same : size (tree_at mid list rules-wrap) ≡ size (element 1 tree)
      size_same = ap size is-list ∙ list-size inside

      map-length : (f : Tree → Tree) (l : List Tree) → length (map f l) ≡ length l
      map-length f [] = refl
      map-length f (x ∷ xs) = ap suc (map-length f xs)

      forms-count : length (forms_in (tree_at mid list rules-wrap)) ≡ length (keywords tree)
      unfolding forms_of rules_forms
      forms-count =
          ap length forms-are
          ∙ map-length (cond inside scope (λ t. t)) (rules_forms tree)
          ∙ map-length (element 1) (elements (element 1 tree))
          ∙ sym (keywords-count tree macros-all-names)

      wrap-low : (b : Bool) → cond b wrap w ≤ end
      wrap-low true = scoped.wrap-below
      wrap-low false = omega (arith, room.placed.wrap-below, scoped.end_is)

      rules-wrap-low : rules-wrap ≤ end
      rules-wrap-low = rw wrap-is (wrap-low inside)

      pub macros-ask : AllAsk mid macros list rules-wrap r.macros end
      macros-ask =
          record {
            asks = record {
              node-below = omega (arith, list-below, scoped.end_is);
              wrap-below = rules-wrap-low;
              room = record {
                fits = rw size_same (omega (arith, space.fits, scoped.end_is));
                small = rw size_same (omega (arith, space.small, scoped.end_is));
              };
            };
            slots = omega (arith, forms-count, space.slots);
            few = omega (arith, forms-count, space.few);
            below = λ k h. let g = room.below k h in omega (arith, scoped.end_is);
          }

      module _ (work' macros' : List ℕ) (a : Option ℕ) (left : AllLeft (tree_at mid list rules-wrap) mid work' macros macros' r.macros end a) where
        pub macros-bad : a ≡ None → traverse rules_of (forms_of inside tree r.macros) ≡ none
        macros-bad e =
            let n : traverse rules_of (forms_in (tree_at mid list rules-wrap)) ≡ none = subst (λ (z : Option ℕ). AllLeft (tree_at mid list rules-wrap) mid work' macros macros' r.macros end z) e left in
            ap (traverse rules_of) (sym forms-are) ∙ n

        pub macros-known : (top body : ℕ) → a ≡ Some top → Means work node body (element 2) → (q : Reached) → q ≡ grown top count r → Known tree inside r work work' macros macros' body wrap q
        unfolding grown
        macros-known top body e body_is q q-is =
            let m : AllRead (tree_at mid list rules-wrap) mid work' macros macros' r.macros end top =
            subst (λ (z : Option ℕ). AllLeft (tree_at mid list rules-wrap) mid work' macros macros' r.macros end z) e left in
            let body-low : body ≤ r.top = omega (arith, body_is.low, room.placed.node-below) in
            let far : r.macros + count ≡ r.macros + length (forms_in (tree_at mid list rules-wrap)) = omega (arith, macros-count, forms-count) in
            let up : r.top ≤ end = omega (arith, scoped.end_is) in
            subst (Known tree inside r work work' macros macros' body wrap) (sym q-is)
            (record {
              rules = m.rules;
              is = ap (traverse rules_of) (sym forms-are) ∙ m.is;
              means = ap (macros_at work' macros') far ∙ m.means ∙ ap (λ (l : List (List Rule)). l ++ m.rules) (macros_at-settled work mid macros macros r.top scoped.kept r.macros refl room.below);
              below = λ k h. m.below k (omega (arith, far));
              body_is =
                  tree-kept mid work' end body wrap (omega arith) scoped.wrap-below m.kept
                  ∙ scoped-tree macro r.macros (keywords tree) w work mid r.top wrap end scoped body body-low
                  ∙ ap scope (body_is.is w);
              body_below = body-low;
              wrap-below = omega (arith, scoped.wrap-below, m.up);
              numbers = ap (λ (n : ℕ). grown top n r) macros-count;
              up = omega (arith, m.up);
              words = let g : top ≤ end + 5 * size (element 1 tree) = rw size_same at m.words in omega (arith, scoped.end_is);
              kept = take_less work' mid r.top end up m.kept ∙ scoped.kept;
              known = m.known;
            })

-- ---- the tests

module _ (limit : ℕ) (t : Tree) (inside : Bool) (r : Reached) where
  pub macros-unshaped : (x : Refused) → is_macros limit t ≡ false → Refuses 13 r x → MacrosRefused limit t inside r x
  unfolding needs
  macros-unshaped x shape e = record { ground_number = 13; is = λ f s. rw shape; refuses = e }

  pub macros-alike : (x : Refused) → is_macros limit t ≡ true → distinct (keywords t) ≡ false → Refuses 14 r x → MacrosRefused limit t inside r x
  unfolding needs
  macros-alike x shape same e = record { ground_number = 14; is = λ f s. rw (shape, same); refuses = e }

  pub macros-left : (work work' macros macros' : List ℕ) (a : TurnEnd) → is_macros limit t ≡ true → distinct (keywords t) ≡ true → KnownLeft t inside r work work' macros macros' a → MacrosLeft limit t inside r work work' macros macros' a
  unfolding needs given
  macros-left work work' macros macros' (Ok (Again n w q)) shape apart b = record { shape = shape; apart = apart; knows = b }
  macros-left work work' macros macros' (Ok (Operands l w q)) shape apart b = absurd b
  macros-left work work' macros macros' (Ok (Over q)) shape apart b = absurd b
  macros-left work work' macros macros' (Err x) shape apart b = record { ground_number = 15; is = λ f s. rw (shape, apart, b.0); refuses = b.1 }
