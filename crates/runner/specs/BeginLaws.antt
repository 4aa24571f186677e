-- The laws of a node that begins, one for each way through the code.
use Rattle.std.specs.Prelude.{◌≡◌, Bool, true, false, ℕ, suc, ◌+◌, ◌-◌, ◌*◌, ◌/◌, ◌%◌, ◌≤◌, ◌<◌, eqb, ltb, get_or, Result, Ok, Err}
use Rattle.std.specs.Prelude as P
use Rattle.words.specs.declared.ground.Ground.{Ground}
use Rattle.words.specs.declared.ground.Ground.TheVariants as G
use Rattle.words.specs.Code.Ground as Grounds
use Rattle.std.proofs.Math.Path.{refl, ap, subst}
use Rattle.std.proofs.Common.{sym, ap₂, ◌∙◌, add-one, lt-ltb, le-ltb}
use mathlib.Core.List.{List, [], ◌∷◌}
use Rattle.std.proofs.Math.Option.{Option, none, some}
use native.Mathlib.Omega.{arith}
use Rattle.std.proofs.Math.ListN.{length}
use Rattle.words.specs.Code.Packed.{packed}
use Rattle.datum.specs.Constant.{integer, boolean, decimal}
use Rattle.core_term.specs.Node.{node_at}
use Rattle.core_term.specs.Code.Opened.{opened_in}
use Rattle.core_term.specs.Code.OpenedLaws.{opened-some, opened-here}
use Rattle.core_term.specs.Code.Walk.{rest}
use Rattle.core_term.specs.Term.{lambda_c, Plain}
use Rattle.core_term.specs.Words.{encode}
use Rattle.core_term.specs.declared.nodes.Node.{Node}
use Rattle.core_term.specs.declared.nodes.Node.TheVariants.{Variable, Operation, Integer, Boolean, Decimal, Name, List as Several, If, Lambda, Application}
use Rattle.evaluation.specs.Code.{code_at, codes_at, datum_code}
use Rattle.evaluation.specs.Computation.{Out, done, refused, M, go_on, ◌>>=◌, ◌>>◌, give, test, or_refuse, or_ground}
use Rattle.evaluation.specs.Numbers.{integers}
use Rattle.evaluation.specs.Evaluate.{Value, number_v, boolean_v, datum_v, closure_v, operation_v, find, constant_value, evaluate_node}
use Rattle.evaluation.proofs.Steps.{Waiting, test_w, parts_w, value, resume, begins, begins-out, begins-node, begins-if, begins-application}
use Rattle.runner.specs.declared.rows.Value as R
use Rattle.runner.specs.declared.rows.Value.TheVariants as RV
use Rattle.runner.specs.declared.rows.Frame.{Frame}
use Rattle.runner.specs.declared.rows.Frame.TheVariants as F
use Rattle.runner.specs.declared.state.Counts.{Counts}
use Rattle.runner.specs.declared.state.Turn.TheVariants.{Begins, Comes}
use Rattle.runner.specs.Domain.{Number, numbers, number_in}
use Rattle.runner.specs.Here.{Here}
use Rattle.core_term.specs.Parts.{node}
use Rattle.words.specs.ListLaws.{rest-is}
use Rattle.runner.specs.Here.{here-node}
use Rattle.runner.specs.NodeIs.{NodeIs, node-is}
use Rattle.runner.specs.Due.{some-by}
use Rattle.runner.specs.Rows.{frame_word, ValueIs, number_i, boolean_i, datum_i, closure_i, operation_i, none_i, WaitingIs, test_i, parts_i}
use Rattle.runner.specs.Stores.{value_set, frame_set, value_words, next_of, frame_words, length-stored, value-back, frame-own, packed-parts}
use Rattle.runner.specs.Kept.{Kept, kept_same, kept-value, kept_frame, environment-kept, value-kept, waiting_kept}
use Rattle.runner.specs.Found.{Bound, FoundIs}
use Rattle.runner.specs.Machine.{operation_found, Beginning, Leaving, Giving, Seeks, Spent, Turned, begin_fuel, give_fuel}

-- a node's unit
abbrev pub spent : Counts → Counts
spent s = record { units = s.units + 1; values = s.values; frames = s.frames; cells = s.cells }

-- ---- a value, or a frame, is put into its row

module _ {ws t : List ℕ} {budget : ℕ} {whole : Out (Value Number)} (s : Counts) where
  -- the row of a value that is there is free
  pub giving-row : {v : R.Value} → Giving ws budget whole t s v → 16 * (s.values + 1) ≤ length t
  giving-row g = omega (arith, g.leaving.free, g.leaving.room.within, g.leaving.room.lent)

  pub pushed : (v : R.Value) → Giving ws budget whole t s v
      → Turned ws budget whole (give_fuel s budget) (value_set t s.values v) (Ok (Comes (record { units = s.units; values = s.values + 1; frames = s.frames; cells = s.cells })))
  unfolding ◌>>=◌ go_on give
  pushed v g =
      let l = g.leaving in
      let row = s.values in
      let room = giving-row g in
      let kept = kept-value row s.frames s.cells t row v (omega arith) in
      let top : row + 1 - 1 ≡ row = omega arith in
      let is : ValueIs ws (value_set t row v) s.cells v g.value = value-kept kept (omega arith) (omega arith) g.is in (
        record {
          room =
              record {
                rows = omega (arith, l.free);
                within = l.room.within;
                lent = rw (length-stored t (16 * row) (value_words v)) l.room.lent;
                most = l.room.most;
              };
          some = omega arith;
          value = g.value;
          is = rw top (record { is = rw (value-back t row room v) is });
          waiting = l.waiting;
          stacked = rw top (waiting_kept kept (omega arith) (omega arith) (omega arith) l.stacked);
          goes = l.goes;
        },
        omega arith,
      )

  -- what is found out: a value, or a ground
  module _ (found : M (Value Number)) (l : Leaving ws budget whole t s found) where
    pub leaving-gives : (v : R.Value) (x : Value Number) → found s.units ≡ done x s.units
        → ValueIs ws t s.cells v x → Giving ws budget whole t s v
    unfolding ◌>>=◌ go_on give
    leaving-gives v x e i =
        record {
          value = x;
          is = i;
          leaving =
              record { room = l.room; free = l.free; waiting = l.waiting; stacked = l.stacked; goes = l.goes ∙ ap (go_on (resume numbers budget l.waiting)) e };
        }

    pub leaving-stops : (g : Ground) (fuel : ℕ) → 0 < fuel → found s.units ≡ refused (Grounds.number_of g) s.units → Turned ws budget whole fuel t (Err g)
    unfolding ◌>>=◌ go_on
    leaving-stops g fuel h e = (record { units = s.units; goes = l.goes ∙ ap (go_on (resume numbers budget l.waiting)) e }, h)

  -- ---- leaves

  -- a variable: its cell is looked up
  module _ (n e : ℕ) (k : Seeks ws budget whole t s n e) where
    pub seeks-bound : Bound t e
    seeks-bound =
        record {
          words = ws;
          environment = k.environment;
          is = k.bound;
          rows = omega (arith, k.below, k.leaving.free, k.leaving.room.within, k.leaving.room.lent);
        }

    pub seeks-found : (v : R.Value) → FoundIs ws t e (find n k.environment) (P.Some v) → Giving ws budget whole t s v
    unfolding or_refuse
    seeks-found v i = go (find n k.environment) refl i
      where
        go : (o : Option (Value Number)) → find n k.environment ≡ o → FoundIs ws t e o (P.Some v) → Giving ws budget whole t s v
        go none q i = absurd i
        go (some x) q i =
            leaving-gives (or_refuse 25 (find n k.environment)) k.leaving v x (rw q)
            (value-kept (kept_same 0 0 s.cells t) k.below k.below i)

    pub seeks-none : FoundIs ws t e (find n k.environment) P.None → Turned ws budget whole (give_fuel s budget) t (Err G.WrongKind)
    unfolding or_refuse
    seeks-none i = go (find n k.environment) refl i
      where
        go : (o : Option (Value Number)) → find n k.environment ≡ o → FoundIs ws t e o P.None → Turned ws budget whole (give_fuel s budget) t (Err G.WrongKind)
        go none q i = leaving-stops (or_refuse 25 (find n k.environment)) k.leaving G.WrongKind (give_fuel s budget) (omega arith) (rw q)
        go (some x) q i = absurd i

  -- an operation by its place
  module _ (p : ℕ) (l : Leaving ws budget whole t s (operation_found p)) where
    pub operation-gives : p < 4 → Giving ws budget whole t s (RV.Operation p)
    unfolding ◌>>◌ go_on test give
    operation-gives h = leaving-gives _ l _ (operation_v p) (rw (lt-ltb p 4 h)) (operation_i p refl refl h)

    pub operation-stops : 4 ≤ p → Turned ws budget whole (give_fuel s budget) t (Err G.WrongKind)
    unfolding ◌>>◌ go_on test give
    operation-stops h = leaving-stops _ l G.WrongKind (give_fuel s budget) (omega arith) (rw (le-ltb p 4 h))

  module _ (at e : ℕ) where
    pub spent-variable : (n : ℕ) → Spent ws budget whole t s (Variable n) at e → Seeks ws budget whole t s n e
    unfolding code_at evaluate_node
    spent-variable n x =
        record {
          environment = x.environment;
          bound = x.bound;
          below = x.below;
          leaving = subst (λ (u : Plain). Leaving ws budget whole t s (evaluate_node numbers (value numbers budget) (code_at at u) x.environment)) x.is x.leaving;
        }

    -- what a simple node's computation is, its term known
    spent-is : {node : Node} (x : Spent ws budget whole t s node at e) (u : Plain) → x.term ≡ u
        → Leaving ws budget whole t s (evaluate_node numbers (value numbers budget) (code_at at u) x.environment)
    spent-is x u h = subst (λ (z : Plain). Leaving ws budget whole t s (evaluate_node numbers (value numbers budget) (code_at at z) x.environment)) h x.leaving

    pub spent-operation : (p : ℕ) → Spent ws budget whole t s (Operation p) at e → Leaving ws budget whole t s (operation_found p)
    unfolding code_at evaluate_node
    spent-operation p x = spent-is x _ x.is

    -- constants stand for themselves, but for decimals
    pub spent-integer : (w : ℕ) → Spent ws budget whole t s (Integer w) at e → Giving ws budget whole t s (RV.Number w)
    unfolding code_at datum_code evaluate_node constant_value or_ground integer integers
    spent-integer w x = leaving-gives _ (spent-is x _ x.is) _ (number_v (number_in w 0)) refl (number_i w refl refl)

    pub spent-boolean : (w : ℕ) → Spent ws budget whole t s (Boolean w) at e → Giving ws budget whole t s (RV.Boolean (eqb w 1))
    unfolding code_at datum_code evaluate_node constant_value or_ground boolean
    spent-boolean w x = leaving-gives _ (spent-is x _ x.is) _ (boolean_v (eqb w 1)) refl (boolean_i (eqb w 1) refl refl)

    pub spent-decimal : (w p : ℕ) → Spent ws budget whole t s (Decimal w p) at e → Turned ws budget whole (give_fuel s budget) t (Err G.WrongKind)
    unfolding code_at datum_code evaluate_node constant_value or_ground decimal
    spent-decimal w p x = leaving-stops _ (spent-is x _ x.is) G.WrongKind (give_fuel s budget) (omega arith) refl

    -- a quoted datum is its place
    datum-gives : {node : Node} (x : Spent ws budget whole t s node at e) → evaluate_node numbers (value numbers budget) (code_at at x.term) x.environment ≡ give (datum_v at)
        → Giving ws budget whole t s (RV.Datum at)
    unfolding give
    datum-gives x h =
        leaving-gives _ (subst (λ (m : M (Value Number)). Leaving ws budget whole t s m) h x.leaving) _ (datum_v at) refl (datum_i at refl refl)

    pub spent-name : (n : ℕ) → Spent ws budget whole t s (Name n) at e → Giving ws budget whole t s (RV.Datum at)
    unfolding code_at datum_code evaluate_node
    spent-name n x = datum-gives x (rw x.is)

    pub spent-list : (n : ℕ) → Spent ws budget whole t s (Several n) at e → Giving ws budget whole t s (RV.Datum at)
    unfolding code_at datum_code evaluate_node
    spent-list n x = datum-gives x (rw x.is.is)

    -- a lambda is a closure
    pub spent-lambda : (first k : ℕ) → Spent ws budget whole t s (Lambda first k) at e → Giving ws budget whole t s (RV.Closure at e)
    unfolding code_at evaluate_node give
    spent-lambda first k x =
        let l = x.is in
        let h : Here ws at (lambda_c first l.names l.body) = subst (λ (z : Plain). Here ws at z) l.is x.here in
        leaving-gives _ (spent-is x _ l.is) _ (closure_v first (length l.names) (code_at (at + (3 + length l.names)) l.body) x.environment) refl
        (closure_i at e first l.names l.body x.environment refl refl h x.below x.bound)

-- ---- nodes with parts: a frame is put, and the first part begins

abbrev pub framed : Counts → Counts
framed s = record { units = s.units; values = s.values; frames = s.frames + 1; cells = s.cells }

module _ {ws t : List ℕ} {budget : ℕ} {whole : Out (Value Number)} (s : Counts) (at e : ℕ) where
  -- the row of its frame is free
  pub frame_row : {node : Node} → Spent ws budget whole t s node at e → 16 * (s.frames + 1) ≤ length t
  frame_row x = omega (arith, x.leaving.free, x.leaving.room.within, x.leaving.room.lent)

  module _ {node : Node} (x : Spent ws budget whole t s node at e) (f : Frame) where
    -- what waits under the new frame is kept
    frame-kept : Kept s.values s.frames s.cells t (frame_set t s.frames f)
    frame-kept = kept_frame s.values s.frames s.cells t s.frames f (omega arith)

    frame-words : (i : ℕ) → i < 6 → frame_word (frame_set t s.frames f) s.frames i ≡ get_or (frame_words f) i 0
    frame-words i h = frame-own t s.frames i (frame_row x) f h

    frame-next : packed (frame_word (frame_set t s.frames f) s.frames 2) (frame_word (frame_set t s.frames f) s.frames 1) ≡ next_of f
    frame-next = ap₂ packed (frame-words 2 (omega arith)) (frame-words 1 (omega arith)) ∙ packed-parts (next_of f)

    -- the part that begins, and what waits for it
    frame-begins : (part : ℕ) (term : Plain) (w : Waiting numbers budget) → Here ws part term
        → WaitingIs ws (frame_set t s.frames f) s.cells budget (suc s.frames) s.values (w ∷ x.leaving.waiting)
        → begins numbers budget (code_at at x.term) x.environment x.leaving.waiting (s.units - 1) ≡ begins numbers budget (code_at part term) x.environment (w ∷ x.leaving.waiting) (suc (s.units - 1))
        → Turned ws budget whole (give_fuel s budget) (frame_set t s.frames f) (Ok (Begins (framed s) part e))
    frame-begins part term w h k q =
        let l = x.leaving in
        let u : suc (s.units - 1) ≡ s.units = omega (arith, l.free) in (
          record {
            room =
                record {
                  rows = omega (arith, l.free);
                  within = l.room.within;
                  lent = rw (length-stored t (16 * s.frames + 4) (frame_words f)) l.room.lent;
                  most = l.room.most;
                };
            term = term;
            here = h;
            environment = x.environment;
            bound = environment-kept frame-kept x.below x.bound;
            below = x.below;
            waiting = w ∷ l.waiting;
            stacked = rw (add-one s.frames) k;
            goes =
                l.goes
                ∙ ap (λ (n : ℕ). (◌>>=◌ (evaluate_node numbers (value numbers budget) (code_at at x.term) x.environment) (resume numbers budget l.waiting)) n) (sym u)
                ∙ sym (begins-node numbers budget (code_at at x.term) x.environment l.waiting (s.units - 1) (omega (arith, l.free, l.room.within)))
                ∙ q ∙ ap (λ (n : ℕ). begins numbers budget (code_at part term) x.environment (w ∷ l.waiting) n) u;
          },
          omega arith,
        )

  pub spent-if : (x : Spent ws budget whole t s If at e) (next : ℕ) → next ≡ at + 1 + length (encode x.is.test)
      → Turned ws budget whole (give_fuel s budget) (frame_set t s.frames (F.Test (record { next = next; environment = e }))) (Ok (Begins (framed s) (at + 1) e))
  unfolding code_at
  spent-if x next h =
      let i = x.is in
      let l = x.leaving in
      let f : Frame = F.Test (record { next = next; environment = e }) in
      let to = at + 1 + length (encode i.test) in
      let g = frame-kept x f in
      let own = frame-words x f in
      frame-begins x f (at + 1) i.test
      (test_w (code_at to i.yes) (code_at (to + length (encode i.yes)) i.no) x.environment) i.branches.test
      (test_i (own 0 (omega arith)) (frame-next x f ∙ h) (own 5 (omega arith)) i.branches.yes i.branches.no x.below
      (environment-kept g x.below x.bound) (waiting_kept g (omega arith) (omega arith) (omega arith) l.stacked))
      (ap (λ (z : Plain). begins numbers budget (code_at at z) x.environment l.waiting (s.units - 1)) i.is
      ∙ begins-if numbers budget _ _ _ x.environment l.waiting (s.units - 1) (omega (arith, l.free, l.room.within)))

  pub spent-application : (left : ℕ) (x : Spent ws budget whole t s (Application left) at e) (next : ℕ) → next ≡ at + 2 + length (encode x.is.head)
      → Turned ws budget whole (give_fuel s budget) (frame_set t s.frames (F.Parts (record { next = next; left = left; base = s.values; environment = e }))) (Ok (Begins (framed s) (at + 2) e))
  unfolding code_at
  spent-application left x next h =
      let i = x.is in
      let l = x.leaving in
      let f : Frame = F.Parts (record { next = next; left = left; base = s.values; environment = e }) in
      let g = frame-kept x f in
      let own = frame-words x f in
      let rows : s.values + 0 ≡ s.values = omega arith in
      frame-begins x f (at + 2) i.head
      (parts_w [] (codes_at (at + 2 + length (encode i.head)) i.operands) x.environment) i.parts.head
      (parts_i (own 0 (omega arith)) (frame-next x f ∙ h) (own 3 (omega arith)) (own 4 (omega arith)) (own 5 (omega arith)) i.parts.operands i.many
      none_i rows x.below (environment-kept g x.below x.bound) (waiting_kept g (omega arith) (omega arith) (omega arith) l.stacked))
      (ap (λ (z : Plain). begins numbers budget (code_at at z) x.environment l.waiting (s.units - 1)) i.is
      ∙ begins-application numbers budget _ _ x.environment l.waiting (s.units - 1) (omega (arith, l.free, l.room.within)))

  -- ---- a node begins

  module _ (b : Beginning ws budget whole t s at e) where
    -- its unit is missing
    pub begin-out : budget ≤ s.units → Turned ws budget whole (begin_fuel s budget) t (Err G.OutOfBudget)
    begin-out h = (record { units = s.units; goes = b.goes ∙ begins-out numbers budget _ _ _ s.units h }, omega arith)

    -- its unit is spent
    pub begin-spent : (node : Node) → s.units < budget → NodeIs ws at b.term node → Spent ws budget whole t (spent s) node at e
    begin-spent n h i =
        let u : s.units + 1 ≡ suc s.units = add-one s.units in
        record {
          term = b.term;
          here = b.here;
          is = i;
          environment = b.environment;
          bound = b.bound;
          below = b.below;
          leaving =
              record {
                room = record { rows = omega (arith, b.room.rows); within = omega arith; lent = b.room.lent; most = b.room.most };
                free = omega (arith, b.room.rows);
                waiting = b.waiting;
                stacked = b.stacked;
                goes = b.goes ∙ begins-node numbers budget _ _ _ s.units h
                    ∙ ap (λ (n : ℕ). (◌>>=◌ (evaluate_node numbers (value numbers budget) (code_at at b.term) b.environment) (resume numbers budget b.waiting)) n) (sym u);
              };
        }

    -- a node was opened; what it says, its unit spent
    pub begin-opened : (o : P.Option Node) → opened_in (rest at ws) o ≡ node_at (rest at ws) → P.IsSome o
    begin-opened o h = some-by o (opened-here (rest at ws) o h (node b.term) _ (ap node_at (rest-is at ws) ∙ here-node b.term b.here))

    pub begin-node : (o : P.Option Node) (node : Node) → s.units < budget → opened_in (rest at ws) o ≡ node_at (rest at ws) → o ≡ P.Some node → Spent ws budget whole t (spent s) node at e
    begin-node o node h k i = begin-spent node h (node-is b.term node b.here (opened-some (rest at ws) o k node i))
