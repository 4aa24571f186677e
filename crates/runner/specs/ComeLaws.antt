-- The laws of a value that has come, one for each way through the code.
use Rattle.std.specs.Prelude.{◌≡◌, Bool, true, false, cond, ℕ, suc, ◌+◌, ◌-◌, ◌*◌, ◌≤◌, ◌<◌, get_or, Result, Ok, Err}
use Rattle.words.specs.declared.ground.Ground.{Ground}
use Rattle.words.specs.declared.ground.Ground.TheVariants as G
use Rattle.words.specs.Code.Ground as Grounds
use Rattle.std.proofs.Math.Path.{refl, sym, ap, subst}
use Rattle.std.proofs.Common.{ap₂, ◌∙◌, add-one, add-zero, eq-eqb, ne_eqb}
use mathlib.Core.List.{List, [], ◌∷◌, ◌++◌}
use Rattle.std.proofs.Math.Option.{none, some}
use native.Mathlib.Omega.{arith}
use Rattle.std.proofs.Math.ListN.{length, length-append}
use Rattle.words.specs.Code.Packed.{packed}
use Rattle.core_term.specs.Term.{none_c, more_c, lambda_c, Plain, count}
use Rattle.core_term.specs.Node.{node_words}
use Rattle.core_term.specs.Words.{encode}
use Rattle.evaluation.specs.Code.{code_at, codes_at}
use Rattle.evaluation.specs.Computation.{Out, refused, go_on, ◌>>=◌, ◌>>◌, give, refuse, test, or_refuse, Answer, answer, ground_number, or_ground}
use Rattle.evaluation.specs.Evaluate.{Value, closure_v, operation_v, Environment, bind, holds, number_of, is_two, operand, operate, apply}
use Rattle.evaluation.proofs.Steps.{Waiting, parts_w, value, apply_all, resume, begins, comes-test, comes-part, comes-last}
use Rattle.runner.specs.declared.rows.Value as R
use Rattle.runner.specs.declared.rows.Value.TheVariants as RV
use Rattle.runner.specs.declared.rows.Frame.{Frame}
use Rattle.runner.specs.declared.rows.Frame.TheVariants as F
use Rattle.runner.specs.declared.rows.Branches.{Branches}
use Rattle.runner.specs.declared.rows.Parts.{Parts}
use Rattle.runner.specs.declared.rows.Extended.{Extended}
use Rattle.runner.specs.declared.state.Counts.{Counts}
use Rattle.runner.specs.declared.state.Turn.TheVariants.{Begins}
use Rattle.runner.specs.Domain.{Number, numbers, number_in}
use Rattle.runner.specs.Here.{Here, here-first, here-body, here-inside, begins-word}
use Rattle.runner.specs.Rows.{value_at, frame_word, EnvironmentIs, ValueIs, number_i, boolean_i, datum_i, closure_i, operation_i, ValueIn, ValuesIn, none_i, more_i, WaitingIs, nothing_i, test_i, parts_i}
use Rattle.runner.specs.Stores.{branches_at, parts_at, frame_at, frame-test, frame-parts, frame_set, frame_words, length-stored, frame-own, packed-parts}
use Rattle.runner.specs.Kept.{kept_frame, environment-kept, values-kept, waiting_kept}
use Rattle.runner.specs.Extended.{Extends, ExtendedBy}
use Rattle.runner.specs.Made.{MadeIs}
use Rattle.runner.specs.Machine.{Coming, Leaving, Giving, Testing, Parting, Complete, Valued, Turned, come_fuel}
use Rattle.runner.specs.BeginLaws.{leaving-gives, leaving-stops}

-- ---- what a value says

-- only #f is false
abbrev pub holds_of : R.Value → Bool
holds_of (RV.Number w) = true
holds_of (RV.Boolean b) = b
holds_of (RV.Datum at) = true
holds_of (RV.Closure at e) = true
holds_of (RV.Operation p) = true

module _ {ws t : List ℕ} {top : ℕ} {u : R.Value} {v : Value Number} where
  pub holds-is : ValueIs ws t top u v → holds_of u ≡ holds v
  unfolding holds
  holds-is (number_i w i x) = rw (i, x)
  holds-is (boolean_i b i x) = rw (i, x)
  holds-is (datum_i at i x) = rw (i, x)
  holds-is (closure_i at e f n y c i x q l p) = rw (i, x)
  holds-is (operation_i p i x q) = rw (i, x)

  pub holds-other : ((b : Bool) → u ≡ RV.Boolean b → ⊥) → ValueIs ws t top u v → true ≡ holds v
  unfolding holds
  holds-other h (number_i w i x) = rw x
  holds-other h (boolean_i b i x) = absurd (h b i)
  holds-other h (datum_i at i x) = rw x
  holds-other h (closure_i at e f n y c i x q l p) = rw x
  holds-other h (operation_i p i x q) = rw x

  -- a number, or none
  pub number-yes : (w : ℕ) → u ≡ RV.Number w → ValueIs ws t top u v → number_of v ≡ some (number_in w 0)
  unfolding number_of
  number-yes w h (number_i n i x) = let e : n ≡ w = cc in rw (x, e)
  number-yes w h (boolean_i b i x) = cc
  number-yes w h (datum_i at i x) = cc
  number-yes w h (closure_i at e f n y c i x q l p) = cc
  number-yes w h (operation_i p i x q) = cc

  pub number-no : ((w : ℕ) → u ≡ RV.Number w → ⊥) → ValueIs ws t top u v → number_of v ≡ none
  unfolding number_of
  number-no h (number_i w i x) = absurd (h w i)
  number-no h (boolean_i b i x) = rw x
  number-no h (datum_i at i x) = rw x
  number-no h (closure_i at e f n y c i x q l p) = rw x
  number-no h (operation_i p i x q) = rw x

-- ---- values of rows

module _ {ws t : List ℕ} {cells : ℕ} where
  -- one more on top
  pub values-more : {row : ℕ} {vs : List (Value Number)} (v : Value Number) → ValuesIn ws t cells row vs → ValueIn ws t cells (row + length vs) v → ValuesIn ws t cells row (vs ++ (v ∷ []))
  values-more {row} v none_i x = more_i (subst (λ (n : ℕ). ValueIn ws t cells n v) (add-zero row) x) none_i
  values-more {row} v (more_i {vs = vs} y q) x =
      let e : row + suc (length vs) ≡ suc row + length vs = omega arith in
      more_i y (values-more v q (subst (λ (n : ℕ). ValueIn ws t cells n v) e x))

-- ---- the top frame

-- the counts without the top frame, and the values down to a row
abbrev pub dropped : Counts → (row : ℕ) → Counts
dropped s row = record { units = s.units; values = row; frames = s.frames - 1; cells = s.cells }

module _ {ws t : List ℕ} {budget : ℕ} {whole : Out (Value Number)} (s : Counts) (c : Coming ws budget whole t s) (some : 1 ≤ s.frames) where
  -- its row
  pub come-row : 16 * (s.frames - 1 + 1) ≤ length t
  come-row = omega (arith, c.room.rows, c.room.within, c.room.lent)

  -- the test of an if
  come-test : frame_word t (s.frames - 1) 0 ≡ 1 → Testing ws budget whole t s (branches_at t (s.frames - 1))
  come-test h = go s.frames (s.values - 1) refl refl c.waiting c.stacked c.goes
    where
      go : (n row : ℕ) → s.frames ≡ n → s.values - 1 ≡ row → (k : List (Waiting numbers budget)) → WaitingIs ws t s.cells budget n row k
          → whole ≡ resume numbers budget k c.value s.units → Testing ws budget whole t s (branches_at t (s.frames - 1))
      go n row q u k nothing_i w = absurd (omega arith)
      go n row q u k' (test_i {f = f} {next = next} {e = e} {y = y} {z = z} {env = env} {k = k} i p j x x' l b r) w =
          let d : s.frames - 1 ≡ f = omega arith in
          rw d
          (record {
            room = c.room;
            some = c.some;
            framed = some;
            value = c.value;
            is = c.is;
            yes = y;
            no = z;
            here = rw p x;
            there = rw p x';
            environment = env;
            bound = rw j b;
            below = rw j l;
            waiting = k;
            stacked = rw (d, u) r;
            goes = rw p (w ∙ comes-test numbers budget _ _ env k c.value s.units);
          })
      go n row q u k' (parts_i {f = f} i p z o e x m vs r l b k) w =
          let d : s.frames - 1 ≡ f = omega arith in
          let g : frame_word t f 0 ≡ 1 = subst (λ (n : ℕ). frame_word t n 0 ≡ 1) d h in
          absurd (omega (arith, i, g))

  -- a part of an application, and another is next
  come-part : (frame_word t (s.frames - 1) 0 ≡ 1 → ⊥) → 0 < frame_word t (s.frames - 1) 3 → Parting ws budget whole t s (parts_at t (s.frames - 1))
  unfolding codes_at count
  come-part h g = go s.frames (s.values - 1) refl refl c.waiting c.stacked c.goes
    where
      go : (n row : ℕ) → s.frames ≡ n → s.values - 1 ≡ row → (k : List (Waiting numbers budget)) → WaitingIs ws t s.cells budget n row k
          → whole ≡ resume numbers budget k c.value s.units → Parting ws budget whole t s (parts_at t (s.frames - 1))
      go n row q u k' nothing_i w = absurd (omega arith)
      go n row q u k' (test_i {f = f} i p j x x' l b r) w =
          let d : f ≡ s.frames - 1 = omega arith in
          absurd (h (subst (λ (n : ℕ). frame_word t n 0 ≡ 1) d i))
      go n row q u k' (parts_i {f = f} {next = next} {left = left} {base = base} {ts = none_c} i p z o j x m vs r l b k) w =
          let d : s.frames - 1 ≡ f = omega arith in
          let g' : 0 < frame_word t f 3 = subst (λ (n : ℕ). 0 < frame_word t n 3) d g in
          absurd (omega (arith, z, m, g'))
      go n row q u k' (parts_i {f = f} {next = next} {left = left} {base = base} {ts = more_c y ys} {vs = vs} {env = env} {k = k} i p z o j x m are r l b st) w =
          let d : s.frames - 1 ≡ f = omega arith in
          rw d
          (record {
            room = c.room;
            framed = some;
            first = y;
            later = ys;
            parts = rw p (here-first y ys x);
            many = rw z (omega (arith, m));
            values = vs ++ (c.value ∷ []);
            are = rw o (values-more c.value are (subst (λ (n : ℕ). ValueIn ws t s.cells n c.value) (u ∙ sym r) c.is));
            rows = rw (o, length-append vs (c.value ∷ [])) (omega (arith, r, u, c.some));
            environment = env;
            bound = rw j b;
            below = rw j l;
            waiting = k;
            stacked = rw (d, o) st;
            goes = rw p (w ∙ comes-part numbers budget vs _ _ env k c.value s.units);
          })

  -- the last part of an application
  come-last : (frame_word t (s.frames - 1) 0 ≡ 1 → ⊥) → frame_word t (s.frames - 1) 3 ≤ 0
      → Complete ws budget whole t s (frame_word t (s.frames - 1) 4) (s.values - (frame_word t (s.frames - 1) 4) - 1)
  unfolding codes_at count apply_all
  come-last h g = go s.frames (s.values - 1) refl refl c.waiting c.stacked c.goes
    where
      whole_row : (base : ℕ) (l : List (Value Number)) (k : List (Waiting numbers budget)) → ValuesIn ws t s.cells base l → 1 ≤ length l → base + length l ≡ s.values
          → WaitingIs ws t s.cells budget (s.frames - 1) base k → whole ≡ (◌>>=◌ (apply_all numbers budget l) (resume numbers budget k)) s.units
          → Complete ws budget whole t s base (s.values - base - 1)
      whole_row base _ k none_i o r st w = absurd (omega arith)
      whole_row base _ k (more_i {v = v} {vs = vs} x q) o r st w =
          record {
            room = c.room;
            framed = some;
            rows = omega (arith, r);
            head = v;
            is = x;
            operands = vs;
            are = rw (add-one base) q;
            many = omega (arith, r);
            leaving =
                record {
                  room = record { rows = omega (arith, c.room.rows, r); within = c.room.within; lent = c.room.lent; most = c.room.most };
                  free = omega (arith, c.room.rows, r);
                  waiting = k;
                  stacked = st;
                  goes = w;
                };
          }

      go : (n row : ℕ) → s.frames ≡ n → s.values - 1 ≡ row → (k : List (Waiting numbers budget)) → WaitingIs ws t s.cells budget n row k
          → whole ≡ resume numbers budget k c.value s.units
          → Complete ws budget whole t s (frame_word t (s.frames - 1) 4) (s.values - (frame_word t (s.frames - 1) 4) - 1)
      go n row q u k' nothing_i w = absurd (omega arith)
      go n row q u k' (test_i {f = f} i p j x x' l b r) w =
          let d : f ≡ s.frames - 1 = omega arith in
          absurd (h (subst (λ (n : ℕ). frame_word t n 0 ≡ 1) d i))
      go n row q u k' (parts_i {f = f} {ts = more_c y ys} i p z o j x m vs r l b k) w =
          let d : s.frames - 1 ≡ f = omega arith in
          let g' : frame_word t f 3 ≤ 0 = subst (λ (n : ℕ). frame_word t n 3 ≤ 0) d g in
          absurd (omega (arith, z, m, g'))
      go n row q u k' (parts_i {f = f} {base = base} {ts = none_c} {vs = vs} {env = env} {k = k} i p z o j x m are r l b st) w =
          let d : s.frames - 1 ≡ f = omega arith in
          let y : frame_word t (s.frames - 1) 4 ≡ base = subst (λ (n : ℕ). frame_word t n 4 ≡ base) (sym d) o in
          rw y
          (whole_row base (vs ++ (c.value ∷ [])) k (values-more c.value are (subst (λ (n : ℕ). ValueIn ws t s.cells n c.value) (u ∙ sym r) c.is))
          (rw (length-append vs (c.value ∷ [])) (omega arith)) (rw (length-append vs (c.value ∷ [])) (omega (arith, r, u, c.some)))
          (rw d st) (w ∙ comes-last numbers budget vs env k c.value s.units))

  -- by the frame
  pub come-branch : (f : Branches) → frame_at t (s.frames - 1) ≡ F.Test f → Testing ws budget whole t s f
  come-branch f e = let q = frame-test _ _ _ f e in subst (λ (f : Branches). Testing ws budget whole t s f) q.1 (come-test q.0)

  module _ (f : Parts) (e : frame_at t (s.frames - 1) ≡ F.Parts f) where
    come-is : (frame_word t (s.frames - 1) 0 ≡ 1 → ⊥) × (parts_at t (s.frames - 1) ≡ f)
    come-is = frame-parts _ _ _ f e

    pub come-next : 0 < f.left → Parting ws budget whole t s f
    come-next h = subst (λ (f : Parts). Parting ws budget whole t s f) come-is.1 (come-part come-is.0 (subst (λ (f : Parts). 0 < f.left) (sym come-is.1) h))

    pub come-complete : f.left ≤ 0 → Complete ws budget whole t s f.base (s.values - f.base - 1)
    come-complete h =
        subst (λ (f : Parts). Complete ws budget whole t s f.base (s.values - f.base - 1)) come-is.1
        (come-last come-is.0 (subst (λ (f : Parts). f.left ≤ 0) (sym come-is.1) h))

-- ---- the test of an if

module _ {ws t : List ℕ} {budget : ℕ} {whole : Out (Value Number)} (s : Counts) (f : Branches) (x : Testing ws budget whole t s f) where
  -- the branch that it picks begins
  picked : (at : ℕ) (branch : Plain) → Here ws at branch
      → whole ≡ begins numbers budget (code_at at branch) x.environment x.waiting s.units
      → Turned ws budget whole (come_fuel s budget) t (Ok (Begins (dropped s (s.values - 1)) at f.environment))
  picked at branch h g = (
    record {
      room = record { rows = omega (arith, x.room.rows); within = x.room.within; lent = x.room.lent; most = x.room.most };
      term = branch;
      here = h;
      environment = x.environment;
      bound = x.bound;
      below = x.below;
      waiting = x.waiting;
      stacked = x.stacked;
      goes = g;
    },
    omega (arith, x.framed),
  )

  -- by what the value says
  picked-by : (b : Bool) → b ≡ holds x.value
      → whole ≡ begins numbers budget (cond b (code_at f.next x.yes) (code_at (f.next + length (encode x.yes)) x.no)) x.environment x.waiting s.units
  picked-by b h = x.goes
      ∙ ap (λ (b : Bool). begins numbers budget (cond b (code_at f.next x.yes) (code_at (f.next + length (encode x.yes)) x.no)) x.environment x.waiting s.units) (sym h)

  pub testing-yes : true ≡ holds x.value → Turned ws budget whole (come_fuel s budget) t (Ok (Begins (dropped s (s.values - 1)) f.next f.environment))
  testing-yes h = picked f.next x.yes x.here (picked-by true h)

  pub testing-no : false ≡ holds x.value → (next : ℕ) → next ≡ f.next + length (encode x.yes)
      → Turned ws budget whole (come_fuel s budget) t (Ok (Begins (dropped s (s.values - 1)) next f.environment))
  testing-no h next e =
      subst (λ (n : ℕ). Turned ws budget whole (come_fuel s budget) t (Ok (Begins (dropped s (s.values - 1)) n f.environment))) (sym e)
      (picked (f.next + length (encode x.yes)) x.no x.there (picked-by false h))

-- ---- the next part of an application

module _ {ws t : List ℕ} {budget : ℕ} {whole : Out (Value Number)} (s : Counts) (f : Parts) (x : Parting ws budget whole t s f) where
  -- the frame waits for it
  pub parting-begins : (next : ℕ) → next ≡ f.next + length (encode x.first)
      → Turned ws budget whole (come_fuel s budget) (frame_set t (s.frames - 1) (F.Parts (record { next = next; left = f.left - 1; base = f.base; environment = f.environment })))
      (Ok (Begins s f.next f.environment))
  parting-begins next e =
      let row = s.frames - 1 in
      let waiting : Frame = F.Parts (record { next = next; left = f.left - 1; base = f.base; environment = f.environment }) in
      let room : 16 * (row + 1) ≤ length t = omega (arith, x.framed, x.room.rows, x.room.within, x.room.lent) in
      let own : (i : ℕ) → i < 6 → frame_word (frame_set t row waiting) row i ≡ get_or (frame_words waiting) i 0 = λ i h. frame-own t row i room waiting h in
      let to : packed (frame_word (frame_set t row waiting) row 2) (frame_word (frame_set t row waiting) row 1) ≡ f.next + length (encode x.first) =
      ap₂ packed (own 2 (omega arith)) (own 1 (omega arith)) ∙ packed-parts next ∙ e in
      let g = kept_frame s.values row s.cells t row waiting (omega arith) in
      let up : suc row ≡ s.frames = omega (arith, x.framed) in
      let l : f.base + length x.values ≤ s.values = omega (arith, x.rows) in
      let b : f.base ≤ s.values = omega (arith, x.rows) in (
        record {
          room =
              record {
                rows = x.room.rows;
                within = x.room.within;
                lent = rw (length-stored t (16 * row + 4) (frame_words waiting)) x.room.lent;
                most = x.room.most;
              };
          term = x.first;
          here = x.parts.one;
          environment = x.environment;
          bound = environment-kept g x.below x.bound;
          below = x.below;
          waiting = parts_w x.values (codes_at (f.next + length (encode x.first)) x.later) x.environment ∷ x.waiting;
          stacked =
              subst (λ (n : ℕ). WaitingIs ws (frame_set t row waiting) s.cells budget n s.values
              (parts_w x.values (codes_at (f.next + length (encode x.first)) x.later) x.environment ∷ x.waiting)) up
              (parts_i (own 0 (omega arith)) to (own 3 (omega arith)) (own 4 (omega arith)) (own 5 (omega arith)) x.parts.later x.many
              (values-kept g (omega arith) l x.are) x.rows x.below (environment-kept g x.below x.bound)
              (waiting_kept g (omega arith) (omega arith) b x.stacked));
          goes = x.goes;
        },
        omega arith,
      )

-- ---- all parts have their values

-- a closure's meaning
pub record Closed (ws t : List ℕ) (cells at e : ℕ) (x : Value Number) : Type 0 where
  pub first : ℕ
  pub names : List ℕ
  pub body : Plain
  pub environment : Environment Number
  pub is : x ≡ closure_v first (length names) (code_at (at + (3 + length names)) body) environment
  pub here : Here ws at (lambda_c first names body)
  pub below : e ≤ cells
  pub bound : EnvironmentIs ws t e environment

closed-value : {ws t : List ℕ} {cells : ℕ} (at e : ℕ) (u : R.Value) (x : Value Number) → u ≡ RV.Closure at e → ValueIs ws t cells u x → Closed ws t cells at e x
closed-value at e u x h (number_i w i y) = cc
closed-value at e u x h (boolean_i b i y) = cc
closed-value at e u x h (datum_i p i y) = cc
closed-value {ws} {t} {cells} at e u x h (closure_i at' e' first names body env i y z l c) =
    let p : at' ≡ at = cc in
    let q : e' ≡ e = cc in
    record {
      first = first;
      names = names;
      body = body;
      environment = env;
      is = y ∙ ap (λ (n : ℕ). closure_v first (length names) (code_at (n + (3 + length names)) body) env) p;
      here = subst (λ (n : ℕ). Here ws n (lambda_c first names body)) p z;
      below = omega (arith, l, q);
      bound = subst (λ (n : ℕ). EnvironmentIs ws t n env) q c;
    }
closed-value at e u x h (operation_i p i y z) = cc

-- the words of a lambda at its place
pub record Formals (ws : List ℕ) (at first count : ℕ) : Type 0 where
  pub start : get_or ws (at + 1) 0 ≡ first
  pub many : get_or ws (at + 2) 0 ≡ count
  pub inside : at + (3 + count) ≤ length ws

pub lambda-words : {ws : List ℕ} {at : ℕ} (first : ℕ) (names : List ℕ) (body : Plain) → Here ws at (lambda_c first names body) → Formals ws at first (length names)
unfolding encode node_words
lambda-words first names body h =
    record {
      start = begins-word h.begins 1;
      many = begins-word h.begins 2;
      inside = omega (arith, here-inside _ h, length-append names (encode body));
    }

-- two values in rows
pub record Two (ws t : List ℕ) (cells row : ℕ) (vs : List (Value Number)) : Type 0 where
  pub one : Value Number
  pub two : Value Number
  pub are : vs ≡ one ∷ two ∷ []
  pub first : ValueIn ws t cells row one
  pub second : ValueIn ws t cells (row + 1) two

two-values : {ws t : List ℕ} {cells row : ℕ} (vs : List (Value Number)) → ValuesIn ws t cells row vs → length vs ≡ 2 → Two ws t cells row vs
two-values _ none_i h = absurd (omega arith)
two-values _ (more_i x none_i) h = absurd (omega arith)
two-values {row = row} _ (more_i {v = v} x (more_i {v = w} y none_i)) h = record { one = v; two = w; are = refl; first = x; second = rw (add-one row) y }
two-values _ (more_i x (more_i y (more_i z q))) h = absurd (omega arith)

module _ {ws t : List ℕ} {budget : ℕ} {whole : Out (Value Number)} (s : Counts) (base n : ℕ) (x : Complete ws budget whole t s base n) where
  -- the head's value, known
  known : (h : Value Number) → x.head ≡ h → Leaving ws budget whole t (dropped s base) (apply numbers (value numbers budget) h x.operands)
  known h e = subst (λ (h : Value Number). Leaving ws budget whole t (dropped s base) (apply numbers (value numbers budget) h x.operands)) e x.leaving

  stops : (h : Value Number) → x.head ≡ h → (g : Ground) → apply numbers (value numbers budget) h x.operands s.units ≡ refused (Grounds.number_of g) s.units → Turned ws budget whole (come_fuel s budget) t (Err g)
  stops h e g q = leaving-stops (dropped s base) _ (known h e) g (come_fuel s budget) (omega arith) q

  -- the head is neither a closure nor an operation
  pub head-other : ((at e : ℕ) → value_at t base ≡ RV.Closure at e → ⊥) → ((p : ℕ) → value_at t base ≡ RV.Operation p → ⊥) → Turned ws budget whole (come_fuel s budget) t (Err G.WrongKind)
  unfolding apply refuse
  head-other h k = go _ h k x.is.is
    where
      go : (u : R.Value) → ((at e : ℕ) → u ≡ RV.Closure at e → ⊥) → ((p : ℕ) → u ≡ RV.Operation p → ⊥) → ValueIs ws t s.cells u x.head
          → Turned ws budget whole (come_fuel s budget) t (Err G.WrongKind)
      go u h k (number_i w i y) = stops _ y G.WrongKind refl
      go u h k (boolean_i b i y) = stops _ y G.WrongKind refl
      go u h k (datum_i at i y) = stops _ y G.WrongKind refl
      go u h k (closure_i at e first names body env i y z l c) = absurd (h at e i)
      go u h k (operation_i p i y z) = absurd (k p i)

  -- ---- a closure

  module _ (place e : ℕ) (same : value_at t base ≡ RV.Closure place e) where
    pub closed : Closed ws t s.cells place e x.head
    closed = closed-value place e (value_at t base) x.head same x.is.is

    -- its lambda's words
    pub formals : Formals ws place closed.first (length closed.names)
    formals = lambda-words closed.first closed.names closed.body closed.here

    -- another number of operands
    pub call-stops : (n ≡ length closed.names → ⊥) → Turned ws budget whole (come_fuel s budget) t (Err G.WrongCount)
    unfolding apply ◌>>◌ go_on test
    call-stops h = stops _ closed.is G.WrongCount (rw (ne_eqb (length x.operands) (length closed.names) (λ e. h (sym x.many ∙ e))))

    pub call-extends : Extends t s.cells e (base + 1) n
    call-extends =
        record {
          below = closed.below;
          room = omega (arith, x.rows, x.room.rows, x.room.within, x.room.lent);
          values = omega (arith, x.rows, x.room.rows, x.room.within, x.room.lent);
          numbered = omega (arith, x.rows, x.room.rows, x.room.within, x.room.most);
        }

    -- the operands are bound, and the body begins
    pub call-begins : (t' : List ℕ) (r : Extended) → n ≡ length closed.names → length t' ≡ length t → ExtendedBy t s.cells e closed.first (base + 1) n t' r
        → (at : ℕ) → at ≡ place + (3 + length closed.names)
        → Turned ws budget whole (come_fuel s budget) t' (Ok (Begins (record { units = s.units; values = base; frames = s.frames - 1; cells = r.cells }) at r.environment))
    unfolding apply ◌>>◌ ◌>>=◌ go_on test begins
    call-begins t' r h len b at q =
        let l = known _ closed.is in
        let g = b.kept base (s.frames - 1) in
        subst (λ (at : ℕ). Turned ws budget whole (come_fuel s budget) t' (Ok (Begins (record { units = s.units; values = base; frames = s.frames - 1; cells = r.cells }) at r.environment))) (sym q) (
          record {
            room =
                record {
                  rows = omega (arith, x.rows, x.room.rows, b.most);
                  within = x.room.within;
                  lent = rw len x.room.lent;
                  most = x.room.most;
                };
            term = closed.body;
            here = here-body closed.first closed.names closed.body closed.here;
            environment = bind closed.first x.operands closed.environment;
            bound = b.means ws x.operands closed.environment x.many x.are closed.bound;
            below = b.below;
            waiting = l.waiting;
            stacked = waiting_kept g b.more (omega arith) (omega arith) l.stacked;
            goes = l.goes ∙ rw (eq-eqb (length x.operands) (length closed.names) (x.many ∙ h));
          },
          omega (arith, x.framed),
        )

  -- ---- an operation

  module _ (p : ℕ) (same : value_at t base ≡ RV.Operation p) where
    pub place_of : (x.head ≡ operation_v p) × (p < 4)
    place_of = go _ same x.is.is
      where
        go : (u : R.Value) → u ≡ RV.Operation p → ValueIs ws t s.cells u x.head → (x.head ≡ operation_v p) × (p < 4)
        go u h (number_i w i y) = cc
        go u h (boolean_i b i y) = cc
        go u h (datum_i at i y) = cc
        go u h (closure_i at e first names body env i y z l c) = cc
        go u h (operation_i q i y z) = let k : q ≡ p = cc in (y ∙ ap (λ (n : ℕ). operation_v n) k, omega (arith, k, z))

    -- another number of operands
    pub operation-number : (n ≡ 2 → ⊥) → Turned ws budget whole (come_fuel s budget) t (Err G.WrongCount)
    unfolding apply ◌>>◌ go_on test is_two
    operation-number h = stops _ place_of.0 G.WrongCount (rw (ne_eqb (length x.operands) 2 (λ e. h (sym x.many ∙ e))))

    module _ (many : n ≡ 2) where
      pub operands-two : Two ws t s.cells (base + 1) x.operands
      operands-two = two-values x.operands x.are (x.many ∙ many)

      -- their kinds, from the left, and then the operation
      operated : (◌>>=◌ (or_refuse 25 (number_of operands-two.one)) (λ a. ◌>>=◌ (or_refuse 25 (number_of operands-two.two)) (λ b. or_ground (operate numbers p a b)))) s.units
          ≡ apply numbers (value numbers budget) (operation_v p) x.operands s.units
      unfolding apply ◌>>◌ go_on test is_two operand
      operated = sym (ap (λ (vs : List (Value Number)). apply numbers (value numbers budget) (operation_v p) vs s.units) operands-two.are)

      -- the first operand
      one-is : ValueIs ws t s.cells (value_at t (base + 1)) operands-two.one
      one-is = operands-two.first.is

      pub operation-first : ((w : ℕ) → value_at t (base + 1) ≡ RV.Number w → ⊥) → Turned ws budget whole (come_fuel s budget) t (Err G.WrongKind)
      unfolding ◌>>=◌ go_on or_refuse
      operation-first h = stops _ place_of.0 G.WrongKind (sym operated ∙ rw (number-no h one-is))

      -- and the second
      module _ (a : ℕ) (first : value_at t (base + 1) ≡ RV.Number a) where
        two_is : ValueIs ws t s.cells (value_at t (base + 2)) operands-two.two
        two_is =
            let e : base + 1 + 1 ≡ base + 2 = omega arith in
            let i : ValueIn ws t s.cells (base + 2) operands-two.two = rw e at operands-two.second in
            i.is

        pub operation-second : ((w : ℕ) → value_at t (base + 2) ≡ RV.Number w → ⊥) → Turned ws budget whole (come_fuel s budget) t (Err G.WrongKind)
        unfolding ◌>>=◌ go_on or_refuse
        operation-second h = stops _ place_of.0 G.WrongKind (sym operated ∙ rw (number-yes a first one-is, number-no h two_is))

        module _ (b : ℕ) (second : value_at t (base + 2) ≡ RV.Number b) (m : Result R.Value Ground) (made : MadeIs (operate numbers p (number_in a 0) (number_in b 0)) m) where
          -- what the operation answers
          answered : or_ground (operate numbers p (number_in a 0) (number_in b 0)) s.units
              ≡ apply numbers (value numbers budget) (operation_v p) x.operands s.units
          unfolding ◌>>=◌ go_on or_refuse
          answered = sym (rw (number-yes a first one-is, number-yes b second two_is)) ∙ operated

          pub made-value : (o : R.Value) → m ≡ Ok o → Giving ws budget whole t (dropped s base) o
          unfolding or_ground
          made-value o e = go _ refl (subst (λ (m : Result R.Value Ground). MadeIs (operate numbers p (number_in a 0) (number_in b 0)) m) e made)
            where
              go : (r : Answer (Value Number)) → operate numbers p (number_in a 0) (number_in b 0) ≡ r
                  → MadeIs r (Ok o) → Giving ws budget whole t (dropped s base) o
              go (answer y) q i = leaving-gives (dropped s base) _ (known _ place_of.0) o y (sym answered ∙ ap (λ (r : Answer (Value Number)). or_ground r s.units) q) (i ws t s.cells)
              go (ground_number g) q i = absurd i

          pub made-ground : (g : Ground) → m ≡ Err g → Turned ws budget whole (come_fuel s budget) t (Err g)
          unfolding or_ground
          made-ground g e = go _ refl (subst (λ (m : Result R.Value Ground). MadeIs (operate numbers p (number_in a 0) (number_in b 0)) m) e made)
            where
              go : (r : Answer (Value Number)) → operate numbers p (number_in a 0) (number_in b 0) ≡ r
                  → MadeIs r (Err g) → Turned ws budget whole (come_fuel s budget) t (Err g)
              go (answer y) q i = absurd i
              go (ground_number h) q i = stops _ place_of.0 g (sym answered ∙ ap (λ (r : Answer (Value Number)). or_ground r s.units) q ∙ ap (λ (n : ℕ). refused n s.units) (sym i))

-- ---- nothing waits: the run ends

pub come-ends : {ws t : List ℕ} {budget : ℕ} {whole : Out (Value Number)} (s : Counts) → Coming ws budget whole t s → s.frames ≡ 0 → Valued ws budget whole t (value_at t 0) s.units
unfolding resume give
come-ends {ws} {t} {budget} {whole} s c z = go s.frames (s.values - 1) z refl c.waiting c.stacked c.goes
  where
    go : (n row : ℕ) → n ≡ 0 → s.values - 1 ≡ row → (k : List (Waiting numbers budget)) → WaitingIs ws t s.cells budget n row k
        → whole ≡ resume numbers budget k c.value s.units → Valued ws budget whole t (value_at t 0) s.units
    go n row h u k nothing_i w = record { value = c.value; cells = s.cells; is = (subst (λ (r : ℕ). ValueIn ws t s.cells r c.value) u c.is).is; goes = w }
    go n row h u k (test_i i p j x x' l b r) w = absurd (omega arith)
    go n row h u k (parts_i i p y o j x m vs r l b st) w = absurd (omega arith)
