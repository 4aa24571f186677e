-- The machine's invariant: what a turn stands for, what falls at every turn, and what the functions of a turn ask and give.
use Rattle.std.specs.Prelude.{◌≡◌, cond, List, ◌∷◌, ℕ, ◌+◌, ◌-◌, ◌*◌, ◌≤◌, ◌<◌, ltb, length, Result, Ok, Err}
use Rattle.words.specs.declared.ground.Ground.{Ground}
use Rattle.words.specs.Code.Ground.{number_of}
use Rattle.core_term.specs.Term.{Plain, Plains, count}
use Rattle.core_term.specs.Words.{encode}
use Rattle.core_term.specs.declared.nodes.Node.{Node}
use Rattle.evaluation.specs.Code.{code_at, codes_at}
use Rattle.evaluation.specs.Computation.{Out, done, refused, M, ◌>>=◌, ◌>>◌, give, test, or_refuse}
use Rattle.evaluation.specs.Evaluate.{Value, operation_v, Environment, find, holds, apply, evaluate_node}
use Rattle.evaluation.proofs.Steps.{Waiting, parts_w, value, resume, begins}
use Rattle.runner.specs.declared.rows.Value as R
use Rattle.runner.specs.declared.rows.Branches.{Branches}
use Rattle.runner.specs.declared.rows.Parts.{Parts}
use Rattle.runner.specs.declared.state.Counts.{Counts}
use Rattle.runner.specs.declared.state.Turn.{Turn}
use Rattle.runner.specs.declared.state.Turn.TheVariants.{Begins, Comes}
use Rattle.runner.specs.declared.machine.End.{End}
use Rattle.runner.specs.Domain.{Number, numbers}
use Rattle.runner.specs.Here.{Here, First}
use Rattle.runner.specs.NodeIs.{NodeIs}
use Rattle.runner.specs.Rows.{EnvironmentIs, ValueIs, ValueIn, ValuesIn, WaitingIs}

-- every row in use is within the budget: values, frames and cells together are no more than the units spent
pub record Room (budget : ℕ) (t : List ℕ) (s : Counts) : Type 0 where
  pub rows : s.values + s.frames + s.cells ≤ s.units
  pub within : s.units ≤ budget
  pub lent : 16 * (budget + 1) ≤ length t
  pub most : budget ≤ 65535

module _ (ws : List ℕ) (budget : ℕ) (whole : Out (Value Number)) where
  -- ---- turns: the rest of the evaluation from there is the whole

  -- a node begins
  pub record Beginning (t : List ℕ) (s : Counts) (at e : ℕ) : Type 0 where
    pub room : Room budget t s
    pub term : Plain
    pub here : Here ws at term
    pub environment : Environment Number
    pub bound : EnvironmentIs ws t e environment
    pub below : e ≤ s.cells
    pub waiting : List (Waiting numbers budget)
    pub stacked : WaitingIs ws t s.cells budget s.frames s.values waiting
    pub goes : whole ≡ begins numbers budget (code_at at term) environment waiting s.units

  -- a value has come, in the top row of the values
  pub record Coming (t : List ℕ) (s : Counts) : Type 0 where
    pub room : Room budget t s
    pub some : 1 ≤ s.values
    pub value : Value Number
    pub is : ValueIn ws t s.cells (s.values - 1) value
    pub waiting : List (Waiting numbers budget)
    pub stacked : WaitingIs ws t s.cells budget s.frames (s.values - 1) waiting
    pub goes : whole ≡ resume numbers budget waiting value s.units

  pub record Stopped (ground_number : ℕ) : Type 0 where
    pub units : ℕ
    pub goes : whole ≡ refused ground_number units

  abbrev pub TurnIs : List ℕ → Turn → Type 0
  TurnIs t (Begins s at e) = Beginning t s at e
  TurnIs t (Comes s) = Coming t s

  -- the turn after, or the ground that was met
  abbrev pub StepIs : List ℕ → Result Turn Ground → Type 0
  StepIs t (Ok turn) = TurnIs t turn
  StepIs t (Err g) = Stopped (number_of g)

  -- how a run ends
  pub record Valued (t : List ℕ) (v : R.Value) (units : ℕ) : Type 0 where
    pub value : Value Number
    pub cells : ℕ
    pub is : ValueIs ws t cells v value
    pub goes : whole ≡ done value units

  abbrev pub EndIs : List ℕ → Result End Ground → Type 0
  EndIs t (Ok end) = Valued t end.value end.units
  EndIs t (Err g) = Stopped (number_of g)

  -- ---- between turns, a row more being free

  -- a value is found out, and then comes to what waits
  pub record Leaving (t : List ℕ) (s : Counts) (found : M (Value Number)) : Type 0 where
    pub room : Room budget t s
    pub free : s.values + s.frames + s.cells < s.units
    pub waiting : List (Waiting numbers budget)
    pub stacked : WaitingIs ws t s.cells budget s.frames s.values waiting
    pub goes : whole ≡ (◌>>=◌ found (resume numbers budget waiting)) s.units

  -- a value is there, not yet in its row
  pub record Giving (t : List ℕ) (s : Counts) (v : R.Value) : Type 0 where
    pub value : Value Number
    pub is : ValueIs ws t s.cells v value
    pub leaving : Leaving t s (give value)

  -- a variable is looked up
  pub record Seeks (t : List ℕ) (s : Counts) (n e : ℕ) : Type 0 where
    pub environment : Environment Number
    pub bound : EnvironmentIs ws t e environment
    pub below : e ≤ s.cells
    pub leaving : Leaving t s (or_refuse 25 (find n environment))

  -- a node's unit is spent
  pub record Spent (t : List ℕ) (s : Counts) (node : Node) (at e : ℕ) : Type 0 where
    pub term : Plain
    pub here : Here ws at term
    pub is : NodeIs ws at term node
    pub environment : Environment Number
    pub bound : EnvironmentIs ws t e environment
    pub below : e ≤ s.cells
    pub leaving : Leaving t s (evaluate_node numbers (value numbers budget) (code_at at term) environment)

  -- ---- a value has come to a frame

  -- the test of an if has its value
  pub record Testing (t : List ℕ) (s : Counts) (f : Branches) : Type 0 where
    pub room : Room budget t s
    pub some : 1 ≤ s.values
    pub framed : 1 ≤ s.frames
    pub value : Value Number
    pub is : ValueIn ws t s.cells (s.values - 1) value
    pub yes : Plain
    pub no : Plain
    pub here : Here ws f.next yes
    pub there : Here ws (f.next + length (encode yes)) no
    pub environment : Environment Number
    pub bound : EnvironmentIs ws t f.environment environment
    pub below : f.environment ≤ s.cells
    pub waiting : List (Waiting numbers budget)
    pub stacked : WaitingIs ws t s.cells budget (s.frames - 1) (s.values - 1) waiting
    pub goes : whole ≡ begins numbers budget (cond (holds value) (code_at f.next yes) (code_at (f.next + length (encode yes)) no)) environment waiting s.units

  -- a part of an application has its value, and another is next
  pub record Parting (t : List ℕ) (s : Counts) (f : Parts) : Type 0 where
    pub room : Room budget t s
    pub framed : 1 ≤ s.frames
    pub first : Plain
    pub later : Plains
    pub parts : First ws f.next first later
    pub many : count later ≡ f.left - 1
    pub values : List (Value Number)
    pub are : ValuesIn ws t s.cells f.base values
    pub rows : f.base + length values ≡ s.values
    pub environment : Environment Number
    pub bound : EnvironmentIs ws t f.environment environment
    pub below : f.environment ≤ s.cells
    pub waiting : List (Waiting numbers budget)
    pub stacked : WaitingIs ws t s.cells budget (s.frames - 1) f.base waiting
    pub goes : whole ≡ begins numbers budget (code_at f.next first) environment
        (parts_w values (codes_at (f.next + length (encode first)) later) environment ∷ waiting) s.units

  -- all parts of an application have their values: that of the head is in row `base`, then come those of n operands
  pub record Complete (t : List ℕ) (s : Counts) (base n : ℕ) : Type 0 where
    pub room : Room budget t s
    pub framed : 1 ≤ s.frames
    pub rows : base + 1 + n ≡ s.values
    pub head : Value Number
    pub is : ValueIn ws t s.cells base head
    pub operands : List (Value Number)
    pub are : ValuesIn ws t s.cells (base + 1) operands
    pub many : length operands ≡ n
    pub leaving : Leaving t (record { units = s.units; values = base; frames = s.frames - 1; cells = s.cells }) (apply numbers (value numbers budget) head operands)

-- an operation by its place: one of the four is a value, another a ground
abbrev pub operation_found : ℕ → M (Value Number)
operation_found p = ◌>>◌ (test 25 (ltb p 4)) (give (operation_v p))

-- ---- what falls at every turn

-- where a node begins, where a value has come, and where it is not yet in its row
abbrev pub begin_fuel : Counts → (budget : ℕ) → ℕ
begin_fuel s budget = 2 * (budget - s.units) + s.frames + 1

abbrev pub come_fuel : Counts → (budget : ℕ) → ℕ
come_fuel s budget = 2 * (budget - s.units) + s.frames + 2

abbrev pub give_fuel : Counts → (budget : ℕ) → ℕ
give_fuel s budget = 2 * (budget - s.units) + s.frames + 3

abbrev pub measure : ℕ → Turn → ℕ
measure budget (Begins s at e) = begin_fuel s budget
measure budget (Comes s) = come_fuel s budget

-- a ground leaves nothing
abbrev pub left_of : ℕ → Result Turn Ground → ℕ
left_of budget (Ok turn) = measure budget turn
left_of budget (Err g) = 0

-- ---- contracts: whatever whole the machine stood for before, the turn after stands for it, and something falls

-- what stands for a whole, for some budget
abbrev pub Some : ((budget : ℕ) (whole : Out (Value Number)) → Type 0) → Type 0
Some P = (budget : ℕ) × (whole : Out (Value Number)) × P budget whole

abbrev pub Turned : (ws : List ℕ) (budget : ℕ) (whole : Out (Value Number)) (fuel : ℕ) → List ℕ → Result Turn Ground → Type 0
Turned ws budget whole fuel t turn = StepIs ws budget whole t turn × (left_of budget turn < fuel)

abbrev pub Turns : (ws : List ℕ) → ((budget : ℕ) (whole : Out (Value Number)) → Type 0) → (fuel : (budget : ℕ) → ℕ) → List ℕ → Result Turn Ground → Type 0
Turns ws P fuel t turn = (budget : ℕ) (whole : Out (Value Number)) → P budget whole → Turned ws budget whole (fuel budget) t turn

-- the same where the words are not given
abbrev pub Anywhere : ((ws : List ℕ) (budget : ℕ) (whole : Out (Value Number)) → Type 0) → Type 0
Anywhere P = (ws : List ℕ) × Some (P ws)

abbrev pub Everywhere : ((ws : List ℕ) (budget : ℕ) (whole : Out (Value Number)) → Type 0) → (fuel : (budget : ℕ) → ℕ) → List ℕ → Result Turn Ground → Type 0
Everywhere P fuel t turn = (ws : List ℕ) → Turns ws (P ws) fuel t turn

-- the same where the budget is given
abbrev pub Stands : (Out (Value Number) → Type 0) → Type 0
Stands P = (whole : Out (Value Number)) × P whole

abbrev pub Turning : (ws : List ℕ) (budget : ℕ) → (Out (Value Number) → Type 0) → (fuel : ℕ) → List ℕ → Result Turn Ground → Type 0
Turning ws budget P fuel t turn = (whole : Out (Value Number)) → P whole → Turned ws budget whole fuel t turn

-- of the whole loop
abbrev pub Ends : (ws : List ℕ) (budget : ℕ) → (Out (Value Number) → Type 0) → List ℕ → Result End Ground → Type 0
Ends ws budget P t end = (whole : Out (Value Number)) → P whole → EndIs ws budget whole t end
