-- Marks in hand: a part of a table that holds a name's marks, the oldest first, so that the newest come and go at its end.
use Rattle.std.specs.Prelude.{◌≡◌, Bool, List, [], ◌∷◌, ℕ, zero, suc, ◌+◌, ◌≤◌, ◌<◌, length, get_or, take}
use Rattle.recipe.specs.Name.{Name, binding_key, toggle}
use Rattle.arena.specs.Arena.{step_limit, own_marks, is_own, wrap_at}

-- the marks in hand, as the definition's descending list: `count` of them from `start`
unfoldable pub marks_in : List ℕ → (start count : ℕ) → List ℕ
marks_in table start zero = []
marks_in table start (suc n) = get_or table (start + n) 0 ∷ marks_in table start n

-- descending, below a number: there are no more marks than that
pub data Descends : ℕ → List ℕ → Type 0 where
  none : {b : ℕ} → Descends b []
  more : {b m : ℕ} {ms : List ℕ} → m < b → Descends m ms → Descends b (m ∷ ms)

-- what is in hand after a mark is put in its place or taken out; what stands before `start` is kept
pub record Toggled (m start count : ℕ) (old new : List ℕ) (r : ℕ) : Type 0 where
  pub marks-are : marks_in new start r ≡ toggle m (marks_in old start count)
  pub kept : take start new ≡ take start old
  pub room : r ≤ count + 1

-- ---- a name in hand

-- marks in hand, within the table
pub record Hand (table : List ℕ) (start count : ℕ) : Type 0 where
  pub descends : Descends step_limit (marks_in table start count)
  pub room : start + count ≤ length table

-- after f, where `old` held the marks of a name, `new` holds those of f of it
pub record MarksAfter (f : Name → Name) (old new : List ℕ) (start count r : ℕ) : Type 0 where
  pub marks-are : (x : Name) → x.marks ≡ marks_in old start count → (f x).marks ≡ marks_in new start r
  pub hand : Hand new start r
  pub kept : take start new ≡ take start old

-- x is the name in hand: its number, its marks in the table, and its binding's key
pub record Holds (x : Name) (table : List ℕ) (start count number binding : ℕ) : Type 0 where
  pub number_is : x.number ≡ number
  pub marks-are : x.marks ≡ marks_in table start count
  pub binding-is : binding_key x.binding ≡ binding

-- after f, f of the name in hand is in hand
pub record NameAfter (f : Name → Name) (old new : List ℕ) (start number count binding count' binding' : ℕ) : Type 0 where
  pub holds : (x : Name) → Holds x old start count number binding → Holds (f x) new start count' number binding'
  pub hand : Hand new start count'
  pub kept : take start new ≡ take start old

-- the marks of a binder's own name, behind what is in hand
pub record OwnMarks (work : List ℕ) (w : ℕ) (old new : List ℕ) (start r : ℕ) : Type 0 where
  pub marks-are : own_marks work (wrap_at work) w ≡ marks_in new start r
  pub room : start + r ≤ length new
  pub kept : take start new ≡ take start old

-- whether the name in hand is the same as a binder's own
pub record OwnIs (work : List ℕ) (w : ℕ) (old new : List ℕ) (start number count binding : ℕ) (b : Bool) : Type 0 where
  pub told : (x : Name) → Holds x old start count number binding → is_own work (wrap_at work) w x ≡ b
  pub kept : take (start + count) new ≡ take (start + count) old
