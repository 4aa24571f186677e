-- What the code's &s[from..] and &s[from..to] are.
use Rattle.std.specs.Prelude.{List, ℕ, ◌-◌, length, take, drop}

module _ {A : Type 0} where
  abbrev pub rest : ℕ → List A → List A
  rest from s = take (length s - from) (drop from s)

  abbrev pub part : ℕ → ℕ → List A → List A
  part from to s = take (to - from) (drop from s)
