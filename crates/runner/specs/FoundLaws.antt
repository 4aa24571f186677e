-- A variable is found along the links: a step of the search, which the code's loop repeats.
use Rattle.std.specs.Prelude.{◌≡◌, refl, List, ℕ, suc, ◌+◌, ◌-◌, ◌*◌, ◌≤◌, ◌<◌, get_or}
use Rattle.std.proofs.Common.{sym, ap, ◌∙◌, arith, add-zero}
use Rattle.std.proofs.Math.Path.{subst}
use Rattle.std.proofs.Math.Option.{Option, none, some}
use borrow.Author.Tests.{ne_eqb, eq-eqb}
use Rattle.evaluation.specs.Evaluate.{Value, Environment, find}
use Rattle.std.specs.Prelude as P
use Rattle.runner.specs.Domain.{Number}
use Rattle.runner.specs.Rows.{cell_word, bound_at, ValueIs, EnvironmentIs, empty_i, cell_i, beyond_i}
use Rattle.runner.specs.Kept.{kept_same, value-kept}
use Rattle.runner.specs.Found.{Bound, FoundIs}

module _ (ws t : List ℕ) (n : ℕ) (word : n < 4294967296) where
  -- at the end there is none
  pub find_none : {env : Environment Number} → EnvironmentIs ws t 0 env → find n env ≡ none
  unfolding find
  find_none (empty_i r h) = rw h
  find_none (cell_i c link v rest i h w k l q) = absurd (omega (arith, i))
  find_none (beyond_i m v rest h l q) = rw (h, ne_eqb n m (λ e. omega arith)) (find_none q)

  -- a cell of another variable is passed by its link; that of the variable has its value
  pub record Cell (c : ℕ) (env : Environment Number) : Type 0 where
    pub value : Value Number
    pub rest : Environment Number
    pub is : ValueIs ws t c (bound_at t c) value
    pub link : cell_word t c 5 ≤ c
    pub linked : EnvironmentIs ws t (cell_word t c 5) rest
    pub own : cell_word t c 0 ≡ n → find n env ≡ some value
    pub other : (cell_word t c 0 ≡ n → ⊥) → find n env ≡ find n rest

  pub find-cell : {r : ℕ} {env : Environment Number} (c : ℕ) → r ≡ suc c → EnvironmentIs ws t r env → Cell c env
  unfolding find
  find-cell c e (empty_i r h) = absurd (omega (arith, r))
  find-cell {env = env} c e (cell_i d link v rest i h w k l q) =
      let p : d ≡ c = omega (arith, e, i) in
      let m = cell_word t d 0 in
      let f : Cell d env =
      record {
        value = v;
        rest = rest;
        is = w;
        link = rw k l;
        linked = rw k q;
        own = λ o. rw (h, eq-eqb n m (sym o));
        other = λ o. rw (h, ne_eqb n m (λ z. o (sym z)));
      } in
      subst (λ (z : ℕ). Cell z env) p f
  find-cell {env = env} c e (beyond_i m v rest h l q) =
      let s = find-cell c e q in
      let p : find n env ≡ find n rest = rw (h, ne_eqb n m (λ e. omega arith)) in
      record { value = s.value; rest = s.rest; is = s.is; link = s.link; linked = s.linked; own = λ o. p ∙ s.own o; other = λ o. p ∙ s.other o }

-- ---- the search

-- what the whole search answers is what is found from here on
pub record Seeking (t : List ℕ) (n from now : ℕ) : Type 0 where
  pub lower : now ≤ from
  pub goes : (ws : List ℕ) (env : Environment Number) → EnvironmentIs ws t from env → (env' : Environment Number) × EnvironmentIs ws t now env' × (find n env ≡ find n env')

pub seeking-start : (t : List ℕ) (n e : ℕ) → Seeking t n e e
seeking-start t n e = record { lower = omega arith; goes = λ ws env i. (env, i, refl) }

module _ (t : List ℕ) (n from now : ℕ) (s : Seeking t n from now) (word : n < 4294967296) where
  -- no cell is left
  pub seeking-end : now ≡ 0 → (ws : List ℕ) (env : Environment Number) → EnvironmentIs ws t from env → FoundIs ws t from (find n env) P.None
  seeking-end z ws env i =
      let g = s.goes ws env i in
      let e : find n env ≡ none = g.2 ∙ find_none ws t n word (subst (λ (r : ℕ). EnvironmentIs ws t r g.0) z g.1) in
      subst (λ (o : Option (Value Number)). FoundIs ws t from o P.None) (sym e) tt

  -- the cell at hand, its number read at its start
  module _ (some_left : 0 < now) where
    at : now ≡ suc (now - 1)
    at = omega arith

    start : cell_word t (now - 1) 0 ≡ get_or t (16 * (now - 1) + 10) 0
    start = ap (λ (i : ℕ). get_or t i 0) (add-zero (16 * (now - 1) + 10))

    -- the variable's own
    pub seeking-own : get_or t (16 * (now - 1) + 10) 0 ≡ n → (ws : List ℕ) (env : Environment Number) → EnvironmentIs ws t from env
        → FoundIs ws t from (find n env) (P.Some (bound_at t (now - 1)))
    seeking-own o ws env i =
        let g = s.goes ws env i in
        let x = find-cell ws t n word (now - 1) at g.1 in
        let f : find n env ≡ some x.value = g.2 ∙ x.own (start ∙ o) in
        let l : now - 1 ≤ from = omega (arith, s.lower) in
        subst (λ (o : Option (Value Number)). FoundIs ws t from o (P.Some (bound_at t (now - 1)))) (sym f) (value-kept (kept_same 0 0 (now - 1) t) (omega arith) l x.is)

    -- another's
    pub seeking-other : (get_or t (16 * (now - 1) + 10) 0 ≡ n → ⊥) → Bound t from → (cell_word t (now - 1) 5 < now) × Seeking t n from (cell_word t (now - 1) 5)
    seeking-other o b =
        let other : cell_word t (now - 1) 0 ≡ n → ⊥ = λ e. o (sym start ∙ e) in
        let g₀ = s.goes b.words b.environment b.is in
        let x₀ = find-cell b.words t n word (now - 1) at g₀.1 in (
          omega (arith, x₀.link),
          record {
            lower = omega (arith, s.lower, x₀.link);
            goes = λ ws env i. let g = s.goes ws env i in let x = find-cell ws t n word (now - 1) at g.1 in (x.rest, x.linked, g.2 ∙ x.other other);
          },
        )
