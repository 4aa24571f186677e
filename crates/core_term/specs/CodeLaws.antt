-- The node at the beginning of words, by their code.
use Rattle.std.specs.Prelude.{◌≡◌, refl, cond, ℕ, zero, suc, ◌+◌, ◌≤◌, ◌<◌, leb, take, drop}
use mathlib.Core.List.{List, [], ◌∷◌}
use Rattle.std.proofs.Common.{arith, length-drop, drop-drop, le-leb}
use Rattle.std.proofs.Math.ListN.{length, get_or}
use Rattle.std.proofs.lemmas.Bool.{lt-leb}
use Rattle.datum.specs.Constant.{is_constant, integer, boolean, decimal}
use Rattle.core_term.specs.Node.{variable_code, operation_code, integer_code, boolean_code, name_code, list_code, if_code, lambda_code, application_code, decimal_code, Node, is_node, got, missing, nothing, with_word, with_two, with_names, alone, codes, of_code, sound, node_at, variable_n, operation_n, constant_n, name_n, list_n, if_n, lambda_n, application_n}

module _ (ws : List ℕ) (k : ℕ) (e : get_or ws 0 0 ≡ k) where
  -- of a code and whatever follows
  pub at_code : 1 ≤ length ws → node_at ws ≡ sound (get_or codes k nothing (drop 1 ws))
  unfolding node_at of_code
  at_code h = go ws e h
    where
      go : (s : List ℕ) → get_or s 0 0 ≡ k → 1 ≤ length s → sound (of_code s) ≡ sound (get_or codes k nothing (drop 1 s))
      go [] f l = absurd (omega arith)
      go (w ∷ s) f l = rw f

-- no words, no node
pub at_none : (ws : List ℕ) → length ws ≡ 0 → node_at ws ≡ missing
unfolding node_at of_code sound
at_none [] h = refl
at_none (w ∷ ws) h = absurd (omega arith)

-- a code past the last
pub at-past : (ws : List ℕ) → decimal_code < get_or ws 0 0 → node_at ws ≡ missing
unfolding node_at of_code sound codes nothing
at-past [] h = absurd (omega arith)
at-past (w ∷ ws) h = go w h
  where
    go : (w : ℕ) → decimal_code < w → sound (get_or codes w nothing ws) ≡ missing
    go zero l = absurd (omega arith)
    go (suc zero) l = absurd (omega arith)
    go (suc (suc zero)) l = absurd (omega arith)
    go (suc (suc (suc zero))) l = absurd (omega arith)
    go (suc (suc (suc (suc zero)))) l = absurd (omega arith)
    go (suc (suc (suc (suc (suc zero))))) l = absurd (omega arith)
    go (suc (suc (suc (suc (suc (suc zero)))))) l = absurd (omega arith)
    go (suc (suc (suc (suc (suc (suc (suc zero))))))) l = absurd (omega arith)
    go (suc (suc (suc (suc (suc (suc (suc (suc zero)))))))) l = absurd (omega arith)
    go (suc (suc (suc (suc (suc (suc (suc (suc (suc zero))))))))) l = absurd (omega arith)
    go (suc (suc (suc (suc (suc (suc (suc (suc (suc (suc w)))))))))) l = refl

-- the words after the code
pub word-found : (f : ℕ → Node) (ws : List ℕ) → 2 ≤ length ws → with_word f (drop 1 ws) ≡ got (f (get_or ws 1 0)) (drop 2 ws)
unfolding with_word
word-found f [] h = absurd (omega arith)
word-found f (w ∷ []) h = absurd (omega arith)
word-found f (w ∷ a ∷ ws) h = refl

pub two-found : (f : ℕ → ℕ → Node) (ws : List ℕ) → 3 ≤ length ws → with_two f (drop 1 ws) ≡ got (f (get_or ws 1 0) (get_or ws 2 0)) (drop 3 ws)
unfolding with_two
two-found f [] h = absurd (omega arith)
two-found f (w ∷ []) h = absurd (omega arith)
two-found f (w ∷ a ∷ []) h = absurd (omega arith)
two-found f (w ∷ a ∷ b ∷ ws) h = refl

pub two-missing : (f : ℕ → ℕ → Node) (ws : List ℕ) → length ws < 3 → with_two f (drop 1 ws) ≡ missing
unfolding with_two
two-missing f [] h = refl
two-missing f (w ∷ []) h = refl
two-missing f (w ∷ a ∷ []) h = refl
two-missing f (w ∷ a ∷ b ∷ ws) h = absurd (omega arith)

pub names-found : (f : ℕ → List ℕ → Node) (ws : List ℕ) → 3 ≤ length ws
    → with_names f (drop 1 ws) ≡ cond (leb (get_or ws 2 0) (length (drop 3 ws))) (got (f (get_or ws 1 0) (take (get_or ws 2 0) (drop 3 ws))) (drop (get_or ws 2 0) (drop 3 ws))) missing
unfolding with_names
names-found f [] h = absurd (omega arith)
names-found f (w ∷ []) h = absurd (omega arith)
names-found f (w ∷ a ∷ []) h = absurd (omega arith)
names-found f (w ∷ a ∷ b ∷ ws) h = refl

names-missing : (f : ℕ → List ℕ → Node) (ws : List ℕ) → length ws < 3 → with_names f (drop 1 ws) ≡ missing
unfolding with_names
names-missing f [] h = refl
names-missing f (w ∷ []) h = refl
names-missing f (w ∷ a ∷ []) h = refl
names-missing f (w ∷ a ∷ b ∷ ws) h = absurd (omega arith)

-- ---- nodes by their code

module _ (ws : List ℕ) (l : 2 ≤ length ws) where
  some_word : 1 ≤ length ws
  some_word = omega arith

  pub variable-at : get_or ws 0 0 ≡ variable_code → node_at ws ≡ got (variable_n (get_or ws 1 0)) (drop 2 ws)
  unfolding codes sound is_node
  variable-at e = rw (at_code ws variable_code e some_word, word-found variable_n ws l)

  pub operation-at : get_or ws 0 0 ≡ operation_code → node_at ws ≡ got (operation_n (get_or ws 1 0)) (drop 2 ws)
  unfolding codes sound is_node
  operation-at e = rw (at_code ws operation_code e some_word, word-found operation_n ws l)

  pub integer-at : get_or ws 0 0 ≡ integer_code → node_at ws ≡ got (constant_n (integer (get_or ws 1 0))) (drop 2 ws)
  unfolding codes sound is_node is_constant integer
  integer-at e = rw (at_code ws integer_code e some_word, word-found (λ w. constant_n (integer w)) ws l)

  pub name-at : get_or ws 0 0 ≡ name_code → node_at ws ≡ got (name_n (get_or ws 1 0)) (drop 2 ws)
  unfolding codes sound is_node
  name-at e = rw (at_code ws name_code e some_word, word-found name_n ws l)

  pub list_at : get_or ws 0 0 ≡ list_code → node_at ws ≡ got (list_n (get_or ws 1 0)) (drop 2 ws)
  unfolding codes sound is_node
  list_at e = rw (at_code ws list_code e some_word, word-found list_n ws l)

  pub application-at : get_or ws 0 0 ≡ application_code → node_at ws ≡ got (application_n (get_or ws 1 0)) (drop 2 ws)
  unfolding codes sound is_node
  application-at e = rw (at_code ws application_code e some_word, word-found application_n ws l)

  pub boolean-at : get_or ws 0 0 ≡ boolean_code → node_at ws ≡ sound (got (constant_n (boolean (get_or ws 1 0))) (drop 2 ws))
  unfolding codes
  boolean-at e = rw (at_code ws boolean_code e some_word, word-found (λ w. constant_n (boolean w)) ws l)

pub if-at : (ws : List ℕ) → 1 ≤ length ws → get_or ws 0 0 ≡ if_code → node_at ws ≡ got if_n (drop 1 ws)
unfolding codes sound is_node alone
if-at ws l e = rw (at_code ws if_code e l)

-- the names of a lambda's variables
abbrev pub names_at : List ℕ → List ℕ
names_at ws = take (get_or ws 2 0) (drop 3 ws)

pub lambda-at : (ws : List ℕ) → 3 + get_or ws 2 0 ≤ length ws → get_or ws 0 0 ≡ lambda_code → node_at ws ≡ sound (got (lambda_n (get_or ws 1 0) (names_at ws)) (drop (3 + get_or ws 2 0) ws))
unfolding codes
lambda-at ws l e =
    let h : 1 ≤ length ws = omega arith in
    let k : get_or ws 2 0 ≤ length (drop 3 ws) = omega (arith, length-drop 3 ws) in
    let d : drop (get_or ws 2 0) (drop 3 ws) ≡ drop (3 + get_or ws 2 0) ws = drop-drop (get_or ws 2 0) 3 ws in
    rw (at_code ws lambda_code e h, names-found lambda_n ws (omega arith), le-leb _ _ k, d)

pub decimal-at : (ws : List ℕ) → 3 ≤ length ws → get_or ws 0 0 ≡ decimal_code → node_at ws ≡ sound (got (constant_n (decimal (get_or ws 1 0) (get_or ws 2 0))) (drop 3 ws))
unfolding codes
decimal-at ws l e = let h : 1 ≤ length ws = omega arith in rw (at_code ws decimal_code e h, two-found (λ w p. constant_n (decimal w p)) ws l)

-- ---- too few words

-- only an if has no more than its code
pub short-missing : (ws : List ℕ) → (get_or ws 0 0 ≡ if_code → ⊥) → length ws < 2 → node_at ws ≡ missing
unfolding node_at of_code codes sound with_word with_two with_names nothing
short-missing [] k l = refl
short-missing (w ∷ []) k l = go w k
  where
    go : (w : ℕ) → (w ≡ if_code → ⊥) → node_at (w ∷ []) ≡ missing
    go zero k = refl
    go (suc zero) k = refl
    go (suc (suc zero)) k = refl
    go (suc (suc (suc zero))) k = refl
    go (suc (suc (suc (suc zero)))) k = refl
    go (suc (suc (suc (suc (suc zero))))) k = refl
    go (suc (suc (suc (suc (suc (suc zero)))))) k = absurd (k refl)
    go (suc (suc (suc (suc (suc (suc (suc zero))))))) k = refl
    go (suc (suc (suc (suc (suc (suc (suc (suc zero)))))))) k = refl
    go (suc (suc (suc (suc (suc (suc (suc (suc (suc zero))))))))) k = refl
    go (suc (suc (suc (suc (suc (suc (suc (suc (suc (suc w)))))))))) k = refl
short-missing (w ∷ a ∷ ws) k l = absurd (omega arith)

-- a node of three words
two-short : (k : ℕ) (f : ℕ → ℕ → Node) (ws : List ℕ) → get_or codes k nothing ≡ with_two f → get_or ws 0 0 ≡ k → length ws < 3 → node_at ws ≡ missing
unfolding sound
two-short k f ws is e l = go (length ws) refl
  where
    go : (n : ℕ) → length ws ≡ n → node_at ws ≡ missing
    go zero h = at_none ws h
    go (suc n) h = let m : 1 ≤ length ws = omega arith in rw (at_code ws k e m, is, two-missing f ws l)

pub lambda-short : (ws : List ℕ) → get_or ws 0 0 ≡ lambda_code → length ws < 3 → node_at ws ≡ missing
unfolding codes sound
lambda-short ws e l = go (length ws) refl
  where
    go : (n : ℕ) → length ws ≡ n → node_at ws ≡ missing
    go zero h = at_none ws h
    go (suc n) h = let m : 1 ≤ length ws = omega arith in rw (at_code ws lambda_code e m, names-missing lambda_n ws l)

-- a name is missing
pub lambda-cut : (ws : List ℕ) → get_or ws 0 0 ≡ lambda_code → 3 ≤ length ws → length ws < 3 + get_or ws 2 0 → node_at ws ≡ missing
unfolding codes sound
lambda-cut ws e l h =
    let m : 1 ≤ length ws = omega arith in
    let k : length (drop 3 ws) < get_or ws 2 0 = omega (arith, length-drop 3 ws) in
    rw (at_code ws lambda_code e m, names-found lambda_n ws l, lt-leb _ _ k)

pub decimal-short : (ws : List ℕ) → get_or ws 0 0 ≡ decimal_code → length ws < 3 → node_at ws ≡ missing
unfolding codes
decimal-short ws = two-short decimal_code (λ w p. constant_n (decimal w p)) ws refl
