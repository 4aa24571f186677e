-- Laws of nodes: node_at reads what node_words gives, and nothing else.
use Rattle.std.specs.Prelude.{◌≡◌, refl, Bool, true, false, cond, ◌&&◌, List, [], ◌∷◌, ◌++◌, ℕ, zero, suc, ◌≤◌, leb, length, take, drop}
use Rattle.std.proofs.Common.{sym, ap, ◌∙◌, arith, take-append-drop, length-append, length-take-le, lt-ltb, le-leb, leb-true}
use Rattle.std.proofs.lemmas.Bool.{false≢true}
use Rattle.std.proofs.Math.Seq.{take-append_seam, drop-append_seam}
use Rattle.datum.specs.Constant.{Constant, is_constant, constant_words, integer, boolean, decimal}
use Rattle.datum.specs.ConstantLaws.{constant-case, words-few}
use Rattle.core_term.specs.Node.{Node, got, missing, node_words, is_node, node_at, nothing, with_word, with_two, with_names, alone, codes, of_code, sound, variable_n, operation_n, constant_n, name_n, list_n, if_n, lambda_n, application_n}

-- ---- node_words, then node_at

sound-node : (x : Node) (r : List ℕ) → is_node x ≡ true → sound (got x r) ≡ got x r
unfolding sound
sound-node x r h = rw h

pub both : (a b : Bool) → (a && b) ≡ true → (a ≡ true) × (b ≡ true)
both true b h = (refl, h)
both false b h = absurd (false≢true h)

constant-round : (r : List ℕ) (a : Constant) → is_constant a ≡ true → node_at (constant_words a ++ r) ≡ got (constant_n a) r
unfolding node_at of_code codes with_word with_two integer boolean decimal is_constant is_node constant_words
constant-round r =
    constant-case (λ a. node_at (constant_words a ++ r) ≡ got (constant_n a) r)
    (λ w. sound-node (constant_n (integer w)) r refl)
    (λ w l. let g : is_node (constant_n (boolean w)) ≡ true = rw (lt-ltb w 2 l) in sound-node (constant_n (boolean w)) r g)
    (λ w p l. sound-node (constant_n (decimal w p)) r l)

names-round : (f : ℕ → List ℕ → Node) (a : ℕ) (ns r : List ℕ) → with_names f (a ∷ length ns ∷ (ns ++ r)) ≡ got (f a ns) r
unfolding with_names
names-round f a ns r =
    let h : length ns ≤ length (ns ++ r) = omega (arith, length-append ns r) in
    rw (le-leb (length ns) (length (ns ++ r)) h, take-append_seam ns r, drop-append_seam ns r)

pub node-round : (x : Node) (r : List ℕ) → is_node x ≡ true → node_at (node_words x ++ r) ≡ got x r
unfolding node_at of_code node_words is_node codes with_word with_two alone
node-round (variable_n n) r h = sound-node (variable_n n) r h
node-round (operation_n n) r h = sound-node (operation_n n) r h
node-round (constant_n a) r h = constant-round r a h
node-round (name_n n) r h = sound-node (name_n n) r h
node-round (list_n n) r h = sound-node (list_n n) r h
node-round if_n r h = sound-node if_n r h
node-round (lambda_n first names) r h = ap sound (names-round lambda_n first names r) ∙ sound-node (lambda_n first names) r h
node-round (application_n n) r h = sound-node (application_n n) r h

-- ---- node_at, then node_words

-- a node was read from these words
pub record NodeRead (ws : List ℕ) (x : Node) (r : List ℕ) : Type 0 where
  pub words : ws ≡ node_words x ++ r
  pub proper : is_node x ≡ true

sound-read : (ws r : List ℕ) (x y : Node) (s : List ℕ) → ws ≡ node_words y ++ s → sound (got y s) ≡ got x r → NodeRead ws x r
unfolding sound
sound-read ws r x y s e h = go (is_node y) refl h
  where
    go : (b : Bool) → is_node y ≡ b → cond b (got y s) missing ≡ got x r → NodeRead ws x r
    go true p q =
        let a : y ≡ x = cc in
        let b : s ≡ r = cc in
        record { words = rw (sym a, sym b) e; proper = rw (sym a) p }
    go false p q = let z : ◌≡◌ {A = ℕ} 0 1 = cc in absurd (omega arith)

no_node : {X : Type 0} (x : Node) (r : List ℕ) → sound missing ≡ got x r → X
unfolding sound
no_node x r h = let z : ◌≡◌ {A = ℕ} 0 1 = cc in absurd (omega arith)

word_read : (k : ℕ) (f : ℕ → Node) (ws : List ℕ) (x : Node) (r : List ℕ) → ((a : ℕ) → node_words (f a) ≡ k ∷ a ∷ [])
    → sound (with_word f ws) ≡ got x r → NodeRead (k ∷ ws) x r
unfolding with_word
word_read k f [] x r is h = no_node x r h
word_read k f (a ∷ ws) x r is h = sound-read (k ∷ a ∷ ws) r x (f a) ws (rw (is a)) h

two-read : (k : ℕ) (f : ℕ → ℕ → Node) (ws : List ℕ) (x : Node) (r : List ℕ) → ((a b : ℕ) → node_words (f a b) ≡ k ∷ a ∷ b ∷ [])
    → sound (with_two f ws) ≡ got x r → NodeRead (k ∷ ws) x r
unfolding with_two
two-read k f [] x r is h = no_node x r h
two-read k f (a ∷ []) x r is h = no_node x r h
two-read k f (a ∷ b ∷ ws) x r is h = sound-read (k ∷ a ∷ b ∷ ws) r x (f a b) ws (rw (is a b)) h

names-read : (k : ℕ) (f : ℕ → List ℕ → Node) (ws : List ℕ) (x : Node) (r : List ℕ) → ((a : ℕ) (ns : List ℕ) → node_words (f a ns) ≡ k ∷ a ∷ length ns ∷ ns)
    → sound (with_names f ws) ≡ got x r → NodeRead (k ∷ ws) x r
unfolding with_names
names-read k f [] x r is h = no_node x r h
names-read k f (a ∷ []) x r is h = no_node x r h
names-read k f (a ∷ n ∷ ws) x r is h = go (leb n (length ws)) refl h
  where
    go : (b : Bool) → leb n (length ws) ≡ b → sound (cond b (got (f a (take n ws)) (drop n ws)) missing) ≡ got x r → NodeRead (k ∷ a ∷ n ∷ ws) x r
    go true p q =
        let l : length (take n ws) ≡ n = length-take-le n ws (leb-true n (length ws) p) in
        let e : k ∷ a ∷ n ∷ ws ≡ node_words (f a (take n ws)) ++ drop n ws = rw (is a (take n ws), l, take-append-drop n ws) in
        sound-read (k ∷ a ∷ n ∷ ws) r x (f a (take n ws)) (drop n ws) e q
    go false p q = no_node x r q

pub node-read : (ws : List ℕ) (x : Node) (r : List ℕ) → node_at ws ≡ got x r → NodeRead ws x r
unfolding node_at of_code node_words codes nothing alone constant_words integer boolean decimal
node-read [] x r h = no_node x r h
node-read (zero ∷ ws) x r h = word_read 0 variable_n ws x r (λ a. refl) h
node-read (suc zero ∷ ws) x r h = word_read 1 operation_n ws x r (λ a. refl) h
node-read (suc (suc zero) ∷ ws) x r h = word_read 2 (λ w. constant_n (integer w)) ws x r (λ a. refl) h
node-read (suc (suc (suc zero)) ∷ ws) x r h = word_read 3 (λ w. constant_n (boolean w)) ws x r (λ a. refl) h
node-read (suc (suc (suc (suc zero))) ∷ ws) x r h = word_read 4 name_n ws x r (λ a. refl) h
node-read (suc (suc (suc (suc (suc zero)))) ∷ ws) x r h = word_read 5 list_n ws x r (λ a. refl) h
node-read (suc (suc (suc (suc (suc (suc zero))))) ∷ ws) x r h = sound-read (6 ∷ ws) r x if_n ws refl h
node-read (suc (suc (suc (suc (suc (suc (suc zero)))))) ∷ ws) x r h = names-read 7 lambda_n ws x r (λ a ns. refl) h
node-read (suc (suc (suc (suc (suc (suc (suc (suc zero))))))) ∷ ws) x r h = word_read 8 application_n ws x r (λ a. refl) h
node-read (suc (suc (suc (suc (suc (suc (suc (suc (suc zero)))))))) ∷ ws) x r h = two-read 9 (λ w p. constant_n (decimal w p)) ws x r (λ a b. refl) h
node-read (suc (suc (suc (suc (suc (suc (suc (suc (suc (suc k))))))))) ∷ ws) x r h = no_node x r h

-- a node has at least one word
pub node-some : (x : Node) → 1 ≤ length (node_words x)
unfolding node_words
node-some (variable_n n) = omega arith
node-some (operation_n n) = omega arith
node-some (constant_n a) = omega (arith, (words-few a).0)
node-some (name_n n) = omega arith
node-some (list_n n) = omega arith
node-some if_n = omega arith
node-some (lambda_n first names) = omega arith
node-some (application_n n) = omega arith
