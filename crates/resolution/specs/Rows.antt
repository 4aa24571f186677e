-- Wraps by hand, computed from the meaning of the arena's words: what a waiting bind gives is judged with the marks of its time.
use Rattle.std.specs.Prelude.{◌≡◌, refl, List, [], ◌∷◌, ℕ}
use Rattle.words.specs.Lists.{within, equal}
use Rattle.recipe.specs.Name.{variable, plain_name, binding_key, mark_name, toggle}
use Rattle.expansion.specs.Lookup.{Found, bound, operation, or_unbound}
use Rattle.arena.specs.Arena.{word_at, falling, reference_at, binding_of, give_key, marked, newest, by_tag, mark_on, join_on, own_marks, same_marks, is_own, rebound, binder_on, wrap_step, wrap_from, wrap_at, origin_name, node_name, name_at}
use Rattle.resolution.specs.Names.{operation_at, unbound_in, lookup_in}

-- one name, of item 0 and number 8, which is operation 0
abbrev x : ℕ
x = 16

abbrev places : List ℕ
places = 0 ∷ 0 ∷ 0 ∷ 0 ∷ 0 ∷ 0 ∷ 0 ∷ 0 ∷ 1 ∷ []

-- what the name of a node finds under a wrap
finds : List ℕ → ℕ → ℕ → Found
unfolding lookup_in or_unbound unbound_in operation_at name_at node_name origin_name wrap_at wrap_from wrap_step by_tag word_at within reference_at falling mark_on join_on binder_on rebound is_own same_marks own_marks marked mark_name toggle give_key binding_of newest binding_key equal plain_name
finds work node w = lookup_in places (name_at work node w)

-- E25: x at 3; a binder of it to variable 0, 12; x again with that as its own wrap, 15; mark 1, 18
abbrev bound_then_marked : List ℕ
bound_then_marked = 3 ∷ x ∷ 0 ∷ 0 ∷ 0 ∷ 0 ∷ 0 ∷ 8 ∷ 0 ∷ 1 ∷ 0 ∷ 3 ∷ 3 ∷ x ∷ 12 ∷ 1 ∷ 0 ∷ 1 ∷ []

bound-then-marked : finds bound_then_marked 15 18 ≡ bound (variable 0)
unfolding finds
bound-then-marked = refl

-- a mark first, and then the binder: another name
abbrev marked_then_bound : List ℕ
marked_then_bound = 3 ∷ x ∷ 0 ∷ 1 ∷ 0 ∷ 1 ∷ 0 ∷ 0 ∷ 0 ∷ 0 ∷ 8 ∷ 0 ∷ 1 ∷ 6 ∷ 3 ∷ []

marked-then-bound : finds marked_then_bound 3 15 ≡ operation 0
unfolding finds
marked-then-bound = refl
