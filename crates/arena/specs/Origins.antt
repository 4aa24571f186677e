-- Laws of origins: what one word tells of a name.
use Rattle.std.specs.Prelude.{◌≡◌, ℕ, ◌+◌, ◌*◌, ◌/◌, ◌%◌, ◌<◌}
use Rattle.std.proofs.Common.{arith}
use Rattle.words.specs.Limits.{names_most}
use Rattle.recipe.specs.Name.{plain_name, produce_name}
use Rattle.arena.specs.Arena.{origin_name}

-- items that an origin has room for
abbrev pub item_limit : ℕ
item_limit = 1048576

pub origin-plain : (number item : ℕ) → number < names_most → origin_name (2 * (number + names_most * item)) ≡ plain_name number item
unfolding origin_name plain_name
origin-plain number item h =
    let n : 2 * (number + names_most * item) / 2 % names_most ≡ number = omega arith in
    let i : 2 * (number + names_most * item) / (2 * names_most) ≡ item = omega arith in
    let p : 2 * (number + names_most * item) % 2 ≡ 0 = omega arith in
    rw (n, i, p)

pub origin-produced : (o : ℕ) → origin_name (o / 2 * 2 + 1) ≡ produce_name (origin_name o)
unfolding origin_name produce_name
origin-produced o =
    let n : (o / 2 * 2 + 1) / 2 ≡ o / 2 = omega arith in
    let i : (o / 2 * 2 + 1) / (2 * names_most) ≡ o / (2 * names_most) = omega arith in
    let p : (o / 2 * 2 + 1) % 2 ≡ 1 = omega arith in
    rw (n, i, p)
