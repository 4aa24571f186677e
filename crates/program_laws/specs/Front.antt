-- Words at the beginning of a table.
use Rattle.std.specs.Prelude.{◌≡◌, List, ◌++◌, ℕ, ◌≤◌, length, take}
use Rattle.std.proofs.Common.{sym, ap, ◌∙◌, arith, length-append, take_at}

pub front : (ws zs table : List ℕ) (n : ℕ) → table ≡ ws ++ zs → n ≡ length ws → (n ≤ length table) × (take n table ≡ ws)
front ws zs table n e l =
    (omega (arith, ap length e, length-append ws zs), ap (take n) e ∙ take_at ws zs n (sym l))
