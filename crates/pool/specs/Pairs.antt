-- Two allocators as one: the second's units follow the first's.
use Rattle.std.specs.Prelude.{◌+◌, ◌≤◌, Bool, List, ◌++◌, length}
use Rattle.std.proofs.Common.{arith, length-append}

-- the two have no more units together than one may have
abbrev pub Few : List Bool → List Bool → Type 0
Few us ws = length us + length ws ≤ 4096

pub joined_sized : (us ws : List Bool) → (1 ≤ length us) × (length us ≤ 4096) → Few us ws → (1 ≤ length (us ++ ws)) × (length (us ++ ws) ≤ 4096)
joined_sized us ws s h = let e = length-append us ws in (omega arith, omega arith)
