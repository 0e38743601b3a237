-- The units of a chain: entry k is 65535 where unit k is out, and else the next unit that is in, or the number of units at the last.
use Rattle.std.specs.Prelude.{◌≡◌, ℕ, ◌<◌, ◌≤◌, Bool, ◌⊎◌, List, [], ◌∷◌, ◌++◌, map, length, drop, Ok, Err, Result, ◌==◌, ◌≢◌, slice_index, slice_set}
use Rattle.std.proofs.Common.{arith}
use Rattle.std.proofs.lemmas.List.FromFn.{length-map-range_with_len}
use Rattle.std.specs.List.{range_with_len}
use Rattle.pool.specs.declared.allocator.AllocatorFault.{AllocatorFault}

-- whether entry k says that unit k is out
abbrev pub out_at : List ℕ → ℕ → Bool
out_at ls k = slice_index ls k == 65535

-- the first n units
abbrev pub taken : List ℕ → ℕ → List Bool
taken ls n = map (out_at ls) (range_with_len 0 n)

-- the memory with its first n entries linked one to the next, and the rest as it was
abbrev pub chained : List ℕ → ℕ → List ℕ
chained ls n = range_with_len 1 n ++ drop n ls

abbrev pub Apart : ℕ → List ℕ → Type 0
Apart u [] = Unit {0}
Apart u (x ∷ xs) = (u ≢ x) × Apart u xs

abbrev pub Among : ℕ → List ℕ → Type 0
Among u [] = ⊥
Among u (x ∷ xs) = (u ≡ x) ⊎ Among u xs

-- from the unit h on, the entries go through the units of the list, each once, and then end
abbrev pub Threads : List ℕ → ℕ → ℕ → List ℕ → Type 0
Threads ls n h [] = h ≡ n
Threads ls n h (x ∷ xs) = (h ≡ x) × (x < n) × Apart x xs × Threads ls n (slice_index ls x) xs

-- the memory by its name, with the number of units and what it holds beside their entries
abbrev pub beside_links : ℕ → List ℕ → ℕ → List (ℕ × ℕ × List ℕ)
beside_links m ls n = (m, n, drop n ls) ∷ []

-- n units fit the memory, and are neither none nor too many
abbrev pub Space : List ℕ → ℕ → Type 0
Space ls n = (1 ≤ n) × (n ≤ 4096) × (n ≤ length ls)

-- a well-made chain of n units: they fit, and the chain from h goes through each unit that is in
pub record Linked (ls : List ℕ) (n h : ℕ) : Type 0 where
  pub space : Space ls n
  pub free : List ℕ
  pub threads : Threads ls n h free
  pub all : (k : ℕ) → k < n → (slice_index ls k ≢ 65535) → Among k free

-- what a chain's `take` does to its memory and its head: the head is marked out, and the next is the head
abbrev pub TookHead : List ℕ → List ℕ → ℕ → ℕ → Result ℕ AllocatorFault → Type 0
TookHead ls ms h g (Ok u) = (u ≡ h) × (ms ≡ slice_set ls h 65535) × (g ≡ slice_index ls h)
TookHead ls ms h g (Err _) = (ms ≡ ls) × (g ≡ h)

-- what a chain's `give` does to its memory and its head: the unit is put before the head
abbrev pub GaveHead : List ℕ → List ℕ → ℕ → ℕ → ℕ → Result (Unit {0}) AllocatorFault → Type 0
GaveHead ls ms h g u (Ok _) = (ms ≡ slice_set ls u h) × (g ≡ u)
GaveHead ls ms h g u (Err _) = (ms ≡ ls) × (g ≡ h)

pub taken-sized : (ls : List ℕ) (n : ℕ) → Space ls n → (1 ≤ length (taken ls n)) × (length (taken ls n) ≤ 4096)
taken-sized ls n s =
    let e : length (taken ls n) ≡ n = length-map-range_with_len (out_at ls) 0 n in
    (omega arith, omega arith)
