-- The units of a bitmap: bit k % 8 of byte k / 8 says whether unit k is out.
use Rattle.std.specs.Prelude.{◌≡◌, ℕ, ◌-◌, ◌*◌, ◌/◌, ◌%◌, ◌^◌, ◌<◌, ◌≤◌, min, Bool, true, List, [], ◌∷◌, map, length, Ok, Err, Result, ◌==◌, bit_xor, slice_index, slice_set}
use Rattle.std.proofs.Common.{arith}
use Rattle.std.proofs.lemmas.List.FromFn.{length-map-range_with_len}
use Rattle.std.specs.List.{range_with_len}
use Rattle.pool.specs.declared.allocator.AllocatorFault.{AllocatorFault}

-- bit j of a byte
abbrev pub bit_of : ℕ → ℕ → Bool
bit_of x j = x / 2 ^ j % 2 == 1

-- bit k of the memory
abbrev pub bit_at : List ℕ → ℕ → Bool
bit_at bs k = bit_of (slice_index bs (k / 8)) (k % 8)

-- the first n bits
abbrev pub marks : List ℕ → ℕ → List Bool
marks bs n = map (bit_at bs) (range_with_len 0 n)

-- the memory with bit i turned over, and no other
abbrev pub turned : List ℕ → ℕ → List ℕ
turned bs i = slice_set bs (i / 8) (bit_xor (slice_index bs (i / 8)) (2 ^ (i % 8)))

-- a byte with its lowest n bits cleared, all of them where n is 8 or more
abbrev pub low_cleared : ℕ → ℕ → ℕ
low_cleared x n = x / 2 ^ min n 8 * 2 ^ min n 8

-- the memory with its first n bits cleared, and no other
abbrev pub cleared : List ℕ → ℕ → List ℕ
cleared bs n = map (λ i. low_cleared (slice_index bs i) (n - 8 * i)) (range_with_len 0 (length bs))

-- the memory by its name, with the number of units and what it holds beside their bits
abbrev pub beside_bits : ℕ → List ℕ → ℕ → List (ℕ × ℕ × List ℕ)
beside_bits m bs n = (m, n, cleared bs n) ∷ []

-- n units fit the memory, and are neither none nor too many
abbrev pub Room : List ℕ → ℕ → Type 0
Room bs n = (1 ≤ n) × (n ≤ 4096) × (n ≤ 8 * length bs)

-- a well-made bitmap of n units: they fit, and every unit below h is out
pub record Mapped (bs : List ℕ) (n h : ℕ) : Type 0 where
  pub room : Room bs n
  pub within : h ≤ n
  pub below : (k : ℕ) → k < h → bit_at bs k ≡ true

-- what a bitmap's `take` does to its memory: it turns the bit of the lowest unit that is in
abbrev pub TookLowest : List ℕ → List ℕ → Result ℕ AllocatorFault → Type 0
TookLowest bs cs (Ok u) = (cs ≡ turned bs u) × ((k : ℕ) → k < u → bit_at bs k ≡ true)
TookLowest bs cs (Err _) = cs ≡ bs

-- what a bitmap's `give` does to its memory: it turns the unit's bit
abbrev pub GaveBit : List ℕ → List ℕ → ℕ → Result (Unit {0}) AllocatorFault → Type 0
GaveBit bs cs u (Ok _) = cs ≡ turned bs u
GaveBit bs cs u (Err _) = cs ≡ bs

pub marks-sized : (bs : List ℕ) (n : ℕ) → Room bs n → (1 ≤ length (marks bs n)) × (length (marks bs n) ≤ 4096)
marks-sized bs n r =
    let l : length (marks bs n) ≡ n = length-map-range_with_len (bit_at bs) 0 n in
    (omega arith, omega arith)
